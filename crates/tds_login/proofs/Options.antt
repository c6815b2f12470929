-- The options of a PRELOGIN, one after another, come to what the whole list says.
use Rattle.std.proofs.Common.{◌≡◌, ◌≢◌, ℕ, ◌<◌, ◌≤◌, ◌==◌, Bool, true, false, cond, List, [], ◌∷◌, length, take, drop, slice_index, Option, None, Some, Result, Ok, Err, refl, sym, ◌∙◌, arith}
use Rattle.std.specs.List.{find}
use Rattle.std.proofs.lemmas.Bool.{cond-true, cond-false, eq-eqb, ne_eqb}
use Rattle.tds_login.specs.declared.prelogin.Prelogin.{Prelogin}
use Rattle.tds_login.specs.declared.prelogin.PreloginFault.{PreloginFault}
use Rattle.tds_login.specs.declared.prelogin.PreloginFault.TheVariants.{NoEnd, Range}
use Rattle.tds_login.specs.declared.prelogin.Seen.{Seen}
use Rattle.tds_login.specs.Prelogin.{PreloginOption, option_at, has_encryption, options_of, with_option, terminator, is_outside, value_in, encryption_in, prelogin_unless, prelogin_by, prelogin_of}
use Rattle.tds_login.specs.Walk.{look_at, judge}

-- what is seen behind these options
abbrev pub seen_all : List ℕ → Seen → List PreloginOption → Seen
seen_all payload seen [] = seen
seen_all payload seen (option ∷ options) = seen_all payload (look_at payload seen option) options

-- what is said, by what was seen and the options that are left
abbrev pub resumed : List ℕ → Seen → Option (List PreloginOption) → Result Prelogin PreloginFault
resumed payload seen None = Err NoEnd
resumed payload seen (Some options) = judge (seen_all payload seen options)

-- nothing was seen
abbrev pub unseen : Seen
unseen = record { refused = None; encryption = None }

pub resumed_more : (payload : List ℕ) (seen : Seen) (option : PreloginOption) (options : Option (List PreloginOption)) → resumed payload seen (with_option option options) ≡ resumed payload (look_at payload seen option) options
resumed_more payload seen option None = refl
resumed_more payload seen option (Some options) = refl

-- behind a refused option nothing is looked at
refused_stays : (payload : List ℕ) (token : ℕ) (encryption : Option ℕ) (options : List PreloginOption) → judge (seen_all payload (record { refused = Some token; encryption = encryption }) options) ≡ Err (Range token)
unfolding look_at judge
refused_stays payload token encryption [] = refl
refused_stays payload token encryption (option ∷ options) = refused_stays payload token encryption options

-- what is said where the first option outside, if any, and the value are these
abbrev said : Option ℕ → Option PreloginOption → Result Prelogin PreloginFault
said encryption None = Ok (record { encryption = encryption })
said encryption (Some option) = Err (Range option.token)

unless_said : (payload : List ℕ) (options : List PreloginOption) (outside : Option PreloginOption) → prelogin_unless payload options outside ≡ said (encryption_in payload options) outside
unless_said payload options None = refl
unless_said payload options (Some option) = refl

-- one option more, which is outside or not
step_value : (payload : List ℕ) (value : ℕ) (option : PreloginOption) (options : List PreloginOption) (outside : Bool)
    → judge (seen_all payload (record { refused = None; encryption = Some value }) options) ≡ said (Some value) (find (is_outside payload) options)
    → judge (seen_all payload (cond outside (record { refused = Some option.token; encryption = Some value }) (record { refused = None; encryption = Some value })) options) ≡ said (Some value) (cond outside (Some option) (find (is_outside payload) options))
step_value payload value option options true rest = refused_stays payload option.token (Some value) options
step_value payload value option options false rest = rest

value_stays : (payload : List ℕ) (value : ℕ) (options : List PreloginOption) → judge (seen_all payload (record { refused = None; encryption = Some value }) options) ≡ said (Some value) (find (is_outside payload) options)
unfolding look_at judge
value_stays payload value [] = refl
value_stays payload value (option ∷ options) = step_value payload value option options (is_outside payload option) (value_stays payload value options)

-- one option more where none was seen to have a value: it has one or not, and is outside or not
step_none : (payload : List ℕ) (option : PreloginOption) (options : List PreloginOption) (outside has : Bool)
    → judge (seen_all payload unseen options) ≡ prelogin_unless payload options (find (is_outside payload) options)
    → judge (seen_all payload (cond outside (record { refused = Some option.token; encryption = None }) (record { refused = None; encryption = cond has (Some (slice_index payload option.offset)) None })) options)
    ≡ said (value_in payload (cond has (Some option) (find has_encryption options))) (cond outside (Some option) (find (is_outside payload) options))
unfolding judge
step_none payload option options true has rest = refused_stays payload option.token None options
step_none payload option options false true rest = value_stays payload (slice_index payload option.offset) options
step_none payload option options false false rest = rest ∙ unless_said payload options (find (is_outside payload) options)

none_seen : (payload : List ℕ) (options : List PreloginOption) → judge (seen_all payload unseen options) ≡ prelogin_unless payload options (find (is_outside payload) options)
unfolding look_at judge
none_seen payload [] = refl
none_seen payload (option ∷ options) =
    step_none payload option options (is_outside payload option) (has_encryption option) (none_seen payload options)
    ∙ sym (unless_said payload (option ∷ options) (find (is_outside payload) (option ∷ options)))

pub resumed_first : (payload : List ℕ) → prelogin_of payload ≡ resumed payload unseen (options_of payload)
unfolding prelogin_of
resumed_first payload = first payload (options_of payload)
  where
    first : (payload : List ℕ) (options : Option (List PreloginOption)) → prelogin_by payload options ≡ resumed payload unseen options
    first payload None = refl
    first payload (Some options) = sym (none_seen payload options)

-- ---- the list at a place

pub no_options : options_of [] ≡ None
no_options = refl

pub options_end : (bytes : List ℕ) → 0 < length bytes → slice_index bytes 0 ≡ terminator → options_of bytes ≡ Some []
options_end [] some e = absurd (omega arith)
options_end (token ∷ []) some e = cond-true (token == terminator) (Some []) None (eq-eqb token terminator e)
options_end (token ∷ a ∷ []) some e = cond-true (token == terminator) (Some []) None (eq-eqb token terminator e)
options_end (token ∷ a ∷ b ∷ []) some e = cond-true (token == terminator) (Some []) None (eq-eqb token terminator e)
options_end (token ∷ a ∷ b ∷ c ∷ []) some e = cond-true (token == terminator) (Some []) None (eq-eqb token terminator e)
options_end (token ∷ a ∷ b ∷ c ∷ d ∷ rest) some e = cond-true (token == terminator) (Some []) _ (eq-eqb token terminator e)

pub options_short : (bytes : List ℕ) → slice_index bytes 0 ≢ terminator → length bytes < 5 → options_of bytes ≡ None
options_short [] ne short = refl
options_short (token ∷ []) ne short = cond-false (token == terminator) (Some []) None (ne_eqb token terminator ne)
options_short (token ∷ a ∷ []) ne short = cond-false (token == terminator) (Some []) None (ne_eqb token terminator ne)
options_short (token ∷ a ∷ b ∷ []) ne short = cond-false (token == terminator) (Some []) None (ne_eqb token terminator ne)
options_short (token ∷ a ∷ b ∷ c ∷ []) ne short = cond-false (token == terminator) (Some []) None (ne_eqb token terminator ne)
options_short (token ∷ a ∷ b ∷ c ∷ d ∷ rest) ne short = absurd (omega arith)

pub options_more : (bytes : List ℕ) → slice_index bytes 0 ≢ terminator → 5 ≤ length bytes → options_of bytes ≡ with_option (option_at (take 5 bytes)) (options_of (drop 5 bytes))
options_more [] ne long = absurd (omega arith)
options_more (token ∷ []) ne long = absurd (omega arith)
options_more (token ∷ a ∷ []) ne long = absurd (omega arith)
options_more (token ∷ a ∷ b ∷ []) ne long = absurd (omega arith)
options_more (token ∷ a ∷ b ∷ c ∷ []) ne long = absurd (omega arith)
options_more (token ∷ a ∷ b ∷ c ∷ d ∷ rest) ne long = cond-false (token == terminator) (Some []) _ (ne_eqb token terminator ne)
