-- What `clap` makes of a command that the words write.
use Rattle.std.proofs.Common.{◌≡◌, ◌∙◌, ◌&&◌, ◌||◌, ℕ, Bool, cond, true, false, refl, sym, ap, List, [], ◌∷◌, ◌++◌, map, Option, Some, None, codes, true≢false, append-nil}
use Rattle.std.specs.Prelude.{find, option_and_then, option_map, slice_get}
use Rattle.std.specs.Option.{is_some, option_map_or}
use Rattle.std.specs.List.{fold, list_all}
use Rattle.std.specs.Str.{bytes_eq}
use Rattle.clap.specs.Walk.{Held, Row, Rule, Text, Walk, finished, first_of, has_row, is_empty, nothing_held, reading_by, rows_after, walk, walked, with_default}
use Rattle.clap.specs.Simple.{Shape, filled, help_rule}
use Rattle.clap.specs.Takes.{default_passes, is_given, is_valid, level_passes, settle_passes, walk_passes}
use Rattle.clap.specs.Facts.{explicit_source}
use Rattle.clap.specs.declared.parser.matches.ValueSource.TheVariants.{DefaultValue}
use Rattle.clap.proofs.SimpleLemmas.{is_nil}
use Rattle.clap.proofs.WalkLemmas.{both}
use Rattle.program_words.specs.declared.command.ProgramCommand.{ProgramCommand}
use Rattle.program_words.specs.declared.command.ProgramCommand.TheVariants as commands
use Rattle.program_words.specs.Numbers.{number_in}
use Rattle.program_words.specs.Options.{flag_rule}
use Rattle.program_words.specs.Asked.{command_in, is_on, listen_in, number_or, pipe_in, port_in, text_or, transfers_in, values_of}
use Rattle.program_words.specs.Spelled.{Called, Use, all_written, are_distinct, call, given_by, has_name, may_stand, value_of}
use Rattle.program_words.specs.Spelled.{pipe, listen, steps, load, user, password, bare, drivers, port, workers, rounds}
use Rattle.program_words.proofs.Ranges.{none≢some, then_some}
use Rattle.program_words.proofs.Steps.{added_at_end, held, state}
use Rattle.program_words.proofs.Leaves.{leaf, no_override, rule}
use Rattle.program_words.proofs.Runs.{AreNew, Reaches, row_for, run}

-- ---- what is found

found_is : (uses : List Use) (id : Text) → first_of id (map row_for uses) ≡ given_by uses id
found_is [] id = refl
found_is (given ∷ uses) id = go (has_name id given) (found_is uses id)
  where
    go : (b : Bool) → first_of id (map row_for uses) ≡ given_by uses id
        → option_and_then (λ (r : Row). slice_get r.values 0) (cond b (Some (row_for given)) (find (λ (r : Row). bytes_eq r.id id) (map row_for uses)))
        ≡ option_map value_of (cond b (Some given) (find (has_name id) uses))
    go true e = refl
    go false e = e

given_is : (uses : List Use) (id : Text) → is_given id (map row_for uses) ≡ is_some (given_by uses id)
given_is [] id = refl
given_is (given ∷ uses) id = go (has_name id given) (given_is uses id)
  where
    go : (b : Bool) → is_given id (map row_for uses) ≡ is_some (given_by uses id)
        → option_map_or (λ (r : Row). explicit_source r.source) (cond b (Some (row_for given)) (find (λ (r : Row). bytes_eq r.id id) (map row_for uses))) false
        ≡ is_some (option_map value_of (cond b (Some given) (find (has_name id) uses)))
    go true e = refl
    go false e = e

-- ---- defaults

no_default : (rows : List Row) (a : Rule) → a.defaults ≡ [] → with_default rows a ≡ rows
no_default rows a none = rw none (go (has_row a.id rows))
  where
    go : (b : Bool) → cond b rows rows ≡ rows
    go true = refl
    go false = refl

no_defaults : (rules : List Rule) (rows : List Row) → list_all (λ a. is_empty a.defaults) rules ≡ true → fold with_default rows rules ≡ rows
no_defaults [] rows e = refl
no_defaults (a ∷ rest) rows e =
    let parts = both (is_empty a.defaults) _ e in
    ap (λ rs. fold with_default rs rest) (no_default rows a (is_nil a.defaults parts.0)) ∙ no_defaults rest rows parts.1

-- a row at the end, under another id
first_other : (id : Text) (rows : List Row) (r : Row) → bytes_eq r.id id ≡ false → first_of id (rows ++ r ∷ []) ≡ first_of id rows
first_other id [] r other = rw other refl
first_other id (x ∷ xs) r other = go (bytes_eq x.id id) (first_other id xs r other)
  where
    go : (b : Bool) → first_of id (xs ++ r ∷ []) ≡ first_of id xs
        → option_and_then (λ (y : Row). slice_get y.values 0) (cond b (Some x) (find (λ (y : Row). bytes_eq y.id id) (xs ++ r ∷ [])))
        ≡ option_and_then (λ (y : Row). slice_get y.values 0) (cond b (Some x) (find (λ (y : Row). bytes_eq y.id id) xs))
    go true e = refl
    go false e = e

-- nor is anything given by it
given_other : (id : Text) (rows : List Row) (r : Row) → bytes_eq r.id id ≡ false → is_given id (rows ++ r ∷ []) ≡ is_given id rows
given_other id [] r other = rw other refl
given_other id (x ∷ xs) r other = go (bytes_eq x.id id) (given_other id xs r other)
  where
    go : (b : Bool) → is_given id (xs ++ r ∷ []) ≡ is_given id xs
        → option_map_or (λ (y : Row). explicit_source y.source) (cond b (Some x) (find (λ (y : Row). bytes_eq y.id id) (xs ++ r ∷ []))) false
        ≡ option_map_or (λ (y : Row). explicit_source y.source) (cond b (Some x) (find (λ (y : Row). bytes_eq y.id id) xs)) false
    go true e = refl
    go false e = e

-- and under this one, where it is the first
first_last : (id : Text) (rows : List Row) (r : Row) → bytes_eq r.id id ≡ true → has_row id rows ≡ false → first_of id (rows ++ r ∷ []) ≡ slice_get r.values 0
first_last id [] r same none = rw same refl
first_last id (x ∷ xs) r same none = go (bytes_eq x.id id) none (first_last id xs r same)
  where
    go : (b : Bool) → (b || has_row id xs) ≡ false → (has_row id xs ≡ false → first_of id (xs ++ r ∷ []) ≡ slice_get r.values 0)
        → option_and_then (λ (y : Row). slice_get y.values 0) (cond b (Some x) (find (λ (y : Row). bytes_eq y.id id) (xs ++ r ∷ []))) ≡ slice_get r.values 0
    go true e rest = absurd (true≢false e)
    go false e rest = rest e

first_none : (id : Text) (rows : List Row) → has_row id rows ≡ false → first_of id rows ≡ None
first_none id [] none = refl
first_none id (x ∷ xs) none = go (bytes_eq x.id id) none (first_none id xs)
  where
    go : (b : Bool) → (b || has_row id xs) ≡ false → (has_row id xs ≡ false → first_of id xs ≡ None)
        → option_and_then (λ (y : Row). slice_get y.values 0) (cond b (Some x) (find (λ (y : Row). bytes_eq y.id id) xs)) ≡ None
    go true e rest = absurd (true≢false e)
    go false e rest = rest e

-- ---- flags

module _ (name : Text) (same : bytes_eq name name ≡ true) where
  -- the flag of this name, as it is built
  abbrev flag : Rule
  flag = filled (flag_rule name)

  -- one that is not given
  abbrev off : Row
  off = record { id = name; values = codes "false" ∷ []; count = None; source = Some DefaultValue; reading = reading_by flag }

  with_flag : (rows : List Row) → has_row name rows ≡ false → with_default rows flag ≡ rows ++ off ∷ []
  with_flag rows none = rw none (added_at_end name (reading_by flag) DefaultValue (codes "false" ∷ []) rows none)

  flag_default : (rows : List Row) → has_row name rows ≡ true → with_default rows flag ≡ rows
  flag_default rows some = rw some refl

  -- the default of the flag changes no other value
  flag_other : (id : Text) (rows : List Row) → bytes_eq name id ≡ false → first_of id (with_default rows flag) ≡ first_of id rows
  flag_other id rows other = go (has_row name rows) refl
    where
      go : (b : Bool) → has_row name rows ≡ b → first_of id (with_default rows flag) ≡ first_of id rows
      go true e = ap (first_of id) (flag_default rows e)
      go false e = ap (first_of id) (with_flag rows e) ∙ first_other id rows off other

  -- gives nothing else
  flag_given : (id : Text) (rows : List Row) → bytes_eq name id ≡ false → is_given id (with_default rows flag) ≡ is_given id rows
  flag_given id rows other = go (has_row name rows) refl
    where
      go : (b : Bool) → has_row name rows ≡ b → is_given id (with_default rows flag) ≡ is_given id rows
      go true e = ap (is_given id) (flag_default rows e)
      go false e = ap (is_given id) (with_flag rows e) ∙ given_other id rows off other

  -- and leaves the flag as it is given
  flag_on : (rows : List Row) → is_on (first_of name (with_default rows flag)) ≡ is_on (first_of name rows)
  flag_on rows = go (has_row name rows) refl
    where
      go : (b : Bool) → has_row name rows ≡ b → is_on (first_of name (with_default rows flag)) ≡ is_on (first_of name rows)
      go true e = ap (λ rs. is_on (first_of name rs)) (flag_default rows e)
      go false e =
          ap (λ rs. is_on (first_of name rs)) (with_flag rows e) ∙ ap is_on (first_last name rows off same e)
          ∙ sym (ap is_on (first_none name rows e))

-- ---- the subcommand

all_new : (uses : List Use) → AreNew uses []
all_new [] = tt
all_new (given ∷ uses) = (refl, all_new uses)

abbrev start : Walk
start = state [] None 1

no_words : (s : Shape) (w : Walk) → walk_passes s [] w [] ≡ true
unfolding walk_passes
no_words s w = refl

-- what is checked at the end of the subcommand's words
abbrev ends_well : Shape → Held → Bool
ends_well s h = settle_passes s.rules s.args_override_self h && (list_all default_passes s.rules && is_valid s (finished s.rules h) false)

module _ (called : Called) (uses : List Use) (stand : list_all (may_stand called) uses ≡ true) (distinct : are_distinct uses ≡ true) where
  reached : Reaches (leaf called) start (all_written uses) (map row_for uses)
  reached = run called uses [] None 1 [] stand distinct (all_new uses) (record { settles = refl; are = refl }) (λ none. refl)

  abbrev end : Held
  end = held reached.rows reached.pending

  walk_ends : walk (leaf called).rules [] nothing_held (all_written uses) ≡ state reached.rows reached.pending reached.position
  walk_ends = sym (ap (fold (walked (leaf called).rules []) start) (append-nil (all_written uses))) ∙ reached.goes.walks []

  words_pass : walk_passes (leaf called) [] start (all_written uses) ≡ true
  words_pass =
      sym (ap (walk_passes (leaf called) [] start) (append-nil (all_written uses))) ∙ (reached.goes.passes []
      ∙ no_words (leaf called) (state reached.rows reached.pending reached.position))

  finished_is : finished (leaf called).rules end ≡ fold with_default (map row_for uses) (leaf called).rules
  finished_is = ap (λ rows. fold with_default rows (leaf called).rules) reached.ready.are

  level_is : level_passes (leaf called) [] nothing_held (all_written uses) false ≡ ends_well (leaf called) end
  level_is =
      ap (λ b. b && ends_well (leaf called) (walk (leaf called).rules [] nothing_held (all_written uses)).held) words_pass
      ∙ ap (λ w. ends_well (leaf called) w.held) walk_ends

  rows_are : rows_after (leaf called).rules [] (all_written uses) ≡ fold with_default (map row_for uses) (leaf called).rules
  rows_are = ap (λ w. finished (leaf called).rules w.held) walk_ends ∙ finished_is

  settles : settle_passes (leaf called).rules (leaf called).args_override_self end ≡ true
  settles = ap (λ over. settle_passes (leaf called).rules over end) (no_override called) ∙ reached.ready.settles

defaults_pass : (called : Called) → list_all default_passes (leaf called).rules ≡ true
defaults_pass pipe = refl
defaults_pass listen = refl
defaults_pass steps = refl
defaults_pass load = refl

-- `--help`, as it is built
abbrev help : Rule
help = filled help_rule

-- nothing but flags has a default
pipe_defaults : (rows : List Row) → fold with_default rows (leaf pipe).rules ≡ with_default (with_default rows (rule bare)) (rule drivers)
pipe_defaults rows =
    let user_is = no_default rows (rule user) refl in
    let password_is = no_default rows (rule password) refl in
    ap (λ rs. fold with_default rs (rule password ∷ rule bare ∷ rule drivers ∷ help ∷ [])) user_is
    ∙ (ap (λ rs. fold with_default rs (rule bare ∷ rule drivers ∷ help ∷ [])) password_is ∙ no_default (with_default (with_default rows (rule bare)) (rule drivers)) help refl)

listen_defaults : (rows : List Row) → fold with_default rows (leaf listen).rules ≡ with_default rows (rule drivers)
listen_defaults rows =
    ap (λ rs. fold with_default rs (rule drivers ∷ help ∷ [])) (no_defaults (rule port ∷ rule workers ∷ rule rounds ∷ rule user ∷ rule password ∷ []) rows refl)
    ∙ no_default (with_default rows (rule drivers)) help refl

-- what has to be there is there
abbrev needed : Called → List Row → Bool
needed pipe rows = true
needed listen rows = is_given (codes "port") rows
needed steps rows = true
needed load rows = is_given (codes "transfers") rows

valid : (called : Called) (rows : List Row) → needed called rows ≡ true → is_valid (leaf called) rows false ≡ true
valid pipe rows e = refl
valid listen rows e = rw e refl
valid steps rows e = refl
valid load rows e = rw e refl

some_given : (default : Option ℕ) (most n : ℕ) (given : Option Text) → default ≡ None → number_or default most given ≡ Some n → is_some given ≡ true
some_given default most n (Some text) none e = refl
some_given default most n None none e = absurd (none≢some n (sym none ∙ e))

needed_given : (called : Called) (uses : List Use) (c : ProgramCommand) → command_in (call called) (given_by uses) ≡ Some c → needed called (map row_for uses) ≡ true
needed_given pipe uses c e = refl
needed_given listen uses c e =
    let port = then_some _ (port_in (given_by uses)) c e in
    given_is uses (codes "port") ∙ some_given None 65535 port.0 (given_by uses (codes "port")) refl port.1
needed_given steps uses c e = refl
needed_given load uses c e =
    let transfers = then_some _ (transfers_in (given_by uses)) c e in
    given_is uses (codes "transfers") ∙ some_given None 10000 transfers.0 (given_by uses (codes "transfers")) refl transfers.1

-- the rows at the end, and the command that they make
module _ (uses : List Use) where
  values_are : values_of (map row_for uses) ≡ given_by uses
  values_are = λ i id. found_is uses id i

  pipe_is : pipe_in (values_of (with_default (with_default (map row_for uses) (rule bare)) (rule drivers))) ≡ pipe_in (given_by uses)
  pipe_is =
      let rows = map row_for uses in
      let front = with_default rows (rule bare) in
      let user_is = flag_other (codes "drivers") refl (codes "user") front refl ∙ flag_other (codes "bare") refl (codes "user") rows refl ∙ found_is uses (codes "user") in
      let password_is = flag_other (codes "drivers") refl (codes "password") front refl ∙ flag_other (codes "bare") refl (codes "password") rows refl ∙ found_is uses (codes "password") in
      let bare_is = ap is_on (flag_other (codes "drivers") refl (codes "bare") front refl) ∙ flag_on (codes "bare") refl rows ∙ ap is_on (found_is uses (codes "bare")) in
      let drivers_is = flag_on (codes "drivers") refl front ∙ ap is_on (flag_other (codes "bare") refl (codes "drivers") rows refl ∙ found_is uses (codes "drivers")) in
      λ i. commands.Pipe (text_or (codes "sa") (user_is i)) (text_or (codes "A") (password_is i)) (bare_is i) (drivers_is i)

  -- a value that is none of the flag's
  listen_value : (id : Text) → bytes_eq (codes "drivers") id ≡ false → values_of (with_default (map row_for uses) (rule drivers)) id ≡ given_by uses id
  listen_value id other = flag_other (codes "drivers") refl id (map row_for uses) other ∙ found_is uses id

  listen_is : listen_in (values_of (with_default (map row_for uses) (rule drivers))) ≡ listen_in (given_by uses)
  listen_is =
      let port_is = ap (number_or None 65535) (listen_value (codes "port") refl) in
      let workers_is = ap (number_or (Some 4) 64) (listen_value (codes "workers") refl) in
      let rounds_is = ap (λ given. option_map_or (λ text. option_map (λ n. Some n) (number_in 1000000000 text)) given (Some None)) (listen_value (codes "rounds") refl) in
      let user_is = ap (text_or (codes "sa")) (listen_value (codes "user") refl) in
      let password_is = ap (text_or (codes "A")) (listen_value (codes "password") refl) in
      let drivers_is = flag_on (codes "drivers") refl (map row_for uses) ∙ ap is_on (found_is uses (codes "drivers")) in
      λ i. option_and_then (λ port. option_and_then (λ workers. option_map (λ rounds. commands.Listen port workers rounds (user_is i) (password_is i) (drivers_is i)) (rounds_is i)) (workers_is i)) (port_is i)

  command_is : (called : Called) → command_in (call called) (values_of (fold with_default (map row_for uses) (leaf called).rules)) ≡ command_in (call called) (given_by uses)
  command_is pipe = ap (λ rows. Some (pipe_in (values_of rows))) (pipe_defaults (map row_for uses)) ∙ ap (λ c. Some c) pipe_is
  command_is listen = ap (λ rows. listen_in (values_of rows)) (listen_defaults (map row_for uses)) ∙ listen_is
  command_is steps =
      ap (λ rows. command_in (call steps) (values_of rows)) (no_defaults (leaf steps).rules (map row_for uses) refl) ∙ ap (command_in (call steps)) values_are
  command_is load =
      ap (λ rows. command_in (call load) (values_of rows)) (no_defaults (leaf load).rules (map row_for uses) refl) ∙ ap (command_in (call load)) values_are

  needed_after : (called : Called) → needed called (fold with_default (map row_for uses) (leaf called).rules) ≡ needed called (map row_for uses)
  needed_after pipe = refl
  needed_after listen = ap (needed listen) (listen_defaults (map row_for uses)) ∙ flag_given (codes "drivers") refl (codes "port") (map row_for uses) refl
  needed_after steps = refl
  needed_after load = ap (needed load) (no_defaults (leaf load).rules (map row_for uses) refl)

-- the words behind the command's name pass
pub level_true : (called : Called) (uses : List Use) (c : ProgramCommand) → list_all (may_stand called) uses ≡ true → are_distinct uses ≡ true
    → command_in (call called) (given_by uses) ≡ Some c → level_passes (leaf called) [] nothing_held (all_written uses) false ≡ true
level_true called uses c stand distinct means =
    let h = end called uses stand distinct in
    let rows_valid : is_valid (leaf called) (fold with_default (map row_for uses) (leaf called).rules) false ≡ true =
    valid called (fold with_default (map row_for uses) (leaf called).rules) (needed_after uses called ∙ needed_given called uses c means) in
    let valid_is : is_valid (leaf called) (finished (leaf called).rules h) false ≡ true =
    ap (λ rows. is_valid (leaf called) rows false) (finished_is called uses stand distinct) ∙ rows_valid in
    level_is called uses stand distinct ∙ all_true _ _ _ (settles called uses stand distinct) (defaults_pass called) valid_is
  where
    all_true : (a b d : Bool) → a ≡ true → b ≡ true → d ≡ true → (a && (b && d)) ≡ true
    all_true a b d x y z = rw (x, y, z) refl

-- and make the command
pub level_command : (called : Called) (uses : List Use) (c : ProgramCommand) → list_all (may_stand called) uses ≡ true → are_distinct uses ≡ true
    → command_in (call called) (given_by uses) ≡ Some c → command_in (call called) (values_of (rows_after (leaf called).rules [] (all_written uses))) ≡ Some c
level_command called uses c stand distinct means =
    ap (λ rows. command_in (call called) (values_of rows)) (rows_are called uses stand distinct) ∙ (command_is uses called ∙ means)
