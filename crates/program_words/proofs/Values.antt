-- Where the walk of `clap` passes, the first value of each row passes the parser of its option.
use Rattle.std.proofs.Common.{◌≡◌, ◌∙◌, ◌&&◌, ◌||◌, ◌<◌, ◌≤◌, ℕ, zero, suc, Bool, cond, not, true, false, refl, sym, ap, subst, arith, List, [], ◌∷◌, ◌++◌, length, Option, Some, None, codes, true≢false, nat_le}
use Rattle.std.specs.Prelude.{⊤, drop, encode_utf8, find, option_and_then, slice_get}
use Rattle.std.specs.List.{fold, list_all}
use Rattle.std.specs.Option.{is_some, option_map_or}
use Rattle.std.specs.Str.{bytes_eq, chars}
use Rattle.clap.specs.Lexer.{long_of, short_of}
use Rattle.std.proofs.lemmas.Slice.Eq.{bytes_eq-Decides}
use Rattle.std.proofs.lemmas.Bool.{leb-true, ne_eqb}
use Rattle.clap.specs.Facts.{explicit_source, unwrap_or_range}
use Rattle.clap.specs.Values.{is_request}
use Rattle.clap.specs.Walk.{Held, Outcome, Row, Rule, Step, Text, Waiting, Walk, action_of, after_flag, arg_by_id, arg_by_index, arg_by_long, arg_by_short, at_row, attached_value, bundle, bundle_met, bundle_step, after_step, default_rows, flag_met, pushed, subcommand_met, subcommand_or_other, walked_from, done, has_row, idle, is_empty, first_of, nothing_held, rows_after, walk, walk_from, is_pending, long_met, long_or_other, more_values, most_values, next, option, option_met, option_word, plain, plain_word, positional, reacted, reading_by, refused, settled, settled_rows, short_met, short_or_plain, subcommand, takes_several, takes_values, to_positional, trailing, used, used_by_id, value, waits, walked, with_default, with_values, without, word_met}
use Rattle.clap.specs.Simple.{Shape}
use Rattle.clap.specs.Takes.{bundle_passes, bundle_step_passes, other_passes, default_passes, flag_word_passes, flags_pass, is_given, level_passes, long_passes, option_passes, positional_passes, react_passes, settle_passes, short_passes, step_passes, turn_passes, use_passes, value_passes, values_pass, walk_passes, word_passes}
use Rattle.clap.specs.declared.parser.matches.ValueSource.{ValueSource}
use Rattle.clap.specs.declared.parser.matches.ValueSource.TheVariants.{CommandLine, DefaultValue}
use Rattle.clap.specs.declared.builder.action.ArgAction.TheVariants.{Set, SetTrue, Help}
use Rattle.clap.proofs.WalkLemmas.{both}

-- each element
abbrev pub Each : {A : Type 0} → (A → Type 0) → List A → Type 0
Each P [] = ⊤
Each P (x ∷ xs) = P x × Each P xs

-- the row's first value passes the parser of its option
abbrev pub RowPasses : List Rule → Row → Type 0
RowPasses c r = (a : Rule) → arg_by_id c r.id ≡ Some a → (v : Text) × (slice_get r.values 0 ≡ Some v) × (value_passes a v ≡ true)

abbrev pub Pass : List Rule → List Row → Type 0
Pass c rows = Each (RowPasses c) rows

-- ---- rows changed

all_append : (P : Row → Type 0) (xs ys : List Row) → Each P xs → Each P ys → Each P (xs ++ ys)
all_append P [] ys a b = b
all_append P (x ∷ xs) ys a b = (a.0, all_append P xs ys a.1 b)

at_row_all : (P : Row → Type 0) (id : Text) (change : Row → List Row) (missing rows : List Row) → ((r : Row) → P r → Each P (change r)) → Each P missing → Each P rows
    → Each P (at_row id change missing rows)
at_row_all P id change missing [] changes none all = none
at_row_all P id change missing (r ∷ rs) changes none all = go (bytes_eq r.id id) (at_row_all P id change missing rs changes none all.1)
  where
    go : (b : Bool) → Each P (at_row id change missing rs) → Each P (cond b (change r ++ rs) (r ∷ at_row id change missing rs))
    go true rest = all_append P (change r) rs (changes r all.0) all.1
    go false rest = (all.0, rest)

module _ (c : List Rule) where
  without_passes : (id : Text) (rows : List Row) → Pass c rows → Pass c (without id rows)
  without_passes id rows all = at_row_all (RowPasses c) id (λ _. []) [] rows (λ r p. tt) tt all

  longer : (r : Row) (more : List Text) (v : Text) → slice_get r.values 0 ≡ Some v → slice_get (r.values ++ more) 0 ≡ Some v
  longer r more v e = go r.values e
    where
      go : (xs : List Text) → slice_get xs 0 ≡ Some v → slice_get (xs ++ more) 0 ≡ Some v
      go [] f = absurd (true≢false (sym (ap (λ o. is_some o) f)))
      go (x ∷ xs) f = f

  more_passes : (source : ValueSource) (values : List Text) (r : Row) → RowPasses c r → Pass c (more_values source values r)
  more_passes source values r p = ((λ a is. let q = p a is in (q.0, longer r values q.0 q.1, q.2)), tt)

  -- values of an option that pass its parser
  with_passes : (a : Rule) (source : ValueSource) (v : Text) (vs : List Text) (rows : List Row) → arg_by_id c a.id ≡ Some a → value_passes a v ≡ true → Pass c rows
      → Pass c (with_values a.id (reading_by a) source (v ∷ vs) rows)
  with_passes a source v vs rows by_id passes all =
      at_row_all (RowPasses c) a.id (more_values source (v ∷ vs)) _ rows (more_passes source (v ∷ vs)) (new, tt) all
    where
      same : (b : Rule) → arg_by_id c a.id ≡ Some b → a ≡ b
      same b is = ap (λ o. Rattle.std.specs.Prelude.unwrap_or o a) (sym by_id ∙ is)

      new : (b : Rule) → arg_by_id c a.id ≡ Some b → (w : Text) × (Some v ≡ Some w) × (value_passes b w ≡ true)
      new b is = (v, refl, subst (λ x. value_passes x v ≡ true) (same b is) passes)

  -- a use of the option keeps this
  abbrev pub Keeps : Rule → Type 0
  Keeps a = (values : List Text) (rows : List Row) → use_passes false a values rows ≡ true → Pass c rows → Pass c (used a values rows)

  a_value : (a : Rule) (values : List Text) → 0 < length values → values_pass a values ≡ true → (v : Text) × (vs : List Text) × (values ≡ v ∷ vs) × (value_passes a v ≡ true)
  a_value a [] some e = absurd (omega (arith, some))
  a_value a (v ∷ vs) some e = (v, vs, refl, (both (value_passes a v) _ e).0)

  -- a use with values that pass the parser
  kept : (a : Rule) (v : Text) (vs : List Text) (rows : List Row) → arg_by_id c a.id ≡ Some a → ((not (has_row a.id rows) || false) && values_pass a (v ∷ vs)) ≡ true → Pass c rows
      → Pass c (with_values a.id (reading_by a) CommandLine (v ∷ vs) (without a.id rows))
  kept a v vs rows by_id passes all =
      let value_is = (both (value_passes a v) _ (both (not (has_row a.id rows) || false) _ passes).1).0 in
      with_passes a CommandLine v vs (without a.id rows) by_id value_is (without_passes a.id rows all)

  -- an option with a value
  pub set_keeps : (a : Rule) → arg_by_id c a.id ≡ Some a → action_of a ≡ Set → (unwrap_or_range a.range).start_inclusive ≡ 1 → Keeps a
  set_keeps a by_id action least [] rows fits all =
      let bad : nat_le 1 0 ≡ true = subst (λ n. nat_le n 0 ≡ true) least (both (nat_le (unwrap_or_range a.range).start_inclusive 0) _ fits).0 in
      absurd (true≢false (sym bad))
  set_keeps a by_id action least (v ∷ vs) rows fits all =
      let outer = (both (nat_le (unwrap_or_range a.range).start_inclusive (length (v ∷ vs))) _ fits).1 in
      let inner = (both (nat_le (length (v ∷ vs)) _) _ outer).1 in
      let passes : ((not (has_row a.id rows) || false) && values_pass a (v ∷ vs)) ≡ true = rw action at inner in
      let made : used a (v ∷ vs) rows ≡ with_values a.id (reading_by a) CommandLine (v ∷ vs) (without a.id rows) = rw action refl in
      subst (Pass c) (sym made) (kept a v vs rows by_id passes all)

  -- a flag, which has none
  pub set_true_keeps : (a : Rule) → arg_by_id c a.id ≡ Some a → action_of a ≡ SetTrue → a.missing ≡ codes "true" ∷ [] → most_values a ≡ 0 → Keeps a
  set_true_keeps a by_id action missing none [] rows fits all =
      let outer = (both (nat_le (unwrap_or_range a.range).start_inclusive 0) _ fits).1 in
      let inner = (both (nat_le 0 (most_values a)) _ outer).1 in
      let passes : ((not (has_row a.id rows) || false) && values_pass a (codes "true" ∷ [])) ≡ true = rw (action, missing) at inner in
      let made : used a [] rows ≡ with_values a.id (reading_by a) CommandLine (codes "true" ∷ []) (without a.id rows) = rw (action, missing) refl in
      subst (Pass c) (sym made) (kept a (codes "true") [] rows by_id passes all)
  set_true_keeps a by_id action missing none (v ∷ vs) rows fits all =
      let outer = (both (nat_le (unwrap_or_range a.range).start_inclusive (length (v ∷ vs))) _ fits).1 in
      let bad : nat_le (length (v ∷ vs)) 0 ≡ true = subst (λ n. nat_le (length (v ∷ vs)) n ≡ true) none (both (nat_le (length (v ∷ vs)) (most_values a)) _ outer).0 in
      let few : length (v ∷ vs) ≤ 0 = leb-true (length (v ∷ vs)) 0 bad in
      absurd (let no : ⊥ = omega (arith, few) in no)

  -- a request is no use
  pub request_keeps : (a : Rule) → action_of a ≡ Help → Keeps a
  request_keeps a action values rows fits all =
      let outer = (both (nat_le (unwrap_or_range a.range).start_inclusive (length values)) _ fits).1 in
      let inner = (both (nat_le (length values) _) _ outer).1 in
      let bad : false ≡ true = rw action at inner in
      absurd (true≢false (sym bad))

-- ---- the walk

find_keeps : {A : Type 0} (Q : A → Type 0) (p : A → Bool) (xs : List A) (a : A) → Each Q xs → find p xs ≡ Some a → Q a
find_keeps Q p [] a all e = absurd (true≢false (sym (ap (λ o. is_some o) e)))
find_keeps Q p (x ∷ xs) a all e = go (p x) e (find_keeps Q p xs a all.1)
  where
    go : (b : Bool) → cond b (Some x) (find p xs) ≡ Some a → (find p xs ≡ Some a → Q a) → Q a
    go true is rest = subst Q (ap (λ o. Rattle.std.specs.Prelude.unwrap_or o x) is) all.0
    go false is rest = rest is

module _ (s : Shape) (over : s.args_override_self ≡ false) (keeps : Each (Keeps s.rules) s.rules) where
  abbrev c : List Rule
  c = s.rules

  abbrev Held-passes : Held → Type 0
  Held-passes h = Pass c h.rows

  settled_passes : (h : Held) → settle_passes c false h ≡ true → Held-passes h → Held-passes (settled c h)
  settled_passes h fits all = go h.pending fits
    where
      by_rule : (q : Text × List Text) (o : Option Rule) → arg_by_id c q.0 ≡ o → option_map_or (λ a. use_passes false a q.1 h.rows) o true ≡ true → Pass c (used_by_id o q.1 h.rows)
      by_rule q None e f = all
      by_rule q (Some a) e f = find_keeps (Keeps c) (λ x. bytes_eq x.id q.0) c a keeps e q.1 h.rows f all

      go : (p : Option (Text × List Text)) → option_map_or (λ q. option_map_or (λ a. use_passes false a q.1 h.rows) (arg_by_id c q.0) true) p true ≡ true → Pass c (settled_rows c p h.rows)
      go None f = all
      go (Some q) f = by_rule q (arg_by_id c q.0) refl f

  use_keeps : (a : Rule) (values : List Text) (h : Held) → Keeps c a → react_passes c false a values h ≡ true → Held-passes h → Held-passes (reacted c a values h)
  use_keeps a values h keep fits all =
      let parts = both (settle_passes c false h) _ fits in
      keep values (settled c h).rows parts.1 (settled_passes h parts.0 all)

  option_keeps : (a : Rule) (v : Option Text) (h : Held) → Keeps c a → option_passes c false a v h ≡ true → Held-passes h → Held-passes ((option_met c a v h).0)
  option_keeps a (Some v) h keep fits all = use_keeps a (v ∷ []) h keep fits all
  option_keeps a None h keep fits all = settled_passes h fits all

  long_keeps : (o : Option Rule) (v : Option Text) (h : Held) → ((a : Rule) → o ≡ Some a → Keeps c a) → long_passes c false o v h ≡ true → Held-passes h
      → Held-passes ((long_met c o v h).0)
  long_keeps None v h keep fits all = absurd (true≢false (sym fits))
  long_keeps (Some a) v h keep fits all = go (takes_values a) v fits
    where
      go : (b : Bool) (w : Option Text) → cond b (option_passes c false a w h) (not (is_some w) && react_passes c false a [] h) ≡ true
          → Held-passes ((cond b (option_met c a w h) (flag_met c a w h)).0)
      go true w f = option_keeps a w h (keep a refl) f all
      go false (Some w) f = absurd (true≢false (sym f))
      go false None f = use_keeps a [] h (keep a refl) f all

  abbrev Bundles : ℕ → Type 0
  Bundles k = (flags : Text) (skip : ℕ) (so_far : Outcome) (h : Held) → flags_pass c false k flags skip h ≡ true → Held-passes h → Held-passes ((bundle_met c k flags skip so_far h).0)

  character_keeps : (k : ℕ) → Bundles k → (o : Option ℕ) (flags : Text) (skip : ℕ) (so_far : Outcome) (h : Held)
      → bundle_step_passes c false o flags skip h (flags_pass c false k) ≡ true → Held-passes h → Held-passes ((bundle_step c o flags skip so_far h (bundle_met c k)).0)
  character_keeps k rest None flags skip so_far h fits all = all
  character_keeps k rest (Some x) flags (suc skip) so_far h fits all = rest (drop (length (encode_utf8 x)) flags) skip so_far h fits all
  character_keeps k rest (Some x) flags zero so_far h fits all = go (arg_by_short c x) refl fits
    where
      left : Text
      left = drop (length (encode_utf8 x)) flags

      by_rule : (a : Rule) → Keeps c a → (b : Bool) → cond b (option_passes c false a (attached_value left) h) (react_passes c false a [] h && flags_pass c false k left 0 (reacted c a [] h)) ≡ true
          → Held-passes ((cond b (option_met c a (attached_value left) h) (bundle_met c k left 0 done (reacted c a [] h))).0)
      by_rule a keep true f = option_keeps a (attached_value left) h keep f all
      by_rule a keep false f =
          let parts = both (react_passes c false a [] h) _ f in
          rest left 0 done (reacted c a [] h) parts.1 (use_keeps a [] h keep parts.0 all)

      go : (r : Option Rule) → arg_by_short c x ≡ r → short_passes c false r left h (flags_pass c false k left 0) ≡ true
          → Held-passes ((short_met c r left h (bundle_met c k left 0 done)).0)
      go None e f = absurd (true≢false (sym f))
      go (Some a) e f = by_rule a (find_keeps (Keeps c) _ c a keeps e) (takes_values a) f

  bundle_keeps : (k : ℕ) → Bundles k
  unfolding bundle_met flags_pass
  bundle_keeps zero flags skip so_far h fits all = all
  bundle_keeps (suc k) flags skip so_far h fits all = character_keeps k (bundle_keeps k) (slice_get (chars flags) 0) flags skip so_far h fits all

  plain_keeps : (waiting : Waiting) (word : Text) (h : Held) → Held-passes h → Held-passes ((plain_word c waiting word h).0)
  plain_keeps idle word h all = all
  plain_keeps positional word h all = all
  plain_keeps (option id) word h all = go (arg_by_id c id)
    where
      go : (o : Option Rule) → Held-passes ((option_word o id word h).0)
      go None = all
      go (Some a) = all

  flag_keeps : (waiting : Waiting) (word : Text) (h : Held) (outcome : Outcome) → Held-passes h → Held-passes ((after_flag c waiting word h outcome).0)
  flag_keeps waiting word h done all = all
  flag_keeps waiting word h (waits id) all = all
  flag_keeps waiting word h plain all = plain_keeps waiting word h all
  flag_keeps waiting word h refused all = plain_keeps waiting word h all

  no_subcommand : (waiting : Waiting) (word : Text) → subcommand_met [] waiting word ≡ None
  no_subcommand idle word = refl
  no_subcommand positional word = refl
  no_subcommand (option id) word = refl

  flag_word_keeps : (waiting : Waiting) (word : Text) (h : Held) (l : Option (Text × Option Text)) → flag_word_passes c false l word h ≡ true → Held-passes h
      → Held-passes ((long_or_other c waiting word l h).0)
  flag_word_keeps waiting word h (Some p) fits all =
      flag_keeps waiting word (long_met c (arg_by_long c p.0) p.1 h).0 (long_met c (arg_by_long c p.0) p.1 h).1
      (long_keeps (arg_by_long c p.0) p.1 h (λ a e. find_keeps (Keeps c) _ c a keeps e) fits all)
  flag_word_keeps waiting word h None fits all = go (short_of word) fits
    where
      go : (o : Option Text) → option_map_or (λ flags. bundle_passes c false flags h) o true ≡ true → Held-passes ((short_or_plain c waiting word o h).0)
      go None f = plain_keeps waiting word h all
      go (Some flags) f =
          flag_keeps waiting word (bundle c flags h).0 (bundle c flags h).1
          (bundle_keeps (length flags) flags h.skip plain (record h { skip = 0 }) f all)

  word_keeps : (is_trailing : Bool) (waiting : Waiting) (position : ℕ) (word : Text) (h : Held) → word_passes s [] is_trailing waiting word h ≡ true → Held-passes h
      → Held-passes ((word_met c [] is_trailing waiting position word h).0)
  word_keeps true waiting position word h fits all = all
  word_keeps false waiting position word h fits all =
      subst (λ o. Held-passes ((subcommand_or_other c o waiting position word h).0)) (sym (no_subcommand waiting word))
      (go (bytes_eq word (45 ∷ 45 ∷ [])) (subst (λ o. other_passes s o word h ≡ true) (no_subcommand waiting word) fits))
    where
      go : (b : Bool) → (b || flag_word_passes c s.args_override_self (long_of word) word h) ≡ true
          → Held-passes ((cond b (h, trailing position) (long_or_other c waiting word (long_of word) h)).0)
      go true f = all
      go false f = flag_word_keeps waiting word h (long_of word) (subst (λ b. flag_word_passes c b (long_of word) word h ≡ true) over f) all

  step_keeps : (w : Walk) (word : Text) (h : Held) (step : Step) → step_passes s w.position h step ≡ true → Held-passes h → Held-passes ((after_step c word w h step).held)
  step_keeps w word h (next waiting) fits all = all
  step_keeps w word h (trailing position) fits all = all
  step_keeps w word h (subcommand name) fits all = all
  step_keeps w word h value fits all = go (arg_by_index c w.position) fits
    where
      by_pending : (a : Rule) (b : Bool) → (b || settle_passes c s.args_override_self h) ≡ true → Held-passes (pushed a.id word (cond b h (settled c h)))
      by_pending a true f = all
      by_pending a false f = settled_passes h (subst (λ o. settle_passes c o h ≡ true) over f) all

      go : (o : Option Rule) → option_map_or (λ a. positional_passes c s.args_override_self a h) o false ≡ true → Held-passes ((to_positional c o word w h).held)
      go None f = all
      go (Some a) f = by_pending a (is_pending a h.pending && takes_several a) f

  turn_keeps : (w : Walk) (word : Text) → turn_passes s [] w word ≡ true → Held-passes w.held → Held-passes ((walked c [] w word).held)
  unfolding walked
  turn_keeps w word fits all = go w.stopped fits
    where
      met : Held × Step
      met = word_met c [] w.is_trailing w.waiting w.position word w.held

      go : (o : Option (Text × List Text)) → (is_some o || (word_passes s [] w.is_trailing w.waiting word w.held && step_passes s w.position met.0 met.1)) ≡ true
          → Held-passes ((walked_from c [] o w word).held)
      go (Some p) f = all
      go None f =
          let parts = both (word_passes s [] w.is_trailing w.waiting word w.held) _ f in
          step_keeps w word met.0 met.1 parts.1 (word_keeps w.is_trailing w.waiting w.position word w.held parts.0 all)

  walk_keeps : (w : Walk) (words : List Text) → walk_passes s [] w words ≡ true → Held-passes w.held → Held-passes ((fold (walked c []) w words).held)
  unfolding walk_passes
  walk_keeps w [] fits all = all
  walk_keeps w (word ∷ rest) fits all =
      let parts = both (turn_passes s [] w word) _ fits in
      walk_keeps (walked c [] w word) rest parts.1 (turn_keeps w word parts.0 all)

  default_keeps : (rows : List Row) (a : Rule) → arg_by_id c a.id ≡ Some a → default_passes a ≡ true → Pass c rows → Pass c (with_default rows a)
  default_keeps rows a by_id fits all = go (has_row a.id rows) a.defaults fits
    where
      go : (b : Bool) (ds : List Text) → (is_empty ds || (not (is_request (action_of a)) && values_pass a ds)) ≡ true
          → Pass c (cond b rows (default_rows a.id (reading_by a) ds rows))
      go true ds f = all
      go false [] f = all
      go false (v ∷ vs) f =
          let some : is_empty (v ∷ vs) ≡ false = ne_eqb (length (v ∷ vs)) 0 (λ e. omega (arith, e)) in
          let passes_both : (not (is_request (action_of a)) && values_pass a (v ∷ vs)) ≡ true = rw some at f in
          let passes = (both (not (is_request (action_of a))) _ passes_both).1 in
          with_passes c a DefaultValue v vs rows by_id (both (value_passes a v) _ passes).0 all

  defaults_keep : (rules : List Rule) (rows : List Row) → Each (λ a. arg_by_id c a.id ≡ Some a) rules → list_all default_passes rules ≡ true → Pass c rows
      → Pass c (fold with_default rows rules)
  defaults_keep [] rows by_id fits all = all
  defaults_keep (a ∷ rest) rows by_id fits all =
      let parts = both (default_passes a) _ fits in
      defaults_keep rest (with_default rows a) by_id.1 parts.1 (default_keeps rows a by_id.0 parts.0 all)

  -- the rows of words that pass
  pub level_keeps : (words : List Text) → Each (λ a. arg_by_id c a.id ≡ Some a) c → level_passes s [] nothing_held words false ≡ true → Pass c (rows_after c [] words)
  level_keeps words by_id fits =
      let end = (walk c [] nothing_held words).held in
      let first = both (walk_passes s [] (walk_from nothing_held) words) _ fits in
      let second = both (settle_passes c s.args_override_self end) _ first.1 in
      let third = both (list_all default_passes c) _ second.1 in
      let walked_all = walk_keeps (walk_from nothing_held) words first.0 tt in
      defaults_keep c (settled c end).rows by_id third.0
      (settled_passes end (subst (λ b. settle_passes c b end ≡ true) over second.0) walked_all)

-- ---- the value of an option

slice_is : (xs : List Text) (v w : Text) → slice_get xs 0 ≡ Some v → slice_get xs 0 ≡ Some w → v ≡ w
slice_is xs v w a b = ap (λ o. Rattle.std.specs.Prelude.unwrap_or o v) (sym a ∙ b)

pub value_fits : (c : List Rule) (id : Text) (a : Rule) (rows : List Row) (v : Text) → arg_by_id c id ≡ Some a → Pass c rows → first_of id rows ≡ Some v → value_passes a v ≡ true
value_fits c id a [] v by_id all e = absurd (true≢false (sym (ap (λ o. is_some o) e)))
value_fits c id a (r ∷ rs) v by_id all e = go (bytes_eq r.id id) refl e (value_fits c id a rs v by_id all.1)
  where
    go : (b : Bool) → bytes_eq r.id id ≡ b → option_and_then (λ (y : Row). slice_get y.values 0) (cond b (Some r) (find (λ (y : Row). bytes_eq y.id id) rs)) ≡ Some v
        → (first_of id rs ≡ Some v → value_passes a v ≡ true) → value_passes a v ≡ true
    go false t f rest = rest f
    go true t f rest =
        let same : r.id ≡ id = (bytes_eq-Decides r.id id).0 t in
        let has = all.0 a (subst (λ i. arg_by_id c i ≡ Some a) (sym same) by_id) in
        subst (λ w. value_passes a w ≡ true) (slice_is r.values has.0 v has.1 f) has.2

pub value_there : (c : List Rule) (id : Text) (a : Rule) (rows : List Row) → arg_by_id c id ≡ Some a → Pass c rows → is_given id rows ≡ true → is_some (first_of id rows) ≡ true
value_there c id a [] by_id all e = e
value_there c id a (r ∷ rs) by_id all e = go (bytes_eq r.id id) refl e (value_there c id a rs by_id all.1)
  where
    go : (b : Bool) → bytes_eq r.id id ≡ b → option_map_or (λ (y : Row). explicit_source y.source) (cond b (Some r) (find (λ (y : Row). bytes_eq y.id id) rs)) false ≡ true
        → (is_given id rs ≡ true → is_some (first_of id rs) ≡ true)
        → is_some (option_and_then (λ (y : Row). slice_get y.values 0) (cond b (Some r) (find (λ (y : Row). bytes_eq y.id id) rs))) ≡ true
    go false t f rest = rest f
    go true t f rest =
        let same : r.id ≡ id = (bytes_eq-Decides r.id id).0 t in
        let has = all.0 a (subst (λ i. arg_by_id c i ≡ Some a) (sym same) by_id) in
        ap (λ o. is_some o) has.1
