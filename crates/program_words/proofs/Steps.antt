-- The walk of `clap` over the words of one thing that is given.
use Rattle.std.proofs.Common.{◌≡◌, ◌∙◌, ◌&&◌, ◌||◌, ◌==◌, ℕ, Bool, not, true, false, refl, sym, ap, List, [], ◌∷◌, ◌++◌, Option, Some, None, codes, true≢false}
use Rattle.std.specs.List.{fold}
use Rattle.std.specs.Str.{bytes_eq}
use Rattle.clap.specs.Lexer.{long_of, short_of}
use Rattle.clap.specs.Walk.{action_of, is_append, Held, Row, Rule, Text, Walk, arg_by_id, arg_by_index, arg_by_long, has_row, idle, is_pending, most_values, option, reading_by, settled_rows, takes_several, takes_values, used, walked, with_values, without}
use Rattle.clap.specs.Simple.{Shape}
use Rattle.clap.specs.Takes.{settle_passes, turn_passes, use_passes, value_passes, walk_passes}
use Rattle.clap.specs.declared.parser.matches.ValueSource.TheVariants.{CommandLine}
use Rattle.clap.specs.declared.parser.matches.ValueSource.{ValueSource}
use Rattle.clap.specs.declared.builder.value_parser.Reading.{Reading}
use Rattle.program_words.specs.Spelled.{long, stands_alone}

-- ---- words

abbrev pub dashes : Text
dashes = 45 ∷ 45 ∷ []

-- a word that is no option is plain to `clap`
pub record IsPlainWord (word : Text) : Type 0 where
  pub no_dashes : bytes_eq word dashes ≡ false
  pub no_long : long_of word ≡ None
  pub no_short : short_of word ≡ None

not_true : (b : Bool) → not b ≡ true → b ≡ false
not_true false e = refl
not_true true e = sym e

pub plain_word : (word : Text) → stands_alone word ≡ true → IsPlainWord word
plain_word [] e = record { no_dashes = refl; no_long = refl; no_short = refl }
plain_word (x ∷ []) e = go (x == 45) refl
  where
    go : (b : Bool) → (x == 45) ≡ b → IsPlainWord (x ∷ [])
    go true t = record { no_dashes = rw t refl; no_long = rw t refl; no_short = rw t refl }
    go false t = record { no_dashes = rw t refl; no_long = rw t refl; no_short = rw t refl }
plain_word (x ∷ y ∷ rest) e =
    let other = not_true (x == 45) e in
    record { no_dashes = rw other refl; no_long = rw other refl; no_short = rw other refl }

-- ---- where the walk stands

abbrev pub held : List Row → Option (Text × List Text) → Held
held rows pending = record { rows = rows; pending = pending; skip = 0 }

-- between two things that are given
abbrev pub state : List Row → Option (Text × List Text) → ℕ → Walk
state rows pending position = record { held = held rows pending; waiting = idle; position = position; is_trailing = false; stopped = None }

-- the words pass, and lead from one place to another
pub record Goes (s : Shape) (w : Walk) (words : List Text) (after : Walk) : Type 0 where
  pub passes : (rest : List Text) → walk_passes s [] w (words ++ rest) ≡ walk_passes s [] after rest
  pub walks : (rest : List Text) → fold (walked s.rules []) w (words ++ rest) ≡ fold (walked s.rules []) after rest

pub goes_one : (s : Shape) (w after : Walk) (word : Text) → turn_passes s [] w word ≡ true → walked s.rules [] w word ≡ after → Goes s w (word ∷ []) after
unfolding walk_passes
goes_one s w after word turn is = record {
  passes = λ rest. ap (λ b. b && walk_passes s [] (walked s.rules [] w word) rest) turn ∙ ap (λ x. walk_passes s [] x rest) is;
  walks = λ rest. ap (λ x. fold (walked s.rules []) x rest) is;
}

pub goes_two : (s : Shape) (w middle after : Walk) (x y : Text) → Goes s w (x ∷ []) middle → Goes s middle (y ∷ []) after → Goes s w (x ∷ y ∷ []) after
goes_two s w middle after x y first second = record {
  passes = λ rest. first.passes (y ∷ rest) ∙ second.passes rest;
  walks = λ rest. first.walks (y ∷ rest) ∙ second.walks rest;
}

-- ---- the options

-- the command has the option `--name`, whose use has one value
pub record HasOption (c : List Rule) (name : Text) (a : Rule) : Type 0 where
  pub no_dashes : bytes_eq (long name) dashes ≡ false
  pub alone : long_of (long name) ≡ Some (name, None)
  pub joined_no_dashes : (value : Text) → bytes_eq (long name ++ 61 ∷ value) dashes ≡ false
  pub joined : (value : Text) → long_of (long name ++ 61 ∷ value) ≡ Some (name, Some value)
  pub by_long : arg_by_long c name ≡ Some a
  pub by_id : arg_by_id c a.id ≡ Some a
  pub self : bytes_eq a.id a.id ≡ true
  pub takes : takes_values a ≡ true
  pub one : most_values a ≡ 1
  pub passes : (value : Text) (rows : List Row) → use_passes false a (value ∷ []) rows ≡ ((not (has_row a.id rows) || false) && (value_passes a value && true))
  pub uses : (value : Text) (rows : List Row) → used a (value ∷ []) rows ≡ with_values a.id (reading_by a) CommandLine (value ∷ []) (without a.id rows)

module _ (s : Shape) (over : s.args_override_self ≡ false) (name : Text) (a : Rule) (has : HasOption s.rules name a) where
  -- behind `--name`, which waits for its value
  abbrev middle : List Row → ℕ → Walk
  middle rows position = record (state rows (Some (a.id, [])) position) { waiting = option a.id }

  name_walks : (rows : List Row) (pending : Option (Text × List Text)) (q : ℕ)
      → walked s.rules [] (state rows pending q) (long name) ≡ middle (settled_rows s.rules pending rows) q
  unfolding walked
  name_walks rows pending q = rw (has.no_dashes, has.alone, has.by_long, has.takes) refl

  name_passes : (rows : List Row) (pending : Option (Text × List Text)) (q : ℕ) → settle_passes s.rules false (held rows pending) ≡ true
      → turn_passes s [] (state rows pending q) (long name) ≡ true
  name_passes rows pending q ready = rw (has.no_dashes, has.alone, has.by_long, has.takes, over, ready) refl

  value_walks : (rows : List Row) (q : ℕ) (value : Text) → IsPlainWord value
      → walked s.rules [] (middle rows q) value ≡ state rows (Some (a.id, value ∷ [])) q
  unfolding walked
  value_walks rows q value plain = rw (plain.no_dashes, plain.no_long, plain.no_short, has.by_id, has.self, has.one) refl

  value_turns : (rows : List Row) (q : ℕ) (value : Text) → IsPlainWord value → turn_passes s [] (middle rows q) value ≡ true
  value_turns rows q value plain = rw (plain.no_dashes, plain.no_long, plain.no_short) refl

  pub apart_goes : (rows : List Row) (pending : Option (Text × List Text)) (q : ℕ) (value : Text) → settle_passes s.rules false (held rows pending) ≡ true → IsPlainWord value
      → Goes s (state rows pending q) (long name ∷ value ∷ []) (state (settled_rows s.rules pending rows) (Some (a.id, value ∷ [])) q)
  apart_goes rows pending q value ready plain =
      goes_two s _ (middle (settled_rows s.rules pending rows) q) _ (long name) value
      (goes_one s _ _ (long name) (name_passes rows pending q ready) (name_walks rows pending q))
      (goes_one s _ _ value (value_turns (settled_rows s.rules pending rows) q value plain) (value_walks (settled_rows s.rules pending rows) q value plain))

  joined_walks : (rows : List Row) (pending : Option (Text × List Text)) (q : ℕ) (value : Text)
      → walked s.rules [] (state rows pending q) (long name ++ 61 ∷ value) ≡ state (used a (value ∷ []) (settled_rows s.rules pending rows)) None q
  unfolding walked
  joined_walks rows pending q value = rw (has.joined_no_dashes value, has.joined value, has.by_long, has.takes) refl

  joined_passes : (rows : List Row) (pending : Option (Text × List Text)) (q : ℕ) (value : Text) → settle_passes s.rules false (held rows pending) ≡ true
      → use_passes false a (value ∷ []) (settled_rows s.rules pending rows) ≡ true → turn_passes s [] (state rows pending q) (long name ++ 61 ∷ value) ≡ true
  joined_passes rows pending q value ready passes = rw (has.joined_no_dashes value, has.joined value, has.by_long, has.takes, over, ready, passes) refl

  pub joined_goes : (rows : List Row) (pending : Option (Text × List Text)) (q : ℕ) (value : Text) → settle_passes s.rules false (held rows pending) ≡ true
      → use_passes false a (value ∷ []) (settled_rows s.rules pending rows) ≡ true
      → Goes s (state rows pending q) ((long name ++ 61 ∷ value) ∷ []) (state (used a (value ∷ []) (settled_rows s.rules pending rows)) None q)
  joined_goes rows pending q value ready passes =
      goes_one s _ _ (long name ++ 61 ∷ value) (joined_passes rows pending q value ready passes) (joined_walks rows pending q value)

-- ---- flags

-- the command has the flag `--name`
pub record HasFlag (c : List Rule) (name : Text) (a : Rule) : Type 0 where
  pub no_dashes : bytes_eq (long name) dashes ≡ false
  pub alone : long_of (long name) ≡ Some (name, None)
  pub by_long : arg_by_long c name ≡ Some a
  pub takes : takes_values a ≡ false
  pub passes : (rows : List Row) → use_passes false a [] rows ≡ ((not (has_row a.id rows) || false) && true)
  pub uses : (rows : List Row) → used a [] rows ≡ with_values a.id (reading_by a) CommandLine (codes "true" ∷ []) (without a.id rows)

module _ (s : Shape) (over : s.args_override_self ≡ false) (name : Text) (a : Rule) (has : HasFlag s.rules name a) where
  flag_walks : (rows : List Row) (pending : Option (Text × List Text)) (q : ℕ)
      → walked s.rules [] (state rows pending q) (long name) ≡ state (used a [] (settled_rows s.rules pending rows)) None q
  unfolding walked
  flag_walks rows pending q = rw (has.no_dashes, has.alone, has.by_long, has.takes) refl

  flag_turns : (rows : List Row) (pending : Option (Text × List Text)) (q : ℕ) → settle_passes s.rules false (held rows pending) ≡ true
      → use_passes false a [] (settled_rows s.rules pending rows) ≡ true → turn_passes s [] (state rows pending q) (long name) ≡ true
  flag_turns rows pending q ready passes = rw (has.no_dashes, has.alone, has.by_long, has.takes, over, ready, passes) refl

  pub flag_goes : (rows : List Row) (pending : Option (Text × List Text)) (q : ℕ) → settle_passes s.rules false (held rows pending) ≡ true
      → use_passes false a [] (settled_rows s.rules pending rows) ≡ true
      → Goes s (state rows pending q) (long name ∷ []) (state (used a [] (settled_rows s.rules pending rows)) None q)
  flag_goes rows pending q ready passes = goes_one s _ _ (long name) (flag_turns rows pending q ready passes) (flag_walks rows pending q)

-- ---- N

-- the command has one value without a name before it
pub record HasPlace (c : List Rule) (a : Rule) : Type 0 where
  pub by_index : arg_by_index c 1 ≡ Some a
  pub by_id : arg_by_id c a.id ≡ Some a
  pub few : takes_several a ≡ false
  pub once : is_append (action_of a) ≡ false
  pub not_trailing : a.trailing_var_arg ≡ false
  pub passes : (value : Text) (rows : List Row) → use_passes false a (value ∷ []) rows ≡ ((not (has_row a.id rows) || false) && (value_passes a value && true))
  pub uses : (value : Text) (rows : List Row) → used a (value ∷ []) rows ≡ with_values a.id (reading_by a) CommandLine (value ∷ []) (without a.id rows)

and_false : (b : Bool) → (b && false) ≡ false
and_false true = refl
and_false false = refl

module _ (s : Shape) (over : s.args_override_self ≡ false) (a : Rule) (has : HasPlace s.rules a) where
  place_walks : (rows : List Row) (pending : Option (Text × List Text)) (value : Text) → IsPlainWord value
      → walked s.rules [] (state rows pending 1) value ≡ state (settled_rows s.rules pending rows) (Some (a.id, value ∷ [])) 2
  unfolding walked
  place_walks rows pending value plain =
      rw (plain.no_dashes, plain.no_long, plain.no_short, has.by_index, has.few, has.once, has.not_trailing, and_false (is_pending a pending)) refl

  place_turns : (rows : List Row) (pending : Option (Text × List Text)) (value : Text) → IsPlainWord value → settle_passes s.rules false (held rows pending) ≡ true
      → turn_passes s [] (state rows pending 1) value ≡ true
  place_turns rows pending value plain ready =
      rw (plain.no_dashes, plain.no_long, plain.no_short, has.by_index, has.few, and_false (is_pending a pending), over, ready) refl

  pub place_goes : (rows : List Row) (pending : Option (Text × List Text)) (value : Text) → IsPlainWord value → settle_passes s.rules false (held rows pending) ≡ true
      → Goes s (state rows pending 1) (value ∷ []) (state (settled_rows s.rules pending rows) (Some (a.id, value ∷ [])) 2)
  place_goes rows pending value plain ready = goes_one s _ _ value (place_turns rows pending value plain ready) (place_walks rows pending value plain)

-- ---- rows

-- the row of a use with this value
abbrev pub row : Text → Reading → Text → Row
row id how value = record { id = id; values = value ∷ []; count = None; source = Some CommandLine; reading = how }

without_none : (id : Text) (rows : List Row) → has_row id rows ≡ false → without id rows ≡ rows
without_none id [] e = refl
without_none id (r ∷ rs) e = go (bytes_eq r.id id) refl e (without_none id rs)
  where
    go : (b : Bool) → bytes_eq r.id id ≡ b → (b || has_row id rs) ≡ false → (has_row id rs ≡ false → without id rs ≡ rs) → without id (r ∷ rs) ≡ r ∷ rs
    go true t f rest = absurd (true≢false f)
    go false t f rest = rw t (ap (λ xs. r ∷ xs) (rest f))

-- values of a new argument stand behind the others
pub added_at_end : (id : Text) (how : Reading) (source : ValueSource) (values : List Text) (rows : List Row) → has_row id rows ≡ false
    → with_values id how source values rows ≡ rows ++ record { id = id; values = values; count = None; source = Some source; reading = how } ∷ []
added_at_end id how source values [] e = refl
added_at_end id how source values (r ∷ rs) e = go (bytes_eq r.id id) refl e (added_at_end id how source values rs)
  where
    go : (b : Bool) → bytes_eq r.id id ≡ b → (b || has_row id rs) ≡ false
        → (has_row id rs ≡ false → with_values id how source values rs ≡ rs ++ record { id = id; values = values; count = None; source = Some source; reading = how } ∷ [])
        → with_values id how source values (r ∷ rs) ≡ (r ∷ rs) ++ record { id = id; values = values; count = None; source = Some source; reading = how } ∷ []
    go true t f rest = absurd (true≢false f)
    go false t f rest = rw t (ap (λ xs. r ∷ xs) (rest f))

-- a first use adds its row
pub new_row : (id : Text) (how : Reading) (value : Text) (rows : List Row) → has_row id rows ≡ false
    → with_values id how CommandLine (value ∷ []) (without id rows) ≡ rows ++ row id how value ∷ []
new_row id how value rows e = ap (with_values id how CommandLine (value ∷ [])) (without_none id rows e) ∙ added_at_end id how CommandLine (value ∷ []) rows e
