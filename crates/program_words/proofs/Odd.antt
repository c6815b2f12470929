-- Where `clap` takes words that ask for nothing, a number among them has a sign or begins with 0.
use Rattle.std.proofs.Common.{◌≡◌, ◌∙◌, ◌⊎◌, inl, inr, ◌||◌, ◌≤◌, ℕ, Bool, cond, true, false, refl, sym, ap, subst, arith, List, [], Option, Some, None, codes, true≢false, le-leb}
use Rattle.std.specs.Prelude.{option_and_then, option_map}
use Rattle.std.proofs.lemmas.Int.{ints}
use Rattle.std.specs.List.{list_all}
use Rattle.std.specs.Option.{is_some, option_map_or}
use Rattle.std.specs.Str.{bytes_eq}
use Rattle.std.specs.Str.Parse.{digits_value}
use Rattle.clap.specs.Walk.{Row, Rule, Text, finished, nothing_held, rows_after, walk, walk_from}
use Rattle.clap.specs.Simple.{App, Shape, built, filled, help_rule, entered, names_of, rows_at, subcommand_of}
use Rattle.clap.specs.Takes.{default_passes, entered_passes, is_given, is_valid, level_passes, settle_passes, takes, walk_passes}
use Rattle.clap.specs.ValueTests.{accepts}
use Rattle.clap.proofs.ValueTestLemmas.{accepts-Accepts}
use Rattle.clap.proofs.WalkLemmas.{both}
use Rattle.program_words.specs.Numbers.{is_plain_number, number_in}
use Rattle.program_words.specs.Options.{program, up_to}
use Rattle.program_words.specs.Asked.{HasOddNumber, Values, asked, asked_of, command_in, listen_in, load_in, named, number_or, port_in, rounds_in, transfers_in, values_of, workers_in}
use Rattle.program_words.specs.Spelled.{Called, Name, call, text_of}
use Rattle.program_words.specs.Spelled.{pipe, listen, steps, load, user, password, drivers, port, workers, rounds, transfers}
use Rattle.program_words.proofs.Plain.{by_test, numeral_is, numeral_no_plus, test_of}
use Rattle.program_words.proofs.Ranges.{none≢some}
use Rattle.program_words.proofs.Leaves.{leaf, no_override, no_minus, rule}
use Rattle.program_words.proofs.Values.{Each, Keeps, Pass, level_keeps, request_keeps, set_keeps, set_true_keeps, value_fits, value_there}

-- `--help`, as it is built
abbrev help : Rule
help = filled help_rule

-- ---- numbers

-- a plain number that `clap` takes is in form
odd_number : (most : ℕ) (text : Text) → accepts false (up_to most) text ≡ true → number_in most text ≡ None → is_plain_number text ≡ false
odd_number most text taken none = go (is_plain_number text) refl
  where
    go : (b : Bool) → is_plain_number text ≡ b → is_plain_number text ≡ false
    go false e = e
    go true e =
        let parts = both _ _ e in
        let minus = no_minus text (numeral_is text parts.0) in
        let plus = numeral_no_plus text parts.0 in
        let accepted = accepts-Accepts false (up_to most) text taken in
        let bounds = rw (minus, plus) at accepted in
        let below : digits_value 10 text ≤ most = let high = bounds.3 in omega (arith, ints) in
        let small = le-leb (digits_value 10 text) most below in
        let passes : test_of most text ≡ true = rw (parts.0, parts.1, small) refl in
        absurd (none≢some (digits_value 10 text) (sym none ∙ by_test most text true passes))

-- ---- the subcommand

keeps_listen : Each (Keeps (leaf listen).rules) (leaf listen).rules
keeps_listen =
    let c = (leaf listen).rules in
    (set_keeps c (rule port) refl refl refl, (set_keeps c (rule workers) refl refl refl, (set_keeps c (rule rounds) refl refl refl, (set_keeps c (rule user) refl refl refl, (set_keeps c (rule password) refl refl refl, (set_true_keeps c (rule drivers) refl refl refl refl, (request_keeps c help refl, tt)))))))

keeps_load : Each (Keeps (leaf load).rules) (leaf load).rules
keeps_load =
    let c = (leaf load).rules in
    (set_keeps c (rule transfers) refl refl refl, (set_keeps c (rule workers) refl refl refl, (request_keeps c help refl, tt)))

module _ (words : List Text) where
  listen_passes : level_passes (leaf listen) [] nothing_held words false ≡ true → Pass (leaf listen).rules (rows_after (leaf listen).rules [] words)
  listen_passes = level_keeps (leaf listen) (no_override listen) keeps_listen words (refl, (refl, (refl, (refl, (refl, (refl, (refl, tt)))))))

  load_passes : level_passes (leaf load) [] nothing_held words false ≡ true → Pass (leaf load).rules (rows_after (leaf load).rules [] words)
  load_passes = level_keeps (leaf load) (no_override load) keeps_load words (refl, (refl, (refl, tt)))

-- a step that gives nothing
then_none : {A B : Type 0} (f : A → Option B) (o : Option A) → option_and_then f o ≡ None → (o ≡ None) ⊎ ((a : A) × (o ≡ Some a) × (f a ≡ None))
then_none f None e = inl refl
then_none f (Some a) e = inr (a, refl, e)

map_none : {A B : Type 0} (f : A → B) (o : Option A) → option_map f o ≡ None → o ≡ None
map_none f None e = refl
map_none f (Some a) e = absurd (none≢some (f a) (sym e))

-- a number that is out of form
abbrev OutOfForm : Values → Name → ℕ → Type 0
OutOfForm values name most = (text : Text) × (values (text_of name) ≡ Some text) × (number_in most text ≡ None)

given_out : (default : Option ℕ) (most : ℕ) (given : Option Text) → (given ≡ None → is_some default ≡ true) → number_or default most given ≡ None
    → (text : Text) × (given ≡ Some text) × (number_in most text ≡ None)
given_out default most (Some text) there e = (text, refl, e)
given_out (Some d) most None there e = absurd (none≢some d (sym e))
given_out None most None there e = absurd (true≢false (sym (there refl)))

rounds_out : (values : Values) → rounds_in values ≡ None → OutOfForm values rounds 1000000000
rounds_out values e = go (values (codes "rounds")) refl e
  where
    go : (given : Option Text) → values (codes "rounds") ≡ given → option_map_or (λ text. option_map (λ n. Some n) (number_in 1000000000 text)) given (Some None) ≡ None → OutOfForm values rounds 1000000000
    go None is f = absurd (none≢some None (sym f))
    go (Some text) is f = (text, is, map_none (λ n. Some n) (number_in 1000000000 text) f)

-- what is found where a number is out of form
abbrev Found : Values → Type 0
Found values = (id : Text) × (most : ℕ) × (text : Text) × (values id ≡ Some text) × (accepts false (up_to most) text ≡ true) × (is_plain_number text ≡ false)

found_odd : (values : Values) (id : Text) (most : ℕ) (text : Text) → values id ≡ Some text → number_in most text ≡ None → accepts false (up_to most) text ≡ true → Found values
found_odd values id most text given none taken = (id, most, text, given, taken, odd_number most text taken none)

-- what is checked last
level_valid : (s : Shape) (words : List Text) → level_passes s [] nothing_held words false ≡ true → is_valid s (rows_after s.rules [] words) false ≡ true
level_valid s words fits =
    let end = (walk s.rules [] nothing_held words).held in
    let first = both (walk_passes s [] (walk_from nothing_held) words) _ fits in
    let second = both (settle_passes s.rules s.args_override_self end) _ first.1 in
    (both (list_all default_passes s.rules) _ second.1).1

module _ (words : List Text) (level : level_passes (leaf listen) [] nothing_held words false ≡ true) where
  abbrev listen_rows : List Row
  listen_rows = rows_after (leaf listen).rules [] words

  abbrev listen_rules : List Rule
  listen_rules = (leaf listen).rules

  abbrev listen_values : Values
  listen_values = values_of listen_rows

  port_there : values_of listen_rows (codes "port") ≡ None → false ≡ true
  port_there none =
      let given : is_given (codes "port") listen_rows ≡ true = (both (is_given (codes "port") listen_rows) _ (level_valid (leaf listen) words level)).0 in
      subst (λ o. is_some o ≡ true) none (value_there (leaf listen).rules (codes "port") (rule port) listen_rows refl (listen_passes words level) given)

  listen_odd : listen_in (listen_values) ≡ None → Found (listen_values)
  listen_odd none = elim (then_none _ (port_in listen_values) none) [
    | inl no_port ↦
        let out = given_out None 65535 (listen_values (codes "port")) port_there no_port in
        found_odd listen_values (codes "port") 65535 out.0 out.1 out.2 (value_fits listen_rules (codes "port") (rule port) listen_rows out.0 refl (listen_passes words level) out.1)
    | inr port_is ↦ elim (then_none _ (workers_in listen_values) port_is.2) [
      | inl no_workers ↦
          let out = given_out (Some 4) 64 (listen_values (codes "workers")) (λ _. refl) no_workers in
          found_odd listen_values (codes "workers") 64 out.0 out.1 out.2 (value_fits listen_rules (codes "workers") (rule workers) listen_rows out.0 refl (listen_passes words level) out.1)
      | inr workers_are ↦
          let out = rounds_out listen_values (map_none _ (rounds_in listen_values) workers_are.2) in
          found_odd listen_values (codes "rounds") 1000000000 out.0 out.1 out.2 (value_fits listen_rules (codes "rounds") (rule rounds) listen_rows out.0 refl (listen_passes words level) out.1)
    ]
  ]

module _ (words : List Text) (level : level_passes (leaf load) [] nothing_held words false ≡ true) where
  abbrev load_rows : List Row
  load_rows = rows_after (leaf load).rules [] words

  abbrev load_values : Values
  load_values = values_of load_rows

  transfers_there : load_values (codes "transfers") ≡ None → false ≡ true
  transfers_there none =
      let given : is_given (codes "transfers") load_rows ≡ true = (both (is_given (codes "transfers") load_rows) _ (level_valid (leaf load) words level)).0 in
      subst (λ o. is_some o ≡ true) none (value_there (leaf load).rules (codes "transfers") (rule transfers) load_rows refl (load_passes words level) given)

  load_odd : load_in load_values ≡ None → Found load_values
  load_odd none = elim (then_none _ (transfers_in load_values) none) [
    | inl no_transfers ↦
        let out = given_out None 10000 (load_values (codes "transfers")) transfers_there no_transfers in
        found_odd load_values (codes "transfers") 10000 out.0 out.1 out.2
        (value_fits (leaf load).rules (codes "transfers") (rule transfers) load_rows out.0 refl (load_passes words level) out.1)
    | inr transfers_are ↦
        let out = given_out (Some 4) 64 (load_values (codes "workers")) (λ _. refl) (map_none _ (workers_in load_values) transfers_are.2) in
        found_odd load_values (codes "workers") 64 out.0 out.1 out.2
        (value_fits (leaf load).rules (codes "workers") (rule workers) load_rows out.0 refl (load_passes words level) out.1)
  ]

-- by the subcommand's name
called_odd : (called : Called) (words : List Text) → level_passes (leaf called) [] nothing_held words false ≡ true
    → command_in (call called) (values_of (rows_after (leaf called).rules [] words)) ≡ None → Found (values_of (rows_after (leaf called).rules [] words))
called_odd pipe words level none = absurd (none≢some _ (sym none))
called_odd listen words level none = listen_odd words level none
called_odd steps words level none = absurd (none≢some _ (sym none))
called_odd load words level none = load_odd words level none

-- ---- the program

abbrev above : App
above = built program

-- the subcommand that is entered is one of the four
record Enters (p : Text × List Text) : Type 0 where
  called : Called
  rows : entered above (Some p) ≡ Some (call called, rows_after (leaf called).rules [] p.1)
  level : level_passes (leaf called) [] nothing_held p.1 false ≡ true

enters : (p : Text × List Text) → is_some (entered above (Some p)) ≡ true → entered_passes above (Some p) ≡ true → Enters p
enters p some fits =
    let r = go (bytes_eq (call pipe) p.0 || false) (bytes_eq (call listen) p.0 || false) (bytes_eq (call steps) p.0 || false) (bytes_eq (call load) p.0 || false) some fits in
    record { called = r.0; rows = r.1; level = r.2 }
  where
    go : (b d e f : Bool) → is_some (option_map (λ s. rows_at s p.1) (cond b (Some (leaf pipe)) (cond d (Some (leaf listen)) (cond e (Some (leaf steps)) (cond f (Some (leaf load)) None))))) ≡ true
        → option_map_or (λ s. level_passes s [] nothing_held p.1 false) (cond b (Some (leaf pipe)) (cond d (Some (leaf listen)) (cond e (Some (leaf steps)) (cond f (Some (leaf load)) None)))) true ≡ true
        → (called : Called) × (option_map (λ s. rows_at s p.1) (cond b (Some (leaf pipe)) (cond d (Some (leaf listen)) (cond e (Some (leaf steps)) (cond f (Some (leaf load)) None))))
        ≡ Some (call called, rows_after (leaf called).rules [] p.1)) × (level_passes (leaf called) [] nothing_held p.1 false ≡ true)
    go true d e f x y = (pipe, refl, y)
    go false true e f x y = (listen, refl, y)
    go false false true f x y = (steps, refl, y)
    go false false false true x y = (load, refl, y)
    go false false false false x y = absurd (true≢false (sym x))

pub odd_number_found : (words : List Text) → takes program (named words) ≡ true → asked words ≡ None → HasOddNumber words
odd_number_found words taken none = go stop refl has (both (entered_passes above stop) _ taken).0
  where
    stop : Option (Text × List Text)
    stop = (walk above.top.rules (names_of above) nothing_held words).stopped

    has : is_some (entered above stop) ≡ true
    has =
        let level : level_passes above.top (names_of above) nothing_held words (is_some (entered above stop)) ≡ true = (both (entered_passes above stop) _ taken).1 in
        let end = (walk above.top.rules (names_of above) nothing_held words).held in
        let first = both (walk_passes above.top (names_of above) (walk_from nothing_held) words) _ level in
        let second = both (settle_passes above.top.rules above.top.args_override_self end) _ first.1 in
        let valid : is_valid above.top (finished above.top.rules end) (is_some (entered above stop)) ≡ true = (both (list_all default_passes above.top.rules) _ second.1).1 in
        (both (is_some (entered above stop)) _ valid).0

    go : (o : Option (Text × List Text)) → stop ≡ o → is_some (entered above o) ≡ true → entered_passes above o ≡ true → HasOddNumber words
    go None is some fits = absurd (true≢false (sym some))
    go (Some p) is some fits =
        let e = enters p some fits in
        let found : subcommand_of program (named words) ≡ Some (call e.called, rows_after (leaf e.called).rules [] p.1) = ap (entered above) is ∙ e.rows in
        let odd = called_odd e.called p.1 e.level (sym (ap asked_of found) ∙ none) in
        record {
          name = call e.called;
          rows = rows_after (leaf e.called).rules [] p.1;
          found = found;
          none = none;
          option = odd.0;
          most = odd.1;
          number = odd.2;
          given = odd.3;
          taken = odd.4;
          odd = odd.5;
        }
