-- The numbers of the command that words ask for are in their ranges.
use Rattle.std.proofs.Common.{◌≡◌, ◌∙◌, ◌≤◌, ◌+◌, ◌*◌, ◌-◌, ◌==◌, ℕ, Bool, cond, true, false, refl, sym, ap, subst, arith, List, [], ◌∷◌, Option, Some, None, Result, Ok, Err, IfOk, true≢false, nat_lt, lt-ltb, ltb-true, codes}
use Rattle.std.specs.Prelude.{IfSome, option_and_then, option_map, slice_index, unwrap_or}
use Rattle.std.specs.Option.{is_some, option_map_or}
use Rattle.std.specs.Char.{digit_value}
use Rattle.std.specs.Str.{bytes_eq}
use Rattle.std.specs.Str.Parse.{IsNumeral, digits_value, digits_value_after}
use Rattle.std.proofs.lemmas.Bool.{eq-eqb}
use Rattle.std.proofs.lemmas.Str.Parse.{digit_from_value}
use Rattle.clap.specs.Walk.{Row, Text}
use Rattle.program_words.specs.declared.command.ProgramCommand.{ProgramCommand}
use Rattle.program_words.specs.declared.command.ProgramCommand.TheVariants as commands
use Rattle.program_words.specs.declared.fault.WordsFault.{WordsFault}
use Rattle.program_words.specs.Numbers.{number_in}
use Rattle.program_words.specs.Asked.{Values, IsInRange, port_in, transfers_in, values_of, Reads, asked_of, listen_in, load_in, number_or, pipe_in, rounds_in, workers_in}
use Rattle.program_words.proofs.Plain.{by_test, test_means, test_of}

pub none≢some : {A : Type 0} (a : A) → None ≡ Some a → ⊥
none≢some a e = true≢false (sym (ap (λ o. is_some o) e))

grows : (n : ℕ) (ds : List ℕ) → n ≤ digits_value_after 10 n ds
grows n [] = omega arith
grows n (d ∷ ds) =
    let rest = grows (n * 10 + digit_value d) ds in
    omega (arith, rest)

first_digit : (d : ℕ) → 48 ≤ d → d ≤ 57 → (d == 48) ≡ false → 1 ≤ digit_value d
first_digit d low high first =
    let not_zero : d ≡ 48 → ⊥ = λ e. true≢false (sym (eq-eqb d 48 e) ∙ first) in
    let above : nat_lt d 48 ≡ false = no_ltb d 48 low in
    let value : digit_value d ≡ d - 48 = rw (above, lt-ltb d 58 (omega arith)) refl in
    omega (arith, value, not_zero)
  where
    no_ltb : (a b : ℕ) → b ≤ a → nat_lt a b ≡ false
    no_ltb a b h = go (nat_lt a b) refl
      where
        go : (t : Bool) → nat_lt a b ≡ t → nat_lt a b ≡ false
        go false e = e
        go true e = let less = ltb-true a b e in absurd (omega (arith, less))

-- a number that does not begin with 0 is at least 1
at_least_one : (text : List ℕ) → IsNumeral 10 text → (slice_index text 0 == 48) ≡ false → 1 ≤ digits_value 10 text
at_least_one [] numeral first = absurd (omega (arith, numeral.0))
at_least_one (d ∷ ds) numeral first =
    let byte = digit_from_value d numeral.1.0 in
    let one = first_digit d byte.0 byte.1 first in
    let rest = grows (0 * 10 + digit_value d) ds in
    omega (arith, one, rest)

pub inject : {A : Type 0} (a b : A) → Some a ≡ Some b → a ≡ b
inject a b e = ap (λ o. unwrap_or o a) e

pub number_in_range : (most n : ℕ) (text : List ℕ) → number_in most text ≡ Some n → (1 ≤ n) × (n ≤ most)
number_in_range most n text e = go (test_of most text) refl
  where
    go : (b : Bool) → test_of most text ≡ b → (1 ≤ n) × (n ≤ most)
    go false t = absurd (none≢some n (sym (by_test most text false t) ∙ e))
    go true t =
        let form = test_means most text t in
        let same : digits_value 10 text ≡ n = inject (digits_value 10 text) n (sym (by_test most text true t) ∙ e) in
        let least = at_least_one text form.numeral form.first in
        (omega (arith, same, least), omega (arith, same, form.below))

-- the number of an option, where the one that stands for it is in the range
pub number_or_in_range : (default : Option ℕ) (most n : ℕ) (given : Option Text) → IfSome default (λ d. (1 ≤ d) × (d ≤ most))
    → number_or default most given ≡ Some n → (1 ≤ n) × (n ≤ most)
number_or_in_range default most n (Some text) inside is = number_in_range most n text is
number_or_in_range (Some m) most n None inside is = let same = inject m n is in (omega (arith, same, inside.0), omega (arith, same, inside.1))
number_or_in_range None most n None inside is = absurd (none≢some n is)

-- a step that gives something
pub then_some : {A B : Type 0} (f : A → Option B) (o : Option A) (b : B) → option_and_then f o ≡ Some b → (a : A) × (o ≡ Some a) × (f a ≡ Some b)
then_some f (Some a) b e = (a, refl, e)
then_some f None b e = absurd (none≢some b e)

pub map_some : {A B : Type 0} (f : A → B) (o : Option A) (b : B) → option_map f o ≡ Some b → (a : A) × (o ≡ Some a) × (f a ≡ b)
map_some f (Some a) b e = (a, refl, inject (f a) b e)
map_some f None b e = absurd (none≢some b e)

workers_in_range : (values : Values) (n : ℕ) → workers_in values ≡ Some n → (1 ≤ n) × (n ≤ 64)
workers_in_range values n = number_or_in_range (Some 4) 64 n (values (codes "workers")) (omega arith, omega arith)

rounds_in_range : (values : Values) (r : Option ℕ) → rounds_in values ≡ Some r → IfSome r (λ n. (1 ≤ n) × (n ≤ 1000000000))
rounds_in_range values r e = go (values (codes "rounds")) r e
  where
    go : (given : Option Text) (r : Option ℕ) → option_map_or (λ text. option_map (λ n. Some n) (number_in 1000000000 text)) given (Some None) ≡ Some r
        → IfSome r (λ n. (1 ≤ n) × (n ≤ 1000000000))
    go None r is = subst (λ x. IfSome x (λ n. (1 ≤ n) × (n ≤ 1000000000))) (inject None r is) tt
    go (Some text) r is =
        let m = map_some (λ n. Some n) (number_in 1000000000 text) r is in
        subst (λ x. IfSome x (λ n. (1 ≤ n) × (n ≤ 1000000000))) m.2 (number_in_range 1000000000 m.0 text m.1)

listen_in_range : (values : Values) (c : ProgramCommand) → listen_in values ≡ Some c → IsInRange c
listen_in_range values c e =
    let port = then_some _ (port_in values) c e in
    let workers = then_some _ (workers_in values) c port.2 in
    let rounds = map_some _ (rounds_in values) c workers.2 in
    let p = number_or_in_range None 65535 port.0 (values (codes "port")) tt port.1 in
    let w = workers_in_range values workers.0 workers.1 in
    subst IsInRange rounds.2 (p.0, p.1, w.0, w.1, rounds_in_range values rounds.0 rounds.1)

load_in_range : (values : Values) (c : ProgramCommand) → load_in values ≡ Some c → IsInRange c
load_in_range values c e =
    let transfers = then_some _ (transfers_in values) c e in
    let workers = map_some _ (workers_in values) c transfers.2 in
    let t = number_or_in_range None 10000 transfers.0 (values (codes "transfers")) tt transfers.1 in
    let w = workers_in_range values workers.0 workers.1 in
    subst IsInRange workers.2 (t.0, t.1, w.0, w.1)

by_name : (pipe listen steps load : Bool) (values : Values) (c : ProgramCommand)
    → cond pipe (Some (pipe_in values)) (cond listen (listen_in values) (cond steps (Some commands.Steps) (cond load (load_in values) None))) ≡ Some c → IsInRange c
by_name true listen steps load values c e = subst IsInRange (inject (pipe_in values) c e) tt
by_name false true steps load values c e = listen_in_range values c e
by_name false false true load values c e = subst IsInRange (inject commands.Steps c e) tt
by_name false false false true values c e = load_in_range values c e
by_name false false false false values c e = absurd (none≢some c e)

asked_in_range : (found : Option (Text × List Row)) (c : ProgramCommand) → asked_of found ≡ Some c → IsInRange c
asked_in_range None c e = absurd (none≢some c e)
asked_in_range (Some found) c e =
    by_name (bytes_eq found.0 (codes "pipe")) (bytes_eq found.0 (codes "listen")) (bytes_eq found.0 (codes "steps")) (bytes_eq found.0 (codes "load")) (values_of found.1) c e

pub read_in_range : (found : Option (Text × List Row)) (r : Result ProgramCommand WordsFault) → Reads (asked_of found) r → IfOk r IsInRange
read_in_range found (Ok (commands.Show text)) reads = absurd reads
read_in_range found (Ok (commands.Pipe user password bare drivers)) reads = tt
read_in_range found (Ok (commands.Listen port workers rounds user password drivers)) reads = asked_in_range found (commands.Listen port workers rounds user password drivers) reads
read_in_range found (Ok commands.Steps) reads = tt
read_in_range found (Ok (commands.Load transfers workers)) reads = asked_in_range found (commands.Load transfers workers) reads
read_in_range found (Err fault) reads = tt
