-- The argument of each parameter, gathered argument by argument.
use Rattle.std.proofs.Common.{◌≡◌, ℕ, zero, suc, ◌+◌, ◌<◌, Bool, true, false, not, ◌&&◌, cond, nat_eq, List, [], ◌∷◌, ◌++◌, length, map, get_or, set, drop, replicate, Option, Some, None, Bor, length-set, nat_lt, refl, ap, sym, subst, ◌∙◌, arith, append-nil}
use Rattle.std.specs.Prelude.{◌||◌, slice_get, if◌then◌else◌, is_some, option_map}
use Rattle.std.specs.List.{enumerate_from, list_all}
use Rattle.std.proofs.lemmas.List.{drop_more, get_or-set_same, get_or-set_other, length-replicate, map-set}
use Rattle.std.proofs.lemmas.List.Quantifiers.{position-Some}
use Rattle.value_types.specs.Units.{same_units}
use Rattle.tsql_tree.specs.declared.definition.Parameter.{Parameter}
use Rattle.tsql_tree.specs.declared.statement.Argument.{Argument}
use Rattle.call_rules.specs.Arguments.{Placed, all_there, argument_of, arguments_for, in_front, is_allowed, is_at, is_variable, matched, may_be_for, only_one, parameter_at, place_for}
use Rattle.call_rules.specs.Found.{lent_slots}

abbrev pub listed : Option Argument → List Argument
listed None = []
listed (Some argument) = argument ∷ []

abbrev pub slot_at : List (Option Argument) → ℕ → Option Argument
slot_at slots place = get_or slots place None

empty_at : (count at : ℕ) → slot_at (replicate count None) at ≡ None
empty_at zero at = refl
empty_at (suc count) zero = refl
empty_at (suc count) (suc at) = empty_at count at

lent_none : (count : ℕ) → lent_slots (replicate count None) ≡ replicate count None
lent_none zero = refl
lent_none (suc count) = ap (λ (slots : List (Option Argument)). None ∷ slots) (lent_none count)

-- ---- what is read of a list

pub slot_read : (slots : List (Option (Bor Argument))) (at : ℕ) (slot : Option (Bor Argument)) (b : Bool) → at < length slots → slot ≡ get_or slots at slot → is_some slot ≡ b → is_some (slot_at (lent_slots slots) at) ≡ b
slot_read [] at slot b within is some = absurd (omega (arith, within))
slot_read (None ∷ slots) zero slot b within is some = sym (ap is_some is) ∙ some
slot_read (Some a ∷ slots) zero slot b within is some = sym (ap is_some is) ∙ some
slot_read (s ∷ slots) (suc at) slot b within is some = slot_read slots at slot b (omega (arith, within)) is some

pub none_there : (slot : Option Argument) → is_some slot ≡ false → slot ≡ None
none_there None empty = refl
none_there (Some a) empty = absurd (cc)

pub lent_put : (slots : List (Option (Bor Argument))) (at : ℕ) (argument : Bor Argument) → lent_slots (set slots at (Some argument)) ≡ set (lent_slots slots) at (Some argument.now)
lent_put slots at argument = map-set (option_map (λ (a : Bor Argument). a.now)) slots at (Some argument)

pub many_lent : (slots : List (Option (Bor Argument))) → length (lent_slots slots) ≡ length slots
many_lent [] = refl
many_lent (slot ∷ slots) = ap (λ (n : ℕ). suc n) (many_lent slots)

parameter_read : (parameters : List Parameter) (at : ℕ) (parameter : Parameter) → at < length parameters → parameter ≡ get_or parameters at parameter → slice_get parameters at ≡ Some parameter
parameter_read [] at parameter within is = absurd (omega (arith, within))
parameter_read (p ∷ ps) zero parameter within is = ap Some (sym is)
parameter_read (p ∷ ps) (suc at) parameter within is = parameter_read ps at parameter (omega (arith, within)) is

place_within : (parameters : List Parameter) (place at : ℕ) (b : Bool) → nat_lt place (length parameters) ≡ b → (if b then Some place else None) ≡ Some at → at < length parameters
place_within parameters place at true within is = let same : place ≡ at = cc in grind (arith, within, same)
place_within parameters place at false past is = absurd (cc)

-- the place of a parameter is one of the parameters
pub for_one : (parameters : List Parameter) (place at : ℕ) (name : Option (List ℕ)) (d : Parameter) → place_for parameters place name ≡ Some at → at < length parameters
for_one parameters place at None d found = place_within parameters place at (nat_lt place (length parameters)) refl found
for_one parameters place at (Some name) d found = (position-Some (λ parameter. same_units parameter.name name) parameters at d found).0

pub allowed_by : (parameters : List Parameter) (place at : ℕ) (argument : Argument) (parameter : Parameter) (b : Bool) → place_for parameters place argument.name ≡ Some at → at < length parameters
    → parameter ≡ get_or parameters at parameter → b ≡ (not argument.output || (parameter.output && is_variable argument.value)) → is_allowed parameters (place, argument) ≡ b
allowed_by parameters place at argument parameter b found within is so =
    ap (λ (o : Option ℕ). may_be_for argument (parameter_at parameters o)) found ∙ ap (may_be_for argument) (parameter_read parameters at parameter within is) ∙ sym so

-- what the slots have, and the arguments that are left, are all arguments
module _ (parameters : List Parameter) (arguments : List Argument) where
  abbrev pub all_placed : List Placed
  all_placed = enumerate_from 0 arguments

  pub record AreSlots (slots : List (Option Argument)) (place : ℕ) (rest : List Argument) : Type 0 where
    pub many : length slots ≡ length parameters
    pub allowed : list_all (is_allowed parameters) (enumerate_from place rest) ≡ list_all (is_allowed parameters) all_placed
    pub whole : (at : ℕ) → listed (slot_at slots at) ++ arguments_for parameters at (enumerate_from place rest) ≡ arguments_for parameters at all_placed

  pub no_slots : (slots : List (Option (Bor Argument))) → slots ≡ replicate (length parameters) None → AreSlots (lent_slots slots) 0 arguments
  no_slots slots is =
      let empty : lent_slots slots ≡ replicate (length parameters) None = ap lent_slots is ∙ lent_none (length parameters) in record {
        many = ap length empty ∙ length-replicate (length parameters) None;
        allowed = refl;
        whole = λ at. ap (λ (s : Option Argument). listed s ++ arguments_for parameters at all_placed) (ap (λ (ss : List (Option Argument)). slot_at ss at) empty ∙ empty_at (length parameters) at);
      }

  -- ---- one argument more

  pub next_is : (slots : List (Option Argument)) (place : ℕ) (argument : Argument) → place < length arguments → argument ≡ get_or arguments place argument → AreSlots slots place (drop place arguments) → AreSlots slots place (argument ∷ drop (place + 1) arguments)
  next_is slots place argument within is old =
      subst (AreSlots slots place) (drop_more arguments place argument within ∙ ap (λ (a : Argument). a ∷ drop (place + 1) arguments) (sym is)) old

  put_at : (slots : List (Option Argument)) (at place : ℕ) (argument : Argument) (later : List Argument) (b : Bool) → nat_eq at place ≡ b → at < length slots → slot_at slots at ≡ None
      → listed (slot_at (set slots at (Some argument)) place) ++ later ≡ listed (slot_at slots place) ++ cond b (argument ∷ later) later
  put_at slots at place argument later true same within empty =
      let is : at ≡ place = grind (arith, same) in
      let put : slot_at (set slots at (Some argument)) place ≡ Some argument = ap (slot_at (set slots at (Some argument))) (sym is) ∙ get_or-set_same slots at (Some argument) None within in
      let none : slot_at slots place ≡ None = ap (slot_at slots) (sym is) ∙ empty in
      ap (λ (s : Option Argument). listed s ++ later) put ∙ sym (ap (λ (s : Option Argument). listed s ++ (argument ∷ later)) none)
  put_at slots at place argument later false other within empty =
      ap (λ (s : Option Argument). listed s ++ later) (get_or-set_other slots at place (Some argument) None (λ is. absurd (let same : nat_eq at place ≡ true = grind (arith, is) in cc)))

  pub slot_filled : (slots : List (Option Argument)) (place at : ℕ) (argument : Argument) (rest : List Argument) → place_for parameters place argument.name ≡ Some at → at < length slots → slot_at slots at ≡ None
      → is_allowed parameters (place, argument) ≡ true → AreSlots slots place (argument ∷ rest) → AreSlots (set slots at (Some argument)) (place + 1) rest
  slot_filled slots place at argument rest found within empty so old = record {
    many = length-set slots at (Some argument) ∙ old.many;
    allowed = ap (λ (b : Bool). b && list_all (is_allowed parameters) (enumerate_from (place + 1) rest)) (sym so) ∙ old.allowed;
    whole = λ p.
        put_at slots at p argument (arguments_for parameters p (enumerate_from (place + 1) rest)) (nat_eq at p) refl within empty
        ∙ ap (λ (o : Option ℕ). listed (slot_at slots p) ++ (if is_at parameters p o then argument ∷ arguments_for parameters p (enumerate_from (place + 1) rest) else arguments_for parameters p (enumerate_from (place + 1) rest))) (sym found)
        ∙ old.whole p;
  }

  -- ---- arguments that don't match

  -- an argument that is for none, or has OUTPUT where it may not
  pub not_allowed : (slots : List (Option Argument)) (place : ℕ) (argument : Argument) (rest : List Argument) → is_allowed parameters (place, argument) ≡ false → AreSlots slots place (argument ∷ rest) → None ≡ matched parameters arguments
  not_allowed slots place argument rest so old =
      let gone : list_all (is_allowed parameters) all_placed ≡ false = sym old.allowed ∙ ap (λ (b : Bool). b && list_all (is_allowed parameters) (enumerate_from (place + 1) rest)) so in
      sym (ap (λ (b : Bool). if b then all_there (map (argument_of parameters all_placed) (enumerate_from 0 parameters)) else None) gone)

  some_none : (o : Option Argument) → in_front o None ≡ None
  some_none None = refl
  some_none (Some a) = refl

  -- a parameter that has not just one
  lacking : (f : ℕ × Parameter → Option Argument) (n k : ℕ) (ps : List Parameter) → k < length ps → ((p : Parameter) → f (n + k, p) ≡ None) → all_there (map f (enumerate_from n ps)) ≡ None
  lacking f n k [] within none = absurd (omega (arith, within))
  lacking f n zero (p ∷ ps) within none =
      let same : n + 0 ≡ n = omega arith in
      ap (λ (o : Option Argument). in_front o (all_there (map f (enumerate_from (n + 1) ps)))) (ap (λ (m : ℕ). f (m, p)) (sym same) ∙ none p)
  lacking f n (suc k) (p ∷ ps) within none =
      let same : n + 1 + k ≡ n + suc k = omega arith in
      ap (in_front (f (n, p))) (lacking f (n + 1) k ps (omega (arith, within)) (λ q. ap (λ (m : ℕ). f (m, q)) same ∙ none q)) ∙ some_none (f (n, p))

  only_two : (slot : Option Argument) (argument : Argument) (rest : List Argument) → is_some slot ≡ true → only_one (listed slot ++ argument ∷ rest) ≡ None
  only_two None argument rest some = absurd (cc)
  only_two (Some a) argument rest some = refl

  either_none : (b : Bool) (o : Option (List Argument)) → o ≡ None → None ≡ (if b then o else None)
  either_none true o none = sym none
  either_none false o none = refl

  pub doubled : (slots : List (Option Argument)) (place at : ℕ) (argument : Argument) (rest : List Argument) → place_for parameters place argument.name ≡ Some at → at < length parameters → is_some (slot_at slots at) ≡ true
      → AreSlots slots place (argument ∷ rest) → None ≡ matched parameters arguments
  doubled slots place at argument rest found within some old =
      let later = arguments_for parameters at (enumerate_from (place + 1) rest) in
      let same : nat_eq at at ≡ true = grind arith in
      let here : arguments_for parameters at (enumerate_from place (argument ∷ rest)) ≡ argument ∷ later
      = ap (λ (o : Option ℕ). if is_at parameters at o then argument ∷ later else later) found ∙ ap (λ (b : Bool). if b then argument ∷ later else later) same in
      let two : only_one (arguments_for parameters at all_placed) ≡ None
      = ap only_one (sym (old.whole at) ∙ ap (λ (found : List Argument). listed (slot_at slots at) ++ found) here) ∙ only_two (slot_at slots at) argument later some in
      either_none (list_all (is_allowed parameters) all_placed) (all_there (map (argument_of parameters all_placed) (enumerate_from 0 parameters))) (lacking (argument_of parameters all_placed) 0 at parameters within (λ p. let same : 0 + at ≡ at = omega arith in ap (λ (n : ℕ). argument_of parameters all_placed (n, p)) same ∙ two))

  -- ---- all arguments are gathered

  one_listed : (slot : Option Argument) → only_one (listed slot) ≡ slot
  one_listed None = refl
  one_listed (Some a) = refl

  by_place : (f : ℕ × Parameter → Option Argument) (n : ℕ) (slots : List (Option Argument)) (ps : List Parameter) → length slots ≡ length ps → ((k : ℕ) (p : Parameter) → slot_at slots k ≡ f (n + k, p)) → slots ≡ map f (enumerate_from n ps)
  by_place f n [] [] many each = refl
  by_place f n [] (p ∷ ps) many each = absurd (omega (arith, many))
  by_place f n (s ∷ slots) [] many each = absurd (omega (arith, many))
  by_place f n (s ∷ slots) (p ∷ ps) many each =
      let first : n + 0 ≡ n = omega arith in
      let here : s ≡ f (n, p) = each 0 p ∙ ap (λ (m : ℕ). f (m, p)) first in
      let rest : slots ≡ map f (enumerate_from (n + 1) ps) = by_place f (n + 1) slots ps (omega (arith, many)) (λ k q. let same : n + suc k ≡ n + 1 + k = omega arith in each (suc k) q ∙ ap (λ (m : ℕ). f (m, q)) same) in
      ap (λ (o : Option Argument). o ∷ slots) here ∙ ap (λ (os : List (Option Argument)). f (n, p) ∷ os) rest

  pub all_gathered : (slots : List (Option Argument)) (place : ℕ) (rest : List Argument) → rest ≡ [] → AreSlots slots place rest → all_there slots ≡ matched parameters arguments
  all_gathered slots place rest none old =
      let all : list_all (is_allowed parameters) all_placed ≡ true = sym old.allowed ∙ ap (λ (left : List Argument). list_all (is_allowed parameters) (enumerate_from place left)) none in
      let each : (k : ℕ) → slot_at slots k ≡ only_one (arguments_for parameters k all_placed) = λ k.
      sym (one_listed (slot_at slots k))
      ∙ ap only_one (sym (append-nil (listed (slot_at slots k))) ∙ ap (λ (left : List Argument). listed (slot_at slots k) ++ arguments_for parameters k (enumerate_from place left)) (sym none) ∙ old.whole k) in
      ap all_there (by_place (argument_of parameters all_placed) 0 slots parameters old.many (λ k p. let same : k ≡ 0 + k = omega arith in each k ∙ ap (λ (n : ℕ). argument_of parameters all_placed (n, p)) same))
      ∙ ap (λ (b : Bool). if b then all_there (map (argument_of parameters all_placed) (enumerate_from 0 parameters)) else None) (sym all)
