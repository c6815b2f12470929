-- What the rows that were read say of the database.
use Rattle.std.proofs.Common.{◌≡◌, refl, sym, ap, ◌∙◌, subst, ℕ, ◌≤◌, Bool, true, false, nat_le, List, [], length, map, filter, Option, Some, None, IsSome, IsTrue, is_some, arith, ℤ, rules, tests}
use Rattle.std.proofs.lemmas.List.Elements.{recursion_from_All}
use Rattle.std.specs.List.{AllByRecursion}
use Rattle.value_types.specs.declared.value.Value.{Value}
use Rattle.step_model.specs.Database.{Database, In, is_within}
use Rattle.constraint_check.specs.declared.check_read.Check.{Check}
use Rattle.constraint_check.specs.declared.check_read.Check.TheVariants.{Unique, Child, Parent}
use Rattle.constraint_check.specs.declared.check_read.CheckRead.{CheckRead}
use Rattle.constraint_check.specs.Judged.{agreeing, agrees, error_where, judged}
use Rattle.constraint_check.specs.Laws.{Agrees, JudgedPasses, KeysAreOne, PassesBy}
use Rattle.constraint_check.proofs.Lists.{Among, among_any, among_both, among_more, count-map, count_one, counted, from_among, one_passes}
use Rattle.constraint_check.proofs.Behind.{same, same_back, same_on}

-- a row with its key
abbrev Entry : Type 0
Entry = List Value × List Value

-- ---- numbers of rows

nothing_wrong : (broken : Bool) (number : ℤ) → error_where broken number ≡ None → broken ≡ false
nothing_wrong true number h = absurd (let both : true ≡ false = ap is_some h in cc)
nothing_wrong false number h = refl

few_of : (count : ℕ) → nat_le 2 count ≡ false → count ≤ 1
few_of count h = search (rules, tests)

some_of : (count : ℕ) → nat_le count 0 ≡ false → 1 ≤ count
some_of count h = search (rules, tests)

none_of : (count : ℕ) → nat_le 1 count ≡ false → 1 ≤ count → ⊥
none_of count h some = let few : count ≤ 0 = search (rules, tests) in absurd (omega (arith, few, some))

some_is : {x y : List Value} → Some x ≡ Some y → x ≡ y
some_is h = ap value_of h
  where
    value_of : Option (List Value) → List Value
    value_of None = []
    value_of (Some x) = x

-- ---- the rows of a range

module _ (db : Database) (read : CheckRead) (rows : List Entry) (one : KeysAreOne db) (image : In db read.range.table read.range.start read.range.stop rows) where
  abbrev Inside : Entry → Type 0
  Inside at = IsTrue (is_within read.range.start read.range.stop at.0) × (db read.range.table at.0 ≡ Some at.1)

  inside : AllByRecursion Inside rows
  inside = recursion_from_All Inside rows image.rows_of_range

  -- how many of them agree
  so_many : agreeing read (map (λ (at : Entry). at.1) rows) ≡ length (filter (λ (at : Entry). agrees read at.1) rows)
  so_many = count-map (agrees read) (λ (at : Entry). at.1) rows

  -- a row of the range that agrees is among them
  is_read : (key row : List Value) → Agrees db read key row → Among (λ (at : Entry). (same key at.0 ≡ true) × (agrees read at.1 ≡ true)) rows
  is_read key row is =
      let among = among_any (λ (at : Entry). same key at.0) rows (image.whole key is.0 (subst (λ (o : Option (List Value)). IsSome o) (sym is.1) refl)) in
      among_more (λ (at : Entry). Inside at × (same key at.0 ≡ true)) (λ (at : Entry). (same key at.0 ≡ true) × (agrees read at.1 ≡ true))
      (λ at h. (h.1, ap (agrees read) (some_is (sym h.0.1 ∙ sym (one read.range.table key at.0 h.1) ∙ is.1)) ∙ is.2)) rows
      (among_both Inside (λ (at : Entry). same key at.0 ≡ true) rows inside among)

  abbrev count : ℕ
  count = agreeing read (map (λ (at : Entry). at.1) rows)

  at_one_key : nat_le 2 count ≡ false → PassesBy Unique db read
  at_one_key few key other row and_row is also =
      let both = one_passes (λ (at : Entry). agrees read at.1) (λ at. same key at.0 ≡ true) (λ at. same other at.0 ≡ true) rows (is_read key row is) (is_read other and_row also)
      (subst (λ (n : ℕ). n ≤ 1) so_many (few_of count few)) in
      from_among (λ (at : Entry). (same key at.0 ≡ true) × (same other at.0 ≡ true)) (same key other ≡ true) (λ at h. same_on key at.0 other h.0 (same_back other at.0 h.1)) rows both

  has_one : nat_le count 0 ≡ false → PassesBy Child db read
  has_one some =
      from_among (λ (at : Entry). Inside at × (agrees read at.1 ≡ true)) (PassesBy Child db read) (λ at h. (at.0, at.1, (h.0.0, h.0.1, h.1))) rows
      (among_both Inside (λ (at : Entry). agrees read at.1 ≡ true) rows inside (counted (λ (at : Entry). agrees read at.1) rows (subst (λ (n : ℕ). 1 ≤ n) so_many (some_of count some))))

  has_none : nat_le 1 count ≡ false → PassesBy Parent db read
  has_none none key row is =
      let some : 1 ≤ length (filter (λ (at : Entry). agrees read at.1) rows) =
      count_one (λ (at : Entry). agrees read at.1) rows (among_more (λ (at : Entry). (same key at.0 ≡ true) × (agrees read at.1 ≡ true)) (λ (at : Entry). agrees read at.1 ≡ true) (λ at h. h.1) rows (is_read key row is)) in
      none_of count none (subst (λ (n : ℕ). 1 ≤ n) (sym so_many) some)

  by_check : (check : Check) → judged check count ≡ None → PassesBy check db read
  by_check Unique right = at_one_key (nothing_wrong _ _ right)
  by_check Child right = has_one (nothing_wrong _ _ right)
  by_check Parent right = has_none (nothing_wrong _ _ right)

pub judged_passes : JudgedPasses
judged_passes db read rows one image right = by_check db read rows one image read.check right
