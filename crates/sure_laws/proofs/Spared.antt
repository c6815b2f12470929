-- What is done at each key of a part takes each old row once: so none of a write's changes erases the row of one behind it.
use Rattle.std.proofs.Common.{◌≡◌, inl, inr, ℕ, suc, ◌<◌, Bool, true, false, ◌&&◌, if◌then◌else◌, List, [], ◌∷◌, ◌++◌, Option, Some, None, refl, ap, ◌∙◌, arith}
use Rattle.std.proofs.lemmas.Bool.{eqb-true}
use Rattle.std.specs.Prelude.{nat_eq}
use Rattle.std.specs.List.{AllByRecursion, flat_map}
use Rattle.std.specs.Ordering.{is_eq}
use Rattle.value_types.specs.declared.table_name.TableName.{TableName}
use Rattle.value_types.specs.declared.value.Value.{Value}
use Rattle.value_types.specs.Order.{key_cmp, table_cmp}
use Rattle.tsql_tree.specs.declared.definition.TableTree.{TableTree}
use Rattle.tsql_tree.specs.Places.{key_places}
use Rattle.step_model.specs.declared.change.Planned.{Planned}
use Rattle.index_laws.specs.Deeds.{deeds_by, deeds_erased, deeds_written, erases_if, rewrites_if}
use Rattle.index_laws.specs.Laws.{OldsApart}
use Rattle.index_laws.specs.Parts.{Among, NoneOld, OfRow, Row, RowChange, same}
use Rattle.index_laws.specs.Whole.{IndexPart, part_table}
use Rattle.index_laws.proofs.Behind.{all_both, all_more}
use Rattle.index_laws.proofs.Found.{same_back}
use Rattle.index_laws.proofs.Whole.{tells}
use Rattle.table_rows.specs.Rows.{index_columns, key_of, places_of, rows_table}
use Rattle.dml_exec.specs.Planning.{index_deeds, is_same_row, part_deeds, parts_from, parts_of, row_in}
use Rattle.write_laws.proofs.Elsewhere.{parts_equal}
use Rattle.write_laws.proofs.Indexing.{numbers_above}
use Rattle.sure_laws.proofs.Writing.{AreSpared, Spares, Takes}

-- ---- lists

all_two : {A : Type 0} (P Q R : A → Type 0) (xs : List A) → ((x : A) → P x → Q x → R x) → AllByRecursion P xs → AllByRecursion Q xs → AllByRecursion R xs
all_two P Q R [] on one other = tt
all_two P Q R (x ∷ xs) on one other = (on x one.0 other.0, all_two P Q R xs on one.1 other.1)

-- of each that is made of one of a list
all_made : {A B : Type 0} (P : B → Type 0) (f : A → List B) (xs : List A) → AllByRecursion (λ x. AllByRecursion P (f x)) xs → AllByRecursion P (flat_map f xs)
all_made P f [] all = tt
all_made P f (x ∷ xs) all = all_both P (f x) (flat_map f xs) all.0 (all_made P f xs all.1)

pub spared_both : (front back : List Planned) → AreSpared front → AreSpared back → AllByRecursion (λ change. AllByRecursion (Spares change) back) front → AreSpared (front ++ back)
spared_both [] back one other cross = other
spared_both (change ∷ front) back one other cross = (all_both (Spares change) front back one.0 cross.0, spared_both front back one.1 other cross.1)

-- ---- changes of two tables

pub elsewhere : (change other : Planned) → is_eq (table_cmp change.table other.table) ≡ false → Spares change other
elsewhere change other apart takes also = ap (λ (b : Bool). b && is_eq (key_cmp change.key other.key)) apart

all_elsewhere : (table other : TableName) (front back : List Planned) → is_eq (table_cmp table other) ≡ false → AllByRecursion (λ (change : Planned). change.table ≡ table) front → AllByRecursion (λ (change : Planned). change.table ≡ other) back
    → AllByRecursion (λ (change : Planned). AllByRecursion (Spares change) back) front
all_elsewhere table other front back apart one also =
    all_more (λ (change : Planned). change.table ≡ table) (λ (change : Planned). AllByRecursion (Spares change) back) front
    (λ change is. all_more (λ (of : Planned). of.table ≡ other) (Spares change) back (λ of at. elsewhere change of (ap (λ (t : TableName). is_eq (table_cmp t of.table)) is ∙ ap (λ (t : TableName). is_eq (table_cmp table t)) at ∙ apart)) also) one

-- parts with two numbers are two tables
pub numbers_apart : (table other : TableName) → (table.part ≡ other.part → ⊥) → is_eq (table_cmp table other) ≡ false
numbers_apart table other apart = by_test (is_eq (table_cmp table other)) refl
  where
    by_test : (b : Bool) → is_eq (table_cmp table other) ≡ b → b ≡ false
    by_test true is = absurd (apart (parts_equal table other is))
    by_test false is = refl

-- ---- one part

module _ (table : TableName) (key kept : OfRow) (skips : Row → Row → Bool) where
  abbrev erased : RowChange → List Planned
  erased change = deeds_erased table key kept skips change.old change.new

  abbrev written : RowChange → List Planned
  written change = deeds_written table key kept skips change.old change.new

  -- a deed of this change: of this table; and where it takes, at the key of the old row
  abbrev pub IsDeedOf : Option Row → Planned → Type 0
  IsDeedOf old deed = (deed.table ≡ table) × (Takes deed → (row : Row) × (old ≡ Some row) × (deed.key ≡ key row))

  erased_of : (old new : Option Row) → AllByRecursion (IsDeedOf old) (deeds_erased table key kept skips old new)
  erased_of None new = tt
  erased_of (Some old) None = ((refl, λ takes. (old, refl, refl)), tt)
  erased_of (Some old) (Some new) = by_stays (same (key new) (key old))
    where
      by_stays : (b : Bool) → AllByRecursion (IsDeedOf (Some old)) (erases_if table key kept skips b old)
      by_stays true = tt
      by_stays false = ((refl, λ takes. (old, refl, refl)), tt)

  written_of : (old new : Option Row) → AllByRecursion (IsDeedOf old) (deeds_written table key kept skips old new)
  written_of None None = tt
  written_of (Some old) None = tt
  written_of None (Some new) = ((refl, λ takes. absurd (let no : true ≡ false = takes in cc)), tt)
  written_of (Some old) (Some new) = by_tests (skips old new) (same (key new) (key old))
    where
      by_tests : (passes b : Bool) → AllByRecursion (IsDeedOf (Some old)) (if passes then [] else rewrites_if table key kept skips b old new)
      by_tests true b = tt
      by_tests false true = ((refl, λ takes. (old, refl, refl)), tt)
      by_tests false false = ((refl, λ takes. absurd (let no : true ≡ false = takes in cc)), tt)

  -- the old rows of two changes are at two keys
  abbrev Away : Option Row → Option Row → Type 0
  Away old other = (row also : Row) → old ≡ Some row → other ≡ Some also → same (key row) (key also) ≡ false

  abbrev AllAway : List RowChange → Type 0
  AllAway [] = Unit {0}
  AllAway (change ∷ changes) = AllByRecursion (λ (other : RowChange). Away change.old other.old × Away other.old change.old) changes × AllAway changes

  not_same : (a b : List Value) → (same a b ≡ true → ⊥) → same a b ≡ false
  not_same a b apart = by_test (same a b) refl
    where
      by_test : (t : Bool) → same a b ≡ t → t ≡ false
      by_test true is = absurd (apart is)
      by_test false is = refl

  away_one : (old other : Option Row) → ((row also : Row) → old ≡ Some row → other ≡ Some also → same (key also) (key row) ≡ true → ⊥) → Away old other × Away other old
  away_one old other apart = (
    (λ row also is at. not_same (key row) (key also) (λ meets. apart row also is at (same_back (key row) (key also) meets))),
    (λ row also is at. not_same (key row) (key also) (λ meets. apart also row at is meets)),
  )

  away_from : (old : Option Row) (changes : List RowChange) → ((row : Row) → old ≡ Some row → NoneOld key changes (key row)) → AllByRecursion (λ (other : RowChange). Away old other.old × Away other.old old) changes
  away_from old [] none = tt
  away_from old (other ∷ changes) none = (
    away_one old other.old (λ row also is at meets. none row is also (inl at) meets),
    away_from old changes (λ row is also among meets. none row is also (inr among) meets),
  )

  all_away : (changes : List RowChange) → OldsApart key changes → AllAway changes
  all_away [] apart = tt
  all_away (change ∷ changes) apart = (away_from change.old changes apart.0, all_away changes apart.1)

  -- deeds of two such changes
  deeds_apart : (old other : Option Row) (deed also : Planned) → Away old other → IsDeedOf old deed → IsDeedOf other also → Spares deed also
  deeds_apart old other deed also away of at takes too =
      let one = of.1 takes in
      let two = at.1 too in
      both_false (is_eq (table_cmp deed.table also.table)) (is_eq (key_cmp deed.key also.key))
      (ap (λ (k : List Value). is_eq (key_cmp k also.key)) one.2 ∙ ap (λ (k : List Value). is_eq (key_cmp (key one.0) k)) two.2 ∙ away one.0 two.0 one.1 two.1)
    where
      both_false : (a b : Bool) → b ≡ false → (a && b) ≡ false
      both_false true b is = is
      both_false false b is = refl

  lists_apart : (old other : Option Row) (front back : List Planned) → Away old other → AllByRecursion (IsDeedOf old) front → AllByRecursion (IsDeedOf other) back → AllByRecursion (λ (deed : Planned). AllByRecursion (Spares deed) back) front
  lists_apart old other front back away one also =
      all_more (IsDeedOf old) (λ (deed : Planned). AllByRecursion (Spares deed) back) front (λ deed of. all_more (IsDeedOf other) (Spares deed) back (λ too at. deeds_apart old other deed too away of at) also) one

  -- of what is made of each change one deed at most is of a kind
  abbrev MakesDeeds : (RowChange → List Planned) → Type 0
  MakesDeeds make = (change : RowChange) → AllByRecursion (IsDeedOf change.old) (make change) × AreSpared (make change)

  one_erased : (old new : Option Row) → AreSpared (deeds_erased table key kept skips old new)
  one_erased None new = tt
  one_erased (Some old) None = (tt, tt)
  one_erased (Some old) (Some new) = by_stays (same (key new) (key old))
    where
      by_stays : (b : Bool) → AreSpared (erases_if table key kept skips b old)
      by_stays true = tt
      by_stays false = (tt, tt)

  one_written : (old new : Option Row) → AreSpared (deeds_written table key kept skips old new)
  one_written None None = tt
  one_written (Some old) None = tt
  one_written None (Some new) = (tt, tt)
  one_written (Some old) (Some new) = by_tests (skips old new) (same (key new) (key old))
    where
      by_tests : (passes b : Bool) → AreSpared (if passes then [] else rewrites_if table key kept skips b old new)
      by_tests true b = tt
      by_tests false true = (tt, tt)
      by_tests false false = (tt, tt)

  -- what is made of other changes
  others_apart : (first make : RowChange → List Planned) (change : RowChange) (changes : List RowChange) → AllByRecursion (IsDeedOf change.old) (first change) → ((other : RowChange) → AllByRecursion (IsDeedOf other.old) (make other))
      → AllByRecursion (λ (other : RowChange). Away change.old other.old × Away other.old change.old) changes → AllByRecursion (λ (deed : Planned). AllByRecursion (Spares deed) (flat_map make changes)) (first change)
  others_apart first make change [] one of away = all_more (IsDeedOf change.old) (λ (deed : Planned). Unit {0}) (first change) (λ deed is. tt) one
  others_apart first make change (other ∷ changes) one of away =
      all_two (λ (deed : Planned). AllByRecursion (Spares deed) (make other)) (λ (deed : Planned). AllByRecursion (Spares deed) (flat_map make changes)) (λ (deed : Planned). AllByRecursion (Spares deed) (make other ++ flat_map make changes)) (first change)
      (λ deed here there. all_both (Spares deed) (make other) (flat_map make changes) here there)
      (lists_apart change.old other.old (first change) (make other) away.0.0 one (of other))
      (others_apart first make change changes one of away.1)

  each_spared : (make : RowChange → List Planned) (changes : List RowChange) → MakesDeeds make → AllAway changes → AreSpared (flat_map make changes)
  each_spared make [] makes away = tt
  each_spared make (change ∷ changes) makes away =
      spared_both (make change) (flat_map make changes) (makes change).1 (each_spared make changes makes away.1)
      (others_apart make make change changes (makes change).0 (λ other. (makes other).0) away.0)

  -- a change does not erase what it writes
  self_spared : (old new : Option Row) → AllByRecursion (λ (deed : Planned). AllByRecursion (Spares deed) (deeds_written table key kept skips old new)) (deeds_erased table key kept skips old new)
  self_spared None new = tt
  self_spared (Some old) None = (tt, tt)
  self_spared (Some old) (Some new) = by_tests (skips old new) (same (key new) (key old))
    where
      by_tests : (passes b : Bool) → AllByRecursion (λ (deed : Planned). AllByRecursion (Spares deed) (if passes then [] else rewrites_if table key kept skips b old new)) (erases_if table key kept skips b old)
      by_tests passes true = tt
      by_tests true false = (tt, tt)
      by_tests false false = (((λ takes inserts. absurd (let no : true ≡ false = inserts in cc)), tt), tt)

  erased_deeds : MakesDeeds erased
  erased_deeds change = (erased_of change.old change.new, one_erased change.old change.new)

  written_deeds : MakesDeeds written
  written_deeds change = (written_of change.old change.new, one_written change.old change.new)

  -- what is erased of the rest, and written of one
  rest_apart : (change : RowChange) (changes : List RowChange) → AllByRecursion (λ (other : RowChange). Away change.old other.old × Away other.old change.old) changes
      → AllByRecursion (λ (deed : Planned). AllByRecursion (Spares deed) (written change)) (flat_map erased changes)
  rest_apart change changes away =
      all_made (λ (deed : Planned). AllByRecursion (Spares deed) (written change)) erased changes
      (all_more (λ (other : RowChange). Away change.old other.old × Away other.old change.old) (λ (other : RowChange). AllByRecursion (λ (deed : Planned). AllByRecursion (Spares deed) (written change)) (erased other)) changes
      (λ other both. lists_apart other.old change.old (erased other) (written change) both.1 (erased_of other.old other.new) (written_of change.old change.new)) away)

  cross : (changes : List RowChange) → AllAway changes → AllByRecursion (λ (deed : Planned). AllByRecursion (Spares deed) (flat_map written changes)) (flat_map erased changes)
  cross [] away = tt
  cross (change ∷ changes) away =
      let P : Planned → Type 0 = λ deed. AllByRecursion (Spares deed) (written change ++ flat_map written changes) in
      let join : (deed : Planned) → AllByRecursion (Spares deed) (written change) → AllByRecursion (Spares deed) (flat_map written changes) → P deed = λ deed here there. all_both (Spares deed) (written change) (flat_map written changes) here there in
      all_both P (erased change) (flat_map erased changes)
      (all_two (λ (deed : Planned). AllByRecursion (Spares deed) (written change)) (λ (deed : Planned). AllByRecursion (Spares deed) (flat_map written changes)) P (erased change) join
      (self_spared change.old change.new) (others_apart erased written change changes (erased_of change.old change.new) (λ other. (written_deeds other).0) away.0))
      (all_two (λ (deed : Planned). AllByRecursion (Spares deed) (written change)) (λ (deed : Planned). AllByRecursion (Spares deed) (flat_map written changes)) P (flat_map erased changes) join
      (rest_apart change changes away.0) (cross changes away.1))

  -- where no two take rows of one key
  pub deeds_spared : (changes : List RowChange) → OldsApart key changes → AreSpared (deeds_by table key kept skips changes)
  deeds_spared changes apart =
      let away = all_away changes apart in
      spared_both (flat_map erased changes) (flat_map written changes) (each_spared erased changes erased_deeds away) (each_spared written changes written_deeds away) (cross changes away)

  -- each is of one of the changes
  pub deeds_of : (P : Planned → Type 0) (changes : List RowChange) → ((change : RowChange) (deed : Planned) → Among (λ other. other ≡ change) changes → IsDeedOf change.old deed → P deed) → AllByRecursion P (deeds_by table key kept skips changes)
  deeds_of P changes on = all_both P (flat_map erased changes) (flat_map written changes) (made_of erased changes (λ change. (erased_deeds change).0) on) (made_of written changes (λ change. (written_deeds change).0) on)
    where
      made_of : (make : RowChange → List Planned) (changes : List RowChange) → ((change : RowChange) → AllByRecursion (IsDeedOf change.old) (make change))
          → ((change : RowChange) (deed : Planned) → Among (λ other. other ≡ change) changes → IsDeedOf change.old deed → P deed) → AllByRecursion P (flat_map make changes)
      made_of make [] of on = tt
      made_of make (change ∷ changes) of on =
          all_both P (make change) (flat_map make changes) (all_more (IsDeedOf change.old) P (make change) (λ deed is. on change deed (inl refl) is) (of change))
          (made_of make changes of (λ other deed among is. on other deed (inr among) is))

-- ---- index parts

module _ (shape : TableTree) (changes : List RowChange) (apart : OldsApart (key_of shape) changes) where
  index_apart : (part : IndexPart) (changes : List RowChange) → OldsApart (key_of shape) changes → OldsApart (row_in shape part) changes
  index_apart part [] apart = tt
  index_apart part (change ∷ changes) apart = (
    (λ row is other among meets. apart.0 row is other among (tells (key_places (Some shape)) part other row meets)),
    index_apart part changes apart.1,
  )

  abbrev deeds_in : IndexPart → List Planned
  deeds_in part = part_deeds shape is_same_row changes part

  part_spared : (part : IndexPart) → AreSpared (deeds_in part)
  part_spared part = deeds_spared (part_table shape.name part.number) (row_in shape part) (row_in shape part) (λ old new. is_same_row (row_in shape part new) (row_in shape part old)) changes (index_apart part changes apart)

  part_on : (part : IndexPart) → AllByRecursion (λ (deed : Planned). deed.table ≡ part_table shape.name part.number) (deeds_in part)
  part_on part = deeds_of (part_table shape.name part.number) (row_in shape part) (row_in shape part) (λ old new. is_same_row (row_in shape part new) (row_in shape part old)) (λ (deed : Planned). deed.table ≡ part_table shape.name part.number) changes
      (λ change deed among is. is.0)

  behind_parts : (table : TableName) (front : List Planned) (parts : List IndexPart) → AllByRecursion (λ (deed : Planned). deed.table ≡ table) front → AllByRecursion (λ (part : IndexPart). table.part < part.number) parts
      → AllByRecursion (λ (deed : Planned). AllByRecursion (Spares deed) (flat_map deeds_in parts)) front
  behind_parts table front [] on above = all_more (λ (deed : Planned). deed.table ≡ table) (λ (deed : Planned). Unit {0}) front (λ deed is. tt) on
  behind_parts table front (part ∷ parts) on above =
      all_two (λ (deed : Planned). AllByRecursion (Spares deed) (deeds_in part)) (λ (deed : Planned). AllByRecursion (Spares deed) (flat_map deeds_in parts)) (λ (deed : Planned). AllByRecursion (Spares deed) (deeds_in part ++ flat_map deeds_in parts)) front
      (λ deed here there. all_both (Spares deed) (deeds_in part) (flat_map deeds_in parts) here there)
      (all_elsewhere table (part_table shape.name part.number) front (deeds_in part) (numbers_apart table (part_table shape.name part.number) (λ is. absurd (omega (arith, is, above.0)))) on (part_on part))
      (behind_parts table front parts on above.1)

  parts_spared : (number : ℕ) (columns : List (List (List ℕ))) → AreSpared (flat_map deeds_in (parts_from shape number columns))
  parts_spared number [] = tt
  parts_spared number (names ∷ columns) =
      let part : IndexPart = record { number = number; places = places_of shape names } in
      spared_both (deeds_in part) (flat_map deeds_in (parts_from shape (suc number) columns)) (part_spared part) (parts_spared (suc number) columns)
      (behind_parts (part_table shape.name number) (deeds_in part) (parts_from shape (suc number) columns) (part_on part) (numbers_above shape columns number (suc number) (omega (arith))))

  -- none is of the table's own rows
  pub parts_on : AllByRecursion (λ (deed : Planned). nat_eq deed.table.part 0 ≡ false) (index_deeds shape is_same_row changes)
  parts_on = each (parts_of shape) (numbers_above shape (index_columns shape) 0 1 (omega (arith)))
    where
      above : (number : ℕ) → 0 < number → nat_eq number 0 ≡ false
      above number low = by_test (nat_eq number 0) refl
        where
          by_test : (b : Bool) → nat_eq number 0 ≡ b → b ≡ false
          by_test true first = let none : number ≡ 0 = eqb-true number 0 first in absurd (omega (arith, none, low))
          by_test false first = refl

      each : (parts : List IndexPart) → AllByRecursion (λ (part : IndexPart). 0 < part.number) parts → AllByRecursion (λ (deed : Planned). nat_eq deed.table.part 0 ≡ false) (flat_map deeds_in parts)
      each [] low = tt
      each (part ∷ parts) low =
          all_both (λ (deed : Planned). nat_eq deed.table.part 0 ≡ false) (deeds_in part) (flat_map deeds_in parts)
          (all_more (λ (deed : Planned). deed.table ≡ part_table shape.name part.number) (λ (deed : Planned). nat_eq deed.table.part 0 ≡ false) (deeds_in part)
          (λ deed is. ap (λ (t : TableName). nat_eq t.part 0) is ∙ above part.number low.0) (part_on part))
          (each parts low.1)

  -- each is of the table
  pub parts_named : AllByRecursion (λ (deed : Planned). deed.table.object ≡ shape.name) (index_deeds shape is_same_row changes)
  parts_named = each (parts_of shape)
    where
      each : (parts : List IndexPart) → AllByRecursion (λ (deed : Planned). deed.table.object ≡ shape.name) (flat_map deeds_in parts)
      each [] = tt
      each (part ∷ parts) =
          all_both (λ (deed : Planned). deed.table.object ≡ shape.name) (deeds_in part) (flat_map deeds_in parts)
          (all_more (λ (deed : Planned). deed.table ≡ part_table shape.name part.number) (λ (deed : Planned). deed.table.object ≡ shape.name) (deeds_in part) (λ deed is. ap (λ (t : TableName). t.object) is) (part_on part)) (each parts)

  -- behind those of the table's own rows
  pub all_spared : (own : List Planned) → AreSpared own → AllByRecursion (λ (deed : Planned). deed.table ≡ rows_table shape.name) own → AreSpared (own ++ index_deeds shape is_same_row changes)
  all_spared own spared on =
      spared_both own (index_deeds shape is_same_row changes) spared (parts_spared 1 (index_columns shape))
      (behind_parts (rows_table shape.name) own (parts_of shape) on (numbers_above shape (index_columns shape) 0 1 (omega (arith))))
