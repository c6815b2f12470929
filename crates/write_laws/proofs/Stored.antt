-- A row that is filled has its columns: each value that is given is stored as one of its column's type.
use Rattle.std.proofs.Common.{◌≡◌, refl, sym, ap, ◌∙◌, subst, ℕ, zero, suc, Bool, true, false, if◌then◌else◌, nat_le, List, [], ◌∷◌, length, slice_get, slice_set, Result, Ok, Err}
use Rattle.std.proofs.lemmas.Bool.{and_from, and_parts, leb-true}
use Rattle.value_types.specs.declared.sql_type.SqlType.{SqlType}
use Rattle.value_types.specs.declared.sql_type.SqlType.TheVariants.{TinyInt, SmallInt, Int, BigInt, Bit as BitType, NText}
use Rattle.value_types.specs.declared.value.Value.{Value}
use Rattle.value_types.specs.declared.value.Value.TheVariants.{Null, Whole, Bit, Text}
use Rattle.value_types.specs.Types.{type_of}
use Rattle.convert_rules.specs.declared.fault.ConvertFault.{ConvertFault}
use Rattle.convert_rules.specs.declared.fault.ConvertFault.TheVariants.{TooLong}
use Rattle.convert_rules.specs.Conversion.{cast_of, converted}
use Rattle.tsql_tree.specs.declared.definition.ColumnTree.{ColumnTree}
use Rattle.bound_tree.specs.Conversions.{cast_outcome}
use Rattle.bound_tree.specs.Outcomes.{after}
use Rattle.bound_tree.specs.Typed.{GivesOf}
use Rattle.bound_tree.proofs.Kept.{conversion_kept}
use Rattle.query_eval.proofs.Images.{by_last, by_steps}
use Rattle.table_rows.specs.Rows.{has_columns, is_value_of}
use Rattle.catalog_rows.proofs.Fitting.{value_of_type}
use Rattle.dml_exec.specs.Filling.{Given, Row, filled, null_row, stored, stored_as, stored_at, with_given}

-- ---- a value

as_cast : (kind : SqlType) (x : Value) (came : Result Value ConvertFault) → stored_as kind x came ≡ cast_outcome (type_of x) kind came
as_cast kind x (Ok y) = refl
as_cast kind x (Err fault) = refl

-- what is stored as CAST converts it is of the type
cast_kept : (kind : SqlType) (x : Value) → converted x kind ≡ cast_of x kind → GivesOf kind (stored kind x)
cast_kept kind x same = subst (GivesOf kind) (sym (as_cast kind x (converted x kind) ∙ ap (cast_outcome (type_of x) kind) same)) (conversion_kept (type_of x) kind (Ok x))

text_kept : (size : ℕ) (units : List ℕ) → GivesOf (NText size) (stored (NText size) (Text units))
text_kept size units = by_test (nat_le (length units) size) refl
  where
    by_test : (b : Bool) → nat_le (length units) size ≡ b → GivesOf (NText size) (stored_as (NText size) (Text units) (if b then Ok (Text units) else Err TooLong))
    by_test true short = leb-true (length units) size short
    by_test false long = tt

stored_kept : (kind : SqlType) (x : Value) → GivesOf kind (stored kind x)
stored_kept kind Null = cast_kept kind Null refl
stored_kept kind (Whole number) = cast_kept kind (Whole number) refl
stored_kept kind (Bit bit) = cast_kept kind (Bit bit) refl
stored_kept TinyInt (Text units) = cast_kept TinyInt (Text units) refl
stored_kept SmallInt (Text units) = cast_kept SmallInt (Text units) refl
stored_kept Int (Text units) = cast_kept Int (Text units) refl
stored_kept BigInt (Text units) = cast_kept BigInt (Text units) refl
stored_kept BitType (Text units) = cast_kept BitType (Text units) refl
stored_kept (NText size) (Text units) = text_kept size units

-- a value that is stored is one of the type
stored_fits : (kind : SqlType) (x y : Value) → stored kind x ≡ Ok y → is_value_of kind y ≡ true
stored_fits kind x y e = (value_of_type kind y).1 (subst (GivesOf kind) e (stored_kept kind x))

-- ---- a row

-- with one value stored
set_fits : (columns : List ColumnTree) (row : Row) (place : ℕ) (x y : Value) → has_columns columns row ≡ true → stored_at (slice_get columns place) x ≡ Ok y → has_columns columns (slice_set row place y) ≡ true
set_fits [] [] place x y has e = refl
set_fits [] (value ∷ row) place x y has e = cc
set_fits (column ∷ columns) [] place x y has e = cc
set_fits (column ∷ columns) (value ∷ row) zero x y has e =
    and_from (is_value_of column.kind y) (has_columns columns row) (stored_fits column.kind x y e) (and_parts (is_value_of column.kind value) (has_columns columns row) has).1
set_fits (column ∷ columns) (value ∷ row) (suc place) x y has e =
    let parts = and_parts (is_value_of column.kind value) (has_columns columns row) has in
    and_from (is_value_of column.kind value) (has_columns columns (slice_set row place y)) parts.0 (set_fits columns row place x y parts.1 e)

pub null_fits : (columns : List ColumnTree) → has_columns columns (null_row columns) ≡ true
null_fits [] = refl
null_fits (column ∷ columns) = null_fits columns

module _ (columns : List ColumnTree) where
  abbrev Has : Row → Type 0
  Has row = has_columns columns row ≡ true

  given_fits : (given : Given) (row more : Row) → Has row → with_given columns given row ≡ Ok more → Has more
  given_fits given row more has e =
      by_steps Has given.1 (λ x. after (stored_at (slice_get columns given.0) x) (λ y. Ok (slice_set row given.0 y)))
      (λ x is z came. by_steps Has (stored_at (slice_get columns given.0) x) (λ y. Ok (slice_set row given.0 y))
      (λ y stores. by_last Has (slice_set row given.0 y) (set_fits columns row given.0 x y has stores)) z came) more e

  -- with all of them
  pub filled_fits : (givens : List Given) (row more : Row) → Has row → filled columns givens row ≡ Ok more → Has more
  filled_fits [] row more has e = by_last Has row has more e
  filled_fits (given ∷ rest) row more has e =
      by_steps Has (with_given columns given row) (filled columns rest) (λ next is z came. filled_fits rest next z (given_fits given row next has is) came) more e
