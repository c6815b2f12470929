-- What is planned of rows, in the words of the laws of index parts: what is done at each key, with rows that are the same unit for unit.
use Rattle.std.proofs.Common.{◌≡◌, refl, ap, ◌∙◌, true, false, List, [], ◌∷◌, ◌++◌, Some}
use Rattle.std.proofs.lemmas.Bool.{and_parts}
use Rattle.std.proofs.lemmas.Bool.Decides.{Decides-int_eq}
use Rattle.std.specs.Cmp.Lexicographic.{bytes_decides}
use Rattle.value_types.specs.declared.value.Value.{Value}
use Rattle.value_types.specs.declared.value.Value.TheVariants.{Null, Whole, Bit, Text}
use Rattle.tsql_tree.specs.declared.definition.TableTree.{TableTree}
use Rattle.tsql_tree.specs.Places.{key_places}
use Rattle.step_model.specs.declared.change.Planned.{Planned}
use Rattle.table_rows.specs.Rows.{rows_table}
use Rattle.dml_exec.specs.declared.rewritten.Rewritten.{Rewritten}
use Rattle.dml_exec.specs.Planning.{all_changes, index_deeds, is_same_row, is_same_value, row_changes_of}
use Rattle.write_laws.specs.Attempted.{plan_of}
use Rattle.write_laws.proofs.Rewrites.{changes_are_deeds}

-- ---- the same unit for unit

same_value_is : (a b : Value) → is_same_value a b ≡ true → a ≡ b
same_value_is Null Null is = refl
same_value_is (Whole a) (Whole b) is = ap Whole ((Decides-int_eq a b).0 is)
same_value_is (Bit true) (Bit true) is = refl
same_value_is (Bit false) (Bit false) is = refl
same_value_is (Text a) (Text b) is = ap Text ((bytes_decides a b).0 is)
same_value_is a b is = cc

pub same_row_is : (a b : List Value) → is_same_row a b ≡ true → a ≡ b
same_row_is [] [] is = refl
same_row_is (x ∷ a) (y ∷ b) is =
    let parts = and_parts (is_same_value x y) (is_same_row a b) is in
    ap (λ (v : Value). v ∷ a) (same_value_is x y parts.0) ∙ ap (λ (rest : List Value). y ∷ rest) (same_row_is a b parts.1)
same_row_is [] (y ∷ b) is = cc
same_row_is (x ∷ a) [] is = cc

-- ---- the plan

pub plan_is : (shape : TableTree) (rows : Rewritten) → all_changes (rows_table shape.name) shape rows ≡ plan_of shape is_same_row rows
plan_is shape rows = ap (λ (own : List Planned). own ++ index_deeds shape is_same_row (row_changes_of rows)) (changes_are_deeds (rows_table shape.name) (key_places (Some shape)) rows)
