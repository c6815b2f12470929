-- The rows that are still to come stay of the types of their columns.
use Rattle.std.proofs.Common.{◌≡◌, ℕ, List, Option, Some, None, sym, subst}
use Rattle.std.specs.Prelude.{All, option_map}
use Rattle.std.proofs.lemmas.List.Elements.{All-drop, recursion_from_All, All-from_recursion}
use Rattle.value_types.specs.declared.sql_type.SqlType.{SqlType}
use Rattle.value_types.specs.declared.value.Value.{Value}
use Rattle.session_cursors.specs.declared.cursor.Cursor.{Cursor}
use Rattle.session_cursors.specs.Answers.{AnswerLeft, HasKinds}
use Rattle.session_cursors.specs.Cursors.{AreOfKinds, HasItsKinds, unless_open, behind_first, opened, advanced, shut, with_cursor}
use Rattle.session_cursors.proofs.Named.{all_changed}

opened_so : (kinds : List SqlType) (rows : List (List Value)) → All (HasKinds kinds) rows → (answer : Option AnswerLeft) → AreOfKinds answer → AreOfKinds (unless_open (record { kinds = kinds; rows = rows }) answer)
opened_so kinds rows fit None so = fit
opened_so kinds rows fit (Some left) so = so

advanced_so : (answer : Option AnswerLeft) → AreOfKinds answer → AreOfKinds (option_map behind_first answer)
advanced_so None so = tt
advanced_so (Some left) so = All-drop (HasKinds left.kinds) 1 left.rows so

module _ {Q : Type 0} where
  pub keeps_opened : (kinds : List SqlType) (rows : List (List Value)) → All (HasKinds kinds) rows → (cursor : Cursor Q) → HasItsKinds cursor → HasItsKinds (opened kinds rows cursor)
  keeps_opened kinds rows fit cursor so = opened_so kinds rows fit cursor.answer so

  pub keeps_advanced : (cursor : Cursor Q) → HasItsKinds cursor → HasItsKinds (advanced cursor)
  keeps_advanced cursor so = advanced_so cursor.answer so

  pub keeps_shut : (cursor : Cursor Q) → HasItsKinds cursor → HasItsKinds (shut cursor)
  keeps_shut cursor so = tt

  -- of the list that is kept, where the one that is seen is changed so
  pub all_so : (becomes : Cursor Q → Cursor Q) (name : List ℕ) (items cursors changed : List (Cursor Q)) → ((c : Cursor Q) → HasItsKinds c → HasItsKinds (becomes c))
      → items ≡ cursors → changed ≡ with_cursor becomes name cursors → All HasItsKinds items → All HasItsKinds changed
  all_so becomes name items cursors changed keeps seen is all =
      subst (All HasItsKinds) (sym is)
      (All-from_recursion HasItsKinds (with_cursor becomes name cursors)
      (all_changed name HasItsKinds becomes cursors keeps (recursion_from_All HasItsKinds cursors (subst (All HasItsKinds) seen all))))
