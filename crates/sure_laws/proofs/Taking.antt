-- The rows that a write takes were fetched for it, so they are sure; and so is all that it plans of its table's own rows.
use Rattle.std.proofs.Common.{◌≡◌, inl, inr, ℕ, Bool, true, false, not, ◌&&◌, List, [], ◌∷◌, ◌++◌, Some, None, sym, ap, ◌∙◌, subst}
use Rattle.std.specs.Prelude.{IsTrue}
use Rattle.std.specs.List.{AllByRecursion}
use Rattle.std.specs.Ordering.{is_eq}
use Rattle.std.specs.Cmp.{tied_itself}
use Rattle.lock_modes.specs.declared.KeyPart.TheVariants.{U}
use Rattle.value_types.specs.declared.table_name.TableName.{TableName}
use Rattle.value_types.specs.declared.value.Value.{Value}
use Rattle.value_types.specs.Order.{key_cmp, table_cmp}
use Rattle.value_types.specs.OrderLaws.{table_cmp_total}
use Rattle.tsql_tree.specs.declared.definition.TableTree.{TableTree}
use Rattle.tsql_tree.specs.Places.{key_places}
use Rattle.bound_tree.specs.declared.write.BoundWrite.{BoundWrite}
use Rattle.step_model.specs.declared.change.Planned.{Planned}
use Rattle.step_model.specs.declared.manner.Manner.{Manner}
use Rattle.step_model.specs.declared.op.Op.{Op}
use Rattle.step_model.specs.declared.op.Op.TheVariants as ops
use Rattle.step_model.specs.declared.range.Start.{Start}
use Rattle.step_model.specs.declared.range.Stop.{Stop}
use Rattle.step_model.specs.declared.reply.Reply.{Reply}
use Rattle.step_model.specs.declared.reply.Reply.TheVariants.{Row as IsRow}
use Rattle.step_model.specs.declared.resource.Span.TheVariants.{Statement}
use Rattle.step_model.specs.Exchange.{Exchange}
use Rattle.step_model.specs.Own.{is_insert, is_own}
use Rattle.step_model.specs.Sure.{MakesSure, sure_from, sure_after}
use Rattle.index_laws.specs.Deeds.{deeds_by, rows_added, rows_gone, rows_set}
use Rattle.index_laws.specs.Laws.{OldsApart, itself, never}
use Rattle.index_laws.specs.Parts.{Among, RowChange}
use Rattle.table_rows.specs.Rows.{key_of, rows_table, shape_of}
use Rattle.dml_exec.specs.declared.refusal.Level.{Level}
use Rattle.dml_exec.specs.declared.refusal.Level.TheVariants.{ReadCommitted, Serializable}
use Rattle.dml_exec.specs.declared.rewritten.Rewritten.{Rewritten}
use Rattle.dml_exec.specs.declared.rewritten.Rewritten.TheVariants.{Inserted, Set, Erased}
use Rattle.dml_exec.specs.Filling.{Row}
use Rattle.dml_exec.specs.Planning.{all_changes, index_deeds, is_asked, is_same_row, row_changes_of, table_written}
use Rattle.dml_exec.specs.Reading.{hold_at}
use Rattle.statement_paths.specs.Asked.{AskOnly, IsFetch}
use Rattle.write_laws.specs.Rewrites.{AreTaken, IsPlanOf, IsTaken, rows_taken}
use Rattle.write_laws.specs.Told.{TargetTold, WasTold}
use Rattle.write_laws.proofs.Planned.{shape_named}
use Rattle.write_laws.proofs.Rewrites.{changes_are_deeds, taken_apart}
use Rattle.write_laws.proofs.Taken.{plan_taken}
use Rattle.sure_laws.specs.Asked.{IsSureAt, none_sure}
use Rattle.sure_laws.proofs.Sures.{fetches_leave, sure_behind, sure_both, sure_last}
use Rattle.sure_laws.proofs.Writing.{AreSpared, Takes}
use Rattle.sure_laws.proofs.Attempting.{OthersReady}
use Rattle.index_laws.proofs.Behind.{all_both, all_more}
use Rattle.sure_laws.proofs.Spared.{all_spared, deeds_of, deeds_spared, parts_named, parts_on}

-- ---- rows that were told

fetch_behind : (front : List Exchange) (fetch : Exchange) (behind : List Exchange) → AskOnly IsFetch (front ++ fetch ∷ behind) → AskOnly IsFetch behind
fetch_behind [] fetch behind all = all.1
fetch_behind (x ∷ front) fetch behind all = fetch_behind front fetch behind all.1

makes_sure : (level : Level) (table : TableName) (start : Start) (stop : Stop) (own row : List Value) (number : ℕ) (t : TableName) (key : List Value) → IsTrue (is_eq (table_cmp t table)) → IsTrue (is_eq (key_cmp key own))
    → MakesSure (ops.Fetch table start stop (hold_at level) U) (IsRow own row number) Statement t key
makes_sure ReadCommitted table start stop own row number t key one other = (one, other)
makes_sure Serializable table start stop own row number t key one other = (one, other)

-- one that was told by a fetch of its level with U is sure
told_sure : (part : List Exchange) (level : Level) (table : TableName) (stop : Stop) (at : List Value × List Value) (t : TableName) (key : List Value) → AskOnly IsFetch part → WasTold part table stop (hold_at level) U at
    → IsTrue (is_eq (table_cmp t table)) → IsTrue (is_eq (key_cmp key at.0)) → sure_from none_sure part Statement t key
told_sure part level table stop at t key fetch was one other =
    subst (λ (l : List Exchange). sure_from none_sure l Statement t key) (sym was.split)
    (sure_both none_sure was.front (was.fetch ∷ was.behind) Statement t key
    (fetches_leave was.behind (sure_after (sure_from none_sure was.front) was.fetch.op was.fetch.reply) Statement t key
    (fetch_behind was.front was.fetch was.behind (subst (AskOnly IsFetch) was.split fetch))
    (inl (subst (λ (op : Op). MakesSure op was.fetch.reply Statement t key) (sym was.asked)
    (subst (λ (reply : Reply). MakesSure (ops.Fetch table was.start stop (hold_at level) U) reply Statement t key) (sym was.told) (makes_sure level table was.start stop at.0 at.1 was.number t key one other))))))

-- ---- rows that a write takes

-- a row as it was is one that is taken
old_taken : (P : Row → Type 0) (rows : Rewritten) → AllByRecursion P (rows_taken rows) → (change : RowChange) (row : Row) → Among (λ (other : RowChange). other ≡ change) (row_changes_of rows) → change.old ≡ Some row → P row
old_taken P (Inserted rows) all change row among is = added rows among
  where
    added : (rows : List Row) → Among (λ (other : RowChange). other ≡ change) (rows_added rows) → P row
    added [] none = absurd none
    added (r ∷ rows) (inl here) = absurd (let no : None ≡ Some row = ap (λ (c : RowChange). c.old) here ∙ is in cc)
    added (r ∷ rows) (inr later) = added rows later
old_taken P (Set olds news) all change row among is = set olds news all among
  where
    set : (olds news : List Row) → AllByRecursion P olds → Among (λ (other : RowChange). other ≡ change) (rows_set olds news) → P row
    set [] news all none = absurd none
    set (old ∷ olds) [] all none = absurd none
    set (old ∷ olds) (new ∷ news) all (inl here) = let same : Some old ≡ Some row = ap (λ (c : RowChange). c.old) here ∙ is in let one : old ≡ row = cc in subst P one all.0
    set (old ∷ olds) (new ∷ news) all (inr later) = set olds news all.1 later
old_taken P (Erased rows) all change row among is = gone rows all among
  where
    gone : (rows : List Row) → AllByRecursion P rows → Among (λ (other : RowChange). other ≡ change) (rows_gone rows) → P row
    gone [] all none = absurd none
    gone (old ∷ rows) all (inl here) = let same : Some old ≡ Some row = ap (λ (c : RowChange). c.old) here ∙ is in let one : old ≡ row = cc in subst P one all.0
    gone (old ∷ rows) all (inr later) = gone rows all.1 later

-- what is asked of index rows is asked for
index_asked : (change : Planned) → is_own change ≡ false → Takes change → is_asked change ≡ true
index_asked change own takes = ap (λ (b : Bool). not b && not (is_insert change.deed)) own ∙ ap not takes

module _ (manner : Manner) (shape : TableTree) (level : Level) (rows : Rewritten) (before part : List Exchange) (fetch : AskOnly IsFetch part) (taken : AreTaken part level shape rows) where
  abbrev SureRow : Row → Type 0
  SureRow row = IsSureAt (sure_behind manner (before ++ part)) (rows_table shape.name) (key_of shape row)

  row_sure : (row : Row) → IsTaken part taken.range (hold_at level) U shape row → SureRow row
  row_sure row is = (
    Statement,
    sure_last before part Statement (rows_table shape.name) (key_of shape row)
        (told_sure part level taken.range.table taken.range.stop is.0 (rows_table shape.name) (key_of shape row) fetch is.3
        (subst (λ (t : TableName). IsTrue (is_eq (table_cmp (rows_table shape.name) t))) (sym taken.table) (ap is_eq (tied_itself table_cmp_total (rows_table shape.name)))) is.2),
  )

  rows_sure : AllByRecursion SureRow (rows_taken rows)
  rows_sure = all_more (IsTaken part taken.range (hold_at level) U shape) SureRow (rows_taken rows) row_sure taken.told

  abbrev own : List Planned
  own = deeds_by (rows_table shape.name) (key_of shape) itself never (row_changes_of rows)

  abbrev IsReady : Planned → Type 0
  IsReady change = is_asked change ≡ false → Takes change → IsSureAt (sure_behind manner (before ++ part)) change.table change.key

  own_ready : AllByRecursion IsReady own
  own_ready = deeds_of (rows_table shape.name) (key_of shape) itself never IsReady (row_changes_of rows) (λ change deed among is unasked takes.
      let of = is.1 takes in
      subst (λ (t : TableName). IsSureAt (sure_behind manner (before ++ part)) t deed.key) (sym is.0)
      (subst (λ (k : List Value). IsSureAt (sure_behind manner (before ++ part)) (rows_table shape.name) k) (sym of.2) (old_taken SureRow rows rows_sure change of.0 among of.1)))

  own_on : AllByRecursion (λ (deed : Planned). deed.table ≡ rows_table shape.name) own
  own_on = deeds_of (rows_table shape.name) (key_of shape) itself never (λ (deed : Planned). deed.table ≡ rows_table shape.name) (row_changes_of rows) (λ change deed among is. is.0)

  apart : OldsApart (key_of shape) (row_changes_of rows)
  apart = taken_apart shape rows taken.apart

  index_ready : AllByRecursion IsReady (index_deeds shape is_same_row (row_changes_of rows))
  index_ready = all_more (λ (deed : Planned). is_own deed ≡ false) IsReady (index_deeds shape is_same_row (row_changes_of rows))
      (λ deed elsewhere unasked takes. absurd (let no : false ≡ true = sym unasked ∙ index_asked deed elsewhere takes in cc)) (parts_on shape (row_changes_of rows) apart)

  changes_are : all_changes (rows_table shape.name) shape rows ≡ own ++ index_deeds shape is_same_row (row_changes_of rows)
  changes_are = ap (λ (l : List Planned). l ++ index_deeds shape is_same_row (row_changes_of rows)) (changes_are_deeds (rows_table shape.name) (key_places (Some shape)) rows)

  -- so what is planned of them may be asked
  pub changes_ready : AreSpared (all_changes (rows_table shape.name) shape rows) × OthersReady manner (before ++ part) (all_changes (rows_table shape.name) shape rows)
  changes_ready =
      subst (λ (l : List Planned). AreSpared l × OthersReady manner (before ++ part) l) (sym changes_are) (
        all_spared shape (row_changes_of rows) apart own (deeds_spared (rows_table shape.name) (key_of shape) itself never (row_changes_of rows) apart) own_on,
        all_both IsReady own (index_deeds shape is_same_row (row_changes_of rows)) own_ready index_ready,
      )

  pub changes_named : AllByRecursion (λ (change : Planned). change.table.object ≡ shape.name) (all_changes (rows_table shape.name) shape rows)
  changes_named =
      subst (λ (l : List Planned). AllByRecursion (λ (change : Planned). change.table.object ≡ shape.name) l) (sym changes_are)
      (all_both (λ (change : Planned). change.table.object ≡ shape.name) own (index_deeds shape is_same_row (row_changes_of rows))
      (all_more (λ (deed : Planned). deed.table ≡ rows_table shape.name) (λ (change : Planned). change.table.object ≡ shape.name) own (λ deed is. ap (λ (t : TableName). t.object) is) own_on)
      (parts_named shape (row_changes_of rows) apart))

-- of what a write plans
pub plan_ready : (manner : Manner) (vars : List Value) (shapes : List TableTree) (level : Level) (shape : TableTree) (of : BoundWrite) (images : List (List Row)) (planned : List Planned) (before part : List Exchange)
    → shape_of (table_written of) shapes ≡ Some shape → IsPlanOf shape of images planned → AskOnly IsFetch part → TargetTold vars shapes level of part images
    → AreSpared planned × OthersReady manner (before ++ part) planned × AllByRecursion (λ (change : Planned). change.table.object ≡ shape.name) planned
plan_ready manner vars shapes level shape of images planned before part known plan fetch told =
    let taken = plan_taken vars shapes level shape of images planned part known plan told in
    let ready = changes_ready manner shape level plan.rows before part fetch taken in
    let named = changes_named manner shape level plan.rows before part fetch taken in
    let is : planned ≡ all_changes (rows_table shape.name) shape plan.rows = plan.changes ∙ ap (λ (t : TableName). all_changes t shape plan.rows) (shape_named (table_written of) shapes shape known) in
    subst (λ (l : List Planned). AreSpared l × OthersReady manner (before ++ part) l × AllByRecursion (λ (change : Planned). change.table.object ≡ shape.name) l) (sym is) (ready.0, ready.1, named)
