-- What a write plans keeps a database firm.
use Rattle.std.proofs.Common.{◌≡◌, sym, ap, ◌∙◌, subst, List, length, Option, Some, Ok}
use Rattle.std.specs.List.{AllByRecursion}
use Rattle.value_types.specs.declared.table_name.TableName.{TableName}
use Rattle.tsql_tree.specs.declared.definition.TableTree.{TableTree}
use Rattle.tsql_tree.specs.Places.{key_places}
use Rattle.bound_tree.specs.declared.write.BoundWrite.{BoundWrite}
use Rattle.step_model.specs.declared.change.Planned.{Planned}
use Rattle.step_model.specs.Database.{Database}
use Rattle.step_model.specs.Own.{own_changes}
use Rattle.constraint_check.specs.Integrity.{IsKept}
use Rattle.table_rows.specs.Rows.{rows_table, shape_of}
use Rattle.constraint_check.specs.Laws.{behind}
use Rattle.constraint_check.proofs.Lists.{all_more}
use Rattle.dml_exec.specs.declared.rewritten.Rewritten.{Rewritten}
use Rattle.dml_exec.specs.Filling.{Row}
use Rattle.dml_exec.specs.Planning.{Chg, all_changes, rewritten, table_written}
use Rattle.write_laws.specs.Once.{KeyFits}
use Rattle.write_laws.specs.Reads.{RowsFit}
use Rattle.batch_meaning.specs.Progress.{SessionProgress, system_in, values_of}
use Rattle.batch_meaning.specs.Raised.{Around}
use Rattle.write_laws.specs.Planning.{HaveColumns, rows_before}
use Rattle.write_laws.proofs.OwnPlans.{own_made}
use Rattle.write_laws.proofs.Planned.{planned_fits, planned_kept, shape_named}
use Rattle.write_laws.specs.Sound.{IsTableOf, Firm}
use Rattle.write_laws.specs.Keeping.{AreReady, AreTables, tests_of}
use Rattle.write_laws.specs.Plans.{IsPlanned, PlannedReadable, FirmPlanned, UntriggeredPlanned}
use Rattle.write_laws.proofs.Plans.{IsChg, Makes, chg_of, keys_long, made_of}
use Rattle.write_laws.proofs.Written.{firm_written, stays, tables_ready, tests_bound, untriggered_written}

module _ (around : Around) (p : SessionProgress) (db : Database) (named : List TableTree) (of : BoundWrite) (images : List (List Row)) (planned : List Planned) (firm : Firm db) (is : IsPlanned around p db named of images planned) where
  pub plan : IsChg around p named of images planned
  plan = chg_of around p named of images planned is.plans

  abbrev pub shape : TableTree
  shape = plan.0

  pub defined : IsTableOf db shape
  defined = is.defined shape plan.1

  pub table_is : table_written of ≡ rows_table shape.name
  table_is = shape_named (table_written of) named shape plan.1

  pub chg : Chg (values_of p.vars) (system_in around p) shape (tests_of shape) of images ≡ Ok planned
  chg = plan.2 (tests_of shape) (tests_bound db firm shape defined)

  pub columns : HaveColumns shape (rows_before of images)
  columns = is.read shape plan.1

  -- what is planned for its own rows
  abbrev own : List Planned
  own = own_changes planned

  made : Makes (table_written of) shape planned (rewritten (values_of p.vars) (system_in around p) shape of images)
  made = made_of (values_of p.vars) (system_in around p) shape (tests_of shape) of images planned chg

  pub plan_made : (came : Rewritten) × (planned ≡ all_changes (rows_table shape.name) shape came)
  plan_made = (made.0, made.2 ∙ ap (λ (t : TableName). all_changes t shape made.0) table_is)

  abbrev IsLong : Planned → Type 0
  IsLong change = (change.table ≡ rows_table shape.name) × (length change.key ≡ length (key_places (Some shape)))

  long : AllByRecursion IsLong own
  long = subst (AllByRecursion IsLong) (sym (own_made (table_written of) shape planned made.0 table_is made.2)) (keys_long (rows_table shape.name) (key_places (Some shape)) made.0)

  of_table : AllByRecursion (λ change. change.table ≡ rows_table shape.name) own
  of_table = all_more IsLong (λ change. change.table ≡ rows_table shape.name) (λ change h. h.0) own long

  module _ (shapes : List TableTree) (tables : AreTables db shapes) where
    pub ready : AreReady db shapes shape
    ready = tables_ready db shapes shape firm tables defined

    pub known : shape_of (table_written of) shapes ≡ Some shape
    known = ap (λ (t : TableName). shape_of t shapes) table_is ∙ ready.known

    pub keys_fit : AllByRecursion (KeyFits shapes) own
    keys_fit = all_more IsLong (KeyFits shapes) (λ change h. h.1 ∙ ap (λ (o : Option TableTree). length (key_places o)) (sym (ap (λ (t : TableName). shape_of t shapes) h.0 ∙ ready.known))) own long

pub planned_readable : PlannedReadable
planned_readable around p db shapes named of images planned firm tables is =
    let all = ready around p db named of images planned firm is shapes tables in
    record {
      keys = keys_fit around p db named of images planned firm is shapes tables;
      parents = all.parents;
      rows = planned_fits db shapes (values_of p.vars) (system_in around p) (shape around p db named of images planned firm is) (tests_of (shape around p db named of images planned firm is)) of images planned
          (all_more (λ table. IsKept db table (tests_of table)) (RowsFit db) (λ table kept. kept.fits) shapes all.kept) all.one_name
          (known around p db named of images planned firm is shapes tables) (columns around p db named of images planned firm is) (chg around p db named of images planned firm is);
      each = all.one_name;
      defined = all_more (IsTableOf db) (IsTableOf (behind db (own_changes planned))) (stays db (shape around p db named of images planned firm is) (own_changes planned) firm (defined around p db named of images planned firm is) (of_table around p db named of images planned firm is))
          shapes tables.defined;
    }

pub firm_planned : FirmPlanned
firm_planned around p db shapes named of images planned firm tables is passes =
    let all = ready around p db named of images planned firm is shapes tables in
    firm_written db shapes (shape around p db named of images planned firm is) (own_changes planned) firm tables (defined around p db named of images planned firm is) (of_table around p db named of images planned firm is)
    (planned_kept db tests_of shapes (values_of p.vars) (system_in around p) (shape around p db named of images planned firm is) of images planned all.kept (record {
      one_key = firm.one_key;
      one_name = all.one_name;
      known = known around p db named of images planned firm is shapes tables;
      parents_known = all.parents_known;
      passes = passes;
    }) (columns around p db named of images planned firm is) (chg around p db named of images planned firm is))

pub untriggered_planned : UntriggeredPlanned
untriggered_planned around p db named of images planned firm none is =
    untriggered_written db (shape around p db named of images planned firm is) (own_changes planned) firm (defined around p db named of images planned firm is) (of_table around p db named of images planned firm is) none
