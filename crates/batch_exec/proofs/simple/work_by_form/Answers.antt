use Rattle.std.proofs.Common.{refl}
use Rattle.statement_exec.proofs.Beginning.{begins_left, commits_left, drops_left, opens_left, rolls_left, saves_left, table_left, works_left}
use Rattle.statement_exec.proofs.Forms.{is_BeginTransaction, is_CloseCursor, is_Commit, is_CreateTable, is_Deallocate, is_DeclareCursor, is_Drop, is_Fetch, is_OpenCursor, is_Rollback, is_Save, is_Use}
use Rattle.session_state.proofs.Stepping.{does_stepped}
use Rattle.batch_exec.proofs.Worked.{does_effect, does_worked, none_sets}
use Rattle.batch_exec.proofs.simple.work_by_form.Goals as goal

pub returns-in-BeginTransaction-clause-does : goal.returns-in-BeginTransaction-clause-does
returns-in-BeginTransaction-clause-does g c = does_effect _ _ _ (is_BeginTransaction _ _ c.in-BeginTransaction.is) (rw c.as_ref.ensures.value at c.begin_transaction.ensures.does)

pub returns-in-Commit-clause-does : goal.returns-in-Commit-clause-does
returns-in-Commit-clause-does g c = does_effect _ _ _ (is_Commit _ _ c.in-Commit.is) (rw c.as_ref-in-Commit.ensures.value at c.commit_transaction.ensures.does)

pub returns-in-Rollback-clause-does : goal.returns-in-Rollback-clause-does
returns-in-Rollback-clause-does g c = does_effect _ _ _ (is_Rollback _ _ c.in-Rollback.is) (rw c.as_ref-in-Rollback.ensures.value at c.roll_back_transaction.ensures.does)

pub returns-in-Save-clause-does : goal.returns-in-Save-clause-does
returns-in-Save-clause-does g c = does_effect _ _ _ (is_Save _ _ c.in-Save.is) (c.save_transaction.ensures.does)

pub returns-in-Drop-clause-does : goal.returns-in-Drop-clause-does
returns-in-Drop-clause-does g c = does_effect _ _ _ (is_Drop _ _ _ c.in-Drop.is) (c.drop_object.ensures.does)

pub returns-in-CreateTable-clause-does : goal.returns-in-CreateTable-clause-does
returns-in-CreateTable-clause-does g c = does_effect _ _ _ (is_CreateTable _ _ _ c.in-CreateTable.is) (rw c.get.ensures at c.create_table.ensures.does)

pub returns-in-DeclareCursor-clause-does : goal.returns-in-DeclareCursor-clause-does
returns-in-DeclareCursor-clause-does g c = does_effect _ _ _ (is_DeclareCursor _ _ _ c.in-DeclareCursor.is) (does_stepped (rw c.get-in-DeclareCursor.ensures at c.declare_cursor.ensures.came))

pub returns-in-OpenCursor-clause-does : goal.returns-in-OpenCursor-clause-does
returns-in-OpenCursor-clause-does g c = does_effect _ _ _ (is_OpenCursor _ _ c.in-OpenCursor.is) (c.open_cursor.ensures.does)

pub returns-in-Fetch-clause-does : goal.returns-in-Fetch-clause-does
returns-in-Fetch-clause-does g c = does_effect _ _ _ (is_Fetch _ _ _ c.in-Fetch.is) (does_stepped (rw c.as_slice.ensures at c.fetch.ensures.came))

pub returns-in-CloseCursor-clause-does : goal.returns-in-CloseCursor-clause-does
returns-in-CloseCursor-clause-does g c = does_effect _ _ _ (is_CloseCursor _ _ c.in-CloseCursor.is) (does_stepped c.close_cursor.ensures.came)

pub returns-in-Deallocate-clause-does : goal.returns-in-Deallocate-clause-does
returns-in-Deallocate-clause-does g c = does_effect _ _ _ (is_Deallocate _ _ c.in-Deallocate.is) (does_stepped c.remove_cursor.ensures.came)

pub returns-in-Use-clause-does : goal.returns-in-Use-clause-does
returns-in-Use-clause-does g c = does_effect _ _ _ (is_Use _ _ c.in-Use.is) (does_stepped c.use_database.ensures.came)

pub returns-in_default-clause-does : goal.returns-in_default-clause-does
returns-in_default-clause-does g c = does_worked _ _ c.args.statement.now.form refl (c.in_default.not-BeginTransaction, c.in_default.not-Commit, c.in_default.not-Rollback, c.in_default.not-Save, c.in_default.not-Drop, c.in_default.not-CreateTable, c.in_default.not-DeclareCursor, c.in_default.not-OpenCursor, c.in_default.not-Fetch, c.in_default.not-CloseCursor, c.in_default.not-Deallocate, c.in_default.not-Use) c.work.ensures.does

pub returns-in-BeginTransaction-clause-left : goal.returns-in-BeginTransaction-clause-left
returns-in-BeginTransaction-clause-left g c = begins_left _ _ c.begin_transaction.ensures.does

pub returns-in-Commit-clause-left : goal.returns-in-Commit-clause-left
returns-in-Commit-clause-left g c = commits_left _ c.commit_transaction.ensures.does

pub returns-in-Rollback-clause-left : goal.returns-in-Rollback-clause-left
returns-in-Rollback-clause-left g c = rolls_left _ c.roll_back_transaction.ensures.does

pub returns-in-Save-clause-left : goal.returns-in-Save-clause-left
returns-in-Save-clause-left g c = saves_left _ _ c.save_transaction.ensures.does

pub returns-in-Drop-clause-left : goal.returns-in-Drop-clause-left
returns-in-Drop-clause-left g c = drops_left _ _ _ _ c.drop_object.ensures.does

pub returns-in-CreateTable-clause-left : goal.returns-in-CreateTable-clause-left
returns-in-CreateTable-clause-left g c = table_left _ _ _ _ c.create_table.ensures.does

pub returns-in-OpenCursor-clause-left : goal.returns-in-OpenCursor-clause-left
returns-in-OpenCursor-clause-left g c = opens_left _ _ _ c.open_cursor.ensures.does

pub returns-in_default-clause-left : goal.returns-in_default-clause-left
returns-in_default-clause-left g c = works_left _ _ c.work.ensures.does

pub returns-in-BeginTransaction-clause-fits : goal.returns-in-BeginTransaction-clause-fits
returns-in-BeginTransaction-clause-fits g c = none_sets _ _ c.begin_transaction.ensures.none

pub returns-in-Commit-clause-fits : goal.returns-in-Commit-clause-fits
returns-in-Commit-clause-fits g c = none_sets _ _ c.commit_transaction.ensures.none

pub returns-in-Rollback-clause-fits : goal.returns-in-Rollback-clause-fits
returns-in-Rollback-clause-fits g c = none_sets _ _ c.roll_back_transaction.ensures.none

pub returns-in-Save-clause-fits : goal.returns-in-Save-clause-fits
returns-in-Save-clause-fits g c = none_sets _ _ c.save_transaction.ensures.none

pub returns-in-Drop-clause-fits : goal.returns-in-Drop-clause-fits
returns-in-Drop-clause-fits g c = none_sets _ _ c.drop_object.ensures.none

pub returns-in-CreateTable-clause-fits : goal.returns-in-CreateTable-clause-fits
returns-in-CreateTable-clause-fits g c = none_sets _ _ c.create_table.ensures.none

pub returns-in-DeclareCursor-clause-fits : goal.returns-in-DeclareCursor-clause-fits
returns-in-DeclareCursor-clause-fits g c = none_sets _ _ c.declare_cursor.ensures.none

pub returns-in-OpenCursor-clause-fits : goal.returns-in-OpenCursor-clause-fits
returns-in-OpenCursor-clause-fits g c = none_sets _ _ c.open_cursor.ensures.none

pub returns-in-CloseCursor-clause-fits : goal.returns-in-CloseCursor-clause-fits
returns-in-CloseCursor-clause-fits g c = none_sets _ _ c.close_cursor.ensures.none

pub returns-in-Deallocate-clause-fits : goal.returns-in-Deallocate-clause-fits
returns-in-Deallocate-clause-fits g c = none_sets _ _ c.remove_cursor.ensures.none

pub returns-in-Use-clause-fits : goal.returns-in-Use-clause-fits
returns-in-Use-clause-fits g c = none_sets _ _ c.use_database.ensures.none
