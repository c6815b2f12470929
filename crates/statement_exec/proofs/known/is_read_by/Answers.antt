use Rattle.std.proofs.Common.{ap, sym, ◌∙◌}
use Rattle.binder.specs.Names.{Layer}
use Rattle.batch_meaning.specs.Working.{is_read_by}
use Rattle.statement_exec.proofs.Forms.{is_CreateTable, is_Delete, is_Drop, is_Execute, is_Insert, is_Update}
use Rattle.statement_exec.proofs.FormsRead.{reads_other}
use Rattle.statement_exec.proofs.known.is_read_by.Goals as goal

pub returns-in-Insert : goal.returns-in-Insert
returns-in-Insert c = c.is_other.ensures ∙ sym (ap (λ (l : Layer). is_read_by l c.args.name.now) (is_Insert _ _ _ _ c.in-Insert.is))

pub returns-in-Update : goal.returns-in-Update
returns-in-Update c = c.is_other-in-Update.ensures ∙ sym (ap (λ (l : Layer). is_read_by l c.args.name.now) (is_Update _ _ _ _ c.in-Update.is))

pub returns-in-Delete : goal.returns-in-Delete
returns-in-Delete c = c.is_other-in-Delete.ensures ∙ sym (ap (λ (l : Layer). is_read_by l c.args.name.now) (is_Delete _ _ _ c.in-Delete.is))

pub returns-in-CreateTable : goal.returns-in-CreateTable
returns-in-CreateTable c = sym (ap (λ (l : Layer). is_read_by l c.args.name.now) (is_CreateTable _ _ _ c.in-CreateTable.is))

pub returns-in-Drop : goal.returns-in-Drop
returns-in-Drop c = sym (ap (λ (l : Layer). is_read_by l c.args.name.now) (is_Drop _ _ _ c.in-Drop.is))

pub returns-in-Execute : goal.returns-in-Execute
returns-in-Execute c = sym (ap (λ (l : Layer). is_read_by l c.args.name.now) (is_Execute _ _ _ _ c.in-Execute.is))

pub returns-in_default : goal.returns-in_default
returns-in_default c = reads_other _ _ c.in_default.not-Insert c.in_default.not-Update c.in_default.not-Delete c.in_default.not-CreateTable c.in_default.not-Drop c.in_default.not-Execute
