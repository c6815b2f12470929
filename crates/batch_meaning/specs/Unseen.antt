-- Transact-SQL reference, "SET IMPLICIT_TRANSACTIONS": what begins a transaction where none is open, before it does anything else, as by a BEGIN
-- TRANSACTION that is not seen: these statements, and the definition of a procedure or trigger, which is a batch by itself. Own: a SELECT does where it has a
-- FROM, whatever its inner queries name; of other statements inner queries begin none.
use Rattle.std.specs.Prelude.{◌&&◌, not, is_some, Bool, true, false}
use Rattle.tsql_tree.specs.declared.query.Select.{out-Select}
use Rattle.tsql_tree.specs.declared.statement.Form.{Form-F}
use Rattle.binder.specs.Names.{Layer}
use Rattle.batch_meaning.specs.Progress.{SessionProgress}

-- a statement of this form does
abbrev pub begins_unseen : Layer → Bool
begins_unseen (Form-F.Select select) = is_some (out-Select select).from
begins_unseen (Form-F.Insert table columns rows) = true
begins_unseen (Form-F.Update table sets filter) = true
begins_unseen (Form-F.Delete table filter) = true
begins_unseen (Form-F.CreateTable table text) = true
begins_unseen (Form-F.Drop kind name) = true
begins_unseen (Form-F.OpenCursor name) = true
begins_unseen (Form-F.Fetch name variables) = true
begins_unseen (Form-F.BeginTransaction name) = true
begins_unseen form = false

-- the option is on, and no transaction is open
abbrev pub wants_begin : SessionProgress → Bool
wants_begin p = p.settings.implicit && not p.is_open

-- a statement of this form begins it
abbrev pub is_unseen : SessionProgress → Layer → Bool
is_unseen p form = wants_begin p && begins_unseen form
