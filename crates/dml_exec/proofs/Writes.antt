-- What comes of a change, and of a check.
use Rattle.std.proofs.Common.{◌≡◌, ℤ, true, false, inl, inr, List, Option, Some, None, Result, Ok, Err, refl, sym, ap, subst}
use Rattle.value_types.specs.declared.table_name.TableName.{TableName}
use Rattle.value_types.specs.declared.value.Value.{Value}
use Rattle.tsql_tree.specs.declared.definition.TableTree.{TableTree}
use Rattle.step_model.specs.declared.change.Deed.{Deed}
use Rattle.step_model.specs.declared.change.Deed.TheVariants as deed
use Rattle.step_model.specs.declared.change.Planned.{Planned}
use Rattle.step_model.specs.declared.manner.Manner.{Manner}
use Rattle.step_model.specs.declared.op.Op.TheVariants as ops
use Rattle.step_model.specs.declared.reply.Reply.TheVariants.{Exists, Memory}
use Rattle.step_model.specs.Port.{PortPast}
use Rattle.step_model.specs.Dialog.{over, Asks}
use Rattle.constraint_check.specs.declared.check_read.CheckRead.{CheckRead}
use Rattle.dml_exec.specs.declared.written.Halt.{Halt}
use Rattle.dml_exec.specs.Asking.{with_room}
use Rattle.dml_exec.specs.Indexes.{TellsThere}
use Rattle.dml_exec.specs.Writing.{IsOrNoRoom, asks_deed, broken, broken_by, done_by, no_room, present, writes_one}
use Rattle.dml_exec.proofs.Held.{asks_over, asks_room, asks_then, asks_untried}

module _ {now : PortPast} {manner : Manner} where
  -- there was no memory to ask a change
  pub deed_untried : (table : TableName) (key : List Value) (deed : Deed) → Asks now now manner (asks_deed table key deed) Memory
  deed_untried table key deed.Erase = asks_untried (ops.Erase table key) tt over (asks_over refl)
  deed_untried table key (deed.Replace row) = asks_untried (ops.Replace table key row) tt over (asks_over refl)
  deed_untried table key (deed.Insert row) = asks_untried (ops.Insert table key row) tt over (asks_over refl)

  -- this is why, or there was no memory to say it
  pub told_why : {A : Type 0} (why halt : Halt) → IsOrNoRoom why halt → Asks now now manner (with_room {A = A} no_room (over (Err why))) (Err halt)
  told_why why halt (inl is) = asks_room true _ (asks_over (ap Err is))
  told_why why halt (inr is) = asks_room false _ (asks_over (ap Err is))

  -- a change for which there is no memory
  pub one_unwritten : (shapes : List TableTree) (change : Planned) → Asks now now manner (writes_one shapes change) (Err no_room)
  unfolding writes_one
  one_unwritten shapes change = asks_then (asks_deed change.table change.key change.deed) (done_by shapes change) (deed_untried change.table change.key change.deed) (asks_over refl)

  -- an insertion where a row is there
  pub there_told : (shapes : List TableTree) (change : Planned) (result : Result (Unit {0}) Halt) → TellsThere shapes change result → Asks now now manner (done_by shapes change Exists) result
  there_told shapes change (Ok done) told = rw told (asks_over refl)
  there_told shapes change (Err halt) told = rw told.0 (told_why (present shapes change.table change.key) halt told.1)

  -- a check holds, or not
  pub check_holds : (read : CheckRead) (judged : Option ℤ) → judged ≡ None → Asks now now manner (broken_by read judged) (Ok tt)
  check_holds read None is = asks_over refl
  check_holds read (Some number) is = absurd (cc)

  pub check_breaks : (read : CheckRead) (judged : Option ℤ) (number : ℤ) (halt : Halt) → judged ≡ Some number → IsOrNoRoom (broken number read.name) halt → Asks now now manner (broken_by read judged) (Err halt)
  check_breaks read None number halt is why = absurd (cc)
  check_breaks read (Some other) number halt is why =
      let same : other ≡ number = cc in
      told_why (broken other read.name) halt (subst (λ n. IsOrNoRoom (broken n read.name) halt) (sym same) why)
