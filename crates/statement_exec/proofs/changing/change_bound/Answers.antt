use Rattle.std.proofs.Common.{◌≡◌, sym, ap, ◌∙◌}
use Rattle.bound_tree.specs.declared.write.Bound.TheVariants as bound
use Rattle.batch_meaning.specs.Working.{given_in}
use Rattle.statement_exec.specs.Selected.{asks_bound}
use Rattle.statement_exec.proofs.Changes.{does_changing, does_nameless, does_unchanging}
use Rattle.statement_exec.proofs.changing.change_bound.Goals as goal

pub change_rows-requires-clause-begun : goal.change_rows-requires-clause-begun
change_rows-requires-clause-begun g c = c.requires.begun (ap (asks_bound (given_in c.args.around.now.fired)) c.in-Write.is)

pub returns-then-is_empty-clause-does : goal.returns-then-is_empty-clause-does
returns-then-is_empty-clause-does g c = does_nameless c.args.around.now c.args.shapes c.args.of.now (rw c.as_slice.ensures at c.if-is_empty.ensures) c.plain.ensures

pub returns-in-Write-clause-does : goal.returns-in-Write-clause-does
returns-in-Write-clause-does g c = does_changing c.args.around.now c.args.shapes c.args.of.now _ (rw c.as_slice.ensures at c.if-is_empty.ensures) c.in-Write.is c.change_rows.ensures.does

pub returns-in-Write-clause-kept : goal.returns-in-Write-clause-kept
returns-in-Write-clause-kept g c = c.change_rows.ensures.begun ∙ sym (c.requires.begun (ap (asks_bound (given_in c.args.around.now.fired)) c.in-Write.is))

pub returns-in-Query-clause-does : goal.returns-in-Query-clause-does
returns-in-Query-clause-does g c = does_unchanging c.args.around.now c.args.shapes c.args.of.now (λ write is. let no : bound.Query c.in-Query.field-0 ≡ bound.Write write = sym c.in-Query.is ∙ is in cc) c.plain-in-Query.ensures

pub returns-in-Assign-clause-does : goal.returns-in-Assign-clause-does
returns-in-Assign-clause-does g c = does_unchanging c.args.around.now c.args.shapes c.args.of.now (λ write is. let no : bound.Assign c.in-Assign.field-0 c.in-Assign.field-1 ≡ bound.Write write = sym c.in-Assign.is ∙ is in cc) c.plain-in-Assign.ensures

pub returns-in-Plain-clause-does : goal.returns-in-Plain-clause-does
returns-in-Plain-clause-does g c = does_unchanging c.args.around.now c.args.shapes c.args.of.now (λ write is. let no : bound.Plain ≡ bound.Write write = sym c.in-Plain.is ∙ is in cc) c.plain-in-Plain.ensures
