use Rattle.std.proofs.Common.{ap, ◌∙◌}
use Rattle.clause_binder.specs.declared.scope.Matches.{Matches}
use Rattle.clause_binder.specs.Scope.{found_too}
use Rattle.clause_binder.proofs.ByName.{column_added, sets_at}
use Rattle.clause_binder.proofs.columns.add.Goals as goal

pub returns : goal.returns
returns c =
    column_added c.args.matches.now c.insert.new.self c.as_slice-name.result.now c.and-found.result c.args.place c.args.column.now
    (sets_at c.args.matches.now c.insert.new.self c.as_slice-name.result c.and-found.result c.in_ok-insert.ensures.updates.0)
    c.as_slice-name.ensures
    (c.and-found.ensures ∙ ap (λ (m : Matches). found_too m (record { place = c.args.place; kind = c.args.column.now.kind })) c.matches_at.ensures)
