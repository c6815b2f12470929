use Rattle.std.proofs.Common.{ap, ◌∙◌, Bor, option_map}
use Rattle.tsql_tree.specs.declared.definition.TableTree.{TableTree}
use Rattle.clause_binder.specs.Scope as spec
use Rattle.clause_binder.specs.ByName as by
use Rattle.clause_binder.proofs.tables.TablesByName.find.Goals as goal

pub returns-in-Some : goal.returns-in-Some
returns-in-Some c =
    ap (option_map (λ (table : Bor TableTree). table.now)) c.in-Some.ensures.value
    ∙ ap (λ name. by.table_at c.self.inside.first name) c.as_slice.ensures
    ∙ c.self.invariant c.args.name.now
    ∙ ap (spec.table_of c.args.name.now) c.self.view_is
