use Rattle.std.proofs.Common.{ap, sym, ◌∙◌, Some, None}
use Rattle.std.specs.Prelude.{if◌then◌else◌, position}
use Rattle.clause_binder.specs.Scope.{has_name}
use Rattle.clause_binder.specs.ByName.{or_place, place_at}
use Rattle.clause_binder.proofs.ByName.{alias_more}
use Rattle.clause_binder.proofs.aliases.Aliases.with.Goals as goal

pub invariant_of-result : goal.invariant_of-result
invariant_of-result c name =
    alias_more c.self.inside.first c.add_alias.new.first c.self.inside.all c.args.alias c.self.invariant
    (λ q. c.in_ok-add_alias.ensures q ∙ ap (λ n. or_place (place_at c.self.inside.first q) (if has_name q c.args.alias then Some n else None)) c.len.ensures)
    name
    ∙ ap (position (has_name name)) (sym c.in_ok-push.ensures.ok)
