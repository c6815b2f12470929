use Rattle.std.proofs.Common.{◌≡◌, sym, ap, ◌∙◌, subst}
use Rattle.std.specs.Option.{unwrap_or}
use Rattle.turn_desk.specs.Rule.{KeptAtEnd}
use Rattle.turn_desk.proofs.Closing.{ends}
use Rattle.turn_desk.proofs.desk.take_machine.Goals as goal

pub unreachable-requires : goal.unreachable-requires
unreachable-requires g c =
    let M = g.M.Machine in
    let key = c.args.table.shared.key in
    let e = ends M.story M.knows M.within (M.story key.machine.value) key.seats c.args.token.id c.args.token.me.0 _ _ c.take-machine.result
    c.requires.all.0 c.requires.all.1 c.take-machine.ensures.value c.close_with-closed.ensures.values.2 in
    c.in_default.not-Some e.0 e.1

pub returns : goal.returns
returns g c =
    let M = g.M.Machine in
    let key = c.args.table.shared.key in
    let e = ends M.story M.knows M.within (M.story key.machine.value) key.seats c.args.token.id c.args.token.me.0 _ _ c.take-machine.result
    c.requires.all.0 c.requires.all.1 c.take-machine.ensures.value c.close_with-closed.ensures.values.2 in
    let same : e.0 ≡ c.into_machine.result = ap (λ o. unwrap_or o e.0) (sym e.1 ∙ c.in-Some.is) ∙ sym c.into_machine.ensures in
    subst (λ m. KeptAtEnd M.story M.knows M.within m key.seats c.args.token.me.0) same e.2
