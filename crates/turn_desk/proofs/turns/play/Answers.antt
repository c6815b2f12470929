use Rattle.std.proofs.Common.{rules, ap, ◌∙◌}
use Rattle.std.specs.Prelude.{◌≡◌, [], ◌∷◌, Some}
use Rattle.atomic_table.specs.Table.{rest}
use Rattle.turn_desk.specs.declared.view.View.TheVariants.{LiveSeat}
use Rattle.turn_desk.specs.Views.{past_of}
use Rattle.turn_desk.specs.Moves.{with_step}
use Rattle.turn_desk.proofs.Lists.{one_slot}
use Rattle.turn_desk.proofs.Turning.{leaves_from}
use Rattle.turn_desk.proofs.turns.play.Goals as goal

pub exchange-requires : goal.exchange-requires
exchange-requires g c = let h = c.requires.turn in (search rules, (Some h.0, one_slot c.args.token.now.me.1 (Some h.0) (ap (λ m. m.1) h.1)))

pub store-requires : goal.store-requires
store-requires g c =
    let M = g.M.Machine in
    let key = c.args.table.now.key in
    let h = c.requires.turn in
    let after = c.step-reply.new.self in
    let taken = c.exchange.new.seat.me in
    let q = with_step M.story M.knows M.within (past_of taken.0) c.args.call.now c.step-reply.result after in
    let counted : c.count.new.token.me ≡ (LiveSeat q (Some after), taken.1) = c.count.ensures.counted in
    let bare : rest taken.1 ≡ [] = ap (λ m. rest m.1) c.exchange.ensures.3 ∙ ap (λ m. rest m.1) h.1 in
    let bare_after : rest c.count.new.token.me.1 ≡ [] = ap (λ m. rest m.1) {y = (LiveSeat q (Some after), taken.1)} counted ∙ bare in
    let back = c.exchange-2.ensures.3 ∙ (λ i. ((counted i).0, (0, Some after) ∷ bare_after i)) in (
      search rules,
      search rules,
      leaves_from M.story M.knows M.within (M.story key.machine.value) key.seats _ _ c.exchange-2.new.seat.me q after back,
    )
