use Rattle.std.proofs.Common.{sym, subst}
use Rattle.step_model.specs.Exchange.{MayAsk, IsSession}
use Rattle.engine_core.specs.Machine.{Ask}
use Rattle.shared_port.specs.Asked.{EngineSeat}
use Rattle.shared_port.specs.SharedPort.{IsAtRest, seat_standing}
use Rattle.shared_port.proofs.Goes.{asked_as, asked_goes, asked_replies, asked_sure}
use Rattle.shared_port.proofs.port.SharedPortPort.ask.Goals as goal

pub ask_until-requires-clause-ready : goal.ask_until-requires-clause-ready
ask_until-requires-clause-ready g c = (
  subst IsSession c.number.ensures.number c.number.ensures.range,
  subst (λ (call : Ask). MayAsk (seat_standing c.self.inside.seat) call.op call.manner) (sym c.new-call.ensures)
      (subst (λ (seat : EngineSeat). MayAsk (seat_standing seat) c.args.op.now c.args.manner) (sym c.self.view_is) c.requires.allowed),
)

pub returns-clause-past : goal.returns-clause-past
returns-clause-past g c =
    asked_goes c.args.self.now _ c.ask_until.result c.ask_until.new.seat (asked_as c.self.inside.seat c.args.self.now _ _ c.ask_until.result c.ask_until.new.seat c.self.view_is c.new-call.ensures c.ask_until.ensures)
    (subst IsAtRest c.self.view_is c.self.invariant.1) g.E.Entrance.entry

pub returns-clause-reply : goal.returns-clause-reply
returns-clause-reply g c =
    asked_replies c.args.self.now _ c.ask_until.result c.ask_until.new.seat (asked_as c.self.inside.seat c.args.self.now _ _ c.ask_until.result c.ask_until.new.seat c.self.view_is c.new-call.ensures c.ask_until.ensures)
    (subst IsAtRest c.self.view_is c.self.invariant.1)

pub returns-clause-sure : goal.returns-clause-sure
returns-clause-sure g c =
    asked_sure c.args.self.now _ c.ask_until.result c.ask_until.new.seat (asked_as c.self.inside.seat c.args.self.now _ _ c.ask_until.result c.ask_until.new.seat c.self.view_is c.new-call.ensures c.ask_until.ensures)
    (subst IsAtRest c.self.view_is c.self.invariant.1)
