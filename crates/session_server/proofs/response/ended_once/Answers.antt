use Rattle.std.proofs.Common.{sym}
use Rattle.session_server.proofs.Once.{none_too, once_one, once_short, once_still}
use Rattle.session_server.proofs.response.ended_once.Goals as goal

pub returns-in_err-front-clause-still : goal.returns-in_err-front-clause-still
returns-in_err-front-clause-still c = none_too c.from_residual.result (once_short c.args.tokens.now c.in_err-front.ensures.few)

pub returns-in_err-done-clause-still : goal.returns-in_err-done-clause-still
returns-in_err-done-clause-still c =
    none_too c.from_residual-in_err-done.result (once_still c.args.tokens.now c.in_ok-front.front.now c.in_ok-front.first.now c.in_ok-front.last.now c.in_ok-front.ensures.parts (sym c.in_err-done.ensures.one))

pub returns-clause-once : goal.returns-clause-once
returns-clause-once c = once_one c.args.tokens.now c.in_ok-front.front.now c.in_ok-front.first.now c.in_ok-front.last.now c.in_ok-front.ensures.parts c.in_ok-done.done (sym c.in_ok-done.ensures.one)
