use Rattle.std.proofs.Common.{◌≡◌, ◌≢◌, ℕ, [], length, Ok, sym, ap, subst, ◌∙◌}
use Rattle.std.proofs.lemmas.Bool.{eqb-true, eqb-false}
use Rattle.std.proofs.lemmas.List.{nil_from_length}
use Rattle.std.proofs.lemmas.Result.{err_from_is_err_and}
use Rattle.rpc_requests.specs.Reading.{Fails}
use Rattle.rpc_requests.specs.Drivers.{driver_parameter_at}
use Rattle.rpc_requests.proofs.DriverLoop.{all_at, goes_on, ends, is_done}
use Rattle.rpc_requests.proofs.drivers.driver_parameters_at.Goals as goal

pub returns-in_err-parameter : goal.returns-in_err-parameter
returns-in_err-parameter c =
    let p = err_from_is_err_and c.from_residual.result c.from_residual.ensures.1 in
    let rest = c.loop-rest.rest.now in
    let some : rest ≢ [] = λ none. eqb-false (length rest) 0 (sym c.is_empty.ensures ∙ c.loop-rest-test.true) (ap length none) in
    let refused = subst (λ (most : ℕ). Fails c.in_err-parameter.field-0.0 (driver_parameter_at most rest)) c.most_at.ensures c.in_err-parameter.ensures in
    rw (p.1, p.2) (ends c.in_err-parameter.field-0.0 c.loop-rest.left c.args.size c.loop-rest.parameters.items rest (all_at c.args.ahead c.args.size c.args.bytes.now) some refused c.loop-rest.invariant)

pub loop-rest-smaller : goal.loop-rest-smaller
loop-rest-smaller c =
    let rest = c.loop-rest.rest.now in
    let some : rest ≢ [] = λ none. eqb-false (length rest) 0 (sym c.is_empty.ensures ∙ c.loop-rest-test.true) (ap length none) in
    let read = subst (λ (most : ℕ). driver_parameter_at most rest ≡ Ok (c.in_ok-parameter.parameter, c.in_ok-parameter.behind.now)) c.most_at.ensures c.in_ok-parameter.ensures in
    (goes_on c.loop-rest.left c.args.size c.loop-rest.parameters.items rest c.in_ok-parameter.parameter c.in_ok-parameter.behind.now (all_at c.args.ahead c.args.size c.args.bytes.now) some read c.loop-rest.invariant).1

pub loop-rest-preserved : goal.loop-rest-preserved
loop-rest-preserved c =
    let rest = c.loop-rest.rest.now in
    let some : rest ≢ [] = λ none. eqb-false (length rest) 0 (sym c.is_empty.ensures ∙ c.loop-rest-test.true) (ap length none) in
    let read = subst (λ (most : ℕ). driver_parameter_at most rest ≡ Ok (c.in_ok-parameter.parameter, c.in_ok-parameter.behind.now)) c.most_at.ensures c.in_ok-parameter.ensures in
    rw (c.in_ok-push.ensures.items, c.saturating_sub-left.ensures)
    (goes_on c.loop-rest.left c.args.size c.loop-rest.parameters.items rest c.in_ok-parameter.parameter c.in_ok-parameter.behind.now (all_at c.args.ahead c.args.size c.args.bytes.now) some read c.loop-rest.invariant).0

pub returns : goal.returns
returns c =
    let rest = c.loop-rest.rest.now in
    let none : rest ≡ [] = nil_from_length rest (eqb-true (length rest) 0 (sym c.is_empty.ensures ∙ c.loop-rest-test.false)) in
    is_done c.loop-rest.left c.args.size c.loop-rest.parameters.items rest (all_at c.args.ahead c.args.size c.args.bytes.now) none c.loop-rest.invariant
