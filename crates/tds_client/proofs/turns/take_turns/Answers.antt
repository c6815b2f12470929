use Rattle.std.proofs.Common.{◌∙◌, ap, sym}
use Rattle.outside_io.specs.Bytes.{Takes}
use Rattle.tds_client.specs.Replies.{refusal_in}
use Rattle.tds_client.specs.Parts.{HasEnded}
use Rattle.tds_client.proofs.OneTurn.{ended_as}
use Rattle.tds_client.proofs.Ways.{begins, comes_to_batch, comes_to_login, has_ended, is_answered, is_refused, none_refused}
use Rattle.tds_client.proofs.turns.take_turns.Goals as goal

pub returns-in_err-greet-clause-ended : goal.returns-in_err-greet-clause-ended
returns-in_err-greet-clause-ended g c =
    let first = begins c.args.login.now g.L.Source.left g.L.Source.given c.args.line.now (g.L.Sink.written c.args.line.now) c.new-reader.result c.new-reader.ensures in
    ended_as (HasEnded c.args.login.now c.args.text.now (Takes g.L.Source.left g.L.Source.given c.args.line.now c.greet.new.line) (g.L.Source.left c.greet.new.line) (g.L.Sink.written c.args.line.now) (g.L.Sink.written c.greet.new.line))
    c.from_residual.result c.in_err-greet.field-0.0 c.from_residual.ensures.1 (has_ended first c.args.text.now c.greet.new.line (g.L.Sink.written c.greet.new.line) c.in_err-greet.field-0.0 c.in_err-greet.ensures.ended)

pub returns-in_err-tokens-clause-ended : goal.returns-in_err-tokens-clause-ended
returns-in_err-tokens-clause-ended g c =
    let first = begins c.args.login.now g.L.Source.left g.L.Source.given c.args.line.now (g.L.Sink.written c.args.line.now) c.new-reader.result c.new-reader.ensures in
    let second = comes_to_login first c.greet.new.line (g.L.Sink.written c.greet.new.line) c.greet.new.reader c.in_ok-greet.ensures.greeted in
    ended_as (HasEnded c.args.login.now c.args.text.now (Takes g.L.Source.left g.L.Source.given c.args.line.now c.log_in.new.line) (g.L.Source.left c.log_in.new.line) (g.L.Sink.written c.args.line.now) (g.L.Sink.written c.log_in.new.line))
    c.from_residual-in_err-tokens.result c.in_err-tokens.field-0.0 c.from_residual-in_err-tokens.ensures.1 (has_ended second c.args.text.now c.log_in.new.line (g.L.Sink.written c.log_in.new.line) c.in_err-tokens.field-0.0 c.in_err-tokens.ensures.ended)

pub returns-then-is_some-clause-told : goal.returns-then-is_some-clause-told
returns-then-is_some-clause-told g c =
    let first = begins c.args.login.now g.L.Source.left g.L.Source.given c.args.line.now (g.L.Sink.written c.args.line.now) c.new-reader.result c.new-reader.ensures in
    let second = comes_to_login first c.greet.new.line (g.L.Sink.written c.greet.new.line) c.greet.new.reader c.in_ok-greet.ensures.greeted in
    is_refused c.args.text.now second c.log_in.new.line (g.L.Sink.written c.log_in.new.line) c.log_in.new.reader c.in_ok-tokens.tokens.items c.in_ok-tokens.ensures.answered c.refusal_in-refused.result (c.refusal_in-refused.ensures ∙ ap refusal_in c.deref.ensures.value) (sym c.is_some.ensures ∙ c.if-is_some.true)

pub returns-in_err-answer-clause-ended : goal.returns-in_err-answer-clause-ended
returns-in_err-answer-clause-ended g c =
    let first = begins c.args.login.now g.L.Source.left g.L.Source.given c.args.line.now (g.L.Sink.written c.args.line.now) c.new-reader.result c.new-reader.ensures in
    let second = comes_to_login first c.greet.new.line (g.L.Sink.written c.greet.new.line) c.greet.new.reader c.in_ok-greet.ensures.greeted in
    let third = comes_to_batch second c.log_in.new.line (g.L.Sink.written c.log_in.new.line) c.log_in.new.reader c.in_ok-tokens.tokens.items c.in_ok-tokens.ensures.answered (sym (c.refusal_in-refused.ensures ∙ ap refusal_in c.deref.ensures.value) ∙ none_refused c.refusal_in-refused.result (sym c.is_some.ensures ∙ c.if-is_some.false)) in
    ended_as (HasEnded c.args.login.now c.args.text.now (Takes g.L.Source.left g.L.Source.given c.args.line.now c.ask.new.line) (g.L.Source.left c.ask.new.line) (g.L.Sink.written c.args.line.now) (g.L.Sink.written c.ask.new.line))
    c.from_residual-in_err-answer.result c.in_err-answer.field-0.0 c.from_residual-in_err-answer.ensures.1 (has_ended third c.args.text.now c.ask.new.line (g.L.Sink.written c.ask.new.line) c.in_err-answer.field-0.0 c.in_err-answer.ensures.ended)

pub returns-clause-told : goal.returns-clause-told
returns-clause-told g c =
    let first = begins c.args.login.now g.L.Source.left g.L.Source.given c.args.line.now (g.L.Sink.written c.args.line.now) c.new-reader.result c.new-reader.ensures in
    let second = comes_to_login first c.greet.new.line (g.L.Sink.written c.greet.new.line) c.greet.new.reader c.in_ok-greet.ensures.greeted in
    let third = comes_to_batch second c.log_in.new.line (g.L.Sink.written c.log_in.new.line) c.log_in.new.reader c.in_ok-tokens.tokens.items c.in_ok-tokens.ensures.answered (sym (c.refusal_in-refused.ensures ∙ ap refusal_in c.deref.ensures.value) ∙ none_refused c.refusal_in-refused.result (sym c.is_some.ensures ∙ c.if-is_some.false)) in
    is_answered c.args.text.now third c.ask.new.line (g.L.Sink.written c.ask.new.line) c.ask.new.reader c.in_ok-answer.answer.items c.in_ok-answer.ensures.answered c.refusal_in-refused.result (none_refused c.refusal_in-refused.result (sym c.is_some.ensures ∙ c.if-is_some.false))
