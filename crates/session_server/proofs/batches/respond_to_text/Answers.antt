use Rattle.std.proofs.Common.{List, Err, refl, ap, ◌∙◌}
use Rattle.tds_tokens.specs.declared.token.Token.{Token}
use Rattle.tds_tokens.specs.Spelling.{TokenBytes}
use Rattle.session_server.specs.Response.{tabular}
use Rattle.session_server.specs.Talk.{batch_response, batch_tokens, runs}
use Rattle.batch_meaning.proofs.Composed.{does_over, does_reads, does_then, does_out, does_leave}
use Rattle.session_server.proofs.Handled.{bears_tokens, unread_handled, left_handled}
use Rattle.session_server.proofs.batches.respond_to_text.Goals as goal

pub returns-in_err-read-clause-handled : goal.returns-in_err-read-clause-handled
returns-in_err-read-clause-handled g c = unread_handled _ c.args.spid (runs c.args.connected.now c.args.text.now) tt _ c.from_residual.result _ c.from_residual.ensures.0

pub returns-in_err-run_batch-clause-handled : goal.returns-in_err-run_batch-clause-handled
unfolding batch_response
returns-in_err-run_batch-clause-handled g c =
    left_handled c.args.spid (runs c.args.connected.now c.args.text.now) tt _ c.from_residual-in_err-run_batch.result _ c.from_residual-in_err-run_batch.ensures.0 c.in_ok-read.ensures.read (does_leave _ _ (Err c.in_err-run_batch.field-0.0) refl c.in_err-run_batch.ensures.does)

pub returns-in_err-response-clause-handled : goal.returns-in_err-response-clause-handled
unfolding batch_response
returns-in_err-response-clause-handled g c =
    left_handled c.args.spid (runs c.args.connected.now c.args.text.now) tt _ c.from_residual-in_err-response.result _ c.from_residual-in_err-response.ensures.0 c.in_ok-read.ensures.read (does_then _ _ c.in_ok-run_batch.ensures.does (does_out (Err c.in_err-response.field-0.0) refl refl))

pub returns-clause-handled : goal.returns-clause-handled
unfolding batch_response
returns-clause-handled g c = (
  tabular c.args.connected.now.packet_size (batch_tokens c.args.connected.now c.run_batch.new.session.tokens),
  record {
    read_as = c.in_ok-read.read;
    are = c.in_ok-read.ensures.read;
    has = tt;
    does = does_then _ _ c.in_ok-run_batch.ensures.does (does_reads (does_over refl));
  },
  bears_tokens c.args.spid c.args.connected.now.packet_size (batch_tokens c.args.connected.now c.run_batch.new.session.tokens) c.in_ok-response.response c.in_ok-response.ensures.channel
      (c.in_ok-response.ensures.payload ∙ ap (λ (l : List Token). TokenBytes (batch_tokens c.args.connected.now l)) c.tokens.ensures.tokens) c.requires.sized,
  (refl, c.requires.sized),
)
