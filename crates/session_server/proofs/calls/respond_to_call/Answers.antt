use Rattle.std.proofs.Common.{Err, refl, ap, ◌∙◌}
use Rattle.tds_tokens.specs.Spelling.{TokenBytes}
use Rattle.session_server.specs.Response.{tabular}
use Rattle.session_server.specs.Talk.{calls, rpc_response}
use Rattle.batch_meaning.proofs.Composed.{does_over, does_reads, does_then, does_out, does_leave}
use Rattle.session_server.proofs.Handled.{bears_tokens, unread_handled, left_handled}
use Rattle.session_server.proofs.calls.respond_to_call.Goals as goal

pub returns-in_err-read-clause-handled : goal.returns-in_err-read-clause-handled
returns-in_err-read-clause-handled g c = unread_handled _ c.args.spid (calls c.args.connected.now c.args.call.now) tt _ c.from_residual.result _ c.from_residual.ensures.0

pub returns-in_err-run_call-clause-handled : goal.returns-in_err-run_call-clause-handled
unfolding rpc_response
returns-in_err-run_call-clause-handled g c =
    left_handled c.args.spid (calls c.args.connected.now c.args.call.now) tt _ c.from_residual-in_err-run_call.result _ c.from_residual-in_err-run_call.ensures.0 c.in_ok-read.ensures (does_leave _ _ (Err c.in_err-run_call.field-0.0) refl c.in_err-run_call.ensures.does)

pub returns-in_err-response-clause-handled : goal.returns-in_err-response-clause-handled
unfolding rpc_response
returns-in_err-response-clause-handled g c =
    left_handled c.args.spid (calls c.args.connected.now c.args.call.now) tt _ c.from_residual-in_err-response.result _ c.from_residual-in_err-response.ensures.0 c.in_ok-read.ensures (does_then _ _ c.in_ok-run_call.ensures.does (does_out (Err c.in_err-response.field-0.0) refl refl))

pub returns-clause-handled : goal.returns-clause-handled
unfolding rpc_response
returns-clause-handled g c = (
  tabular c.args.connected.now.packet_size c.run_call.new.session.tokens,
  record {
    read_as = c.in_ok-read.read;
    are = c.in_ok-read.ensures;
    has = tt;
    does = does_then _ _ c.in_ok-run_call.ensures.does (does_reads (does_over refl));
  },
  bears_tokens c.args.spid c.args.connected.now.packet_size c.run_call.new.session.tokens c.in_ok-response.response (c.in_ok-response.ensures.channel ∙ c.channel.ensures) (c.in_ok-response.ensures.payload ∙ ap TokenBytes c.tokens.ensures.tokens) c.requires.sized,
  (refl, c.requires.sized),
)
