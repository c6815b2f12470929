use Rattle.batch_exec.proofs.Requests.{has_room, is_full}
use Rattle.batch_exec.proofs.rpc.error_or_full.Goals as goal

pub returns-then-is_full : goal.returns-then-is_full
returns-then-is_full c = is_full c.args.session.now c.args.raised c.in_ok-tokens.tokens (rw c.get.ensures at c.in_ok-tokens.ensures) c.raised_at.result c.if-is_full.ensures (rw c.plain.ensures at c.raised_at.ensures)

pub returns-else-is_full : goal.returns-else-is_full
returns-else-is_full c = has_room c.args.session.now c.args.raised c.in_ok-tokens.tokens (rw c.get.ensures at c.in_ok-tokens.ensures) c.if-is_full.ensures
