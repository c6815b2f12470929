use Rattle.std.proofs.Common.{length, ap, arith}
use Rattle.tds_tokens.proofs.Tokens.{length-tokens_bytes-drop, tokens_bytes-drop_all}
use Rattle.tds_tokens.proofs.writing.bytes_of_tokens.Goals as goal

pub loop-token-preserved : goal.loop-token-preserved
loop-token-preserved c =
    let columns = c.loop-token.columns.now in
    let step = length-tokens_bytes-drop columns c.args.tokens.now c.loop-token.token-index c.token-item.result c.loop-token-test.true c.token-item.is in
    record { total = rw c.columns_after-columns.ensures (omega (arith, step)); fits = omega arith }

pub returns : goal.returns
returns c =
    omega (arith, ap length (tokens_bytes-drop_all c.loop-token.columns.now c.args.tokens.now c.loop-token.token-index c.loop-token-test.false))
