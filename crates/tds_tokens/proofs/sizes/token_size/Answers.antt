use Rattle.std.proofs.Common.{arith}
use Rattle.tds_tokens.proofs.Lengths.{length-login_ack, length-env_text, length-return_value}
use Rattle.tds_tokens.proofs.sizes.token_size.Goals as goal

pub returns-in-LoginAck : goal.returns-in-LoginAck
returns-in-LoginAck c =
    let token = c.in-LoginAck in
    rw token.is (omega (arith, length-login_ack c.args.columns.now token.version token.program token.release))

pub returns-in-EnvText : goal.returns-in-EnvText
returns-in-EnvText c =
    let token = c.in-EnvText in
    rw token.is (omega (arith, length-env_text c.args.columns.now token.kind token.fresh token.former))

pub returns-in-ReturnValue : goal.returns-in-ReturnValue
returns-in-ReturnValue c =
    let token = c.in-ReturnValue in
    rw token.is (omega (arith, length-return_value token.ordinal token.name token.kind token.value))
