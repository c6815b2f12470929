use Rattle.std.proofs.Common.{arith}
use Rattle.tds_tokens.proofs.Lengths.{length-login_ack, length-env_text}
use Rattle.tds_tokens.proofs.writing.put_token.Goals as goal

pub put_login_ack-requires-clause-room : goal.put_login_ack-requires-clause-room
put_login_ack-requires-clause-room c =
    let token = c.in-LoginAck in
    let room = rw token.is at c.requires.room in
    omega (arith, room, length-login_ack c.args.columns.now token.version token.program token.release)

pub put_env_text-requires-clause-room : goal.put_env_text-requires-clause-room
put_env_text-requires-clause-room c =
    let token = c.in-EnvText in
    let room = rw token.is at c.requires.room in
    omega (arith, room, length-env_text c.args.columns.now token.kind token.fresh token.former)
