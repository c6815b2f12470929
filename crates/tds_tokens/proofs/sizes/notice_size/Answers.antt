use Rattle.std.proofs.Common.{arith}
use Rattle.tds_tokens.proofs.Lengths.{length-notice_bytes}
use Rattle.tds_tokens.proofs.sizes.notice_size.Goals as goal

pub returns : goal.returns
returns c = omega (arith, length-notice_bytes c.args.notice.now)
