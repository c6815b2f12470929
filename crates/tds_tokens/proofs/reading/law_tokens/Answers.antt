use Rattle.tds_tokens.proofs.TokenLaws.{token_alone}
use Rattle.tds_tokens.proofs.reading.law_tokens.Goals as goal

pub returns : goal.returns
returns c = token_alone
