use Rattle.convert_rules.proofs.Known.{empty_text}
use Rattle.convert_rules.proofs.reading.signed_number.Goals as goal

pub returns-in-empty : goal.returns-in-empty
returns-in-empty c = empty_text c.args.text.now c.in-empty.len_below
