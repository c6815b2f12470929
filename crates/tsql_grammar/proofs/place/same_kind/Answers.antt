use Rattle.tsql_grammar.proofs.Variants.{apart}
use Rattle.tsql_grammar.proofs.place.same_kind.Goals as goal

pub returns-else-variant_of : goal.returns-else-variant_of
returns-else-variant_of c = apart c.variant_of.result c.variant_of-2.result c.args.one c.args.other c.variant_of.ensures c.variant_of-2.ensures c.if-variant_of.false
