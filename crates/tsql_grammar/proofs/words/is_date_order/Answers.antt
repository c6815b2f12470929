use Rattle.std.proofs.Common.{◌∙◌}
use Rattle.tsql_grammar.specs.Words.{is_date_order, is_one_of}
use Rattle.tsql_grammar.proofs.Spellings.{orders_same}
use Rattle.tsql_grammar.proofs.words.is_date_order.Goals as goal

pub returns : goal.returns
unfolding is_date_order
returns c = c.is_one_of.ensures ∙ (λ i. is_one_of (orders_same i) (c.as_slice.ensures i))
