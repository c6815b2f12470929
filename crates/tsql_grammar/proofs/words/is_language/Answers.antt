use Rattle.std.proofs.Common.{◌∙◌}
use Rattle.tsql_grammar.specs.Words.{is_language, is_one_of}
use Rattle.tsql_grammar.proofs.Spellings.{languages_same}
use Rattle.tsql_grammar.proofs.words.is_language.Goals as goal

pub returns : goal.returns
unfolding is_language
returns c = c.is_one_of.ensures ∙ (λ i. is_one_of (languages_same i) (c.as_slice.ensures i))
