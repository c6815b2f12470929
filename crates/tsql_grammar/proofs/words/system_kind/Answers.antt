use Rattle.std.proofs.Common.{◌∙◌, map}
use Rattle.tsql_grammar.specs.declared.kind.Kind.TheVariants.{OtherSystem}
use Rattle.tsql_grammar.specs.Words.{capital, look_up, system_kind}
use Rattle.tsql_grammar.proofs.Spellings.{systems_same}
use Rattle.tsql_grammar.proofs.words.system_kind.Goals as goal

pub returns : goal.returns
unfolding system_kind
returns c = c.look_up.ensures ∙ (λ i. look_up (systems_same i) (map capital (c.as_slice.ensures i)) OtherSystem)
