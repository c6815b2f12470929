use Rattle.std.proofs.Common.{◌≡◌, length, map}
use Rattle.value_types.specs.Units.{same_units}
use Rattle.tsql_grammar.specs.Words.{capital}
use Rattle.batch_forms.proofs.declarations.is_spelling.Given as goal

abbrev pub invariant-loop-capitals : goal.invariant-loop-capitals
invariant-loop-capitals l = same_units l.capitals (map capital l.word) ≡ same_units l.initial.capitals (map capital l.initial.word)

abbrev pub decreases-loop-capitals : goal.decreases-loop-capitals
decreases-loop-capitals l = length l.capitals
