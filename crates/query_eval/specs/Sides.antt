-- Own: what a side of a comparison is, as the code has it. Private contracts alone cite this.
use Rattle.query_eval.specs.declared.side.Side.{Side}
use Rattle.query_eval.specs.declared.side.Side.TheVariants as of
use Rattle.query_eval.specs.KeyTests.{TestSide, column, literal, variable, no_side}

abbrev pub test_side : Side → TestSide
test_side (of.Column place) = column place
test_side (of.Literal value) = literal value
test_side (of.Variable value) = variable value
test_side of.Other = no_side
