-- Transact-SQL reference, "NULL and UNKNOWN": the three truth values. AND takes the least, OR the
-- greatest, NOT turns the order round.
use Rattle.std.specs.Prelude.{Bool, true, false}
use Rattle.bound_tree.specs.declared.truth.Truth.{Truth}
use Rattle.bound_tree.specs.declared.truth.Truth.TheVariants.{False, Unknown, True}

abbrev pub is_false : Truth → Bool
is_false False = true
is_false Unknown = false
is_false True = false

abbrev pub is_true : Truth → Bool
is_true False = false
is_true Unknown = false
is_true True = true

abbrev pub truth_of : Bool → Truth
truth_of true = True
truth_of false = False

abbrev pub and : Truth → Truth → Truth
and False b = False
and True b = b
and Unknown False = False
and Unknown Unknown = Unknown
and Unknown True = Unknown

abbrev pub or : Truth → Truth → Truth
or True b = True
or False b = b
or Unknown True = True
or Unknown Unknown = Unknown
or Unknown False = Unknown

abbrev pub not : Truth → Truth
not False = True
not Unknown = Unknown
not True = False
