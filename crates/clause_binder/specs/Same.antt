-- Own: whether two bound trees are equal. The trees of each type have codes, different trees different ones, and
-- codes are trees of numbers, which are compared part by part.
use Rattle.std.specs.Prelude.{Bool, true, false, ◌&&◌, nat_eq}
use base.Stored.{Gv, gnil, gnum, gcons}
use Rattle.bound_tree.specs.declared.expr.BoundExpr.{BoundExpr}
use Rattle.bound_tree.specs.contracts.expr.BoundExpr as tree

abbrev pub same_code : Gv → Gv → Bool
same_code gnil gnil = true
same_code (gnum n) (gnum m) = nat_eq n m
same_code (gcons a b) (gcons c d) = same_code a c && same_code b d
same_code _ _ = false

-- whether two expressions are equal
abbrev pub same_expr : BoundExpr → BoundExpr → Bool
same_expr a b = same_code (tree.the_row.coded.code a) (tree.the_row.coded.code b)
