use Rattle.std.proofs.Common.{◌≡◌, length, drop}
use Rattle.bound_tree.proofs.same.+same.Given as goal

-- what is left is the same where the whole is
abbrev pub invariant-same_exprs-loop-x : goal.invariant-same_exprs-loop-x
invariant-same_exprs-loop-x l = drop (length l.yielded) l.a ≡ drop (length l.yielded) l.b → l.a ≡ l.b

abbrev pub invariant-same_arms-loop-x : goal.invariant-same_arms-loop-x
invariant-same_arms-loop-x l = drop (length l.yielded) l.a ≡ drop (length l.yielded) l.b → l.a ≡ l.b

abbrev pub invariant-same_sides-loop-x : goal.invariant-same_sides-loop-x
invariant-same_sides-loop-x l = drop (length l.yielded) l.a ≡ drop (length l.yielded) l.b → l.a ≡ l.b
