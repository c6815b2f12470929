use Rattle.std.proofs.Common.{◌≡◌, true, suc, sym, eqb-true, arith, List, [], ◌∷◌, length, nat_eq, refl}
use Rattle.tsql_tree.specs.declared.definition.TableTree.{TableTree}
use Rattle.statement_exec.proofs.Parts.{does_unshaped}
use Rattle.statement_exec.proofs.dialogs.read.Goals as goal

-- none is named
none_named : (shapes : List TableTree) → true ≡ nat_eq (length shapes) 0 → shapes ≡ []
none_named [] none = refl
none_named (shape ∷ shapes) none = absurd (let no : suc (length shapes) ≡ 0 = eqb-true (suc (length shapes)) 0 (sym none) in omega arith)

pub returns-then-is_empty-clause-does : goal.returns-then-is_empty-clause-does
returns-then-is_empty-clause-does g c = rw c.new.ensures (does_unshaped _ _ _ _ _ (none_named c.args.shapes.now c.if-is_empty.ensures))

pub returns-then-is_empty-clause-fit : goal.returns-then-is_empty-clause-fit
returns-then-is_empty-clause-fit g c = λ none some. absurd (some (none_named c.args.shapes.now c.if-is_empty.ensures))
