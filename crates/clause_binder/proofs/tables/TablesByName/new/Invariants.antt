use Rattle.std.proofs.Common.{◌≡◌, ℕ, List, drop}
use Rattle.clause_binder.specs.Scope as spec
use Rattle.clause_binder.specs.ByName as by
use Rattle.clause_binder.proofs.tables.TablesByName.new.Given as goal

abbrev pub invariant-loop-of : goal.invariant-loop-of
invariant-loop-of l = (name : List ℕ) → spec.or_first (by.table_at l.first name) (spec.table_of name (drop l.of-index l.definitions)) ≡ spec.table_of name l.definitions
