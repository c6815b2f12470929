-- Own: what nests within another is read by a function that readers are given, to a depth.
use Rattle.std.specs.Prelude.{ℕ, List, Some, Result}
use Rattle.std.specs.declared.alloc.Global.{Global}
use denote.Ref.{MutBor}
use Rattle.tsql_grammar.specs.declared.rule.Rule.TheVariants as r
use Rattle.tsql_grammar.specs.Terminals.{Terminal}
use Rattle.lexeme_reader.specs.declared.fault.ReadFault.{ReadFault}
use Rattle.expr_reader.specs.declared.nested.Nested.{Nested}
use Rattle.expr_reader.specs.declared.nested.Nested.TheVariants as nested
use Rattle.expr_reader.specs.declared.nested.Found.{Found}
use Rattle.expr_reader.specs.declared.nested.Found.TheVariants as found
use Rattle.lexeme_reader.specs.Reading.{Outcome, read, Gives, ◌>>=◌}

-- what is read of each kind of what nests
abbrev pub read_nested : Nested → List Terminal → Outcome Found
read_nested nested.Expr w = do
  x ← read r.Expr w
  Some (found.Expr x.0, x.1)
read_nested nested.Exprs w = do
  x ← read r.Exprs w
  Some (found.Exprs x.0, x.1)
read_nested nested.Test w = do
  x ← read r.Test w
  Some (found.Test x.0, x.1)
read_nested nested.Basic w = do
  x ← read r.Basic w
  Some (found.Test x.0, x.1)
read_nested nested.Ands w = do
  x ← read r.MoreAnds w
  Some (found.Tests x.0, x.1)
read_nested nested.Ors w = do
  x ← read r.MoreOrs w
  Some (found.Tests x.0, x.1)
read_nested nested.Select w = do
  x ← read r.Select w
  Some (found.Select x.0, x.1)

-- The function may be called at the depth, and gives what is read.
pub record Nests (depth : ℕ) (pre : Global → MutBor (List Terminal) → ℕ → Nested → Type 0)
    (post : Global → MutBor (List Terminal) → ℕ → Nested → Result Found ReadFault → MutBor (List Terminal) → Type 0) : Type 0 where
  pub callable : (alloc : Global) (old : MutBor (List Terminal)) (what : Nested) → pre alloc old depth what
  pub reads : (alloc : Global) (old new : MutBor (List Terminal)) (what : Nested) (result : Result Found ReadFault) → post alloc old depth what result new
      → Gives (read_nested what old.now) result new.now
