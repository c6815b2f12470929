-- Own: statements within another are read by a function that readers are given, to a depth.
use Rattle.std.specs.Prelude.{ℕ, List, Some, Result}
use Rattle.std.proofs.Common.{Bor}
use Rattle.std.specs.declared.alloc.Global.{Global}
use denote.Ref.{MutBor}
use Rattle.tsql_grammar.specs.declared.rule.Rule.TheVariants as r
use Rattle.tsql_grammar.specs.Terminals.{Terminal}
use Rattle.lexeme_reader.specs.declared.fault.ReadFault.{ReadFault}
use Rattle.lexeme_reader.specs.Reading.{Outcome, Gives, ◌>>=◌, read_in}
use Rattle.statement_reader.specs.declared.nested.Inner.{Inner}
use Rattle.statement_reader.specs.declared.nested.Inner.TheVariants as inner
use Rattle.statement_reader.specs.declared.nested.FoundInner.{FoundInner}
use Rattle.statement_reader.specs.declared.nested.FoundInner.TheVariants as found

-- what is read of each kind of what nests
abbrev pub read_inner : List ℕ → Inner → List Terminal → Outcome FoundInner
read_inner text (inner.One a) w = do
  x ← read_in text (r.Statement a) w
  Some (found.One x.0, x.1)
read_inner text (inner.Body a) w = do
  x ← read_in text (r.Body a) w
  Some (found.Body x.0, x.1)

-- The function may be called at the depth, and gives what is read.
pub record Nests (depth : ℕ) (pre : Global → Bor (List ℕ) → MutBor (List Terminal) → ℕ → Inner → Type 0)
    (post : Global → Bor (List ℕ) → MutBor (List Terminal) → ℕ → Inner → Result FoundInner ReadFault → MutBor (List Terminal) → Type 0) : Type 0 where
  pub callable : (alloc : Global) (text : Bor (List ℕ)) (old : MutBor (List Terminal)) (what : Inner) → pre alloc text old depth what
  pub reads : (alloc : Global) (text : Bor (List ℕ)) (old new : MutBor (List Terminal)) (what : Inner) (result : Result FoundInner ReadFault)
      → post alloc text old depth what result new → Gives (read_inner text.now what old.now) result new.now
