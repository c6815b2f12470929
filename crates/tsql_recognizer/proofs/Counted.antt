-- A counted rule at a number that is known.
use Rattle.std.specs.Prelude.{◌≡◌, ℕ, zero, suc, ◌-◌, ◌≤◌, Bool, true, List, Option, Result, IfOk, refl}
use Rattle.std.proofs.Common.{sym, subst, arith}
use Rattle.std.specs.declared.alloc.AllocError.{AllocError}
use Rattle.tsql_grammar.specs.declared.kind.Kind.{Kind}
use Rattle.tsql_grammar.specs.declared.kind.Function.{Function}
use Rattle.tsql_grammar.specs.declared.rule.Around.{Around}
use Rattle.tsql_grammar.specs.declared.rule.Rule.{Rule}
use Rattle.tsql_grammar.specs.declared.rule.Rule.TheVariants as r
use Rattle.tsql_grammar.specs.Productions.{Symbols}
use Rattle.tsql_recognizer.specs.Stack.{pick, symbols_of_rule, Opens, is_plain}

-- what came of opening the rule
abbrev pub Came : Rule → Option Kind → Result Bool AllocError → Symbols → Symbols → Type 0
Came a next result old new = IfOk result (λ found. Opens (pick (symbols_of_rule a) next) found old new)

pub at_number : (counted : ℕ → Rule) (m n : ℕ) → m ≡ n → (next : Option Kind) (result : Result Bool AllocError) (old new : Symbols) → Came (counted n) next result old new → Came (counted m) next result old new
at_number counted m n e next result old new h = subst (λ k. Came (counted k) next result old new) (sym e) h

pub is_zero : (n : ℕ) → (1 ≤ n → ⊥) → n ≡ 0
is_zero zero h = refl
is_zero (suc n) h = absurd (h (omega arith))

pub is_suc : (n less : ℕ) → 1 ≤ n → less ≡ n - 1 → n ≡ suc less
is_suc n less h e = omega arith

pub at_rule : (a b : Rule) → a ≡ b → (next : Option Kind) (result : Result Bool AllocError) (old new : Symbols) → Came b next result old new → Came a next result old new
at_rule a b e next result old new h = subst (λ c. Came c next result old new) (sym e) h

pub by_symbols : (ways those : List Symbols) → ways ≡ those → (next : Option Kind) (result : Result Bool AllocError) (old new : Symbols)
    → IfOk result (λ found. Opens (pick ways next) found old new) → IfOk result (λ found. Opens (pick those next) found old new)
by_symbols ways those e next result old new h = subst (λ w. IfOk result (λ found. Opens (pick w next) found old new)) e h

-- a rule that is none of those with a parameter is plain
pub plain_so : (a : Rule)
    → ((x : Around) → a ≡ r.Body x → ⊥)
    → ((x : Around) → a ≡ r.Statement x → ⊥)
    → ((x : Around) → a ≡ r.OtherStatement x → ⊥)
    → ((x : Around) → a ≡ r.AfterBegin x → ⊥)
    → ((x : Around) → a ≡ r.Else x → ⊥)
    → ((x : Around) → a ≡ r.ThrowArguments x → ⊥)
    → ((x : Function) → a ≡ r.AfterItemFunction x → ⊥)
    → ((x : ℕ) → a ≡ r.Opened x → ⊥)
    → ((x : ℕ) → a ≡ r.Operand x → ⊥)
    → ((x : ℕ) → a ≡ r.Compared x → ⊥)
    → ((x : ℕ) → a ≡ r.Tested x → ⊥)
    → ((x : Function) → a ≡ r.AfterFunction x → ⊥)
    → ((x : Function) → a ≡ r.FunctionArguments x → ⊥)
    → is_plain a ≡ true
plain_so (r.Body x) h0 h1 h2 h3 h4 h5 h6 h7 h8 h9 h10 h11 h12 = absurd (h0 x refl)
plain_so (r.Statement x) h0 h1 h2 h3 h4 h5 h6 h7 h8 h9 h10 h11 h12 = absurd (h1 x refl)
plain_so (r.OtherStatement x) h0 h1 h2 h3 h4 h5 h6 h7 h8 h9 h10 h11 h12 = absurd (h2 x refl)
plain_so (r.AfterBegin x) h0 h1 h2 h3 h4 h5 h6 h7 h8 h9 h10 h11 h12 = absurd (h3 x refl)
plain_so (r.Else x) h0 h1 h2 h3 h4 h5 h6 h7 h8 h9 h10 h11 h12 = absurd (h4 x refl)
plain_so (r.ThrowArguments x) h0 h1 h2 h3 h4 h5 h6 h7 h8 h9 h10 h11 h12 = absurd (h5 x refl)
plain_so (r.AfterItemFunction x) h0 h1 h2 h3 h4 h5 h6 h7 h8 h9 h10 h11 h12 = absurd (h6 x refl)
plain_so (r.Opened x) h0 h1 h2 h3 h4 h5 h6 h7 h8 h9 h10 h11 h12 = absurd (h7 x refl)
plain_so (r.Operand x) h0 h1 h2 h3 h4 h5 h6 h7 h8 h9 h10 h11 h12 = absurd (h8 x refl)
plain_so (r.Compared x) h0 h1 h2 h3 h4 h5 h6 h7 h8 h9 h10 h11 h12 = absurd (h9 x refl)
plain_so (r.Tested x) h0 h1 h2 h3 h4 h5 h6 h7 h8 h9 h10 h11 h12 = absurd (h10 x refl)
plain_so (r.AfterFunction x) h0 h1 h2 h3 h4 h5 h6 h7 h8 h9 h10 h11 h12 = absurd (h11 x refl)
plain_so (r.FunctionArguments x) h0 h1 h2 h3 h4 h5 h6 h7 h8 h9 h10 h11 h12 = absurd (h12 x refl)
plain_so r.Batch h0 h1 h2 h3 h4 h5 h6 h7 h8 h9 h10 h11 h12 = refl
plain_so _ h0 h1 h2 h3 h4 h5 h6 h7 h8 h9 h10 h11 h12 = refl
