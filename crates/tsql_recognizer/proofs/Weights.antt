-- How many symbols are taken off the stack before a lexeme is: a rule weighs more than all that may
-- stand in its place before the first lexeme.
use Rattle.std.specs.Prelude.{◌≡◌, ℕ, zero, suc, ◌+◌, ◌*◌, ◌<◌, ◌≤◌, max, Bool, true, false, ◌&&◌, nat_lt, List, [], ◌∷◌, ◌++◌, length, Some, None, refl}
use Rattle.std.proofs.Common.{arith}
use Rattle.std.proofs.lemmas.Bool.Decides.{nat_tests}
use Rattle.std.proofs.lemmas.Nat.{mul-le}
use Rattle.tsql_grammar.specs.declared.kind.Function.TheVariants as f
use Rattle.tsql_grammar.specs.declared.rule.Rule.{Rule}
use Rattle.tsql_grammar.specs.declared.rule.Rule.TheVariants as r
use Rattle.tsql_grammar.specs.Language.{language}
use Rattle.tsql_grammar.specs.Lookahead.{nullable}
use Rattle.tsql_grammar.specs.Productions.{Symbols, Production, productions}
use Rattle.tsql_grammar.proofs.Instance.{rank, ranked}
use Rattle.grammar_laws.specs.Alternatives.{IndexOf, AlternativeOf, at, symbols_of}
use Rattle.grammar_laws.specs.Grammar.Symbol.{lexeme, rule, mark}
use Rattle.grammar_laws.specs.Lookahead.{empties_by}
use Rattle.grammar_laws.specs.Predictive.{reach, only_if}

-- what a rule of a rank weighs
abbrev weight : ℕ → ℕ
weight zero = 1
weight (suc n) = 64 * weight n

weight_monotone : (m n : ℕ) → m ≤ n → weight m ≤ weight n
weight_monotone zero zero h = omega arith
weight_monotone zero (suc n) h = let more = weight_monotone zero n (omega arith) in omega (arith, more)
weight_monotone (suc m) zero h = absurd (omega arith)
weight_monotone (suc m) (suc n) h = let more = weight_monotone m n (omega (arith, h)) in omega (arith, more)

-- what the symbols before the first lexeme weigh
abbrev pub lead : Symbols → ℕ
lead [] = 0
lead (lexeme c ∷ is) = 0
lead (mark m ∷ is) = suc (lead is)
lead (rule a ∷ is) = weight (rank a) + only_if (nullable a) (lead is)

abbrev empties : Symbols → Bool
empties is = empties_by nullable is

lead_append : (a b : Symbols) → lead (a ++ b) ≡ lead a + only_if (empties a) (lead b)
lead_append [] b = omega arith
lead_append (lexeme c ∷ a) b = omega arith
lead_append (mark m ∷ a) b = omega (arith, lead_append a b)
lead_append (rule x ∷ a) b = joined (nullable x) (empties a) (weight (rank x)) (lead a) (lead b) (lead (a ++ b)) (lead_append a b)
  where
    joined : (n e : Bool) (k m l all : ℕ) → all ≡ m + only_if e l → k + only_if n all ≡ (k + only_if n m) + only_if (n && e) l
    joined true true k m l all h = omega arith
    joined true false k m l all h = omega arith
    joined false e k m l all h = omega arith

-- symbols weigh at most the heaviest of them, as many times as they are
lead_small : (is : Symbols) (n : ℕ) → reach nullable rank is ≤ n → lead is ≤ length is * weight n
lead_small [] n h = omega arith
lead_small (lexeme c ∷ is) n h = omega arith
lead_small (mark m ∷ is) n h =
    let more = lead_small is n h in let one = weight_monotone zero n (omega arith) in omega (arith, more, one)
lead_small (rule x ∷ is) n h = go (nullable x) (reach nullable rank is) (lead is) h (λ e. lead_small is n e)
  where
    go : (b : Bool) (q l : ℕ) → max (rank x) (only_if b q) ≤ n → (q ≤ n → l ≤ length is * weight n) → weight (rank x) + only_if b l ≤ suc (length is) * weight n
    go true q l h k = let heavy = weight_monotone (rank x) n (omega (arith, h)) in let more = k (omega (arith, h)) in omega (arith, heavy, more)
    go false q l h k = let heavy = weight_monotone (rank x) n (omega (arith, h)) in omega (arith, heavy)

-- each production has fewer than 64 symbols
abbrev short : Symbols → Bool
short is = nat_lt (length is) 64

abbrev all_short : (a : Rule) → List (Production a) → Bool
all_short a [] = true
all_short a (p ∷ more) = short p.symbols && all_short a more

abbrev AreShort : List ℕ → Rule → Type 0
AreShort text a = all_short a (productions text a) ≡ true

statement_short : (text : List ℕ) (x y : Bool) → AreShort text (r.OtherStatement (record { in_while = x; in_catch = y }))
statement_short text true y = refl
statement_short text false y = refl

throw_short : (text : List ℕ) (x y : Bool) → AreShort text (r.ThrowArguments (record { in_while = x; in_catch = y }))
throw_short text x true = refl
throw_short text x false = refl

are_short : (text : List ℕ) (a : Rule) → AreShort text a
are_short text (r.OtherStatement a) = statement_short text a.in_while a.in_catch
are_short text (r.ThrowArguments a) = throw_short text a.in_while a.in_catch
are_short text (r.Compared zero) = refl
are_short text (r.Compared (suc n)) = refl
are_short text (r.Tested zero) = refl
are_short text (r.Tested (suc n)) = refl
are_short text (r.FunctionArguments f.Cast) = refl
are_short text (r.FunctionArguments _) = refl
are_short text r.Batch = refl
are_short text _ = refl

short_at : (a : Rule) (ways : List (Production a)) (i : IndexOf ways) → all_short a ways ≡ true → short (at ways i).symbols ≡ true
short_at a [] i e = absurd i
short_at a (p ∷ more) None e = first_of (short p.symbols) (all_short a more) e
  where
    first_of : (x y : Bool) → (x && y) ≡ true → x ≡ true
    first_of true y e = refl
    first_of false y e = e
short_at a (p ∷ more) (Some i) e = short_at a more i (second_of (short p.symbols) (all_short a more) e)
  where
    second_of : (x y : Bool) → (x && y) ≡ true → y ≡ true
    second_of true y e = e
    second_of false y e = absurd (cc)

last : (n e : Bool) (k l b all : ℕ) → all ≡ l + only_if e b → (e ≡ true → n ≡ true) → l ≤ 63 * k → 1 ≤ k → all < 64 * k + only_if n b
last true true k l b all h empty le one = omega (arith, h, le, one)
last true false k l b all h empty le one = omega (arith, h, le, one)
last false true k l b all h empty le one = let it = empty refl in absurd (cc)
last false false k l b all h empty le one = omega (arith, h, le, one)

lower : (n e : Bool) (count q k l b all : ℕ) → all ≡ l + only_if e b → ((m : ℕ) → q ≤ m → l ≤ count * weight m) → q < k → (e ≡ true → n ≡ true) → nat_lt count 64 ≡ true
    → all < weight k + only_if n b
lower n e count q zero l b all h small before empty few = absurd (omega (arith, before))
lower n e count q (suc k) l b all h small before empty few =
    let below : l ≤ count * weight k = small k (omega (arith, before)) in
    let less : count ≤ 63 = grind (arith, nat_tests) in
    let most : count * weight k ≤ 63 * weight k = mul-le count (weight k) 63 (weight k) less (omega arith) in
    let one = weight_monotone zero k (omega arith) in
    last n e (weight k) l b all h empty (omega (arith, below, most)) one

-- what is put in a rule's place weighs less
pub opens_lower : (text : List ℕ) (a : Rule) (p : AlternativeOf (language text) a) (below : Symbols)
    → lead (symbols_of (language text) a p ++ below) < lead (rule a ∷ below)
opens_lower text a p below =
    let is = symbols_of (language text) a p in
    lower (nullable a) (empties is) (length is) (reach nullable rank is) (rank a) (lead is) (lead below) (lead (is ++ below))
    (lead_append is below) (λ n h. lead_small is n h) ((ranked text).lower a p) ((ranked text).empty a p) (short_at a (productions text a) p (are_short text a))
