-- What taking one lexeme gives.
use Rattle.std.specs.Prelude.{◌≡◌, ℕ, ◌-◌, ◌≤◌, length, Bool, true, false, List, [], ◌∷◌, Some, None, if◌then◌else◌, refl}
use Rattle.std.proofs.Common.{ap, sym, ◌∙◌, subst, arith, take, drop, get_or}
use Rattle.std.proofs.Math.Seq.{take-length}
use Rattle.tsql_lexer.specs.declared.lexeme.Spanned.{Spanned}
use Rattle.tsql_grammar.specs.declared.kind.Kind.{Kind}
use Rattle.tsql_grammar.specs.declared.rule.Class.{Class}
use Rattle.tsql_grammar.specs.Terminals.{Terminal, kind, admits, terminals, begins_else}
use Rattle.lexeme_reader.specs.Reading.{ahead, expect, sees_any, has_else, before}
use Rattle.tsql_grammar.specs.Lookahead.{of_any}

pub none_next : (c : Class) (w : List Terminal) → ahead w ≡ None → expect c w ≡ None
unfolding expect
none_next c [] e = refl
none_next c (t ∷ w) e = absurd (cc)

by_kind : (c : Class) (t : Terminal) (w : List Terminal) (k : Kind) (b : Bool) → ahead (t ∷ w) ≡ Some k → admits c k ≡ b → expect c (t ∷ w) ≡ (if b then Some (t, w) else None)
unfolding expect
by_kind c t w k b e f = let same : kind t ≡ k = cc in rw (same, f)

pub other_next : (c : Class) (w : List Terminal) (k : Kind) → ahead w ≡ Some k → admits c k ≡ false → expect c w ≡ None
unfolding expect
other_next c [] k e f = refl
other_next c (t ∷ w) k e f = by_kind c t w k false e f

else_same : (rest : List Spanned) → begins_else rest ≡ has_else (terminals rest)
else_same [] = refl
else_same (l ∷ rest) = refl

pub one_next : (c : Class) (l : Spanned) (rest : List Spanned) (k : Kind) → ahead (terminals (l ∷ rest)) ≡ Some k → admits c k ≡ true
    → expect c (terminals (l ∷ rest)) ≡ Some (before l (terminals rest), terminals rest)
one_next c l rest k e f =
    by_kind c (record { spanned = l; before_else = begins_else rest }) (terminals rest) k true e f
    ∙ ap (λ (b : Bool). Some (record { spanned = l; before_else = b }, terminals rest)) (else_same rest)

-- the same, for the first lexeme of a slice
pub first_next : (c : Class) (text : List Spanned) (l : Spanned) (k : Kind) → 1 ≤ length text → l ≡ get_or text 0 l → ahead (terminals text) ≡ Some k → admits c k ≡ true
    → expect c (terminals text) ≡ Some (before l (terminals (take (length text - 1) (drop 1 text))), terminals (take (length text - 1) (drop 1 text)))
first_next c [] l k n i e f = absurd (omega arith)
first_next c (m ∷ rest) l k n i e f =
    let whole : take (length (m ∷ rest) - 1) (drop 1 (m ∷ rest)) ≡ rest = let same : length (m ∷ rest) - 1 ≡ length rest = omega arith in ap (λ (n : ℕ). take n rest) same ∙ take-length rest in
    subst (λ (r : List Spanned). expect c (terminals (m ∷ rest)) ≡ Some (before l (terminals r), terminals r)) (sym whole)
    (subst (λ (x : Spanned). expect c (terminals (m ∷ rest)) ≡ Some (before x (terminals rest), terminals rest)) (sym i) (one_next c m rest k e f))

pub sees_none : (classes : List Class) (w : List Terminal) → ahead w ≡ None → sees_any classes w ≡ false
unfolding sees_any
sees_none classes [] e = refl
sees_none classes (t ∷ w) e = absurd (cc)

pub sees_kind : (classes : List Class) (w : List Terminal) (k : Kind) → ahead w ≡ Some k → sees_any classes w ≡ of_any classes k
unfolding sees_any
sees_kind classes [] k e = absurd (cc)
sees_kind classes (t ∷ w) k e = let same : kind t ≡ k = cc in ap (of_any classes) same
