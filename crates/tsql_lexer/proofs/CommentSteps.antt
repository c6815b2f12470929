-- How far a comment goes, one mark after another.
use Rattle.std.proofs.Common.{◌≡◌, ℕ, suc, ◌+◌, ◌-◌, ◌<◌, ◌≤◌, nat_le, true, false, Option, None, Some, List, [], ◌∷◌, length, drop, get_or, refl, ap, ◌∙◌, arith, drop-cons, add-one, length-drop}
use Rattle.tsql_lexer.specs.declared.comments.Mark.{Mark}
use Rattle.tsql_lexer.specs.declared.comments.Mark.TheVariants.{Opener, Closer, Plain}
use Rattle.tsql_lexer.specs.Comments.{mark_of, more, size_by, closing_size}
use Rattle.tsql_lexer.proofs.QuoteSteps.{two_units}

pub more-more : (a b : ℕ) (size : Option ℕ) → more a (more b size) ≡ more (a + b) size
more-more a b None = refl
more-more a b (Some size) = ap (λ (n : ℕ). Some n) (omega arith)

-- what the mark at a place makes of it
marked : (text : List ℕ) (at depth : ℕ) (mark : Mark) → at + 1 < length text → mark ≡ mark_of (get_or text at 0) (get_or text (at + 1) 0)
    → closing_size (drop at text) depth ≡ size_by mark depth (closing_size (drop (at + 2) text)) (closing_size (get_or text (at + 1) 0 ∷ drop (at + 2) text))
unfolding closing_size
marked text at depth mark within is =
    ap (λ (l : List ℕ). closing_size l depth) (two_units text at within)
    ∙ rw (← is) refl

pub opened_at : (text : List ℕ) (at depth : ℕ) → at + 1 < length text → Opener ≡ mark_of (get_or text at 0) (get_or text (at + 1) 0)
    → more at (closing_size (drop at text) depth) ≡ more (at + 2) (closing_size (drop (at + 2) text) (depth + 1))
opened_at text at depth within is =
    ap (more at) (marked text at depth Opener within is)
    ∙ more-more at 2 (closing_size (drop (at + 2) text) (suc depth))
    ∙ rw add-one refl

pub closed_at : (text : List ℕ) (at depth : ℕ) → at + 1 < length text → Closer ≡ mark_of (get_or text at 0) (get_or text (at + 1) 0) → 1 < depth
    → more at (closing_size (drop at text) depth) ≡ more (at + 2) (closing_size (drop (at + 2) text) (depth - 1))
closed_at text at depth within is deep =
    let deeper : nat_le depth 1 ≡ false = grind arith in
    ap (more at) (marked text at depth Closer within is)
    ∙ rw deeper (more-more at 2 (closing_size (drop (at + 2) text) (depth - 1)))

pub ended_at : (text : List ℕ) (at depth : ℕ) → at + 1 < length text → Closer ≡ mark_of (get_or text at 0) (get_or text (at + 1) 0) → depth ≤ 1
    → more at (closing_size (drop at text) depth) ≡ Some (at + 2)
ended_at text at depth within is outermost =
    let last : nat_le depth 1 ≡ true = grind arith in
    ap (more at) (marked text at depth Closer within is) ∙ rw last refl

pub plain_at : (text : List ℕ) (at depth : ℕ) → at + 1 < length text → Plain ≡ mark_of (get_or text at 0) (get_or text (at + 1) 0)
    → more at (closing_size (drop at text) depth) ≡ more (at + 1) (closing_size (drop (at + 1) text) depth)
plain_at text at depth within is =
    let next : drop (at + 1) text ≡ get_or text (at + 1) 0 ∷ drop (at + 2) text = drop-cons text (at + 1) 0 within ∙ grind arith in
    ap (more at) (marked text at depth Plain within is)
    ∙ more-more at 1 (closing_size (get_or text (at + 1) 0 ∷ drop (at + 2) text) depth)
    ∙ rw (← next) refl

-- a single unit closes nothing
short : (units : List ℕ) (depth : ℕ) → length units ≤ 1 → closing_size units depth ≡ None
unfolding closing_size
short [] depth few = refl
short (unit ∷ []) depth few = refl
short (unit ∷ next ∷ units) depth few = absurd (omega arith)

pub beyond : (text : List ℕ) (at depth : ℕ) → at ≤ length text → length text ≤ at + 1 → more at (closing_size (drop at text) depth) ≡ None
beyond text at depth within over = ap (more at) (short (drop at text) depth (omega (arith, length-drop at text)))
