-- A comment is as long by itself as it is where other units stand behind it.
use Rattle.std.proofs.Common.{◌≡◌, ℕ, suc, zero, ◌+◌, ◌-◌, Bool, true, false, cond, nat_le, Option, None, Some, List, [], ◌∷◌, ◌++◌, length, take, refl, ap, subst, ◌∙◌, arith}
use Rattle.tsql_lexer.specs.declared.comments.Mark.{Mark}
use Rattle.tsql_lexer.specs.declared.comments.Mark.TheVariants.{Opener, Closer, Plain}
use Rattle.tsql_lexer.specs.Comments.{mark_of, more, size_by, closing_size}
use Rattle.tsql_lexer.proofs.Sizes.{SizeWithin, closing_within}

no_size : (size : ℕ) → None ≡ Some size → ⊥
no_size size same = cc

same_size : (a b : ℕ) → Some a ≡ Some b → a ≡ b
same_size a b same = cc

-- what a longer size is longer than
more_is : (count size : ℕ) (rest : Option ℕ) → more count rest ≡ Some size → (n : ℕ) × (rest ≡ Some n) × (count + n ≡ size)
more_is count size None is = absurd (no_size size is)
more_is count size (Some n) is = (n, refl, same_size (count + n) size is)

-- sizes that are there stay
abbrev Keeps : (ℕ → Option ℕ) → (ℕ → Option ℕ) → Type 0
Keeps sizes others = (depth size : ℕ) → sizes depth ≡ Some size → others depth ≡ Some size

more_kept : (count size : ℕ) (rest other : Option ℕ) → ((n : ℕ) → rest ≡ Some n → other ≡ Some n) → more count rest ≡ Some size → more count other ≡ Some size
more_kept count size rest other kept is =
    let parts = more_is count size rest is in
    ap (more count) (kept parts.0 parts.1) ∙ ap (λ (n : ℕ). Some n) parts.2

size_by-kept : (mark : Mark) (depth size : ℕ) (two one others_two others_one : ℕ → Option ℕ) → Keeps two others_two → Keeps one others_one
    → size_by mark depth two one ≡ Some size → size_by mark depth others_two others_one ≡ Some size
size_by-kept Opener depth size two one others_two others_one kept_two kept_one is = more_kept 2 size (two (suc depth)) (others_two (suc depth)) (kept_two (suc depth)) is
size_by-kept Closer depth size two one others_two others_one kept_two kept_one is = last (nat_le depth 1) is
  where
    last : (outermost : Bool) → cond outermost (Some 2) (more 2 (two (depth - 1))) ≡ Some size → cond outermost (Some 2) (more 2 (others_two (depth - 1))) ≡ Some size
    last true is = is
    last false is = more_kept 2 size (two (depth - 1)) (others_two (depth - 1)) (kept_two (depth - 1)) is
size_by-kept Plain depth size two one others_two others_one kept_two kept_one is = more_kept 1 size (one depth) (others_one depth) (kept_one depth) is

-- units behind the end change nothing
pub closing_front : (units behind : List ℕ) → Keeps (closing_size units) (closing_size (units ++ behind))
unfolding closing_size
closing_front [] behind depth size is = absurd (no_size size is)
closing_front (unit ∷ []) behind depth size is = absurd (no_size size is)
closing_front (unit ∷ next ∷ units) behind depth size is =
    size_by-kept (mark_of unit next) depth size (closing_size units) (closing_size (next ∷ units)) (closing_size (units ++ behind)) (closing_size (next ∷ (units ++ behind)))
    (closing_front units behind) (closing_front (next ∷ units) behind) is

-- a comment's first units alone
abbrev Fronts : List ℕ → Type 0
Fronts text = (depth size : ℕ) → closing_size text depth ≡ Some size → closing_size (take size text) depth ≡ Some size

-- two units, and the front of those behind them
two_front : (unit next depth size inner : ℕ) (units : List ℕ) → closing_size (unit ∷ next ∷ take inner units) depth ≡ Some size → 2 + inner ≡ size → closing_size (take size (unit ∷ next ∷ units)) depth ≡ Some size
two_front unit next depth size inner units is same =
    let steps : suc (suc inner) ≡ size = omega (arith, same) in
    subst (λ (n : ℕ). closing_size (take n (unit ∷ next ∷ units)) depth ≡ Some size) steps is

marked_front : (mark : Mark) (unit next : ℕ) (units : List ℕ) → mark_of unit next ≡ mark → Fronts units → Fronts (next ∷ units)
    → (depth size : ℕ) → size_by mark depth (closing_size units) (closing_size (next ∷ units)) ≡ Some size → closing_size (take size (unit ∷ next ∷ units)) depth ≡ Some size
unfolding closing_size
marked_front Opener unit next units mark two one depth size is =
    let parts = more_is 2 size (closing_size units (suc depth)) is in
    two_front unit next depth size parts.0 units (rw mark (ap (more 2) (two (suc depth) parts.0 parts.1) ∙ ap (λ (n : ℕ). Some n) parts.2)) parts.2
marked_front Closer unit next units mark two one depth size is = last (nat_le depth 1) refl is
  where
    last : (outermost : Bool) → nat_le depth 1 ≡ outermost → cond outermost (Some 2) (more 2 (closing_size units (depth - 1))) ≡ Some size → closing_size (take size (unit ∷ next ∷ units)) depth ≡ Some size
    last true first is = two_front unit next depth size 0 units (rw (mark, first) is) (same_size 2 size is)
    last false first is =
        let parts = more_is 2 size (closing_size units (depth - 1)) is in
        two_front unit next depth size parts.0 units (rw (mark, first) (ap (more 2) (two (depth - 1) parts.0 parts.1) ∙ ap (λ (n : ℕ). Some n) parts.2)) parts.2
marked_front Plain unit next units mark two one depth size is = behind (more_is 1 size (closing_size (next ∷ units) depth) is)
  where
    inside : (inner : ℕ) → closing_size (next ∷ units) depth ≡ Some inner → 1 + inner ≡ size → closing_size (take size (unit ∷ next ∷ units)) depth ≡ Some size
    inside zero is same = absurd (omega (arith, (subst (SizeWithin (length (next ∷ units))) is (closing_within (next ∷ units) depth)).0))
    inside (suc inner) is same = two_front unit next depth size inner units (rw mark (ap (more 1) (one depth (suc inner) is) ∙ ap (λ (n : ℕ). Some n) same)) (omega (arith, same))

    behind : (n : ℕ) × (closing_size (next ∷ units) depth ≡ Some n) × (1 + n ≡ size) → closing_size (take size (unit ∷ next ∷ units)) depth ≡ Some size
    behind parts = inside parts.0 parts.1 parts.2

pub closing_take : (text : List ℕ) → Fronts text
unfolding closing_size
closing_take [] depth size is = absurd (no_size size is)
closing_take (unit ∷ []) depth size is = absurd (no_size size is)
closing_take (unit ∷ next ∷ units) depth size is = marked_front (mark_of unit next) unit next units refl (closing_take units) (closing_take (next ∷ units)) depth size is
