-- Own: the laws of the machine of the tests.
use Rattle.std.proofs.Common.{◌≡◌, ℕ, ◌≢◌, Bool, true, false, List, [], ◌∷◌, ◌++◌, sym, refl, ap, ◌∙◌, eq-eqb, ne_eqb, append_assoc, append-nil}
use Rattle.std.specs.Prelude.{◌==◌, if◌then◌else◌}
use mathlib.Core.List.{IsPrefix}
use Rattle.tests_desk.specs.declared.adder.AddReply.{AddReply}
use Rattle.tests_desk.specs.declared.adder.AddReply.TheVariants.{Was, Memory}
use Rattle.tests_desk.specs.Adding.{AdderState, added_by, added, added_in, Adds, IsToldBy}

joined : (b : Bool) (x : ℕ) (l p q : List ℕ) → l ≡ p ++ q → (if b then x ∷ l else l) ≡ (if b then x ∷ p else p) ++ q
joined true x l p q e = ap (λ r. x ∷ r) e
joined false x l p q e = e

added_by-append : (n : ℕ) (xs ys : List (ℕ × ℕ)) → added_by n (xs ++ ys) ≡ added_by n xs ++ added_by n ys
added_by-append n [] ys = refl
added_by-append n (x ∷ xs) ys = joined (x.0 == n) x.1 (added_by n (xs ++ ys)) (added_by n xs) (added_by n ys) (added_by-append n xs ys)

added_in-append : (xs ys : List (ℕ × AddReply)) → added_in (xs ++ ys) ≡ added_in xs ++ added_in ys
added_in-append [] ys = refl
added_in-append (x ∷ xs) ys = ap (λ l. added x.0 x.1 ++ l) (added_in-append xs ys) ∙ sym (append_assoc (added x.0 x.1) (added_in xs) (added_in ys))

-- the story goes on
pub story_grows : (a b : AdderState) (number call : ℕ) (reply : AddReply) → Adds a number call reply b → IsPrefix a.calls b.calls
story_grows a b number call (Was sum) m = ((number, call) ∷ [], ap (λ s. s.calls) (sym m.1))
story_grows a b number call Memory m = ([], append-nil a.calls ∙ ap (λ s. s.calls) (sym m))

-- a step of a number is told with those before it
pub own_steps : (a b : AdderState) (number : ℕ) (steps : List (ℕ × AddReply)) (call : ℕ) (reply : AddReply) → IsToldBy a.calls number steps → Adds a number call reply b → IsToldBy b.calls number (steps ++ (call, reply) ∷ [])
own_steps a b number steps call (Was sum) told m =
    let mine : added_by number ((number, call) ∷ []) ≡ call ∷ [] = ap (λ x. if x then call ∷ [] else []) (eq-eqb number number refl) in
    ap (λ s. added_by number s.calls) m.1 ∙ (added_by-append number a.calls ((number, call) ∷ []) ∙ ((λ i. told i ++ mine i) ∙ sym (added_in-append steps ((call, Was sum) ∷ []))))
own_steps a b number steps call Memory told m = ap (λ s. added_by number s.calls) m ∙ (told ∙ (sym (append-nil (added_in steps)) ∙ sym (added_in-append steps ((call, Memory) ∷ []))))

-- and what is told of every other number stays
pub other_steps : (a b : AdderState) (number call : ℕ) (reply : AddReply) (other : ℕ) (others : List (ℕ × AddReply)) → other ≢ number → IsToldBy a.calls other others → Adds a number call reply b → IsToldBy b.calls other others
other_steps a b number call (Was sum) other others ne told m =
    let none : added_by other ((number, call) ∷ []) ≡ [] = ap (λ x. if x then call ∷ [] else []) (ne_eqb number other (λ e. ne (sym e))) in
    ap (λ s. added_by other s.calls) m.1 ∙ (added_by-append other a.calls ((number, call) ∷ []) ∙ (ap (λ l. added_by other a.calls ++ l) none ∙ (append-nil (added_by other a.calls) ∙ told)))
other_steps a b number call Memory other others ne told m = ap (λ s. added_by other s.calls) m ∙ told

-- before any call nothing is told
pub no_steps : (a : AdderState) (number : ℕ) → a.calls ≡ [] → IsToldBy a.calls number []
no_steps a number e = ap (added_by number) e
