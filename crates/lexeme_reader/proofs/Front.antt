-- A list that is read member by member.
use Rattle.std.specs.Prelude.{◌≡◌, ℕ, suc, ◌+◌, Bool, true, false, List, [], ◌∷◌, ◌++◌, Option, Some, None, if◌then◌else◌, refl}
use Rattle.std.proofs.Common.{ap, sym, append_assoc, arith}
use Rattle.tsql_grammar.specs.Terminals.{Terminal}
use Rattle.lexeme_reader.specs.Reading.{Outcome, ◌>>=◌, when, front}

pub front_begin : {A : Type 0} (o : Outcome (List A)) → front [] o ≡ o
front_begin None = refl
front_begin (Some x) = refl

-- one more member
pub front_cons : {A : Type 0} (done : List A) (x : A) (o : Outcome (List A)) → front done (o >>= λ y. Some (x ∷ y.0, y.1)) ≡ front (done ++ x ∷ []) o
front_cons done x None = refl
front_cons {A = A} done x (Some y) = ap (λ (l : List A). Some (l, y.1)) (sym (append_assoc done (x ∷ []) y.0))

pub front_some : {A : Type 0} (done : List A) (x : List A) (w : List Terminal) → front done (Some (x, w)) ≡ Some (done ++ x, w)
front_some done x w = refl

pub front_bind : {A X : Type 0} (done : List A) (o : Option X) (f : X → Outcome (List A)) → front done (o >>= f) ≡ (o >>= λ x. front done (f x))
front_bind done None f = refl
front_bind done (Some x) f = refl

pub front_when : {A X : Type 0} (done : List A) (o : Option X) (f : X → Outcome (List A)) (other : Outcome (List A)) → front done (when o f other) ≡ when o (λ x. front done (f x)) (front done other)
front_when done None f other = refl
front_when done (Some x) f other = refl

pub front_if : {A : Type 0} (done : List A) (b : Bool) (x y : Outcome (List A)) → front done (if b then x else y) ≡ (if b then front done x else front done y)
front_if done true x y = refl
front_if done false x y = refl

-- what is read goes through what follows it, step by step
pub bind_assoc : {X Y Z : Type 0} (o : Option X) (f : X → Option Y) (g : Y → Option Z) → (o >>= f >>= g) ≡ (o >>= λ x. f x >>= g)
bind_assoc None f g = refl
bind_assoc (Some x) f g = refl

pub when_bind : {X Y Z : Type 0} (o : Option X) (f : X → Option Y) (other : Option Y) (g : Y → Option Z) → (when o f other >>= g) ≡ when o (λ x. f x >>= g) (other >>= g)
when_bind None f other g = refl
when_bind (Some x) f other g = refl

pub if_bind : {Y Z : Type 0} (b : Bool) (x y : Option Y) (g : Y → Option Z) → ((if b then x else y) >>= g) ≡ (if b then x >>= g else y >>= g)
if_bind true x y g = refl
if_bind false x y g = refl

-- what is read as it is
pub bind_same : {A : Type 0} (o : Outcome A) → (o >>= λ x. Some (x.0, x.1)) ≡ o
bind_same None = refl
bind_same (Some x) = refl

-- a count that is read one by one
abbrev pub counted : ℕ → Outcome ℕ → Outcome ℕ
counted n o = o >>= λ x. Some (n + x.0, x.1)

pub counted_begin : (o : Outcome ℕ) → counted 0 o ≡ o
counted_begin None = refl
counted_begin (Some x) = let e : 0 + x.0 ≡ x.0 = omega arith in ap (λ (m : ℕ). Some (m, x.1)) e

pub counted_suc : (n : ℕ) (o : Outcome ℕ) → counted n (o >>= λ x. Some (suc x.0, x.1)) ≡ counted (n + 1) o
counted_suc n None = refl
counted_suc n (Some x) = let e : n + suc x.0 ≡ n + 1 + x.0 = omega arith in ap (λ (m : ℕ). Some (m, x.1)) e
