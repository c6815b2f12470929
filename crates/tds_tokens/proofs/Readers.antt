-- A reader undoes a spelling: what it takes is spelled so, and what is spelled so it takes. Here for
-- readers that are made of readers.
use Rattle.std.proofs.Common.{◌≡◌, ℕ, zero, suc, ◌^◌, ◌<◌, Bool, true, cond, eqb, List, [], ◌∷◌, ◌++◌, length, get_or, take, drop, All, Option, Some, None, refl, sym, ap, subst, ◌∙◌, append_assoc, arith}
use Rattle.std.specs.Int.{w16, to_le_bytes}
use Rattle.std.specs.List.{flat_map}
use Rattle.std.specs.Str.{bytes_eq}
use Rattle.std.proofs.lemmas.List.{append-nil, nil_from_length, take_at, drop_at, take-append-drop}
use Rattle.std.proofs.lemmas.List.Elements.{All-nil, All-cons, All-head, All-tail}
use Rattle.std.proofs.lemmas.Bool.{eqb-true}
use Rattle.std.proofs.lemmas.Option.{same_Some, cond_some}
use Rattle.std.proofs.lemmas.Slice.Eq.{bytes_eq-Decides}
use Rattle.tds_tokens.specs.Spelling.{with_length}
use Rattle.std.specs.Option.{option_or}
use Rattle.tds_tokens.specs.Reading.{◌>>=◌, both, made, only, counted, strip, behind, before, times, at_end, body_at, framed}

-- ---- bytes are numbers below 256

abbrev pub IsBytes : List ℕ → Type 0
IsBytes bytes = (i : ℕ) → get_or bytes i 0 < 256

pub IsBytes-rest : (text rest : List ℕ) → IsBytes (text ++ rest) → IsBytes rest
IsBytes-rest [] rest fits = fits
IsBytes-rest (byte ∷ text) rest fits = IsBytes-rest text rest (λ i. fits (suc i))

pub IsBytes-front : (text rest : List ℕ) → IsBytes (text ++ rest) → IsBytes text
IsBytes-front [] rest fits i = lit_small
  where
    lit_small : 0 < 256
    lit_small = omega arith
IsBytes-front (byte ∷ text) rest fits zero = fits 0
IsBytes-front (byte ∷ text) rest fits (suc i) = IsBytes-front text rest (λ j. fits (suc j)) i

-- ---- steps

pub bind_some : {A B : Type 0} (r : Option A) (f : A → Option B) (y : B) → (r >>= f) ≡ Some y → (x : A) × (r ≡ Some x) × (f x ≡ Some y)
bind_some None f y e = absurd cc
bind_some (Some x) f y e = (x, refl, e)

-- what holds of each of two holds of the first that there is
pub option_or_takes : {A : Type 0} {a b : Option A} (P : A → Type 0) → ((x : A) → a ≡ Some x → P x) → ((x : A) → b ≡ Some x → P x) → (x : A) → option_or a b ≡ Some x → P x
option_or_takes {a = None} P first second x e = second x e
option_or_takes {a = Some y} P first second x e = first x e

pub strip_takes : (text bytes rest : List ℕ) → strip text bytes ≡ Some rest → bytes ≡ text ++ rest
unfolding strip
strip_takes text bytes rest e =
    let p = cond_some (bytes_eq (take (length text) bytes) text) (drop (length text) bytes) rest e in
    let same = (bytes_eq-Decides (take (length text) bytes) text).0 p.0 in
    sym (take-append-drop (length text) bytes) ∙ ap (λ front. front ++ drop (length text) bytes) same ∙ ap (λ back. text ++ back) p.1

pub strip_again : (text rest : List ℕ) → strip text (text ++ rest) ≡ Some rest
unfolding strip
strip_again text rest =
    let same : bytes_eq (take (length text) (text ++ rest)) text ≡ true = (bytes_eq-Decides (take (length text) (text ++ rest)) text).1 (take_at text rest (length text) refl) in
    rw (same, drop_at text rest (length text) refl) refl

-- ---- readers

-- what is read is spelled so, and what is spelled so is read
pub record Reads {X : Type 0} (spell : X → List ℕ) (Is : X → Type 0) (read : List ℕ → Option (X × List ℕ)) : Type 0 where
  pub takes : (bytes : List ℕ) (x : X × List ℕ) → IsBytes bytes → read bytes ≡ Some x → (bytes ≡ spell x.0 ++ x.1) × Is x.0
  pub again : (x : X) (rest : List ℕ) → Is x → read (spell x ++ rest) ≡ Some (x, rest)

-- the same, where the size of what is read is told
pub record ReadsCount {X : Type 0} (size : X → ℕ) (spell : X → List ℕ) (Is : X → Type 0) (read : ℕ → List ℕ → Option (X × List ℕ)) : Type 0 where
  pub takes : (count : ℕ) (bytes : List ℕ) (x : X × List ℕ) → IsBytes bytes → read count bytes ≡ Some x → (bytes ≡ spell x.0 ++ x.1) × Is x.0 × (size x.0 ≡ count)
  pub again : (x : X) (rest : List ℕ) → Is x → read (size x) (spell x ++ rest) ≡ Some (x, rest)

pub Reads-both : {A B : Type 0} {s : A → List ℕ} {t : B → List ℕ} {P : A → Type 0} {Q : B → Type 0} {r : List ℕ → Option (A × List ℕ)} {q : List ℕ → Option (B × List ℕ)} → Reads s P r → Reads t Q q
    → Reads (λ (x : A × B). s x.0 ++ t x.1) (λ (x : A × B). P x.0 × Q x.1) (both r q)
Reads-both {A} {B} {s} {t} {P} {Q} {r} {q} first second = record {
  takes = λ bytes x fits e.
      let a = bind_some (r bytes) (λ a. q a.1 >>= λ b. Some ((a.0, b.0), b.1)) x e in
      let b = bind_some (q a.0.1) (λ b. Some ((a.0.0, b.0), b.1)) x a.2 in
      let t1 = first.takes bytes a.0 fits a.1 in
      let t2 = second.takes a.0.1 b.0 (IsBytes-rest (s a.0.0) a.0.1 (subst IsBytes t1.0 fits)) b.1 in
      let parts : bytes ≡ (s a.0.0 ++ t b.0.0) ++ b.0.1 = t1.0 ∙ ap (λ l. s a.0.0 ++ l) t2.0 ∙ sym (append_assoc (s a.0.0) (t b.0.0) b.0.1) in
      let made : (A × B) × List ℕ = ((a.0.0, b.0.0), b.0.1) in
      subst (λ (y : (A × B) × List ℕ). (bytes ≡ (s y.0.0 ++ t y.0.1) ++ y.1) × (P y.0.0 × Q y.0.1)) (same_Some made x b.2) (parts, (t1.1, t2.1));
  again = λ x rest is. ap (both r q) (append_assoc (s x.0) (t x.1) rest) ∙ rw (first.again x.0 (t x.1 ++ rest) is.0, second.again x.1 rest is.1) refl;
}

-- what is made of a value, where the value can be told again
pub Reads-made : {A B : Type 0} {s : A → List ℕ} {P : A → Type 0} {r : List ℕ → Option (A × List ℕ)} (f : A → B) (g : B → A) (Q : B → Type 0)
    → ((a : A) → P a → Q (f a) × (g (f a) ≡ a)) → ((b : B) → Q b → P (g b) × (f (g b) ≡ b)) → Reads s P r → Reads (λ b. s (g b)) Q (made f r)
Reads-made {A} {B} {s} {P} {r} f g Q there here reads = record {
  takes = λ bytes x fits e.
      let a = bind_some (r bytes) (λ a. Some (f a.0, a.1)) x e in
      let t = reads.takes bytes a.0 fits a.1 in
      let h = there a.0.0 t.1 in
      let parts : bytes ≡ s (g (f a.0.0)) ++ a.0.1 = t.0 ∙ ap (λ y. s y ++ a.0.1) (sym h.1) in
      let whole : B × List ℕ = (f a.0.0, a.0.1) in
      subst (λ (y : B × List ℕ). (bytes ≡ s (g y.0) ++ y.1) × Q y.0) (same_Some whole x a.2) (parts, h.0);
  again = λ b rest is. let h = here b is in rw (reads.again (g b) rest h.0) (ap (λ y. Some (y, rest)) h.1);
}

-- what is made of a value by a constructor
pub made_takes : {A B : Type 0} {s : A → List ℕ} {P : A → Type 0} {r : List ℕ → Option (A × List ℕ)} (f : A → B) → Reads s P r → (bytes : List ℕ) (y : B × List ℕ) → IsBytes bytes → made f r bytes ≡ Some y
    → (a : A) × (f a ≡ y.0) × (bytes ≡ s a ++ y.1) × P a
made_takes {A} {B} {s} {P} {r} f reads bytes y fits e =
    let a = bind_some (r bytes) (λ a. Some (f a.0, a.1)) y e in
    let t = reads.takes bytes a.0 fits a.1 in
    let whole : B × List ℕ = (f a.0.0, a.0.1) in
    let same = same_Some whole y a.2 in
    (a.0.0, ap (λ (z : B × List ℕ). z.0) same, t.0 ∙ ap (λ (z : B × List ℕ). s a.0.0 ++ z.1) same, t.1)

pub made_again : {A B : Type 0} {s : A → List ℕ} {P : A → Type 0} {r : List ℕ → Option (A × List ℕ)} (f : A → B) → Reads s P r → (a : A) (rest : List ℕ) → P a → made f r (s a ++ rest) ≡ Some (f a, rest)
made_again f reads a rest is = rw (reads.again a rest is) refl

pub Reads-only : {A : Type 0} {s : A → List ℕ} {P : A → Type 0} {r : List ℕ → Option (A × List ℕ)} (test : A → Bool) → Reads s P r → Reads s (λ a. P a × (test a ≡ true)) (only test r)
Reads-only {A} {s} {P} {r} test reads = record {
  takes = λ bytes x fits e.
      let a = bind_some (r bytes) (λ a. cond (test a.0) (Some a) None) x e in
      let p = cond_some (test a.0.0) a.0 x a.2 in
      let t = reads.takes bytes a.0 fits a.1 in
      subst (λ (y : A × List ℕ). (bytes ≡ s y.0 ++ y.1) × (P y.0 × (test y.0 ≡ true))) p.1 (t.0, (t.1, p.0));
  again = λ x rest is. rw (reads.again x rest is.0, is.1) refl;
}

-- the same reader, where what it takes is said otherwise
pub Reads-is : {A : Type 0} {s : A → List ℕ} {P : A → Type 0} {r : List ℕ → Option (A × List ℕ)} (Q : A → Type 0) → ((a : A) → P a → Q a) → ((a : A) → Q a → P a) → Reads s P r → Reads s Q r
Reads-is Q there here reads = record {
  takes = λ bytes x fits e. let t = reads.takes bytes x fits e in (t.0, there x.0 t.1);
  again = λ x rest is. reads.again x rest (here x is);
}

pub Reads-behind : {A : Type 0} {s : A → List ℕ} {P : A → Type 0} {r : List ℕ → Option (A × List ℕ)} (text : List ℕ) → Reads s P r → Reads (λ a. text ++ s a) P (behind text r)
Reads-behind {A} {s} {P} {r} text reads = record {
  takes = λ bytes x fits e.
      let a = bind_some (strip text bytes) r x e in
      let start = strip_takes text bytes a.0 a.1 in
      let t = reads.takes a.0 x (IsBytes-rest text a.0 (subst IsBytes start fits)) a.2 in
      (start ∙ ap (λ l. text ++ l) t.0 ∙ sym (append_assoc text (s x.0) x.1), t.1);
  again = λ x rest is. ap (behind text r) (append_assoc text (s x) rest) ∙ rw (strip_again text (s x ++ rest), reads.again x rest is) refl;
}

pub Reads-before : {A : Type 0} {s : A → List ℕ} {P : A → Type 0} {r : List ℕ → Option (A × List ℕ)} (text : List ℕ) → Reads s P r → Reads (λ a. s a ++ text) P (before text r)
Reads-before {A} {s} {P} {r} text reads = record {
  takes = λ bytes x fits e.
      let a = bind_some (r bytes) (λ a. strip text a.1 >>= λ rest. Some (a.0, rest)) x e in
      let b = bind_some (strip text a.0.1) (λ rest. Some (a.0.0, rest)) x a.2 in
      let t = reads.takes bytes a.0 fits a.1 in
      let parts : bytes ≡ (s a.0.0 ++ text) ++ b.0 = t.0 ∙ ap (λ l. s a.0.0 ++ l) (strip_takes text a.0.1 b.0 b.1) ∙ sym (append_assoc (s a.0.0) text b.0) in
      let whole : A × List ℕ = (a.0.0, b.0) in
      subst (λ (y : A × List ℕ). (bytes ≡ (s y.0 ++ text) ++ y.1) × P y.0) (same_Some whole x b.2) (parts, t.1);
  again = λ x rest is. ap (before text r) (append_assoc (s x) text rest) ∙ rw (reads.again x (text ++ rest) is, strip_again text rest) refl;
}

pub Reads-counted : {X : Type 0} {c : ℕ → List ℕ} {C : ℕ → Type 0} {count : List ℕ → Option (ℕ × List ℕ)} {size : X → ℕ} {s : X → List ℕ} {P : X → Type 0} {items : ℕ → List ℕ → Option (X × List ℕ)}
    → Reads c C count → ReadsCount size s P items → Reads (λ x. c (size x) ++ s x) (λ x. C (size x) × P x) (counted count items)
Reads-counted {X} {c} {C} {count} {size} {s} {P} {items} first second = record {
  takes = λ bytes x fits e.
      let n = bind_some (count bytes) (λ n. items n.0 n.1) x e in
      let t1 = first.takes bytes n.0 fits n.1 in
      let t2 = second.takes n.0.0 n.0.1 x (IsBytes-rest (c n.0.0) n.0.1 (subst IsBytes t1.0 fits)) n.2 in
      let parts : bytes ≡ (c n.0.0 ++ s x.0) ++ x.1 = t1.0 ∙ ap (λ l. c n.0.0 ++ l) t2.0 ∙ sym (append_assoc (c n.0.0) (s x.0) x.1) in
      (parts ∙ ap (λ k. (c k ++ s x.0) ++ x.1) (sym t2.2), (subst C (sym t2.2) t1.1, t2.1));
  again = λ x rest is. ap (counted count items) (append_assoc (c (size x)) (s x) rest) ∙ rw (first.again (size x) (s x ++ rest) is.0, second.again x rest is.1) refl;
}

-- ---- so many values

times_takes : {A : Type 0} {s : A → List ℕ} {P : A → Type 0} {r : List ℕ → Option (A × List ℕ)} (reads : Reads s P r) (count : ℕ) (bytes : List ℕ) (x : List A × List ℕ) → IsBytes bytes → times count r bytes ≡ Some x
    → (bytes ≡ flat_map s x.0 ++ x.1) × All P x.0 × (length x.0 ≡ count)
times_takes {A} {s} {P} {r} reads zero bytes x fits e =
    let whole : List A × List ℕ = ([], bytes) in
    subst (λ (y : List A × List ℕ). (bytes ≡ flat_map s y.0 ++ y.1) × All P y.0 × (length y.0 ≡ 0)) (same_Some whole x e) (refl, All-nil P, refl)
times_takes {A} {s} {P} {r} reads (suc count) bytes x fits e =
    let a = bind_some (r bytes) (λ first. times count r first.1 >>= λ others. Some (first.0 ∷ others.0, others.1)) x e in
    let b = bind_some (times count r a.0.1) (λ others. Some (a.0.0 ∷ others.0, others.1)) x a.2 in
    let t1 = reads.takes bytes a.0 fits a.1 in
    let t2 = times_takes reads count a.0.1 b.0 (IsBytes-rest (s a.0.0) a.0.1 (subst IsBytes t1.0 fits)) b.1 in
    let parts : bytes ≡ flat_map s (a.0.0 ∷ b.0.0) ++ b.0.1 = t1.0 ∙ ap (λ l. s a.0.0 ++ l) t2.0 ∙ sym (append_assoc (s a.0.0) (flat_map s b.0.0) b.0.1) in
    let whole : List A × List ℕ = (a.0.0 ∷ b.0.0, b.0.1) in
    subst (λ (y : List A × List ℕ). (bytes ≡ flat_map s y.0 ++ y.1) × All P y.0 × (length y.0 ≡ suc count)) (same_Some whole x b.2) (parts, All-cons P a.0.0 b.0.0 t1.1 t2.1, ap suc t2.2)

times_again : {A : Type 0} {s : A → List ℕ} {P : A → Type 0} {r : List ℕ → Option (A × List ℕ)} (reads : Reads s P r) (xs : List A) (rest : List ℕ) → All P xs → times (length xs) r (flat_map s xs ++ rest) ≡ Some (xs, rest)
times_again reads [] rest all = refl
times_again {A} {s} {P} {r} reads (x ∷ xs) rest all =
    ap (times (suc (length xs)) r) (append_assoc (s x) (flat_map s xs) rest) ∙ rw (reads.again x (flat_map s xs ++ rest) (All-head P x xs all), times_again reads xs rest (All-tail P x xs all)) refl

pub ReadsCount-times : {A : Type 0} {s : A → List ℕ} {P : A → Type 0} {r : List ℕ → Option (A × List ℕ)} → Reads s P r → ReadsCount length (flat_map s) (All P) (λ n. times n r)
ReadsCount-times reads = record { takes = times_takes reads; again = times_again reads }

-- ---- a value behind its length

at_end_some : {A : Type 0} (x : A) (left rest : List ℕ) (y : A × List ℕ) → at_end x left rest ≡ Some y → (left ≡ []) × ((x, rest) ≡ y)
at_end_some x left rest y e =
    let p = cond_some (eqb (length left) 0) (x, rest) y e in
    (nil_from_length left (eqb-true _ _ p.0), p.1)

pub framed_takes : {A : Type 0} (r : List ℕ → Option (A × List ℕ)) → Reads with_length (λ body. length body < 2 ^ 16) body_at → (bytes : List ℕ) (x : A × List ℕ) → IsBytes bytes → framed r bytes ≡ Some x
    → (body : List ℕ) × (r body ≡ Some (x.0, [])) × (bytes ≡ with_length body ++ x.1) × IsBytes body × (length body < 2 ^ 16)
framed_takes {A} r bodies bytes x fits e =
    let body = bind_some (body_at bytes) (λ body. r body.0 >>= λ x. at_end x.0 x.1 body.1) x e in
    let a = bind_some (r body.0.0) (λ y. at_end y.0 y.1 body.0.1) x body.2 in
    let end = at_end_some a.0.0 a.0.1 body.0.1 x a.2 in
    let t = bodies.takes bytes body.0 fits body.1 in
    let inside : IsBytes body.0.0 = IsBytes-front body.0.0 body.0.1 (IsBytes-rest (to_le_bytes w16 (length body.0.0)) (body.0.0 ++ body.0.1) (subst IsBytes (t.0 ∙ append_assoc (to_le_bytes w16 (length body.0.0)) body.0.0 body.0.1) fits)) in
    let read : r body.0.0 ≡ Some (a.0.0, []) = a.1 ∙ ap (λ left. Some (a.0.0, left)) end.0 in
    (body.0.0, read ∙ ap (λ (y : A × List ℕ). Some (y.0, [])) end.1, t.0 ∙ ap (λ (y : A × List ℕ). with_length body.0.0 ++ y.1) end.1, inside, t.1)

pub framed_again : {A : Type 0} (r : List ℕ → Option (A × List ℕ)) → Reads with_length (λ body. length body < 2 ^ 16) body_at → (body : List ℕ) (x : A) (rest : List ℕ) → length body < 2 ^ 16 → r body ≡ Some (x, [])
    → framed r (with_length body ++ rest) ≡ Some (x, rest)
framed_again r bodies body x rest lt e = rw (bodies.again body rest lt, e) refl

pub Reads-framed : {A : Type 0} {s : A → List ℕ} {P : A → Type 0} {r : List ℕ → Option (A × List ℕ)} → Reads with_length (λ body. length body < 2 ^ 16) body_at → Reads s P r
    → Reads (λ a. with_length (s a)) (λ a. (length (s a) < 2 ^ 16) × P a) (framed r)
Reads-framed {A} {s} {P} {r} bodies reads = record {
  takes = λ bytes x fits e.
      let t = framed_takes r bodies bytes x fits e in
      let inner = reads.takes t.0 (x.0, []) t.3 t.1 in
      let all : t.0 ≡ s x.0 = inner.0 ∙ append-nil (s x.0) in
      (t.2 ∙ ap (λ body. with_length body ++ x.1) all, (subst (λ (body : List ℕ). length body < 2 ^ 16) all t.4, inner.1));
  again = λ x rest is. framed_again r bodies (s x) x rest is.0 (ap r (sym (append-nil (s x))) ∙ reads.again x [] is.1);
}
