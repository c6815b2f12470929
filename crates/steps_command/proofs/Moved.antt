-- What a source gave, and a sink took, in several calls.
use Rattle.std.proofs.Common.{◌≡◌, ℕ, ◌-◌, ◌<◌, List, [], ◌++◌, length, take, drop, Option, None, Some, refl, sym, ap, ◌∙◌, append_assoc, take-append-drop, append-nil, arith, length-append}
use Rattle.std.proofs.lemmas.List.{take_rest, take_at}
use Rattle.std.specs.Io.{StartsWith}
use Rattle.std.specs.Io.KnownBytes.{Appends}
use Rattle.std.proofs.KnownBytes.{Consumes-nil, Appends-nil, Consumes-trans, Appends-trans}
use Rattle.outside_io.specs.Bytes.{Takes, IsProperFront, AppendsOrHides}

-- ---- a source

pub takes_none : {S : Type 0} (left given : S → Option (List ℕ)) (a : S) → Takes left given a a []
takes_none left given a = record {
  from_left = Consumes-nil (left a);
  to_given = Appends-nil (given a);
}

pub takes_more : {S : Type 0} (left given : S → Option (List ℕ)) (a b c : S) (front more : List ℕ) → Takes left given a b front → Takes left given b c more → Takes left given a c (front ++ more)
takes_more left given a b c front more first second = record {
  from_left = Consumes-trans (left a) (left b) (left c) front more first.from_left second.from_left;
  to_given = Appends-trans (given a) (given b) (given c) front more first.to_given second.to_given;
}

-- ---- a sink

-- the bytes are split one write further
pub split_further : (bytes front rest : List ℕ) (n : ℕ) → bytes ≡ front ++ rest → bytes ≡ (front ++ take n rest) ++ take (length rest - n) (drop n rest)
split_further bytes front rest n split =
    split ∙ ap (λ (s : List ℕ). front ++ s) (sym (take-append-drop n rest)) ∙ sym (append_assoc front (take n rest) (drop n rest))
    ∙ ap (λ (s : List ℕ). (front ++ take n rest) ++ s) (sym (take_rest rest n))

starts_with_front : (all front rest : List ℕ) → all ≡ front ++ rest → StartsWith all front
starts_with_front all front rest is = ap (take (length front)) is ∙ take_at front rest (length front) refl

-- what was written before the rest, where there is one, is not all
pub proper_front : (all front rest : List ℕ) → all ≡ front ++ rest → 0 < length rest → IsProperFront all front
proper_front all front rest is some = (starts_with_front all front rest is, omega (arith, some, ap length is, length-append front rest))

-- what was written before a write that took nothing
pub hides_after : (a b c : Option (List ℕ)) (front : List ℕ) → Appends a b front → AppendsOrHides b c [] → AppendsOrHides a c front
hides_after None b c front first second = tt
hides_after (Some x) None c front first second = absurd first
hides_after (Some x) (Some y) None front first second = tt
hides_after (Some x) (Some y) (Some z) front first second = second ∙ ap (λ (s : List ℕ). s ++ []) first ∙ append_assoc x front [] ∙ ap (λ (s : List ℕ). x ++ s) (append-nil front)

pub hides_none : (a b c : Option (List ℕ)) (front : List ℕ) → Appends a b front → Appends b c [] → AppendsOrHides a c front
hides_none None b c front first second = tt
hides_none (Some x) None c front first second = absurd first
hides_none (Some x) (Some y) None front first second = tt
hides_none (Some x) (Some y) (Some z) front first second = second ∙ ap (λ (s : List ℕ). s ++ []) first ∙ append_assoc x front [] ∙ ap (λ (s : List ℕ). x ++ s) (append-nil front)
