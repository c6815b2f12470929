-- What follows from a conjunction, a disjunction or an implication that is true.
use Rattle.std.specs.Prelude.{◌≡◌, Bool, true, false, ◌||◌, ◌&&◌, ◌⊎◌, refl}
use Rattle.std.proofs.Common.{inl, inr}

pub or_true : (b c : Bool) → (b || c) ≡ true → (b ≡ true) ⊎ (c ≡ true)
or_true true c e = inl refl
or_true false c e = inr e

pub and_true : (b c : Bool) → (b && c) ≡ true → (b ≡ true) × (c ≡ true)
and_true true c e = (refl, e)
and_true false c e = absurd (cc)

pub or_left : (b c : Bool) → b ≡ true → (b || c) ≡ true
or_left b c e = rw e

pub or_right : (b c : Bool) → c ≡ true → (b || c) ≡ true
or_right true c e = refl
or_right false c e = e

pub and_both : (b c : Bool) → b ≡ true → c ≡ true → (b && c) ≡ true
and_both b c e f = rw (e, f)

abbrev pub implies : Bool → Bool → Bool
implies true c = c
implies false c = true

pub implied : (b c : Bool) → implies b c ≡ true → b ≡ true → c ≡ true
implied true c e f = e
implied false c e f = absurd (cc)
