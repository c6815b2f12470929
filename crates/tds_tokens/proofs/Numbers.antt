-- Numbers that are read are those that are spelled.
use Rattle.std.proofs.Common.{◌≡◌, ℕ, ◌+◌, ◌*◌, ◌/◌, ◌%◌, ◌^◌, ◌<◌, ◌≤◌, Bool, true, false, cond, eqb, ltb, List, [], ◌∷◌, ◌++◌, length, take, drop, Option, Some, None, ℤ, pos, negsuc, ◌+ℤ◌, refl, sym, ap, subst, ◌∙◌, arith}
use Rattle.std.specs.Prelude.{FitsSigned}
use Rattle.std.specs.Int.{w16, w32, w64, from_le_bytes, from_be_bytes, to_le_bytes, to_be_bytes, cast_signed, cast_unsigned}
use Rattle.std.proofs.lemmas.Bool.{ltb-false, le-ltb, eqb-true, eq-eqb}
use Rattle.std.proofs.lemmas.Int.{to_z-of_z, of_z-to_z, wrapping_add-bits, SFits-int_wrap}
use Rattle.std.proofs.lemmas.List.{take_at, drop_at, take-append-drop, length-append, length-take}
use Rattle.std.proofs.lemmas.Nat.{le_bytes_2, le_bytes_4, le_bytes_8, be_bytes_4, from_le_bytes-to_le_bytes_2, from_le_bytes-to_le_bytes_4, from_le_bytes-to_le_bytes_8, from_be_bytes-to_be_bytes_4}
use Rattle.std.proofs.lemmas.Option.{same_Some}
use Rattle.tds_tokens.specs.Reading.{byte_at, number_at, big_number_at, signed_at, half_at}
use Rattle.tds_tokens.proofs.Readers.{IsBytes, IsBytes-front, Reads, Reads-made, Reads-only}

-- a test that did not fail
pub guard_some : {A : Type 0} (b : Bool) (x y : A) → cond b None (Some x) ≡ Some y → (b ≡ false) × (x ≡ y)
guard_some true x y e = absurd cc
guard_some false x y e = (refl, same_Some x y e)

byte_takes : (bytes : List ℕ) (x : ℕ × List ℕ) → IsBytes bytes → byte_at bytes ≡ Some x → (bytes ≡ x.0 ∷ x.1) × (x.0 < 2 ^ 8)
unfolding byte_at
byte_takes [] x fits e = absurd cc
byte_takes (byte ∷ bytes) x fits e =
    let whole : ℕ × List ℕ = (byte, bytes) in
    subst (λ (y : ℕ × List ℕ). (byte ∷ bytes ≡ y.0 ∷ y.1) × (y.0 < 2 ^ 8)) (same_Some whole x e) (refl, fits 0)

pub Reads-byte : Reads (λ byte. byte ∷ []) (λ byte. byte < 2 ^ 8) byte_at
unfolding byte_at
Reads-byte = record { takes = byte_takes; again = λ byte rest is. refl }

-- ---- numbers of several bytes

-- what is known of a width in one of the two orders
record IsWide (len limit : ℕ) (to : ℕ → List ℕ) (from : List ℕ → ℕ) : Type 0 where
  size : (n : ℕ) → length (to n) ≡ len
  back : (bytes : List ℕ) → length bytes ≡ len → IsBytes bytes → to (from bytes) ≡ bytes
  again : (n : ℕ) → n < limit → from (to n) ≡ n
  below : (bytes : List ℕ) → IsBytes bytes → from bytes < limit

wide16 : IsWide 2 (2 ^ 16) (to_le_bytes w16) (from_le_bytes w16)
wide16 = record {
  size = λ n. refl;
  back = λ bytes len fits. le_bytes_2 bytes _ len fits refl;
  again = λ n lt. from_le_bytes-to_le_bytes_2 n lt;
  below = λ bytes fits. omega (arith, fits 0, fits 1);
}

wide32 : IsWide 4 (2 ^ 32) (to_le_bytes w32) (from_le_bytes w32)
wide32 = record {
  size = λ n. refl;
  back = λ bytes len fits. le_bytes_4 bytes _ len fits refl;
  again = λ n lt. from_le_bytes-to_le_bytes_4 n lt;
  below = λ bytes fits. omega (arith, fits 0, fits 1, fits 2, fits 3);
}

wide64 : IsWide 8 (2 ^ 64) (to_le_bytes w64) (from_le_bytes w64)
wide64 = record {
  size = λ n. refl;
  back = λ bytes len fits. le_bytes_8 bytes _ len fits refl;
  again = λ n lt. from_le_bytes-to_le_bytes_8 n lt;
  below = λ bytes fits. omega (arith, fits 0, fits 1, fits 2, fits 3, fits 4, fits 5, fits 6, fits 7);
}

wide32_big : IsWide 4 (2 ^ 32) (to_be_bytes w32) (from_be_bytes w32)
wide32_big = record {
  size = λ n. refl;
  back = λ bytes len fits. be_bytes_4 bytes _ len fits refl;
  again = λ n lt. from_be_bytes-to_be_bytes_4 n lt;
  below = λ bytes fits. omega (arith, fits 0, fits 1, fits 2, fits 3);
}

abbrev read_by : ℕ → (List ℕ → ℕ) → List ℕ → Option (ℕ × List ℕ)
read_by len from bytes = cond (ltb (length bytes) len) None (Some (from (take len bytes), drop len bytes))

pub IsBytes-take : (n : ℕ) (bytes : List ℕ) → IsBytes bytes → IsBytes (take n bytes)
IsBytes-take n bytes fits = IsBytes-front (take n bytes) (drop n bytes) (subst IsBytes (sym (take-append-drop n bytes)) fits)

Reads-wide : (len limit : ℕ) (to : ℕ → List ℕ) (from : List ℕ → ℕ) → IsWide len limit to from → Reads to (λ n. n < limit) (read_by len from)
Reads-wide len limit to from wide = record {
  takes = λ bytes x fits e.
      let whole : ℕ × List ℕ = (from (take len bytes), drop len bytes) in
      let g = guard_some (ltb (length bytes) len) whole x e in
      let long : len ≤ length bytes = ltb-false _ _ g.0 in
      let front : to (from (take len bytes)) ≡ take len bytes = wide.back (take len bytes) (omega (arith, length-take len bytes)) (IsBytes-take len bytes fits) in
      let parts : bytes ≡ to (from (take len bytes)) ++ drop len bytes = sym (take-append-drop len bytes) ∙ ap (λ l. l ++ drop len bytes) (sym front) in
      subst (λ (y : ℕ × List ℕ). (bytes ≡ to y.0 ++ y.1) × (y.0 < limit)) g.1 (parts, wide.below (take len bytes) (IsBytes-take len bytes fits));
  again = λ n rest lt.
      let size = wide.size n in
      let long : ltb (length (to n ++ rest)) len ≡ false = le-ltb _ _ (omega (arith, length-append (to n) rest)) in
      rw (long, take_at (to n) rest len size, drop_at (to n) rest len size, wide.again n lt) refl;
}

pub Reads-16 : Reads (to_le_bytes w16) (λ n. n < 2 ^ 16) (number_at w16)
unfolding number_at
Reads-16 = Reads-wide 2 (2 ^ 16) (to_le_bytes w16) (from_le_bytes w16) wide16

pub Reads-32 : Reads (to_le_bytes w32) (λ n. n < 2 ^ 32) (number_at w32)
unfolding number_at
Reads-32 = Reads-wide 4 (2 ^ 32) (to_le_bytes w32) (from_le_bytes w32) wide32

pub Reads-64 : Reads (to_le_bytes w64) (λ n. n < 2 ^ 64) (number_at w64)
unfolding number_at
Reads-64 = Reads-wide 8 (2 ^ 64) (to_le_bytes w64) (from_le_bytes w64) wide64

pub Reads-32_big : Reads (to_be_bytes w32) (λ n. n < 2 ^ 32) big_number_at
unfolding big_number_at
Reads-32_big = Reads-wide 4 (2 ^ 32) (to_be_bytes w32) (from_be_bytes w32) wide32_big

-- ---- signed numbers

signed16 : (n : ℕ) → n < 2 ^ 16 → FitsSigned w16 (cast_signed w16 n)
signed16 n lt =
    let same : (n + 0) % 2 ^ 16 ≡ n = omega arith in
    subst (FitsSigned w16) (sym (wrapping_add-bits w16 n 0 lt (omega arith)) ∙ ap (cast_signed w16) same) (SFits-int_wrap w16 (cast_signed w16 n +ℤ cast_signed w16 0))

signed32 : (n : ℕ) → n < 2 ^ 32 → FitsSigned w32 (cast_signed w32 n)
signed32 n lt =
    let same : (n + 0) % 2 ^ 32 ≡ n = omega arith in
    subst (FitsSigned w32) (sym (wrapping_add-bits w32 n 0 lt (omega arith)) ∙ ap (cast_signed w32) same) (SFits-int_wrap w32 (cast_signed w32 n +ℤ cast_signed w32 0))

signed64 : (n : ℕ) → n < 2 ^ 64 → FitsSigned w64 (cast_signed w64 n)
signed64 n lt =
    let same : (n + 0) % 2 ^ 64 ≡ n = omega arith in
    subst (FitsSigned w64) (sym (wrapping_add-bits w64 n 0 lt (omega arith)) ∙ ap (cast_signed w64) same) (SFits-int_wrap w64 (cast_signed w64 n +ℤ cast_signed w64 0))

bits16 : (z : ℤ) → FitsSigned w16 z → cast_unsigned w16 z < 2 ^ 16
bits16 (pos n) fits = omega (arith, fits.sfits)
bits16 (negsuc n) fits = omega (arith, fits.sfits)

bits32 : (z : ℤ) → FitsSigned w32 z → cast_unsigned w32 z < 2 ^ 32
bits32 (pos n) fits = omega (arith, fits.sfits)
bits32 (negsuc n) fits = omega (arith, fits.sfits)

bits64 : (z : ℤ) → FitsSigned w64 z → cast_unsigned w64 z < 2 ^ 64
bits64 (pos n) fits = omega (arith, fits.sfits)
bits64 (negsuc n) fits = omega (arith, fits.sfits)

pub Reads-signed16 : Reads (λ z. to_le_bytes w16 (cast_unsigned w16 z)) (FitsSigned w16) (signed_at w16)
unfolding signed_at
Reads-signed16 =
    Reads-made (cast_signed w16) (cast_unsigned w16) (FitsSigned w16) (λ n is. (signed16 n is, of_z-to_z w16 n is)) (λ z is. (bits16 z is, to_z-of_z w16 z is)) Reads-16

pub Reads-signed32 : Reads (λ z. to_le_bytes w32 (cast_unsigned w32 z)) (FitsSigned w32) (signed_at w32)
unfolding signed_at
Reads-signed32 =
    Reads-made (cast_signed w32) (cast_unsigned w32) (FitsSigned w32) (λ n is. (signed32 n is, of_z-to_z w32 n is)) (λ z is. (bits32 z is, to_z-of_z w32 z is)) Reads-32

pub Reads-signed64 : Reads (λ z. to_le_bytes w64 (cast_unsigned w64 z)) (FitsSigned w64) (signed_at w64)
unfolding signed_at
Reads-signed64 =
    Reads-made (cast_signed w64) (cast_unsigned w64) (FitsSigned w64) (λ n is. (signed64 n is, of_z-to_z w64 n is)) (λ z is. (bits64 z is, to_z-of_z w64 z is)) Reads-64

pub Reads-half : Reads (λ n. to_le_bytes w16 (2 * n)) (λ n. 2 * n < 2 ^ 16) half_at
unfolding half_at
Reads-half =
    Reads-made (λ n. n / 2) (λ n. 2 * n) (λ n. 2 * n < 2 ^ 16)
    (λ n is. let even : n % 2 ≡ 0 = eqb-true _ _ is.1 in (omega (arith, is.0), omega arith))
    (λ n is. ((is, eq-eqb ((2 * n) % 2) 0 (omega arith)), omega arith))
    (Reads-only (λ n. eqb (n % 2) 0) Reads-16)
