-- Bytes and texts that are read are those that are spelled.
use Rattle.std.proofs.Common.{◌≡◌, ℕ, zero, suc, ◌+◌, ◌*◌, ◌/◌, ◌%◌, ◌^◌, ◌<◌, ◌≤◌, false, ltb, List, [], ◌∷◌, ◌++◌, length, take, drop, Some, refl, sym, ap, subst, ◌∙◌, arith}
use Rattle.std.specs.Int.{w16, to_le_bytes}
use Rattle.std.proofs.lemmas.Bool.{ltb-false, le-ltb}
use Rattle.std.proofs.lemmas.List.{take_at, drop_at, take-append-drop, length-append, length-take}
use Rattle.std.proofs.lemmas.List.Elements.{All-nil, All-cons, All-head, All-tail, All-from_get_or}
use Rattle.std.proofs.lemmas.Option.{same_Some}
use Rattle.value_types.specs.Units.{units_of, le_bytes_of}
use Rattle.tds_tokens.specs.Spelling.{b_varbyte, b_varchar, us_varchar, with_length}
use Rattle.tds_tokens.specs.Ranges.{AreUnits, AreOctets}
use Rattle.tds_tokens.specs.Reading.{bytes_at, units_at, b_varbyte_at, b_varchar_at, us_varchar_at, body_at}
use Rattle.tds_tokens.proofs.Lengths.{length-le_bytes_of}
use Rattle.tds_tokens.proofs.Readers.{IsBytes, bind_some, Reads, ReadsCount, Reads-counted}
use Rattle.tds_tokens.proofs.Numbers.{guard_some, IsBytes-take, Reads-byte, Reads-16}

-- ---- bytes

pub bytes_take : (count : ℕ) (bytes : List ℕ) (x : List ℕ × List ℕ) → IsBytes bytes → bytes_at count bytes ≡ Some x → (bytes ≡ x.0 ++ x.1) × IsBytes x.0 × (length x.0 ≡ count)
unfolding bytes_at
bytes_take count bytes x fits e =
    let whole : List ℕ × List ℕ = (take count bytes, drop count bytes) in
    let g = guard_some (ltb (length bytes) count) whole x e in
    let long : count ≤ length bytes = ltb-false _ _ g.0 in
    subst (λ (y : List ℕ × List ℕ). (bytes ≡ y.0 ++ y.1) × IsBytes y.0 × (length y.0 ≡ count)) g.1 (sym (take-append-drop count bytes), IsBytes-take count bytes fits, omega (arith, length-take count bytes))

pub bytes_again : (count : ℕ) (part rest : List ℕ) → length part ≡ count → bytes_at count (part ++ rest) ≡ Some (part, rest)
unfolding bytes_at
bytes_again count part rest len =
    let long : ltb (length (part ++ rest)) count ≡ false = le-ltb _ _ (omega (arith, length-append part rest)) in
    rw (long, take_at part rest count len, drop_at part rest count len) refl

octets_from : (bytes : List ℕ) → IsBytes bytes → AreOctets bytes
octets_from bytes fits = All-from_get_or (λ byte. byte < 2 ^ 8) bytes 0 (λ i lt. fits i)

ReadsCount-bytes : ReadsCount length (λ part. part) (λ part. Unit {0}) bytes_at
ReadsCount-bytes = record {
  takes = λ count bytes x fits e. let t = bytes_take count bytes x fits e in (t.0, tt, t.2);
  again = λ part rest is. bytes_again (length part) part rest refl;
}

ReadsCount-octets : ReadsCount length (λ part. part) AreOctets bytes_at
ReadsCount-octets = record {
  takes = λ count bytes x fits e. let t = bytes_take count bytes x fits e in (t.0, octets_from x.0 t.1, t.2);
  again = λ part rest is. bytes_again (length part) part rest refl;
}

-- what stands behind a length of two bytes
pub Reads-body : Reads with_length (λ body. length body < 2 ^ 16) body_at
unfolding body_at
Reads-body =
    let reads = Reads-counted Reads-16 ReadsCount-bytes in
    record {
      takes = λ bytes x fits e. let t = reads.takes bytes x fits e in (t.0, t.1.0);
      again = λ body rest is. reads.again body rest (is, tt);
    }

pub Reads-b_varbyte : Reads b_varbyte (λ bytes. (length bytes < 2 ^ 8) × AreOctets bytes) b_varbyte_at
unfolding b_varbyte_at
Reads-b_varbyte = Reads-counted Reads-byte ReadsCount-octets

-- ---- units

unit_bytes : (low high : ℕ) → low < 256 → high < 256 → to_le_bytes w16 (low + 256 * high) ≡ low ∷ high ∷ []
unit_bytes low high l h =
    let first : (low + 256 * high) % 256 ≡ low = omega arith in
    let second : ((low + 256 * high) / 256) % 256 ≡ high = omega arith in
    rw (first, second) refl

-- the units of twice as many bytes
units_of_bytes : (count : ℕ) (bytes : List ℕ) → length bytes ≡ 2 * count → IsBytes bytes → (le_bytes_of (units_of bytes) ≡ bytes) × AreUnits (units_of bytes) × (length (units_of bytes) ≡ count)
units_of_bytes zero [] len fits = (refl, All-nil (λ unit. unit < 2 ^ 16), refl)
units_of_bytes (suc count) [] len fits = absurd (omega arith)
units_of_bytes count (low ∷ []) len fits = absurd (omega arith)
units_of_bytes zero (low ∷ high ∷ bytes) len fits = absurd (omega arith)
units_of_bytes (suc count) (low ∷ high ∷ bytes) len fits =
    let others = units_of_bytes count bytes (omega arith) (λ i. fits (suc (suc i))) in
    let spelled : le_bytes_of (units_of (low ∷ high ∷ bytes)) ≡ low ∷ high ∷ bytes =
    ap (λ here. here ++ le_bytes_of (units_of bytes)) (unit_bytes low high (fits 0) (fits 1)) ∙ ap (λ there. low ∷ high ∷ there) others.0 in
    (spelled, All-cons (λ unit. unit < 2 ^ 16) (low + 256 * high) (units_of bytes) (omega (arith, fits 0, fits 1)) others.1, ap suc others.2)

units_of-le_bytes_of : (units : List ℕ) → AreUnits units → units_of (le_bytes_of units) ≡ units
units_of-le_bytes_of [] are = refl
units_of-le_bytes_of (unit ∷ units) are =
    let lt : unit < 2 ^ 16 = All-head (λ u. u < 2 ^ 16) unit units are in
    let first : unit % 256 + 256 * (unit / 256 % 256) ≡ unit = omega arith in
    ap (λ u. u ∷ units_of (le_bytes_of units)) first ∙ ap (λ us. unit ∷ us) (units_of-le_bytes_of units (All-tail (λ u. u < 2 ^ 16) unit units are))

pub ReadsCount-units : ReadsCount length le_bytes_of AreUnits units_at
ReadsCount-units = record {
  takes = λ count bytes x fits e.
      let a = bind_some (bytes_at (2 * count) bytes) (λ part. Some (units_of part.0, part.1)) x e in
      let t = bytes_take (2 * count) bytes a.0 fits a.1 in
      let u = units_of_bytes count a.0.0 t.2 t.1 in
      let parts : bytes ≡ le_bytes_of (units_of a.0.0) ++ a.0.1 = t.0 ∙ ap (λ front. front ++ a.0.1) (sym u.0) in
      let whole : List ℕ × List ℕ = (units_of a.0.0, a.0.1) in
      subst (λ (y : List ℕ × List ℕ). (bytes ≡ le_bytes_of y.0 ++ y.1) × AreUnits y.0 × (length y.0 ≡ count)) (same_Some whole x a.2) (parts, u.1, u.2);
  again = λ units rest are.
      rw (bytes_again (2 * length units) (le_bytes_of units) rest (length-le_bytes_of units)) (ap (λ us. Some (us, rest)) (units_of-le_bytes_of units are));
}

pub Reads-b_varchar : Reads b_varchar (λ units. (length units < 2 ^ 8) × AreUnits units) b_varchar_at
unfolding b_varchar_at
Reads-b_varchar = Reads-counted Reads-byte ReadsCount-units

pub Reads-us_varchar : Reads us_varchar (λ units. (length units < 2 ^ 16) × AreUnits units) us_varchar_at
unfolding us_varchar_at
Reads-us_varchar = Reads-counted Reads-16 ReadsCount-units
