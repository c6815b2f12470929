-- What is read is spelled so.
use Rattle.std.proofs.Common.{◌≡◌, ℕ, zero, suc, ◌+◌, ◌*◌, ◌/◌, ◌%◌, ◌^◌, ◌<◌, ◌≤◌, ◌⊎◌, inl, inr, Bool, true, false, cond, ltb, List, [], ◌∷◌, ◌++◌, length, get_or, take, drop, All, Option, Some, None, Result, Ok, Err, refl, sym, ap, subst, ◌∙◌, arith}
use Rattle.std.specs.Prelude.{◌||◌}
use Rattle.std.specs.Int.{w16, to_le_bytes, from_le_bytes}
use Rattle.std.proofs.lemmas.Bool.{ltb-false}
use Rattle.std.proofs.lemmas.List.{take-append-drop, length-take}
use Rattle.std.proofs.lemmas.List.Elements.{All-nil, All-cons}
use Rattle.std.proofs.lemmas.Nat.{le_bytes_2}
use Rattle.value_types.specs.Units.{units_of, le_bytes_of}
use Rattle.rpc_requests.specs.declared.types.Form.{Form}
use Rattle.rpc_requests.specs.declared.fault.Refusal.{Refusal}
use Rattle.rpc_requests.specs.Reading.{◌>>=◌, bytes_at, byte_at, short_at, units_at, formed, sized_at, long_sized_at}

-- ---- bytes are numbers below 256

abbrev pub IsBytes : List ℕ → Type 0
IsBytes bytes = (i : ℕ) → get_or bytes i 0 < 256

pub IsBytes-rest : (text rest : List ℕ) → IsBytes (text ++ rest) → IsBytes rest
IsBytes-rest [] rest fits = fits
IsBytes-rest (byte ∷ text) rest fits = IsBytes-rest text rest (λ i. fits (suc i))

pub IsBytes-front : (text rest : List ℕ) → IsBytes (text ++ rest) → IsBytes text
IsBytes-front [] rest fits i = lit_small
  where
    lit_small : 0 < 256
    lit_small = omega arith
IsBytes-front (byte ∷ text) rest fits zero = fits 0
IsBytes-front (byte ∷ text) rest fits (suc i) = IsBytes-front text rest (λ j. fits (suc j)) i

-- ---- steps

pub bind_ok : {A B : Type 0} (r : Result A Refusal) (f : A → Result B Refusal) (y : B) → (r >>= f) ≡ Ok y → (x : A) × (r ≡ Ok x) × (f x ≡ Ok y)
bind_ok (Ok x) f y e = (x, refl, e)
bind_ok (Err d) f y e = absurd cc

abbrev pub done : {A : Type 0} → A → Result A Refusal
done x = Ok x

pub ok_is : {A : Type 0} (x y : A) → done x ≡ done y → x ≡ y
ok_is x y e = cc

-- a test that refuses
pub passed : {A : Type 0} (test : Bool) (d : Refusal) (r : Result A Refusal) (y : A) → cond test (Err d) r ≡ Ok y → (test ≡ false) × (r ≡ Ok y)
passed true d r y e = absurd cc
passed false d r y e = (refl, e)

-- a test whose other side refuses
pub needed : {A : Type 0} (test : Bool) (d : Refusal) (r : Result A Refusal) (y : A) → cond test r (Err d) ≡ Ok y → (test ≡ true) × (r ≡ Ok y)
needed true d r y e = (refl, e)
needed false d r y e = absurd cc

pub either : {A : Type 0} (test : Bool) (r s : Result A Refusal) (y : A) → cond test r s ≡ Ok y → ((test ≡ true) × (r ≡ Ok y)) ⊎ ((test ≡ false) × (s ≡ Ok y))
either true r s y e = inl (refl, e)
either false r s y e = inr (refl, e)

pub neither : (a b : Bool) → (a || b) ≡ false → (a ≡ false) × (b ≡ false)
neither true b e = absurd cc
neither false b e = (refl, e)

-- ---- numbers and texts

pub bytes_take : (count : ℕ) (bytes : List ℕ) (x : List ℕ × List ℕ) → IsBytes bytes → bytes_at count bytes ≡ Ok x → (bytes ≡ x.0 ++ x.1) × (length x.0 ≡ count) × IsBytes x.0 × IsBytes x.1
unfolding bytes_at
bytes_take count bytes x fits e =
    let g = passed (ltb (length bytes) count) _ (done (take count bytes, drop count bytes)) x e in
    let long : count ≤ length bytes = ltb-false _ _ g.0 in
    let parts = subst IsBytes (sym (take-append-drop count bytes)) fits in
    subst (λ (y : List ℕ × List ℕ). (bytes ≡ y.0 ++ y.1) × (length y.0 ≡ count) × IsBytes y.0 × IsBytes y.1) (ok_is (take count bytes, drop count bytes) x g.1)
    (sym (take-append-drop count bytes), omega (arith, length-take count bytes), IsBytes-front (take count bytes) (drop count bytes) parts, IsBytes-rest (take count bytes) (drop count bytes) parts)

pub byte_takes : (bytes : List ℕ) (x : ℕ × List ℕ) → IsBytes bytes → byte_at bytes ≡ Ok x → (bytes ≡ x.0 ∷ x.1) × (x.0 < 2 ^ 8) × IsBytes x.1
unfolding byte_at
byte_takes [] x fits e = absurd cc
byte_takes (byte ∷ bytes) x fits e =
    subst (λ (y : ℕ × List ℕ). (byte ∷ bytes ≡ y.0 ∷ y.1) × (y.0 < 2 ^ 8) × IsBytes y.1) (ok_is (byte, bytes) x e) (refl, fits 0, λ i. fits (suc i))

pub short_takes : (bytes : List ℕ) (x : ℕ × List ℕ) → IsBytes bytes → short_at bytes ≡ Ok x → (bytes ≡ to_le_bytes w16 x.0 ++ x.1) × (x.0 < 2 ^ 16) × IsBytes x.1
unfolding short_at
short_takes bytes x fits e =
    let a = bind_ok (bytes_at 2 bytes) (λ two. done (from_le_bytes w16 two.0, two.1)) x e in
    let t = bytes_take 2 bytes a.0 fits a.1 in
    let back : to_le_bytes w16 (from_le_bytes w16 a.0.0) ≡ a.0.0 = le_bytes_2 a.0.0 _ t.1 t.2 refl in
    let below : from_le_bytes w16 a.0.0 < 2 ^ 16 = omega (arith, t.2 0, t.2 1) in
    subst (λ (y : ℕ × List ℕ). (bytes ≡ to_le_bytes w16 y.0 ++ y.1) × (y.0 < 2 ^ 16) × IsBytes y.1) (ok_is (from_le_bytes w16 a.0.0, a.0.1) x a.2)
    (t.0 ∙ ap (λ (l : List ℕ). l ++ a.0.1) (sym back), below, t.3)

unit_bytes : (low high : ℕ) → low < 256 → high < 256 → to_le_bytes w16 (low + 256 * high) ≡ low ∷ high ∷ []
unit_bytes low high l h =
    let first : (low + 256 * high) % 256 ≡ low = omega arith in
    let second : ((low + 256 * high) / 256) % 256 ≡ high = omega arith in
    rw (first, second) refl

-- the units of twice as many bytes
units_of_bytes : (count : ℕ) (bytes : List ℕ) → length bytes ≡ 2 * count → IsBytes bytes → (le_bytes_of (units_of bytes) ≡ bytes) × All (λ unit. unit < 2 ^ 16) (units_of bytes) × (length (units_of bytes) ≡ count)
units_of_bytes zero [] len fits = (refl, All-nil (λ unit. unit < 2 ^ 16), refl)
units_of_bytes (suc count) [] len fits = absurd (omega arith)
units_of_bytes count (low ∷ []) len fits = absurd (omega arith)
units_of_bytes zero (low ∷ high ∷ bytes) len fits = absurd (omega arith)
units_of_bytes (suc count) (low ∷ high ∷ bytes) len fits =
    let others = units_of_bytes count bytes (omega arith) (λ i. fits (suc (suc i))) in
    let spelled : le_bytes_of (units_of (low ∷ high ∷ bytes)) ≡ low ∷ high ∷ bytes =
    ap (λ here. here ++ le_bytes_of (units_of bytes)) (unit_bytes low high (fits 0) (fits 1)) ∙ ap (λ there. low ∷ high ∷ there) others.0 in
    (spelled, All-cons (λ unit. unit < 2 ^ 16) (low + 256 * high) (units_of bytes) (omega (arith, fits 0, fits 1)) others.1, ap suc others.2)

pub units_take : (count : ℕ) (bytes : List ℕ) (x : List ℕ × List ℕ) → IsBytes bytes → units_at count bytes ≡ Ok x → (bytes ≡ le_bytes_of x.0 ++ x.1) × (length x.0 ≡ count) × All (λ unit. unit < 2 ^ 16) x.0 × IsBytes x.1
unfolding units_at
units_take count bytes x fits e =
    let a = bind_ok (bytes_at (2 * count) bytes) (λ text. done (units_of text.0, text.1)) x e in
    let t = bytes_take (2 * count) bytes a.0 fits a.1 in
    let u = units_of_bytes count a.0.0 t.1 t.2 in
    subst (λ (y : List ℕ × List ℕ). (bytes ≡ le_bytes_of y.0 ++ y.1) × (length y.0 ≡ count) × All (λ unit. unit < 2 ^ 16) y.0 × IsBytes y.1) (ok_is (units_of a.0.0, a.0.1) x a.2)
    (t.0 ∙ ap (λ (l : List ℕ). l ++ a.0.1) (sym u.0), u.2, u.1, t.3)

-- ---- types

formed_is : (bytes : List ℕ) (form : Option Form) (rest : List ℕ) (x : Form × List ℕ) → formed bytes form rest ≡ Ok x → (form ≡ Some x.0) × (rest ≡ x.1)
formed_is bytes None rest x e = absurd cc
formed_is bytes (Some form) rest x e = let same = ok_is (form, rest) x e in (ap (λ (y : Form × List ℕ). Some y.0) same, ap (λ (y : Form × List ℕ). y.1) same)

two_of : (front : List ℕ) → length front ≡ 2 → (a b : ℕ) × (front ≡ a ∷ b ∷ [])
two_of [] e = absurd (omega arith)
two_of (a ∷ []) e = absurd (omega arith)
two_of (a ∷ b ∷ []) e = (a, b, refl)
two_of (a ∷ b ∷ c ∷ more) e = absurd (omega arith)

pub sized_takes : (form_of : ℕ → Option Form) (bytes : List ℕ) (x : Form × List ℕ) → IsBytes bytes → sized_at form_of bytes ≡ Ok x → (tag size : ℕ) × (bytes ≡ tag ∷ size ∷ x.1) × (form_of size ≡ Some x.0) × IsBytes x.1
unfolding sized_at
sized_takes form_of bytes x fits e =
    let a = bind_ok (bytes_at 2 bytes) (λ front. formed bytes (form_of (get_or front.0 1 0)) front.1) x e in
    let t = bytes_take 2 bytes a.0 fits a.1 in
    let f = two_of a.0.0 t.1 in
    let k = formed_is bytes (form_of (get_or a.0.0 1 0)) a.0.1 x a.2 in
    (f.0, f.1, t.0 ∙ ap (λ (l : List ℕ). l ++ a.0.1) f.2 ∙ ap (λ (l : List ℕ). f.0 ∷ f.1 ∷ l) k.1, ap (λ (l : List ℕ). form_of (get_or l 1 0)) (sym f.2) ∙ k.0, subst IsBytes k.1 t.3)

eight_of : (front : List ℕ) → length front ≡ 8 → (a b c : ℕ) × (more : List ℕ) × (front ≡ a ∷ b ∷ c ∷ more) × (length more ≡ 5)
eight_of [] e = absurd (omega arith)
eight_of (a ∷ []) e = absurd (omega arith)
eight_of (a ∷ b ∷ []) e = absurd (omega arith)
eight_of (a ∷ b ∷ c ∷ more) e = (a, b, c, more, refl, omega arith)

pub long_sized_takes : (form_of : ℕ → Option Form) (bytes : List ℕ) (x : Form × List ℕ) → IsBytes bytes → long_sized_at form_of bytes ≡ Ok x
    → (tag size : ℕ) × (collation : List ℕ) × (bytes ≡ (tag ∷ (to_le_bytes w16 size ++ collation)) ++ x.1) × (length collation ≡ 5) × (form_of size ≡ Some x.0) × IsBytes x.1
unfolding long_sized_at
long_sized_takes form_of bytes x fits e =
    let size_in : List ℕ → ℕ = λ front. from_le_bytes w16 (take 2 (drop 1 front)) in
    let a = bind_ok (bytes_at 8 bytes) (λ front. formed bytes (form_of (size_in front.0)) front.1) x e in
    let t = bytes_take 8 bytes a.0 fits a.1 in
    let f = eight_of a.0.0 t.1 in
    let k = formed_is bytes (form_of (size_in a.0.0)) a.0.1 x a.2 in
    let inside : IsBytes (f.0 ∷ f.1 ∷ f.2 ∷ f.3) = subst IsBytes f.4 t.2 in
    let size : ℕ = from_le_bytes w16 (f.1 ∷ f.2 ∷ []) in
    let back : to_le_bytes w16 size ≡ f.1 ∷ f.2 ∷ [] = le_bytes_2 (f.1 ∷ f.2 ∷ []) _ refl (IsBytes-front (f.1 ∷ f.2 ∷ []) f.3 (λ i. inside (suc i))) refl in
    let front : a.0.0 ≡ f.0 ∷ (to_le_bytes w16 size ++ f.3) = f.4 ∙ ap (λ (l : List ℕ). f.0 ∷ (l ++ f.3)) (sym back) in
    (f.0, size, f.3, t.0 ∙ ap (λ (l : List ℕ). l ++ a.0.1) front ∙ ap (λ (l : List ℕ). (f.0 ∷ (to_le_bytes w16 size ++ f.3)) ++ l) k.1, f.5, ap (λ (l : List ℕ). form_of (size_in l)) (sym f.4) ∙ k.0, subst IsBytes k.1 t.3)
