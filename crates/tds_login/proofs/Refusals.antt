-- When a LOGIN7 is refused, and what holds of one that is not.
use Rattle.std.proofs.Common.{◌≡◌, ◌+◌, ◌*◌, ◌≤◌, ◌<◌, inl, inr, ◌||◌, not, ◌==◌, Bool, true, false, cond, ltb, ℕ, zero, suc, List, [], ◌∷◌, length, get_or, Option, None, Some, Result, Err, refl, sym, ap, ◌∙◌, arith}
use Rattle.std.specs.Result.{result_err}
use Rattle.std.specs.List.{find}
use Rattle.std.proofs.lemmas.Bool.{ltb-false, eqb-true, eq-eqb, le-ltb, not-false, not_from_true, and_cases, or_parts, or_from}
use Rattle.tds_login.specs.declared.login.Field.{Field}
use Rattle.tds_login.specs.declared.login.LoginFault.{LoginFault}
use Rattle.tds_login.specs.declared.login.LoginFault.TheVariants.{Short, Length, Version, Range}
use Rattle.tds_login.specs.Login.{login_length, tds_version, served_version, short_at, fields, is_outside, login_by, login_of}
use Rattle.tds_login.specs.Inside.{IsInside, IsServed}

-- the tests are passed where there is no refusal, one after another
tests_passed : {A B : Type 0} (a b c : Bool) (x y z : B) (rest : Result A B) → result_err (cond a (Err x) (cond b (Err y) (cond c (Err z) rest))) ≡ None → (a ≡ false) × (b ≡ false) × (c ≡ false) × (result_err rest ≡ None)
tests_passed true b c x y z rest none = absurd cc
tests_passed false true c x y z rest none = absurd cc
tests_passed false false true x y z rest none = absurd cc
tests_passed false false false x y z rest none = (refl, refl, refl, none)

-- where they are passed the rest is what comes
passed : {A B : Type 0} (a b c : Bool) (x y z : B) (rest : Result A B) → a ≡ false → b ≡ false → c ≡ false → cond a (Err x) (cond b (Err y) (cond c (Err z) rest)) ≡ rest
passed a b c x y z rest first second third = rw (first, second, third) refl

no_field : (payload : List ℕ) (field : Option Field) → result_err (login_by payload field) ≡ None → field ≡ None
no_field payload None none = refl
no_field payload (Some field) none = absurd cc

-- a payload that passes the tests is refused for the first field outside
pub login_passed : (payload : List ℕ) → 94 ≤ length payload → 94 ≤ login_length payload → login_length payload ≤ length payload → tds_version payload ≡ served_version → login_of payload ≡ login_by payload (find (is_outside payload) fields)
unfolding login_of
login_passed payload long least whole version =
    passed (ltb (length payload) 94) (ltb (login_length payload) 94 || ltb (length payload) (login_length payload)) (not (tds_version payload == served_version)) Short Length Version (login_by payload (find (is_outside payload) fields))
    (le-ltb (length payload) 94 long)
    (or_from _ _ (le-ltb (login_length payload) 94 least) (le-ltb (length payload) (login_length payload) whole))
    (not_from_true (tds_version payload == served_version) (eq-eqb (tds_version payload) served_version version))

-- ---- where no field is outside

none_before : {A : Type 0} (b : Bool) (x : A) (rest : Option A) → cond b (Some x) rest ≡ None → (b ≡ false) × (rest ≡ None)
none_before true x rest none = absurd cc
none_before false x rest none = (refl, none)

pub none_at : {A : Type 0} (test : A → Bool) (xs : List A) (k : ℕ) (d : A) → find test xs ≡ None → k < length xs → test (get_or xs k d) ≡ false
none_at test [] k d none lt = absurd (omega arith)
none_at test (x ∷ xs) zero d none lt = (none_before (test x) x (find test xs) none).0
none_at test (x ∷ xs) (suc k) d none lt = none_at test xs k d (none_before (test x) x (find test xs) none).1 (omega arith)

pub inside : (payload : List ℕ) (number place : ℕ) → login_length payload ≤ length payload → is_outside payload (record { number = number; place = place; unit = 2 }) ≡ false → IsInside payload place
inside payload number place whole within =
    let count = short_at payload (place + 2) in
    let end = short_at payload place + 2 * count in
    elim (and_cases (not (count == 0)) (ltb (login_length payload) end) within) [
      | inl nothing ↦ inl (eqb-true count 0 (not-false (count == 0) nothing))
      | inr before ↦ inr (let fits : end ≤ login_length payload = ltb-false (login_length payload) end before in omega arith)
    ]

pub served : (payload : List ℕ) → result_err (login_of payload) ≡ None → IsServed payload
unfolding login_of fields
served payload none =
    let tests = tests_passed (ltb (length payload) 94) (ltb (login_length payload) 94 || ltb (length payload) (login_length payload)) (not (tds_version payload == served_version)) Short Length Version (login_by payload (find (is_outside payload) fields)) none in
    let lengths = or_parts (ltb (login_length payload) 94) (ltb (length payload) (login_length payload)) tests.1 in
    let long : 94 ≤ length payload = ltb-false (length payload) 94 tests.0 in
    let least : 94 ≤ login_length payload = ltb-false (login_length payload) 94 lengths.0 in
    let whole : login_length payload ≤ length payload = ltb-false (length payload) (login_length payload) lengths.1 in
    let version : tds_version payload ≡ served_version = eqb-true (tds_version payload) served_version (not-false (tds_version payload == served_version) tests.2) in
    let no : find (is_outside payload) fields ≡ None = no_field payload (find (is_outside payload) fields) tests.3 in
    let field : Field = record { number = 0; place = 0; unit = 0 } in
    record {
      long = long;
      user = inside payload 1 40 whole (none_at (is_outside payload) fields 1 field no (omega arith));
      password = inside payload 2 44 whole (none_at (is_outside payload) fields 2 field no (omega arith));
      database = inside payload 8 68 whole (none_at (is_outside payload) fields 8 field no (omega arith));
      said = login_passed payload long least whole version ∙ ap (login_by payload) no;
    }

-- the refusal that a field outside makes
abbrev pub refusal_by : Option Field → Option LoginFault
refusal_by None = None
refusal_by (Some field) = Some (Range field.number)

pub refused_outside : (payload : List ℕ) (first : Option Field) (total version : ℕ) → total ≡ login_length payload → version ≡ tds_version payload → 94 ≤ length payload → 94 ≤ total → total ≤ length payload → version ≡ served_version → first ≡ find (is_outside payload) fields → refusal_by first ≡ result_err (login_of payload)
refused_outside payload first total version length_is version_is long least whole served is =
    by_field payload first ∙ ap (λ field. result_err (login_by payload field)) is ∙ sym (ap result_err (login_passed payload long (rw length_is at least) (rw length_is at whole) (sym version_is ∙ served)))
  where
    by_field : (payload : List ℕ) (field : Option Field) → refusal_by field ≡ result_err (login_by payload field)
    by_field payload None = refl
    by_field payload (Some field) = refl
