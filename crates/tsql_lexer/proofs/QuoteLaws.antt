-- What stands between quotes is read as what its spelling says.
use Rattle.std.proofs.Common.{◌≡◌, ℕ, ◌+◌, Bool, true, false, cond, not, eqb, ◌==◌, Option, None, Some, List, [], ◌∷◌, ◌++◌, length, refl, sym, ap, subst, ◌∙◌, arith, true≢false, eqb-true}
use Rattle.tsql_lexer.specs.Quotes.{doubled, enclosed, enclosed_by, longer}
use Rattle.tsql_lexer.specs.Lexemes.{stops}
use Rattle.tsql_lexer.proofs.QuoteSteps.{enclosed_plain, enclosed_doubled, enclosed_end, enclosed_closed}

-- the test that a unit is the closing quote
abbrev pub is_close : ℕ → ℕ → Bool
is_close close unit = unit == close

same_eqb : (unit : ℕ) → eqb unit unit ≡ true
same_eqb unit = grind arith

pub not_true : (b : Bool) → not b ≡ true → b ≡ false
not_true true is = absurd (true≢false (sym is))
not_true false is = refl

closed : (close : ℕ) (behind : List ℕ) → stops (is_close close) behind ≡ true → enclosed close (close ∷ behind) ≡ Some ([], 1)
closed close [] stopped = enclosed_end close close (same_eqb close)
closed close (next ∷ behind) stopped = enclosed_closed close close next behind (same_eqb close) (not_true (eqb next close) stopped)

-- what spells a value is read as it
pub enclosed_of : (close : ℕ) (value behind : List ℕ) → stops (is_close close) behind ≡ true
    → enclosed close (doubled close value ++ (close ∷ behind)) ≡ Some (value, length (doubled close value) + 1)
enclosed_of close [] behind stopped = closed close behind stopped
enclosed_of close (unit ∷ value) behind stopped = by (eqb unit close) refl (enclosed_of close value behind stopped)
  where
    by : (b : Bool) → eqb unit close ≡ b → enclosed close (doubled close value ++ (close ∷ behind)) ≡ Some (value, length (doubled close value) + 1)
        → enclosed close ((cond b (unit ∷ unit ∷ []) (unit ∷ []) ++ doubled close value) ++ (close ∷ behind)) ≡ Some (unit ∷ value, length (cond b (unit ∷ unit ∷ []) (unit ∷ []) ++ doubled close value) + 1)
    by true is read = enclosed_doubled close unit unit (doubled close value ++ (close ∷ behind)) is is
        ∙ ap (longer unit 2) read
        ∙ ap (λ (n : ℕ). Some (unit ∷ value, n)) (omega arith)
    by false is read = enclosed_plain close unit (doubled close value ++ (close ∷ behind)) is
        ∙ ap (longer unit 1) read
        ∙ ap (λ (n : ℕ). Some (unit ∷ value, n)) (omega arith)

-- how a text begins with a value's spelling
pub record Spelled (close : ℕ) (text value : List ℕ) (size : ℕ) : Type 0 where
  pub behind : List ℕ
  pub joined : text ≡ doubled close value ++ (close ∷ behind)
  pub size_is : size ≡ length (doubled close value) + 1
  pub stopped : stops (is_close close) behind ≡ true

-- the end of a value
abbrev nothing_more : Option (List ℕ × ℕ)
nothing_more = Some ([], 1)

same_read : (a b : List ℕ × ℕ) → Some a ≡ Some b → a ≡ b
same_read a b same = cc

spelled_end : (close : ℕ) (text value : List ℕ) (unit size : ℕ) → eqb unit close ≡ true → stops (is_close close) text ≡ true → nothing_more ≡ Some (value, size) → Spelled close (unit ∷ text) value size
spelled_end close text value unit size is stopped read =
    let same = same_read ([], 1) (value, size) read in
    let value_is : [] ≡ value = ap (λ (r : List ℕ × ℕ). r.0) same in
    let size_is : 1 ≡ size = ap (λ (r : List ℕ × ℕ). r.1) same in
    subst (λ (v : List ℕ). Spelled close (unit ∷ text) v size) value_is (subst (Spelled close (unit ∷ text) []) size_is (record {
      behind = text;
      joined = ap (λ (n : ℕ). n ∷ text) (eqb-true unit close is);
      size_is = refl;
      stopped = stopped;
    }))

spelled_plain : (close unit : ℕ) (text value : List ℕ) (size : ℕ) → eqb unit close ≡ false → Spelled close text value size → Spelled close (unit ∷ text) (unit ∷ value) (1 + size)
spelled_plain close unit text value size is rest = record {
  behind = rest.behind;
  joined = rw is (ap (λ (l : List ℕ). unit ∷ l) rest.joined);
  size_is = rw is (omega (arith, rest.size_is));
  stopped = rest.stopped;
}

spelled_doubled : (close unit next : ℕ) (text value : List ℕ) (size : ℕ) → eqb unit close ≡ true → eqb next close ≡ true → Spelled close text value size → Spelled close (unit ∷ next ∷ text) (unit ∷ value) (2 + size)
spelled_doubled close unit next text value size is next_is rest = record {
  behind = rest.behind;
  joined = rw is (ap (λ (l : List ℕ). unit ∷ next ∷ l) rest.joined ∙ ap (λ (n : ℕ). unit ∷ n ∷ (doubled close value ++ (close ∷ rest.behind))) (eqb-true next close next_is ∙ sym (eqb-true unit close is)));
  size_is = rw is (omega (arith, rest.size_is));
  stopped = rest.stopped;
}

none_is : {A : Type 0} (x : A) → None ≡ Some x → ⊥
none_is x same = cc

-- what a longer value is longer than
longer_is : (unit count : ℕ) (read : Option (List ℕ × ℕ)) (value : List ℕ) (size : ℕ) → longer unit count read ≡ Some (value, size)
    → (rest : List ℕ × ℕ) × (read ≡ Some rest) × (unit ∷ rest.0 ≡ value) × (count + rest.1 ≡ size)
longer_is unit count None value size is = absurd (none_is (value, size) is)
longer_is unit count (Some rest) value size is =
    let same = same_read (unit ∷ rest.0, count + rest.1) (value, size) is in
    (rest, refl, ap (λ (r : List ℕ × ℕ). r.0) same, ap (λ (r : List ℕ × ℕ). r.1) same)

-- what is read begins with its spelling
pub enclosed_spells : (close : ℕ) (text value : List ℕ) (size : ℕ) → enclosed close text ≡ Some (value, size) → Spelled close text value size
unfolding enclosed
enclosed_spells close [] value size read = absurd (none_is (value, size) read)
enclosed_spells close (unit ∷ []) value size read = by (eqb unit close) refl read
  where
    by : (b : Bool) → eqb unit close ≡ b → cond b nothing_more None ≡ Some (value, size) → Spelled close (unit ∷ []) value size
    by true is read = spelled_end close [] value unit size is refl read
    by false is read = absurd (none_is (value, size) read)
enclosed_spells close (unit ∷ next ∷ units) value size read =
    by (eqb unit close) (eqb next close) refl refl read (λ v n. enclosed_spells close units v n) (λ v n. enclosed_spells close (next ∷ units) v n)
  where
    by : (b d : Bool) → eqb unit close ≡ b → eqb next close ≡ d → enclosed_by b d unit (enclosed close units) (enclosed close (next ∷ units)) ≡ Some (value, size)
        → ((v : List ℕ) (n : ℕ) → enclosed close units ≡ Some (v, n) → Spelled close units v n) → ((v : List ℕ) (n : ℕ) → enclosed close (next ∷ units) ≡ Some (v, n) → Spelled close (next ∷ units) v n)
        → Spelled close (unit ∷ next ∷ units) value size
    by false d is next_is read two one =
        let rest = longer_is unit 1 (enclosed close (next ∷ units)) value size read in
        subst (λ (v : List ℕ). Spelled close (unit ∷ next ∷ units) v size) rest.2 (subst (Spelled close (unit ∷ next ∷ units) (unit ∷ rest.0.0)) rest.3
        (spelled_plain close unit (next ∷ units) rest.0.0 rest.0.1 is (one rest.0.0 rest.0.1 rest.1)))
    by true true is next_is read two one =
        let rest = longer_is unit 2 (enclosed close units) value size read in
        subst (λ (v : List ℕ). Spelled close (unit ∷ next ∷ units) v size) rest.2 (subst (Spelled close (unit ∷ next ∷ units) (unit ∷ rest.0.0)) rest.3
        (spelled_doubled close unit next units rest.0.0 rest.0.1 is next_is (two rest.0.0 rest.0.1 rest.1)))
    by true false is next_is read two one = spelled_end close (next ∷ units) value unit size is (rw next_is refl) read
