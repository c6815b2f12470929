-- What is found of a node whose parts have the types that are known of them. It speaks of types alone.
use Rattle.std.proofs.lemmas.Bool.{and_from, and_parts, eq-eqb, eqb-true, le-leb, leb-true, ltb-true, ltb-false}
use Rattle.std.proofs.Common.{◌≡◌, ◌⊎◌, inl, inr, refl, sym, ap, ◌∙◌, subst, ℕ, ◌+◌, ◌≤◌, min, max, Bool, true, false, ◌&&◌, nat_le, nat_lt, nat_eq, Option, Some, None, unwrap_or, arith, if◌then◌else◌}
use Rattle.value_types.specs.declared.sql_type.SqlType.{SqlType}
use Rattle.value_types.specs.declared.sql_type.SqlType.TheVariants.{TinyInt, SmallInt, Int, BigInt, Bit as BitType, NText}
use Rattle.value_types.specs.Types.{text_limit}
use Rattle.convert_rules.specs.Conversion.{is_text}
use Rattle.bound_tree.specs.Kinds.{are_alike, higher, longer, rank, same_kind, text_size}
use Rattle.bound_tree.specs.Typed.{Found, unformed, lone_null, typed, beside, common, found_size, found_where, is_as, is_like, is_side, is_whole, negated, or_int as found_or_int}
use Rattle.typed_nodes.specs.Facts.{highest_of, or_int}
use Rattle.typed_nodes.specs.Nodes.{is_kind, is_null_kind, is_within, joined_kind, negative_kind, pair_kind, side_kind, size_beside}

pub trans : {A : Type 0} {a b c : A} → a ≡ b → b ≡ c → a ≡ c
trans e d = e ∙ d

-- what is found of an expression is what is known of its type: a lone NULL has none, and NULL under a minus is an INT
abbrev pub HasKind : Option SqlType → Found → Type 0
HasKind None found = found ≡ lone_null
HasKind (Some kind) found = (found ≡ typed kind) ⊎ ((found ≡ lone_null) × (kind ≡ Int))

pub typed_where : (holds : Bool) (kind : SqlType) → holds ≡ true → found_where holds kind ≡ typed kind
typed_where holds kind e = ap (λ b. found_where b kind) e

pub same_self : (kind : SqlType) → same_kind kind kind ≡ true
same_self TinyInt = refl
same_self SmallInt = refl
same_self Int = refl
same_self BigInt = refl
same_self BitType = refl
same_self (NText size) = eq-eqb size size refl

pub as_self : (found : Found) (kind : SqlType) → found ≡ typed kind → is_as found kind ≡ true
as_self found kind e = subst (λ f. is_as f kind ≡ true) (sym e) (same_self kind)

pub as_lone : (found : Found) (kind : SqlType) → found ≡ lone_null → is_as found kind ≡ true
as_lone found kind e = subst (λ f. is_as f kind ≡ true) (sym e) refl

-- it is of its known type
pub as_known : (kind : SqlType) (found : Found) → HasKind (Some kind) found → is_as found kind ≡ true
as_known kind found (inl e) = as_self found kind e
as_known kind found (inr e) = as_lone found kind e.0

-- it is of its known type, or of INT
pub as_or_int : (kind : Option SqlType) (found : Found) → HasKind kind found → is_as found (or_int kind) ≡ true
as_or_int None found e = as_lone found Int e
as_or_int (Some kind) found h = as_known kind found h

-- ---- negatives

negated_as : (found : Found) (kind to : SqlType) → HasKind (Some kind) found → negative_kind kind ≡ Some to → is_as (negated found) to ≡ true
negated_as found TinyInt to (inl e) d = let same : SmallInt ≡ to = cc in subst (λ f. is_as (negated f) to ≡ true) (sym e) (subst (λ k. is_as (typed SmallInt) k ≡ true) same refl)
negated_as found SmallInt to (inl e) d = let same : SmallInt ≡ to = cc in subst (λ f. is_as (negated f) to ≡ true) (sym e) (subst (λ k. is_as (typed SmallInt) k ≡ true) same refl)
negated_as found Int to (inl e) d = let same : Int ≡ to = cc in subst (λ f. is_as (negated f) to ≡ true) (sym e) (subst (λ k. is_as (typed Int) k ≡ true) same refl)
negated_as found BigInt to (inl e) d = let same : BigInt ≡ to = cc in subst (λ f. is_as (negated f) to ≡ true) (sym e) (subst (λ k. is_as (typed BigInt) k ≡ true) same refl)
negated_as found BitType to (inl e) d = cc
negated_as found (NText size) to (inl e) d = cc
negated_as found kind to (inr e) d = let same : Int ≡ to = let at : negative_kind Int ≡ Some to = subst (λ k. negative_kind k ≡ Some to) e.1 d in cc in
    subst (λ f. is_as (negated f) to ≡ true) (sym e.0) (subst (λ k. is_as (typed Int) k ≡ true) same refl)

pub negated_known : (kind : Option SqlType) (found : Found) (to : SqlType) → HasKind kind found → negative_kind (or_int kind) ≡ Some to → is_as (negated found) to ≡ true
negated_known None found to e d = negated_as found Int to (inr (e, refl)) d
negated_known (Some kind) found to h d = negated_as found kind to h d

-- ---- ranks

pub longer_rank : (a b : SqlType) → rank a ≡ rank b → rank (longer a b) ≡ rank a
longer_rank TinyInt b e = refl
longer_rank SmallInt b e = refl
longer_rank Int b e = refl
longer_rank BigInt b e = refl
longer_rank BitType b e = refl
longer_rank (NText n) (NText m) e = refl
longer_rank (NText n) TinyInt e = refl
longer_rank (NText n) SmallInt e = refl
longer_rank (NText n) Int e = refl
longer_rank (NText n) BigInt e = refl
longer_rank (NText n) BitType e = refl

-- the higher of two types has the greater rank
pub higher_rank : (a b : SqlType) → rank (higher a b) ≡ max (rank a) (rank b)
higher_rank a b = by_equal (nat_eq (rank a) (rank b)) (nat_lt (rank a) (rank b)) refl refl
  where
    by_equal : (p q : Bool) → nat_eq (rank a) (rank b) ≡ p → nat_lt (rank a) (rank b) ≡ q → rank (if p then longer a b else if q then b else a) ≡ max (rank a) (rank b)
    by_equal true q e d = let same : rank a ≡ rank b = eqb-true (rank a) (rank b) e in trans (longer_rank a b same) (omega arith)
    by_equal false true e d = omega (arith, ltb-true (rank a) (rank b) d)
    by_equal false false e d = omega (arith, ltb-false (rank a) (rank b) d)

-- a type of rank 0 is a text
pub text_of_rank : (kind : SqlType) → rank kind ≡ 0 → (size : ℕ) × (kind ≡ NText size)
text_of_rank (NText size) e = (size, refl)
text_of_rank TinyInt e = cc
text_of_rank SmallInt e = cc
text_of_rank Int e = cc
text_of_rank BigInt e = cc
text_of_rank BitType e = cc

pub alike_rank : (a b : SqlType) → rank a ≡ rank b → are_alike a b ≡ true
alike_rank a b e = eq-eqb (rank a) (rank b) e

-- types of one rank other than texts are one type
pub same_of_rank : (a b : SqlType) → rank a ≡ rank b → is_text b ≡ false → a ≡ b
same_of_rank (NText n) (NText m) e d = cc
same_of_rank (NText n) TinyInt e d = cc
same_of_rank (NText n) SmallInt e d = cc
same_of_rank (NText n) Int e d = cc
same_of_rank (NText n) BigInt e d = cc
same_of_rank (NText n) BitType e d = cc
same_of_rank BitType BitType e d = refl
same_of_rank BitType (NText m) e d = cc
same_of_rank BitType TinyInt e d = cc
same_of_rank BitType SmallInt e d = cc
same_of_rank BitType Int e d = cc
same_of_rank BitType BigInt e d = cc
same_of_rank TinyInt TinyInt e d = refl
same_of_rank TinyInt (NText m) e d = cc
same_of_rank TinyInt BitType e d = cc
same_of_rank TinyInt SmallInt e d = cc
same_of_rank TinyInt Int e d = cc
same_of_rank TinyInt BigInt e d = cc
same_of_rank SmallInt SmallInt e d = refl
same_of_rank SmallInt (NText m) e d = cc
same_of_rank SmallInt BitType e d = cc
same_of_rank SmallInt TinyInt e d = cc
same_of_rank SmallInt Int e d = cc
same_of_rank SmallInt BigInt e d = cc
same_of_rank Int Int e d = refl
same_of_rank Int (NText m) e d = cc
same_of_rank Int BitType e d = cc
same_of_rank Int TinyInt e d = cc
same_of_rank Int SmallInt e d = cc
same_of_rank Int BigInt e d = cc
same_of_rank BigInt BigInt e d = refl
same_of_rank BigInt (NText m) e d = cc
same_of_rank BigInt BitType e d = cc
same_of_rank BigInt TinyInt e d = cc
same_of_rank BigInt SmallInt e d = cc
same_of_rank BigInt Int e d = cc

-- ---- conversions

-- within another, a type has its rank
pub within_rank : (from to : SqlType) → is_within from to ≡ true → rank from ≡ rank to
within_rank from to e = by_text (is_text from) (is_text to) refl refl
  where
    by_text : (p q : Bool) → is_text from ≡ p → is_text to ≡ q → rank from ≡ rank to
    by_text true true d c = trans (text_rank from d) (sym (text_rank to c))
      where
        text_rank : (kind : SqlType) → is_text kind ≡ true → rank kind ≡ 0
        text_rank (NText n) e = refl
        text_rank TinyInt e = cc
        text_rank SmallInt e = cc
        text_rank Int e = cc
        text_rank BigInt e = cc
        text_rank BitType e = cc
    by_text true false d c = same_rank (subst (λ b. (if b && is_text to then nat_le (unwrap_or (text_size from) 0) (unwrap_or (text_size to) 0) else same_kind from to) ≡ true) d e)
      where
        same_rank : (if true && is_text to then nat_le (unwrap_or (text_size from) 0) (unwrap_or (text_size to) 0) else same_kind from to) ≡ true → rank from ≡ rank to
        same_rank h = let at : same_kind from to ≡ true = subst (λ b. (if true && b then nat_le (unwrap_or (text_size from) 0) (unwrap_or (text_size to) 0) else same_kind from to) ≡ true) c h in
            eqb-true (rank from) (rank to) (and_parts _ _ at).0
    by_text false q d c = let at : same_kind from to ≡ true = subst (λ b. (if b && is_text to then nat_le (unwrap_or (text_size from) 0) (unwrap_or (text_size to) 0) else same_kind from to) ≡ true) d e in
        eqb-true (rank from) (rank to) (and_parts _ _ at).0

pub within_self : (kind : SqlType) → is_within kind kind ≡ true
within_self TinyInt = refl
within_self SmallInt = refl
within_self Int = refl
within_self BigInt = refl
within_self BitType = refl
within_self (NText n) = le-leb n n (omega arith)

-- what an operand is found to be that was converted to a type: a lone NULL, or of a type within it
abbrev pub Brought : SqlType → Found → Type 0
Brought to found = (found ≡ lone_null) ⊎ ((of : SqlType) × (found ≡ typed of) × (is_within of to ≡ true))

pub like_brought : (to : SqlType) (found : Found) → Brought to found → is_like found to ≡ true
like_brought to found (inl e) = subst (λ f. is_like f to ≡ true) (sym e) refl
like_brought to found (inr (of, e, d)) = subst (λ f. is_like f to ≡ true) (sym e) (alike_rank of to (within_rank of to d))

-- of two types of which one is within the other, the other is the common one
common_within : (to of : SqlType) → is_within of to ≡ true → common (typed to) (typed of) ≡ typed to
common_within to of w = trans (ap (λ b. found_where b (longer to of)) (alike_rank to of (sym (within_rank of to w)))) (ap typed (longest to of w))
  where
    longest : (to of : SqlType) → is_within of to ≡ true → longer to of ≡ to
    longest TinyInt of w = refl
    longest SmallInt of w = refl
    longest Int of w = refl
    longest BigInt of w = refl
    longest BitType of w = refl
    longest (NText n) (NText m) w = ap NText (omega (arith, leb-true m n w))
    longest (NText n) TinyInt w = refl
    longest (NText n) SmallInt w = refl
    longest (NText n) Int w = refl
    longest (NText n) BigInt w = refl
    longest (NText n) BitType w = refl

-- of two, the first of this type as it stands, the second converted to it
pub first_common : (to : SqlType) (f g : Found) → HasKind (Some to) f → Brought to g → found_or_int (common f (common g lone_null)) ≡ typed to
first_common to f g (inl e) (inl d) = trans (ap (λ x. found_or_int (common x (common g lone_null))) e) (ap (λ x. found_or_int (common (typed to) (common x lone_null))) d)
first_common to f g (inl e) (inr (of, d, w)) = trans (ap (λ x. found_or_int (common x (common g lone_null))) e)
    (trans (ap (λ x. found_or_int (common (typed to) (common x lone_null))) d) (ap found_or_int (common_within to of w)))
first_common to f g (inr (e, i)) (inl d) = trans (ap (λ x. found_or_int (common x (common g lone_null))) e)
    (trans (ap (λ x. found_or_int (common lone_null (common x lone_null))) d) (ap typed (sym i)))
first_common to f g (inr (e, i)) (inr (of, d, w)) = trans (ap (λ x. found_or_int (common x (common g lone_null))) e)
    (trans (ap (λ x. found_or_int (common lone_null (common x lone_null))) d) (ap typed (same_of_rank of to (within_rank of to w) (subst (λ k. is_text k ≡ false) (sym i) refl))))

-- ---- several texts

-- a text of so many units at most, or a lone NULL
abbrev pub IsShort : ℕ → Option SqlType → Type 0
IsShort m None = Unit {0}
IsShort m (Some kind) = (n : ℕ) × (kind ≡ NText n) × (n ≤ m)

-- two texts' higher is the longer, and where the higher of two types is a text both are
higher_texts : (m n p : ℕ) (a b : SqlType) → higher a b ≡ NText n → n ≤ m → IsShort m (Some a) × IsShort m (Some b)
higher_texts m n p a b e le = by_sizes (text_of_rank a (omega (arith, ranks))) (text_of_rank b (omega (arith, ranks)))
  where
    ranks : max (rank a) (rank b) ≡ 0
    ranks = trans (sym (higher_rank a b)) (ap rank e)

    by_sizes : (x : (size : ℕ) × (a ≡ NText size)) (y : (size : ℕ) × (b ≡ NText size)) → IsShort m (Some a) × IsShort m (Some b)
    by_sizes x y =
        let both : NText (max x.0 y.0) ≡ NText n = trans (sym (trans (ap (λ k. higher k b) x.1) (ap (higher (NText x.0)) y.1))) e in
        let size : max x.0 y.0 ≡ n = cc in
        ((x.0, x.1, omega (arith, size, le)), (y.0, y.1, omega (arith, size, le)))

pub highest_short : (m : ℕ) (a b : Option SqlType) → IsShort m (highest_of a b) → IsShort m a × IsShort m b
highest_short m None b h = (tt, h)
highest_short m (Some a) None h = (h, tt)
highest_short m (Some a) (Some b) h = higher_texts m h.0 0 a b h.1 h.2

-- what is known of a type alone
abbrev pub found_by : Option SqlType → Found
found_by None = lone_null
found_by (Some kind) = typed kind

-- a text, or a lone NULL, is found as it is known
pub short_found : (m : ℕ) (kind : Option SqlType) (found : Found) → IsShort m kind → HasKind kind found → found ≡ found_by kind
short_found m None found s e = e
short_found m (Some kind) found s (inl e) = e
short_found m (Some kind) found s (inr e) = let no : NText s.0 ≡ Int = trans (sym s.1) e.1 in cc

max_assoc : (a b c : ℕ) → max a (max b c) ≡ max (max a b) c
max_assoc a b c = omega arith

-- lone NULLs and texts in any grouping have one common type
pub common_texts : (m : ℕ) (a b : Option SqlType) (rest : Found) → IsShort m a → IsShort m b → common (found_by a) (common (found_by b) rest) ≡ common (found_by (highest_of a b)) rest
common_texts m None b rest s t = refl
common_texts m (Some a) None rest s t = refl
common_texts m (Some a) (Some b) rest s t = subst (λ k. common (typed k) (common (typed b) rest) ≡ common (typed (higher k b)) rest) (sym s.1)
    (subst (λ k. common (typed (NText s.0)) (common (typed k) rest) ≡ common (typed (higher (NText s.0) k)) rest) (sym t.1) (of_texts s.0 t.0 rest))
  where
    of_texts : (x y : ℕ) (rest : Found) → common (typed (NText x)) (common (typed (NText y)) rest) ≡ common (typed (NText (max x y))) rest
    of_texts x y unformed = refl
    of_texts x y lone_null = refl
    of_texts x y (typed (NText z)) = ap (λ k. typed (NText k)) (max_assoc x y z)
    of_texts x y (typed TinyInt) = refl
    of_texts x y (typed SmallInt) = refl
    of_texts x y (typed Int) = refl
    of_texts x y (typed BigInt) = refl
    of_texts x y (typed BitType) = refl

-- ---- pairs

pub rank_pair : (a b : Option SqlType) → rank (side_kind a) ≤ rank (pair_kind a b)
rank_pair None b = omega arith
rank_pair (Some a) None = omega arith
rank_pair (Some a) (Some b) = let h : rank (higher a b) ≡ max (rank a) (rank b) = higher_rank a b in omega (arith, h)

pub as_side : (a : Option SqlType) (found : Found) → HasKind a found → is_as found (side_kind a) ≡ true
as_side None found e = as_lone found (NText 1) e
as_side (Some kind) found h = as_known kind found h

pub is_side_of : (a b : Option SqlType) (found : Found) → Brought (pair_kind a b) found → is_side (side_kind a) (pair_kind a b, found) ≡ true
is_side_of a b found h = and_from _ _ (le-leb _ _ (rank_pair a b)) (like_brought (pair_kind a b) found h)

-- ---- numbers

-- converted to a type that is no text: of that type, or a lone NULL
abbrev pub AsNumber : SqlType → Option SqlType → Found → Type 0
AsNumber to kind found = (found ≡ typed to) ⊎ ((found ≡ lone_null) × ((kind ≡ None) ⊎ (to ≡ Int)))

pub longer_self : (kind : SqlType) → is_text kind ≡ false → longer kind kind ≡ kind
longer_self TinyInt e = refl
longer_self SmallInt e = refl
longer_self Int e = refl
longer_self BigInt e = refl
longer_self BitType e = refl
longer_self (NText n) e = cc

pub common_same : (to : SqlType) → is_text to ≡ false → common (typed to) (typed to) ≡ typed to
common_same to e = trans (ap (λ b. found_where b (longer to to)) (alike_rank to to refl)) (ap typed (longer_self to e))

-- of two that were converted so
pub common_numbers : (to : SqlType) (k l : Option SqlType) (f g : Found) → is_text to ≡ false → AsNumber to k f → AsNumber to l g
    → (common f g ≡ typed to) ⊎ ((common f g ≡ lone_null) × (((k ≡ None) × (l ≡ None)) ⊎ (to ≡ Int)))
common_numbers to k l f g t (inl e) (inl d) = inl (trans (trans (ap (λ x. common x g) e) (ap (common (typed to)) d)) (common_same to t))
common_numbers to k l f g t (inl e) (inr d) = inl (trans (trans (ap (λ x. common x g) e) (ap (common (typed to)) d.0)) refl)
common_numbers to k l f g t (inr e) (inl d) = inl (trans (trans (ap (λ x. common x g) e.0) (ap (common lone_null) d)) refl)
common_numbers to k l f g t (inr e) (inr d) = inr (trans (trans (ap (λ x. common x g) e.0) (ap (common lone_null) d.0)) refl, of_kinds e.1 d.1)
  where
    of_kinds : (k ≡ None) ⊎ (to ≡ Int) → (l ≡ None) ⊎ (to ≡ Int) → ((k ≡ None) × (l ≡ None)) ⊎ (to ≡ Int)
    of_kinds (inr x) y = inr x
    of_kinds (inl x) (inr y) = inr y
    of_kinds (inl x) (inl y) = inl (x, y)

-- a whole number, a text or a lone NULL
abbrev pub IsNumeric : Option SqlType → Type 0
IsNumeric None = Unit {0}
IsNumeric (Some kind) = (rank kind ≡ 0) ⊎ (2 ≤ rank kind)

pub highest_numeric : (a b : Option SqlType) → IsNumeric a → IsNumeric b → IsNumeric (highest_of a b)
highest_numeric None b h g = g
highest_numeric (Some a) None h g = h
highest_numeric (Some a) (Some b) h g = let e : rank (higher a b) ≡ max (rank a) (rank b) = higher_rank a b in of_ranks e h g
  where
    of_ranks : rank (higher a b) ≡ max (rank a) (rank b) → (rank a ≡ 0) ⊎ (2 ≤ rank a) → (rank b ≡ 0) ⊎ (2 ≤ rank b) → (rank (higher a b) ≡ 0) ⊎ (2 ≤ rank (higher a b))
    of_ranks e (inl x) (inl y) = inl (omega (arith, e, x, y))
    of_ranks e (inl x) (inr y) = inr (omega (arith, e, x, y))
    of_ranks e (inr x) y = inr (omega (arith, e, x))

pub whole_numeric : (kind : SqlType) → is_text kind ≡ false → IsNumeric (Some kind) → is_whole kind ≡ true
whole_numeric TinyInt e h = refl
whole_numeric SmallInt e h = refl
whole_numeric Int e h = refl
whole_numeric BigInt e h = refl
whole_numeric BitType e (inl x) = cc
whole_numeric BitType e (inr x) = absurd (omega (arith, x))
whole_numeric (NText n) e h = cc

pub int_or : (a : Option SqlType) → IsNumeric a → IsNumeric (Some (or_int a))
int_or None h = inr (omega arith)
int_or (Some kind) h = h

-- the size of a text beside a text or a lone NULL
pub size_found : (m : ℕ) (a b : Option SqlType) → IsShort m a → IsShort m b → is_text (or_int (highest_of a b)) ≡ true → found_size (beside (found_by a) (found_by b)) ≡ Some (size_beside a b)
size_found m None None s t e = cc
size_found m None (Some b) s t e = subst (λ k. found_size (typed k) ≡ Some (unwrap_or (text_size k) 0)) (sym t.1) refl
size_found m (Some a) b s t e = subst (λ k. found_size (typed k) ≡ Some (unwrap_or (text_size k) 0)) (sym s.1) refl

pub size_found_turned : (m : ℕ) (a b : Option SqlType) → IsShort m a → IsShort m b → is_text (or_int (highest_of a b)) ≡ true → found_size (beside (found_by b) (found_by a)) ≡ Some (size_beside b a)
size_found_turned m None None s t e = cc
size_found_turned m None (Some b) s t e = subst (λ k. found_size (typed k) ≡ Some (unwrap_or (text_size k) 0)) (sym t.1) refl
size_found_turned m (Some a) None s t e = subst (λ k. found_size (typed k) ≡ Some (unwrap_or (text_size k) 0)) (sym s.1) refl
size_found_turned m (Some a) (Some b) s t e = subst (λ k. found_size (typed k) ≡ Some (unwrap_or (text_size k) 0)) (sym t.1) refl

-- a text that is the highest type is as short as itself
pub short_or_int : (m : ℕ) (kind : Option SqlType) → NText m ≡ or_int kind → IsShort m kind
short_or_int m None e = cc
short_or_int m (Some kind) e = (m, sym e, omega arith)

-- numbers that were converted to their higher type have it together
pub common_as : (to : SqlType) (k l : Option SqlType) (f g : Found) → to ≡ or_int (highest_of k l) → is_text to ≡ false → AsNumber to k f → AsNumber to l g → is_as (found_or_int (common f g)) to ≡ true
common_as to k l f g same t h d = of_both (common_numbers to k l f g t h d)
  where
    of_int : common f g ≡ lone_null → to ≡ Int → is_as (found_or_int (common f g)) to ≡ true
    of_int e s = subst (λ x. is_as (found_or_int x) to ≡ true) (sym e) (subst (λ x. is_as (typed Int) x ≡ true) (sym s) refl)

    of_both : (common f g ≡ typed to) ⊎ ((common f g ≡ lone_null) × (((k ≡ None) × (l ≡ None)) ⊎ (to ≡ Int))) → is_as (found_or_int (common f g)) to ≡ true
    of_both (inl e) = subst (λ x. is_as (found_or_int x) to ≡ true) (sym e) (same_self to)
    of_both (inr (e, inl n)) = of_int e (trans same (trans (ap (λ x. or_int (highest_of x l)) n.0) (ap (λ x. or_int (highest_of None x)) n.1)))
    of_both (inr (e, inr s)) = of_int e s

pub is_a_text : (kind : SqlType) → is_text kind ≡ true → (size : ℕ) × (kind ≡ NText size)
is_a_text (NText size) e = (size, refl)
is_a_text TinyInt e = cc
is_a_text SmallInt e = cc
is_a_text Int e = cc
is_a_text BigInt e = cc
is_a_text BitType e = cc

pub rank_null_kind : (a b : Option SqlType) → rank (is_null_kind a b) ≤ rank (pair_kind a b)
rank_null_kind None b = omega arith
rank_null_kind (Some a) None = omega arith
rank_null_kind (Some a) (Some b) = let h : rank (higher a b) ≡ max (rank a) (rank b) = higher_rank a b in omega (arith, h)

pub as_null_kind : (a b : Option SqlType) (found : Found) → HasKind a found → is_as found (is_null_kind a b) ≡ true
as_null_kind None b found e = as_lone found (or_int b) e
as_null_kind (Some kind) b found h = as_known kind found h

-- ---- types that there are

-- a lone NULL has no type; a text has from 1 to 4,000 units
abbrev pub IsReal : Option SqlType → Type 0
IsReal None = Unit {0}
IsReal (Some kind) = is_kind kind ≡ true

pub real_number : (kind : SqlType) → is_text kind ≡ false → is_kind kind ≡ true
real_number TinyInt e = refl
real_number SmallInt e = refl
real_number Int e = refl
real_number BigInt e = refl
real_number BitType e = refl
real_number (NText n) e = cc

pub real_text : (n : ℕ) → 1 ≤ n → n ≤ text_limit → is_kind (NText n) ≡ true
real_text n low high = and_from (nat_le 1 n) (nat_le n text_limit) (le-leb 1 n low) (le-leb n text_limit high)

pub text_real : (n : ℕ) → is_kind (NText n) ≡ true → (1 ≤ n) × (n ≤ text_limit)
text_real n e = let parts : (nat_le 1 n ≡ true) × (nat_le n text_limit ≡ true) = and_parts (nat_le 1 n) (nat_le n text_limit) e in (leb-true 1 n parts.0, leb-true n text_limit parts.1)

pub real_or_int : (kind : Option SqlType) → IsReal kind → is_kind (or_int kind) ≡ true
real_or_int None h = refl
real_or_int (Some kind) h = h

longer_real : (a b : SqlType) → is_kind a ≡ true → is_kind b ≡ true → is_kind (longer a b) ≡ true
longer_real TinyInt b h g = refl
longer_real SmallInt b h g = refl
longer_real Int b h g = refl
longer_real BigInt b h g = refl
longer_real BitType b h g = refl
longer_real (NText n) (NText m) h g = let x : (1 ≤ n) × (n ≤ text_limit) = text_real n h in let y : (1 ≤ m) × (m ≤ text_limit) = text_real m g in
    real_text (max n m) (omega (arith, x.0, y.0)) (omega (arith, x.1, y.1))
longer_real (NText n) TinyInt h g = h
longer_real (NText n) SmallInt h g = h
longer_real (NText n) Int h g = h
longer_real (NText n) BigInt h g = h
longer_real (NText n) BitType h g = h

higher_real : (a b : SqlType) → is_kind a ≡ true → is_kind b ≡ true → is_kind (higher a b) ≡ true
higher_real a b h g = by_rank (nat_eq (rank a) (rank b)) (nat_lt (rank a) (rank b))
  where
    by_rank : (p q : Bool) → is_kind (if p then longer a b else if q then b else a) ≡ true
    by_rank true q = longer_real a b h g
    by_rank false true = g
    by_rank false false = h

pub highest_real : (a b : Option SqlType) → IsReal a → IsReal b → IsReal (highest_of a b)
highest_real None b h g = g
highest_real (Some a) None h g = h
highest_real (Some a) (Some b) h g = higher_real a b h g

pub null_kind_real : (a b : Option SqlType) → IsReal a → IsReal b → is_kind (is_null_kind a b) ≡ true
null_kind_real (Some kind) b h g = h
null_kind_real None b h g = real_or_int b g

pub negative_real : (kind : Option SqlType) (to : SqlType) → negative_kind (or_int kind) ≡ Some to → is_kind to ≡ true
negative_real kind to e = of_kind (or_int kind) e
  where
    of_kind : (k : SqlType) → negative_kind k ≡ Some to → is_kind to ≡ true
    of_kind TinyInt e = let same : SmallInt ≡ to = cc in subst (λ k. is_kind k ≡ true) same refl
    of_kind SmallInt e = let same : SmallInt ≡ to = cc in subst (λ k. is_kind k ≡ true) same refl
    of_kind Int e = let same : Int ≡ to = cc in subst (λ k. is_kind k ≡ true) same refl
    of_kind BigInt e = let same : BigInt ≡ to = cc in subst (λ k. is_kind k ≡ true) same refl
    of_kind BitType e = cc
    of_kind (NText n) e = cc

-- two texts joined, of which one has a type
pub joined_real : (m : ℕ) (a b : Option SqlType) → IsShort m a → IsShort m b → IsReal a → IsReal b → is_text (or_int (highest_of a b)) ≡ true → is_kind (joined_kind a b) ≡ true
joined_real m None None s t h g e = cc
joined_real m None (Some b) s t h g e = let y : (1 ≤ t.0) × (t.0 ≤ text_limit) = text_real t.0 (subst (λ k. is_kind k ≡ true) t.1 g) in
    subst (λ k. is_kind (joined_kind None (Some k)) ≡ true) (sym t.1) (real_text (min text_limit (t.0 + t.0)) (omega (arith, y.0)) (omega arith))
joined_real m (Some a) None s t h g e = let x : (1 ≤ s.0) × (s.0 ≤ text_limit) = text_real s.0 (subst (λ k. is_kind k ≡ true) s.1 h) in
    subst (λ k. is_kind (joined_kind (Some k) None) ≡ true) (sym s.1) (real_text (min text_limit (s.0 + s.0)) (omega (arith, x.0)) (omega arith))
joined_real m (Some a) (Some b) s t h g e = let x : (1 ≤ s.0) × (s.0 ≤ text_limit) = text_real s.0 (subst (λ k. is_kind k ≡ true) s.1 h) in
    subst (λ k. is_kind (joined_kind (Some k) (Some b)) ≡ true) (sym s.1) (subst (λ k. is_kind (joined_kind (Some (NText s.0)) (Some k)) ≡ true) (sym t.1)
    (real_text (min text_limit (s.0 + t.0)) (omega (arith, x.0)) (omega arith)))
