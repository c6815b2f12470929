-- What a well-formed tree gives is of its type, by induction over the tree.
use Rattle.std.proofs.lemmas.Bool.{leb-true, le-leb}
use Rattle.std.proofs.Common.{◌≡◌, refl, sym, subst, ℕ, zero, suc, ◌+◌, ◌≤◌, min, List, [], ◌∷◌, ◌++◌, map, take, length, slice_get, Bool, true, false, ◌&&◌, IsTrue, nat_le, nat_abs, Option, Some, None, Ok, Err, arith, if◌then◌else◌, ℤ, pos, negsuc, All}
use Rattle.value_types.specs.declared.value.Value.{Value}
use Rattle.value_types.specs.declared.value.Value.TheVariants.{Null, Whole, Bit, Text}
use Rattle.value_types.specs.declared.sql_type.SqlType.{SqlType}
use Rattle.value_types.specs.declared.sql_type.SqlType.TheVariants.{TinyInt, SmallInt, Int, BigInt, Bit as BitType, NText}
use Rattle.value_types.specs.Types.{IsOf, is_in_range, text_limit}
use Rattle.convert_rules.specs.Conversion.{is_text}
use Rattle.bound_tree.specs.declared.truth.Truth.{Truth}
use Rattle.bound_tree.specs.declared.truth.Truth.TheVariants as truth
use Rattle.bound_tree.specs.declared.expr.InfixOp.{InfixOp}
use Rattle.bound_tree.specs.declared.expr.BoundExpr.{BoundExpr}
use Rattle.bound_tree.specs.declared.expr.BoundTest.{BoundTest}
use Rattle.bound_tree.specs.declared.expr.BoundArm.{BoundArm}
use Rattle.bound_tree.specs.declared.expr.BoundSide.{BoundSide}
use Rattle.bound_tree.specs.declared.expr.BoundExpr.TheOpen.{BoundExpr-F, BoundArm-F}
use Rattle.bound_tree.specs.declared.expr.BoundExpr.TheFolds.{ind-BoundExpr, map-BoundExpr, fold-roll-BoundExpr, fold-roll-BoundArm}
use Rattle.bound_tree.specs.declared.expr.BoundExpr.TheViews.{roll-BoundExpr, roll-BoundArm}
use Rattle.bound_tree.specs.Kinds.{are_alike, longer}
use Rattle.bound_tree.specs.Truths.{is_true}
use Rattle.bound_tree.specs.Outcomes.{Outcome, after}
use Rattle.bound_tree.specs.Numbers.{arithmetic_of, number_outcome, value_outcome}
use Rattle.bound_tree.specs.Texts.{joined_of}
use Rattle.bound_tree.specs.Setting.{Setting, only_of, rows_at, scalar_of, system_place, value_at}
use Rattle.bound_tree.specs.Meaning as meaning
use Rattle.bound_tree.specs.Meaning.{ArmOutcome, SideOutcome, is_null}
use Rattle.bound_tree.specs.Typed as form
use Rattle.bound_tree.specs.Typed.{AreOf, ArmFound, Fits, Found, unformed, lone_null, typed, GivesOf, SettingTypes, SideFound, TablesOf, beside, common, found_at, found_size, found_where, is_as, joins, or_int}
use Rattle.bound_tree.proofs.Kept.{and_left, and_right, and_true, arithmetic_kept, conversion_kept, joined_size, length_kept, longer_left, longer_right, negation_kept, same_is}

-- the value is of the type that was found
abbrev pub Has : Found → Value → Type 0
Has unformed x = Unit {0}
Has lone_null x = x ≡ Null
Has (typed kind) x = IsOf kind x

abbrev pub Sound : Found → Outcome Value → Type 0
Sound found (Ok x) = Has found x
Sound found (Err number) = Unit {0}

-- ---- what is found, and what it says

unformed_sound : (a : Outcome Value) → Sound unformed a
unformed_sound (Ok x) = tt
unformed_sound (Err n) = tt

as_has : (found : Found) (kind : SqlType) (x : Value) → IsTrue (is_as found kind) → Has found x → IsOf kind x
as_has unformed kind x h s = cc
as_has lone_null kind x h s = subst (IsOf kind) (sym s) tt
as_has (typed of) kind x h s = subst (λ k. IsOf k x) (same_is of kind h) s

pub as_sound : (found : Found) (kind : SqlType) (a : Outcome Value) → IsTrue (is_as found kind) → Sound found a → GivesOf kind a
as_sound found kind (Ok x) h s = as_has found kind x h s
as_sound found kind (Err n) h s = tt

-- a node is sound where what it asks of its parts makes it give values of its type
where_sound : (holds : Bool) (kind : SqlType) (a : Outcome Value) → (IsTrue holds → GivesOf kind a) → Sound (found_where holds kind) a
where_sound true kind (Ok x) gives = gives refl
where_sound true kind (Err n) gives = tt
where_sound false kind a gives = unformed_sound a

or_int_sound : (found : Found) (a : Outcome Value) → Sound found a → Sound (or_int found) a
or_int_sound unformed a s = s
or_int_sound lone_null (Ok x) s = subst (IsOf Int) (sym s) tt
or_int_sound lone_null (Err n) s = tt
or_int_sound (typed kind) a s = s

-- ---- the common type

common_left : (f g : Found) (x : Value) → Has f x → Has (common f g) x
common_left unformed g x h = tt
common_left lone_null unformed x h = tt
common_left lone_null lone_null x h = h
common_left lone_null (typed b) x h = subst (IsOf b) (sym h) tt
common_left (typed a) unformed x h = tt
common_left (typed a) lone_null x h = h
common_left (typed a) (typed b) x h = by_test (are_alike a b)
  where
    by_test : (alike : Bool) → Has (found_where alike (longer a b)) x
    by_test true = longer_left a b x h
    by_test false = tt

common_right : (f g : Found) (x : Value) → Has g x → Has (common f g) x
common_right unformed g x h = tt
common_right lone_null g x h = h
common_right (typed a) unformed x h = tt
common_right (typed a) lone_null x h = subst (IsOf a) (sym h) tt
common_right (typed a) (typed b) x h = by_test (are_alike a b) refl
  where
    by_test : (alike : Bool) → are_alike a b ≡ alike → Has (found_where alike (longer a b)) x
    by_test true e = longer_right a b x e h
    by_test false e = tt

right_sound : (f g : Found) (a : Outcome Value) → Sound g a → Sound (common f g) a
right_sound f g (Ok x) h = common_right f g x h
right_sound f g (Err n) h = tt

-- ---- nodes

int_has : (number : ℤ) → nat_le (nat_abs number) 2147483647 ≡ true → IsTrue (is_in_range Int number)
int_has (pos n) e = e
int_has (negsuc n) e = and_true _ (le-leb _ _ (omega (arith, leb-true (suc n) 2147483647 e)))

literal_sound : (x : Value) → Has (form.literal_found x) x
literal_sound Null = refl
literal_sound (Whole number) = by_test (nat_le (nat_abs number) 2147483647) (is_in_range BigInt number) refl refl
  where
    by_test : (p q : Bool) → nat_le (nat_abs number) 2147483647 ≡ p → is_in_range BigInt number ≡ q → Has (if p then typed Int else found_where q BigInt) (Whole number)
    by_test true q e f = int_has number e
    by_test false true e f = f
    by_test false false e f = tt
literal_sound (Bit bit) = tt
literal_sound (Text units) = omega arith

value_sound : (kinds : List SqlType) (values : List Value) → AreOf kinds values → (place : ℕ) → Has (found_at (slice_get kinds place)) (value_at values place)
value_sound [] values h place = tt
value_sound (kind ∷ kinds) [] h place = absurd h
value_sound (kind ∷ kinds) (x ∷ values) h zero = h.0
value_sound (kind ∷ kinds) (x ∷ values) h (suc place) = value_sound kinds values h.1 place

-- a text has no more units than its type
size_has : (f g : Found) (units : List ℕ) → Has f (Text units) → (n : ℕ) → found_size (beside f g) ≡ Some n → length units ≤ n
size_has unformed g units h n e = cc
size_has lone_null g units h n e = cc
size_has (typed (NText size)) g units h n e = let same : size ≡ n = cc in subst (λ k. length units ≤ k) same h
size_has (typed BitType) g units h n e = absurd h
size_has (typed TinyInt) g units h n e = absurd h
size_has (typed SmallInt) g units h n e = absurd h
size_has (typed Int) g units h n e = absurd h
size_has (typed BigInt) g units h n e = absurd h

joined_sound : (f g : Found) (kind : SqlType) (a b : Outcome Value) → IsTrue (joins (found_size (beside f g)) (found_size (beside g f)) kind) → Sound f a → Sound g b → GivesOf kind (joined_of a b)
joined_sound f g kind (Err n) b h s t = tt
joined_sound f g kind (Ok x) (Err n) h s t = tt
joined_sound f g kind (Ok Null) (Ok y) h s t = tt
joined_sound f g kind (Ok (Whole n)) (Ok y) h s t = tt
joined_sound f g kind (Ok (Bit n)) (Ok y) h s t = tt
joined_sound f g kind (Ok (Text u)) (Ok Null) h s t = tt
joined_sound f g kind (Ok (Text u)) (Ok (Whole n)) h s t = tt
joined_sound f g kind (Ok (Text u)) (Ok (Bit n)) h s t = tt
joined_sound f g kind (Ok (Text u)) (Ok (Text v)) h s t = by_size (found_size (beside f g)) (found_size (beside g f)) refl refl h
  where
    by_size : (n m : Option ℕ) → found_size (beside f g) ≡ n → found_size (beside g f) ≡ m → IsTrue (joins n m kind) → IsOf kind (Text (take text_limit (u ++ v)))
    by_size None m e d h = cc
    by_size (Some n) None e d h = cc
    by_size (Some n) (Some m) e d h = subst (λ k. IsOf k (Text (take text_limit (u ++ v)))) (same_is (NText (min text_limit (n + m))) kind h)
        (joined_size n m u v (size_has f g u s n e) (size_has g f v t m d))

infix_sound : (op : InfixOp) (kind : SqlType) (f g : Found) (a b : Outcome Value) → Sound f a → Sound g b → IsTrue (form.infix_fits op kind f g) → GivesOf kind (meaning.infix_of op kind a b)
infix_sound op kind f g a b s t = by_test (is_text kind)
  where
    by_test : (is : Bool) → IsTrue (if is then form.is_add op && joins (found_size (beside f g)) (found_size (beside g f)) kind else form.is_whole kind && is_as (or_int (common f g)) kind)
        → GivesOf kind (if is then joined_of a b else value_outcome (arithmetic_of op kind (number_outcome a) (number_outcome b)))
    by_test true h = joined_sound f g kind a b (and_right _ _ h) s t
    by_test false h = arithmetic_kept op kind (number_outcome a) (number_outcome b)

null_if_sound : (kind : SqlType) (f : Found) (a : Outcome Value) (side : SideOutcome) → Sound f a → IsTrue (is_as f kind) → GivesOf kind (meaning.null_if kind a side)
null_if_sound kind f (Err n) side s h = tt
null_if_sound kind f (Ok x) side s h = by_truth (meaning.equals_side kind x side)
  where
    by_truth : (equal : Outcome Truth) → GivesOf kind (after equal (λ equal. Ok (if is_true equal then Null else x)))
    by_truth (Err n) = tt
    by_truth (Ok truth.True) = tt
    by_truth (Ok truth.False) = as_has f kind x h s
    by_truth (Ok truth.Unknown) = as_has f kind x h s

only_sound : (kind : SqlType) (row : List Value) → AreOf (kind ∷ []) row → IsOf kind (only_of row)
only_sound kind [] h = absurd h
only_sound kind (x ∷ rest) h = h.0

rows_sound : (kinds : List SqlType) (rows : List (List Value)) → All (AreOf kinds) rows → Sound (found_at (form.column_kind (Some kinds))) (scalar_of rows)
rows_sound [] rows h = unformed_sound (scalar_of rows)
rows_sound (kind ∷ other ∷ rest) rows h = unformed_sound (scalar_of rows)
rows_sound (kind ∷ []) [] h = tt
rows_sound (kind ∷ []) (row ∷ []) h = only_sound kind row (h 0 [] (omega arith))
rows_sound (kind ∷ []) (row ∷ other ∷ rest) h = tt

scalar_sound : (inner : List (List SqlType)) (tables : List (List (List Value))) → TablesOf inner tables → (place : ℕ) → Sound (found_at (form.column_kind (slice_get inner place))) (scalar_of (rows_at tables place))
scalar_sound [] tables h place = unformed_sound (scalar_of (rows_at tables place))
scalar_sound (kinds ∷ inner) [] h place = absurd h
scalar_sound (kinds ∷ inner) (rows ∷ tables) h zero = rows_sound kinds rows h.0
scalar_sound (kinds ∷ inner) (rows ∷ tables) h (suc place) = scalar_sound inner tables h.1 place

known_sound : (f g : Found) (a rest : Outcome Value) → Sound f a → Sound g rest → Sound (common f g) (after a (λ x. if is_null x then rest else Ok x))
known_sound f g (Err n) rest s t = tt
known_sound f g (Ok Null) (Ok y) s t = common_right f g y t
known_sound f g (Ok Null) (Err n) s t = tt
known_sound f g (Ok (Whole n)) rest s t = common_left f g (Whole n) s
known_sound f g (Ok (Bit b)) rest s t = common_left f g (Bit b) s
known_sound f g (Ok (Text u)) rest s t = common_left f g (Text u) s

abbrev or_else_of : Outcome (Option Value) → Outcome Value → Outcome Value
or_else_of a other = after a (λ x. meaning.or_else x other)

arm_sound : (holds : Bool) (f g : Found) (t : Outcome Truth) (a : Outcome Value) (rest : Outcome (Option Value)) (other : Outcome Value)
    → Sound f a → Sound g (or_else_of rest other)
    → Sound (if holds then common f g else unformed) (or_else_of (after t (λ test. if is_true test then after a (λ x. Ok (Some x)) else rest)) other)
arm_sound false f g t a rest other s r = unformed_sound (or_else_of (after t (λ test. if is_true test then after a (λ x. Ok (Some x)) else rest)) other)
arm_sound true f g (Err n) a rest other s r = tt
arm_sound true f g (Ok truth.True) (Err n) rest other s r = tt
arm_sound true f g (Ok truth.True) (Ok x) rest other s r = common_left f g x s
arm_sound true f g (Ok truth.False) a rest other s r = right_sound f g (or_else_of rest other) r
arm_sound true f g (Ok truth.Unknown) a rest other s r = right_sound f g (or_else_of rest other) r

-- ---- trees

module _ (types : SettingTypes) (setting : Setting) (fits : Fits types setting) where
  abbrev P : BoundExpr → Type 0
  P e = Sound (form.found_of types e) (meaning.value setting e)

  abbrev Q : BoundArm → Type 0
  Q a = Sound ((form.arm_found types a).1) ((meaning.arm_of setting a).1)

  abbrev below : BoundExpr-F ((e : BoundExpr) × P e) ((t : BoundTest) × Unit {0}) ((a : BoundArm) × Q a) ((s : BoundSide) × Unit {0}) → BoundExpr-F BoundExpr BoundTest BoundArm BoundSide
  below = map-BoundExpr _ _ _ _ BoundExpr BoundTest BoundArm BoundSide (λ e. e.0) (λ e. e.0) (λ e. e.0) (λ e. e.0)

  abbrev values_below : BoundExpr-F BoundExpr BoundTest BoundArm BoundSide → BoundExpr-F (Outcome Value) (Outcome Truth) ArmOutcome SideOutcome
  values_below = map-BoundExpr _ _ _ _ (Outcome Value) (Outcome Truth) ArmOutcome SideOutcome (meaning.value setting) (meaning.truth setting) (meaning.arm_of setting) (meaning.side_of setting)

  abbrev found_below : BoundExpr-F BoundExpr BoundTest BoundArm BoundSide → BoundExpr-F Found Bool ArmFound SideFound
  found_below = map-BoundExpr _ _ _ _ Found Bool ArmFound SideFound (form.found_of types) (form.is_formed_test types) (form.arm_found types) (form.side_found types)

  items_sound : (items : List ((e : BoundExpr) × P e)) → Sound (form.common_of (map (form.found_of types) (map (λ p. p.0) items))) (meaning.first_known (map (meaning.value setting) (map (λ p. p.0) items)))
  items_sound [] = refl
  items_sound (p ∷ rest) = known_sound _ _ _ _ p.1 (items_sound rest)

  arms_sound : (arms : List ((a : BoundArm) × Q a)) (g : Found) (other : Outcome Value) → Sound g other
      → Sound (form.arms_found (map (form.arm_found types) (map (λ p. p.0) arms)) g) (or_else_of (meaning.chosen (map (meaning.arm_of setting) (map (λ p. p.0) arms))) other)
  arms_sound [] g other s = s
  arms_sound (p ∷ rest) g other s = arm_sound ((form.arm_found types p.0).0) _ _ _ _ _ other p.1 (arms_sound rest g other s)

  node_sound : (y : BoundExpr-F ((e : BoundExpr) × P e) ((t : BoundTest) × Unit {0}) ((a : BoundArm) × Q a) ((s : BoundSide) × Unit {0}))
      → Sound (form.expr_step types (found_below (below y))) (meaning.expr_step setting (values_below (below y)))
  node_sound (BoundExpr-F.Constant x) = literal_sound x
  node_sound (BoundExpr-F.Cell place) = value_sound types.row setting.row fits.row place
  node_sound (BoundExpr-F.Variable place) = value_sound types.vars setting.vars fits.vars place
  node_sound (BoundExpr-F.System of) = value_sound types.system setting.system fits.system (system_place of)
  node_sound (BoundExpr-F.Negate kind a) = where_sound _ kind _ (λ h. negation_kept kind (number_outcome (meaning.value setting a.0)))
  node_sound (BoundExpr-F.Infix op kind a b) = where_sound _ kind _ (infix_sound op kind _ _ _ _ a.1 b.1)
  node_sound (BoundExpr-F.Convert from to a) = where_sound _ to _ (λ h. conversion_kept from to (meaning.value setting a.0))
  node_sound (BoundExpr-F.Case arms other) = or_int_sound _ _ (arms_sound arms (form.found_of types other.0) (meaning.value setting other.0) other.1)
  node_sound (BoundExpr-F.Coalesce items) = or_int_sound _ _ (items_sound items)
  node_sound (BoundExpr-F.NullIf kind a side) = where_sound _ kind _ (λ h. null_if_sound kind (form.found_of types a.0) (meaning.value setting a.0) (meaning.side_of setting side.0) a.1 (and_left _ _ h))
  node_sound (BoundExpr-F.Length a) = where_sound _ Int _ (λ h. length_kept (meaning.value setting a.0))
  node_sound (BoundExpr-F.Scalar place) = scalar_sound types.inner setting.inner fits.inner place

  layer : (y : BoundExpr-F ((e : BoundExpr) × P e) ((t : BoundTest) × Unit {0}) ((a : BoundArm) × Q a) ((s : BoundSide) × Unit {0})) → P (roll-BoundExpr (below y))
  layer y = subst (λ f. Sound f (meaning.value setting (roll-BoundExpr (below y))))
      (sym (fold-roll-BoundExpr Found Bool ArmFound SideFound (form.expr_step types) (form.test_step types) (form.arm_step types) (form.side_step types) (below y)))
      (subst (Sound (form.expr_step types (found_below (below y))))
      (sym (fold-roll-BoundExpr (Outcome Value) (Outcome Truth) ArmOutcome SideOutcome (meaning.expr_step setting) (meaning.test_step setting) (meaning.arm_step setting) (meaning.side_step setting) (below y)))
      (node_sound y))

  arm_layer : (t : BoundTest) (e : BoundExpr) → P e → Q (roll-BoundArm (record { test = t; gives = e }))
  arm_layer t e p =
      let z : BoundArm-F BoundExpr BoundTest BoundArm BoundSide = record { test = t; gives = e } in
      let S : ArmFound → Type 0 = λ f. Sound f.1 ((meaning.arm_of setting (roll-BoundArm z)).1) in
      let V : ArmOutcome → Type 0 = λ v. Sound (form.found_of types e) v.1 in
      subst S (sym (fold-roll-BoundArm Found Bool ArmFound SideFound (form.expr_step types) (form.test_step types) (form.arm_step types) (form.side_step types) z))
      (subst V (sym (fold-roll-BoundArm (Outcome Value) (Outcome Truth) ArmOutcome SideOutcome (meaning.expr_step setting) (meaning.test_step setting) (meaning.arm_step setting) (meaning.side_step setting) z)) p)

  pub sound : (e : BoundExpr) → P e
  sound = ind-BoundExpr P (λ t. Unit {0}) Q (λ s. Unit {0})
      (λ x y is. subst (λ z. P (roll-BoundExpr z)) is (layer y))
      (λ x y is. tt)
      (λ x y is. subst (λ z. Q (roll-BoundArm z)) is (arm_layer y.test.0 y.gives.0 y.gives.1))
      (λ x y is. tt)

  -- a tree that is well formed gives values of its type
  pub typed_law : (e : BoundExpr) (kind : SqlType) → IsTrue (form.is_formed types e kind) → GivesOf kind (meaning.value setting e)
  typed_law e kind h = as_sound (form.found_of types e) kind (meaning.value setting e) h (sound e)
