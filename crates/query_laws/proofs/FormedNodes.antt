-- Nodes over parts that are well formed are well formed, and their types are what is known of them.
use Rattle.std.proofs.lemmas.Bool.{and_from, cond-true, cond-false, le-leb, leb-true}
use Rattle.std.proofs.Common.{◌≡◌, ◌⊎◌, inl, inr, refl, sym, ap, subst, ℕ, zero, suc, ◌≤◌, min, max, List, [], ◌∷◌, ◌++◌, map, length, ℤ, Bool, true, false, ◌&&◌, nat_le, nat_abs, slice_get, is_some, Option, Some, None, Ok, Err, arith, if◌then◌else◌}
use Rattle.std.specs.List.{list_all}
use Rattle.value_types.specs.declared.sql_type.SqlType.{SqlType}
use Rattle.value_types.specs.declared.sql_type.SqlType.TheVariants.{TinyInt, SmallInt, Int, BigInt, Bit as BitType, NText}
use Rattle.value_types.specs.declared.value.Value.TheVariants.{Null, Whole, Text}
use Rattle.convert_rules.specs.Conversion.{is_text}
use Rattle.value_types.specs.Types.{is_in_range, text_limit}
use Rattle.bound_tree.specs.declared.expr.InfixOp.{InfixOp}
use Rattle.bound_tree.specs.declared.expr.CompareOp.{CompareOp}
use Rattle.bound_tree.specs.declared.expr.BoundExpr.{BoundExpr, the_lemmas}
use Rattle.bound_tree.specs.declared.system.SystemValue.{SystemValue}
use Rattle.bound_tree.specs.Setting.{system_place}
use Rattle.value_types.specs.declared.value.Value.{Value}
use Rattle.bound_tree.specs.declared.expr.BoundExpr.TheVariants as bound
use Rattle.bound_tree.specs.declared.expr.BoundTest.{BoundTest}
use Rattle.bound_tree.specs.declared.expr.BoundTest.TheVariants as test
use Rattle.bound_tree.specs.declared.expr.BoundArm.{BoundArm}
use Rattle.bound_tree.specs.declared.expr.BoundSide.{BoundSide}
use Rattle.bound_tree.specs.declared.expr.BoundExpr.TheFolds.{fold-roll-BoundArm, fold-roll-BoundSide}
use Rattle.bound_tree.specs.Typed as form
use Rattle.bound_tree.specs.Kinds.{longer}
use Rattle.bound_tree.specs.Typed.{SettingTypes, ArmFound, SideFound, Found, unformed, lone_null, typed, arm_found, arms_found, beside as found_beside, column_kind, common, common_of, found_of, found_at, found_size, found_where, infix_fits, is_column, is_add, is_as, is_as_text, is_found, is_formed_test, is_side, is_whole, joins, literal_found, negated, or_int as found_or_int, side_found}
use Rattle.typed_nodes.specs.declared.facts.Facts.{Facts}
use Rattle.typed_nodes.specs.declared.expr.TypedExpr.{TypedExpr}
use Rattle.typed_nodes.specs.declared.expr.TypedArm.{TypedArm}
use Rattle.typed_nodes.specs.declared.test.TypedTest.{TypedTest}
use Rattle.typed_nodes.specs.declared.test.Junction.{Junction}
use Rattle.typed_nodes.specs.declared.test.Junction.TheVariants.{And, Or}
use Rattle.typed_nodes.specs.Refusals.{Outcome, after, unnamed, operand_not_allowed}
use Rattle.typed_nodes.specs.Facts.{above, alone, beside, deeper, highest_of, max_depth, no_facts, or_int, outside}
use Rattle.typed_nodes.specs.Nodes as node
use Rattle.typed_nodes.specs.Nodes.{is_kind, converted, converted_from, facts_onto, arms_facts_onto, arm_facts, arm_to, as_number, infix_kind, is_within, joined_kind, kept, leaf, negative_kind, pair_kind, side_kind, side_of, size_beside, with_facts}
use Rattle.typed_nodes.specs.Tests as tests
use Rattle.query_laws.specs.Laws.{AllOf}
use Rattle.query_laws.proofs.FoundKinds.{IsReal, highest_real, joined_real, negative_real, null_kind_real, real_number, real_or_int, real_text, trans, AsNumber, as_null_kind, common_same, rank_null_kind, first_common, within_self, common_as, highest_numeric, int_or, is_a_text, whole_numeric, HasKind, Brought, IsNumeric, IsShort, as_known, as_or_int, as_side, alike_rank, common_texts, found_by, highest_short, is_side_of, like_brought, negated_known, same_of_rank, same_self, short_found, short_or_int, size_found, size_found_turned, typed_where, within_rank}

pub map_map : {A B C : Type 0} (f : B → C) (g : A → B) (items : List A) → map f (map g items) ≡ map (λ a. f (g a)) items
map_map f g [] = refl
map_map f g (a ∷ rest) = ap (λ more. f (g a) ∷ more) (map_map f g rest)

-- ---- depth

-- what is not too deep is kept
pub kept_shallow : (depth : ℕ) (expr : BoundExpr) → depth ≤ max_depth → kept depth expr ≡ expr
kept_shallow depth expr le = cond-true (nat_le depth max_depth) expr node.null (le-leb depth max_depth le)

-- a node that is not too deep has parts that aren't
pub parts_shallow : (depth : ℕ) → deeper depth ≤ max_depth → depth ≤ max_depth
parts_shallow depth le = omega (arith, le)

module _ (types : SettingTypes) where
  -- ---- what is found of a node, by what is found of its parts

  pub found_constant : (x : Value) → found_of types (bound.Constant x) ≡ literal_found x
  found_constant x = search the_lemmas

  pub found_cell : (place : ℕ) → found_of types (bound.Cell place) ≡ found_at (slice_get types.row place)
  found_cell place = search the_lemmas

  pub found_variable : (place : ℕ) → found_of types (bound.Variable place) ≡ found_at (slice_get types.vars place)
  found_variable place = search the_lemmas

  pub found_system : (of : SystemValue) → found_of types (bound.System of) ≡ found_at (slice_get types.system (system_place of))
  found_system of = search the_lemmas

  pub found_negate : (kind : SqlType) (e : BoundExpr) → found_of types (bound.Negate kind e) ≡ found_where (is_as (negated (found_of types e)) kind) kind
  found_negate kind e = search the_lemmas

  pub found_infix : (op : InfixOp) (kind : SqlType) (e d : BoundExpr) → found_of types (bound.Infix op kind e d) ≡ found_where (infix_fits op kind (found_of types e) (found_of types d)) kind
  found_infix op kind e d = search the_lemmas

  pub found_conversion : (from to : SqlType) (e : BoundExpr) → found_of types (bound.Convert from to e) ≡ found_where (is_as (found_of types e) from) to
  found_conversion from to e = search the_lemmas

  pub found_case : (arms : List BoundArm) (e : BoundExpr) → found_of types (bound.Case arms e) ≡ found_or_int (arms_found (map (arm_found types) arms) (found_of types e))
  found_case arms e = search the_lemmas

  pub found_coalesce : (items : List BoundExpr) → found_of types (bound.Coalesce items) ≡ found_or_int (common_of (map (found_of types) items))
  found_coalesce items = search the_lemmas

  pub found_null_if : (kind : SqlType) (e : BoundExpr) (side : BoundSide) → found_of types (bound.NullIf kind e side) ≡ found_where (is_as (found_of types e) kind && is_side kind (side_found types side)) kind
  found_null_if kind e side = search the_lemmas

  pub found_length : (e : BoundExpr) → found_of types (bound.Length e) ≡ found_where (is_as_text (found_of types e)) Int
  found_length e = search the_lemmas

  pub found_scalar : (place : ℕ) → found_of types (bound.Scalar place) ≡ found_at (column_kind (slice_get types.inner place))
  found_scalar place = search the_lemmas

  pub test_compare : (op : CompareOp) (e d : BoundExpr) → is_formed_test types (test.Compare op e d) ≡ is_found (common (found_of types e) (found_of types d))
  test_compare op e d = search the_lemmas

  pub test_is_null : (e : BoundExpr) → is_formed_test types (test.IsNull e) ≡ is_found (found_of types e)
  test_is_null e = search the_lemmas

  pub test_between : (kind : SqlType) (e : BoundExpr) (low high : BoundSide) → is_formed_test types (test.Between kind e low high) ≡ (is_as (found_of types e) kind && (is_side kind (side_found types low) && is_side kind (side_found types high)))
  test_between kind e low high = search the_lemmas

  pub test_in_list : (kind : SqlType) (e : BoundExpr) (sides : List BoundSide) → is_formed_test types (test.InList kind e sides) ≡ (is_as (found_of types e) kind && list_all (is_side kind) (map (side_found types) sides))
  test_in_list kind e sides = search the_lemmas

  pub test_in_query : (kind : SqlType) (e : BoundExpr) (other : SqlType) (place : ℕ) → is_formed_test types (test.InQuery kind e other place) ≡ (is_as (found_of types e) kind && is_column other (column_kind (slice_get types.inner place)))
  test_in_query kind e other place = search the_lemmas

  pub test_exists : (place : ℕ) → is_formed_test types (test.Exists place) ≡ is_some (slice_get types.inner place)
  test_exists place = search the_lemmas

  pub test_and : (t u : BoundTest) → is_formed_test types (test.And t u) ≡ (is_formed_test types t && is_formed_test types u)
  test_and t u = search the_lemmas

  pub test_or : (t u : BoundTest) → is_formed_test types (test.Or t u) ≡ (is_formed_test types t && is_formed_test types u)
  test_or t u = search the_lemmas

  pub test_not : (t : BoundTest) → is_formed_test types (test.Not t) ≡ is_formed_test types t
  test_not t = search the_lemmas

  arm_roll : (t : BoundTest) (e : BoundExpr) → arm_found types (record { test = t; gives = e }) ≡ (is_formed_test types t, found_of types e)
  arm_roll t e = fold-roll-BoundArm Found Bool ArmFound SideFound (form.expr_step types) (form.test_step types) (form.arm_step types) (form.side_step types) (record { test = t; gives = e })

  side_roll : (pair : SqlType) (e : BoundExpr) → side_found types (record { pair = pair; expr = e }) ≡ (pair, found_of types e)
  side_roll pair e = fold-roll-BoundSide Found Bool ArmFound SideFound (form.expr_step types) (form.test_step types) (form.arm_step types) (form.side_step types) (record { pair = pair; expr = e })

  -- its type is what is known of it, and there is such a type, unless it is outside a limit
  abbrev pub IsFormed : TypedExpr → Type 0
  IsFormed a = a.facts.depth ≤ max_depth → HasKind a.facts.kind (found_of types a.expr) × IsReal a.facts.kind

  abbrev pub IsFormedTest : TypedTest → Type 0
  IsFormedTest a = (a.facts.kind ≡ None) × (a.facts.depth ≤ max_depth → is_formed_test types a.test ≡ true)

  abbrev pub FormedOutcome : Outcome TypedExpr → Type 0
  FormedOutcome (Ok a) = IsFormed a
  FormedOutcome (Err refusal) = Unit {0}

  pub node_formed : (parts : Facts) (kind : SqlType) (expr : BoundExpr) → (parts.depth ≤ max_depth → found_of types expr ≡ typed kind) → (parts.depth ≤ max_depth → is_kind kind ≡ true) → IsFormed (node.node parts kind expr)
  node_formed parts kind expr h r le = (inl (trans (ap (found_of types) (kept_shallow (deeper parts.depth) expr le)) (h (parts_shallow parts.depth le))), r (parts_shallow parts.depth le))

  pub leaf_formed : (kind : SqlType) (expr : BoundExpr) → found_of types expr ≡ typed kind → is_kind kind ≡ true → IsFormed (leaf kind expr)
  leaf_formed kind expr h r le = (inl h, r)

  -- what is outside a limit
  pub outside_formed : (facts : Facts) (expr : BoundExpr) → IsFormed (with_facts (outside facts) expr)
  outside_formed facts expr le = absurd (omega (arith, le))

  -- ---- literals

  pub number_formed : (n : ℤ) → is_in_range BigInt n ≡ true → IsFormed (node.number_expr n)
  number_formed n range = by_test (nat_le (nat_abs n) 2147483647) refl
    where
      by_test : (b : Bool) → nat_le (nat_abs n) 2147483647 ≡ b → IsFormed (leaf (if b then Int else BigInt) (bound.Constant (Whole n)))
      by_test true e = leaf_formed Int (bound.Constant (Whole n)) (trans (found_constant (Whole n)) (cond-true (nat_le (nat_abs n) 2147483647) (typed Int) (found_where (is_in_range BigInt n) BigInt) e)) refl
      by_test false e = leaf_formed BigInt (bound.Constant (Whole n)) (trans (found_constant (Whole n)) (trans (cond-false (nat_le (nat_abs n) 2147483647) (typed Int) (found_where (is_in_range BigInt n) BigInt) e) (typed_where (is_in_range BigInt n) BigInt range))) refl

  pub null_formed : IsFormed node.lone_null
  null_formed le = (found_constant Null, tt)

  pub int_null_formed : IsFormed (leaf Int node.null)
  int_null_formed le = (inr (found_constant Null, refl), refl)

  pub text_formed : (units : List ℕ) → IsFormed (node.text_expr units)
  text_formed units = by_test (nat_le (length units) text_limit) refl
    where
      short : length units ≤ text_limit → max 1 (length units) ≡ max 1 (min text_limit (length units))
      short le = omega (arith, le)

      real : is_kind (node.text_kind (length units)) ≡ true
      real = real_text (max 1 (min text_limit (length units))) (omega arith) (omega arith)

      by_test : (b : Bool) → nat_le (length units) text_limit ≡ b → IsFormed (if b then leaf (node.text_kind (length units)) (bound.Constant (Text units)) else with_facts (outside (alone (Some (node.text_kind (length units))))) node.null)
      by_test true e = leaf_formed (node.text_kind (length units)) (bound.Constant (Text units)) (trans (found_constant (Text units)) (ap (λ n. typed (NText n)) (short (leb-true (length units) text_limit e)))) real
      by_test false e = outside_formed (alone (Some (node.text_kind (length units)))) node.null

  -- ---- conversions

  pub found_convert : (from to : SqlType) (e : BoundExpr) → is_as (found_of types e) from ≡ true → found_of types (bound.Convert from to e) ≡ typed to
  found_convert from to e h = trans (found_conversion from to e) (typed_where (is_as (found_of types e) from) to h)

  pub brought : (from : Option SqlType) (to : SqlType) (expr : BoundExpr) → HasKind from (found_of types expr) → Brought to (found_of types (converted_from from to expr))
  brought None to expr e = inl e
  brought (Some from) to expr h = by_test (is_within from to) refl
    where
      as_it_is : is_within from to ≡ true → HasKind (Some from) (found_of types expr) → Brought to (found_of types expr)
      as_it_is w (inl e) = inr (from, e, w)
      as_it_is w (inr e) = inl e.0

      by_test : (b : Bool) → is_within from to ≡ b → Brought to (found_of types (if b then expr else bound.Convert from to expr))
      by_test true e = as_it_is e h
      by_test false e = inr (to, found_convert from to expr (as_known from (found_of types expr) h), within_self to)

  -- CAST
  pub cast_formed : (to : SqlType) (a : TypedExpr) → IsFormed a → IsFormed (node.cast_expr to a)
  cast_formed to a h = by_kind (node.is_kind to) refl
    where
      by_kind : (b : Bool) → node.is_kind to ≡ b → IsFormed (with_facts (if b then above a.facts to else outside (above a.facts to)) (bound.Convert (or_int a.facts.kind) to a.expr))
      by_kind true e = node_formed a.facts to (bound.Convert (or_int a.facts.kind) to a.expr) (λ le. found_convert (or_int a.facts.kind) to a.expr (as_or_int a.facts.kind (found_of types a.expr) (h le).0)) (λ le. e)
      by_kind false e = outside_formed (above a.facts to) (bound.Convert (or_int a.facts.kind) to a.expr)

  -- ---- arithmetic

  -- a bit as a number, where the test says that it is one
  abbrev numbered : TypedExpr → Bool → TypedExpr
  numbered a bit = if bit then record { expr = bound.Convert BitType Int a.expr; facts = record a.facts { kind = Some Int } } else a

  abbrev Numbered : TypedExpr → Bool → Type 0
  Numbered a bit = IsFormed (numbered a bit) × IsNumeric ((numbered a bit).facts.kind)

  number_kind : (k : Option SqlType) (a : TypedExpr) → a.facts.kind ≡ k → IsFormed a → IsFormed (as_number a) × IsNumeric ((as_number a).facts.kind)
  number_kind None a e h = subst (Numbered a) (sym (ap node.is_bit e)) (h, subst IsNumeric (sym e) tt)
  number_kind (Some BitType) a e h = subst (Numbered a) (sym (ap node.is_bit e))
      ((λ le. (inl (found_convert BitType Int a.expr (as_known BitType (found_of types a.expr) (subst (λ k. HasKind k (found_of types a.expr)) e (h le).0))), refl)), inr (omega arith))
  number_kind (Some TinyInt) a e h = subst (Numbered a) (sym (ap node.is_bit e)) (h, subst IsNumeric (sym e) (inr (omega arith)))
  number_kind (Some SmallInt) a e h = subst (Numbered a) (sym (ap node.is_bit e)) (h, subst IsNumeric (sym e) (inr (omega arith)))
  number_kind (Some Int) a e h = subst (Numbered a) (sym (ap node.is_bit e)) (h, subst IsNumeric (sym e) (inr (omega arith)))
  number_kind (Some BigInt) a e h = subst (Numbered a) (sym (ap node.is_bit e)) (h, subst IsNumeric (sym e) (inr (omega arith)))
  number_kind (Some (NText n)) a e h = subst (Numbered a) (sym (ap node.is_bit e)) (h, subst IsNumeric (sym e) (inl refl))

  pub number_formed_as : (a : TypedExpr) → IsFormed a → IsFormed (as_number a)
  number_formed_as a h = (number_kind a.facts.kind a refl h).0

  pub numeric_as : (a : TypedExpr) → IsFormed a → IsNumeric ((as_number a).facts.kind)
  numeric_as a h = (number_kind a.facts.kind a refl h).1

  -- an operand as one of a type that is no text
  as_number_to : (to : SqlType) (k : Option SqlType) (e : BoundExpr) → is_text to ≡ false → HasKind k (found_of types e) → AsNumber to k (found_of types (converted_from k to e))
  as_number_to to None e t h = inr (h, inl refl)
  as_number_to to (Some from) e t h = by_test (is_within from to) refl
    where
      same : is_within from to ≡ true → from ≡ to
      same w = same_of_rank from to (within_rank from to w) t

      as_it_is : from ≡ to → HasKind (Some from) (found_of types e) → AsNumber to (Some from) (found_of types e)
      as_it_is s (inl d) = inl (trans d (ap typed s))
      as_it_is s (inr d) = inr (d.0, inr (trans (sym s) d.1))

      by_test : (b : Bool) → is_within from to ≡ b → AsNumber to (Some from) (found_of types (if b then e else bound.Convert from to e))
      by_test true w = as_it_is (same w) h
      by_test false w = inl (found_convert from to e (as_known from (found_of types e) h))

  -- an operand that is a text stays as it is in a longer text's type
  short_kept : (m : ℕ) (k : Option SqlType) (e : BoundExpr) → IsShort m k → converted_from k (NText m) e ≡ e
  short_kept m None e s = refl
  short_kept m (Some from) e s = subst (λ f. converted_from (Some f) (NText m) e ≡ e) (sym s.1) (cond-true (nat_le s.0 m) e (bound.Convert (NText s.0) (NText m) e) (le-leb s.0 m s.2))

  texts_fit : (op : InfixOp) (m : ℕ) (k l : Option SqlType) (e d : BoundExpr) → NText m ≡ or_int (highest_of k l) → HasKind k (found_of types e) → HasKind l (found_of types d)
      → is_add op ≡ true → infix_fits op (joined_kind k l) (found_of types (converted_from k (NText m) e)) (found_of types (converted_from l (NText m) d)) ≡ true
  texts_fit op m k l e d same h g add =
      let both : IsShort m k × IsShort m l = highest_short m k l (short_or_int m (highest_of k l) same) in
      let text : is_text (or_int (highest_of k l)) ≡ true = subst (λ t. is_text t ≡ true) same refl in
      let left : found_of types (converted_from k (NText m) e) ≡ found_by k = trans (ap (found_of types) (short_kept m k e both.0)) (short_found m k (found_of types e) both.0 h) in
      let right : found_of types (converted_from l (NText m) d) ≡ found_by l = trans (ap (found_of types) (short_kept m l d both.1)) (short_found m l (found_of types d) both.1 g) in
      subst (λ f. infix_fits op (joined_kind k l) f (found_of types (converted_from l (NText m) d)) ≡ true) (sym left)
      (subst (λ f. infix_fits op (joined_kind k l) (found_by k) f ≡ true) (sym right)
      (and_from (is_add op) _ add
      (subst (λ x. joins x (found_size (found_beside (found_by l) (found_by k))) (joined_kind k l) ≡ true) (sym (size_found m k l both.0 both.1 text))
      (subst (λ x. joins (Some (size_beside k l)) x (joined_kind k l) ≡ true) (sym (size_found_turned m k l both.0 both.1 text)) (same_self (joined_kind k l))))))

  numbers_fit : (op : InfixOp) (to : SqlType) (k l : Option SqlType) (e d : BoundExpr) → to ≡ or_int (highest_of k l) → is_text to ≡ false → HasKind k (found_of types e) → HasKind l (found_of types d)
      → IsNumeric k → IsNumeric l → infix_fits op to (found_of types (converted_from k to e)) (found_of types (converted_from l to d)) ≡ true
  numbers_fit op to k l e d same t h g n m =
      let whole : is_whole to ≡ true = whole_numeric to t (subst (λ x. IsNumeric (Some x)) (sym same) (int_or (highest_of k l) (highest_numeric k l n m))) in
      let as_it : is_as (found_or_int (common (found_of types (converted_from k to e)) (found_of types (converted_from l to d)))) to ≡ true = common_as to k l _ _ same t (as_number_to to k e t h) (as_number_to to l d t g) in
      trans (cond-false (is_text to) _ _ t) (and_from _ _ whole as_it)

  infix_numbers : (op : InfixOp) (a b : TypedExpr) → IsFormed a → IsFormed b → IsNumeric a.facts.kind → IsNumeric b.facts.kind → FormedOutcome (node.infix_of_numbers op a b)
  infix_numbers op a b h g n m = by_text (is_text to) refl
    where
      to : SqlType
      to = or_int (highest_of a.facts.kind b.facts.kind)

      expr_of : SqlType → BoundExpr
      expr_of kind = bound.Infix op kind (converted to a) (converted to b)

      left_shallow : (beside a.facts b.facts).depth ≤ max_depth → a.facts.depth ≤ max_depth
      left_shallow le = omega (arith, le)

      right_shallow : (beside a.facts b.facts).depth ≤ max_depth → b.facts.depth ≤ max_depth
      right_shallow le = omega (arith, le)

      fits_text : is_text to ≡ true → is_add op ≡ true → (le : (beside a.facts b.facts).depth ≤ max_depth) → infix_fits op (joined_kind a.facts.kind b.facts.kind) (found_of types (converted to a)) (found_of types (converted to b)) ≡ true
      fits_text t add le =
          let size : (m : ℕ) × (to ≡ NText m) = is_a_text to t in
          subst (λ x. infix_fits op (joined_kind a.facts.kind b.facts.kind) (found_of types (converted_from a.facts.kind x a.expr)) (found_of types (converted_from b.facts.kind x b.expr)) ≡ true) (sym size.1)
          (texts_fit op size.0 a.facts.kind b.facts.kind a.expr b.expr (sym size.1) (h (left_shallow le)).0 (g (right_shallow le)).0 add)

      real_text_kind : is_text to ≡ true → (le : (beside a.facts b.facts).depth ≤ max_depth) → is_kind (joined_kind a.facts.kind b.facts.kind) ≡ true
      real_text_kind t le =
          let size : (m : ℕ) × (to ≡ NText m) = is_a_text to t in
          let both : IsShort size.0 a.facts.kind × IsShort size.0 b.facts.kind = highest_short size.0 a.facts.kind b.facts.kind (short_or_int size.0 (highest_of a.facts.kind b.facts.kind) (sym size.1)) in
          joined_real size.0 a.facts.kind b.facts.kind both.0 both.1 (h (left_shallow le)).1 (g (right_shallow le)).1 t

      by_add : (add : Bool) → is_text to ≡ true → is_add op ≡ add → FormedOutcome (after (if add then Ok (joined_kind a.facts.kind b.facts.kind) else unnamed operand_not_allowed) (λ kind. Ok (node.node (beside a.facts b.facts) kind (expr_of kind))))
      by_add true t add = node_formed (beside a.facts b.facts) (joined_kind a.facts.kind b.facts.kind) (expr_of (joined_kind a.facts.kind b.facts.kind)) (λ le. trans (found_infix op (joined_kind a.facts.kind b.facts.kind) (converted to a) (converted to b)) (typed_where _ (joined_kind a.facts.kind b.facts.kind) (fits_text t add le))) (λ le. real_text_kind t le)
      by_add false t add = tt

      by_text : (t : Bool) → is_text to ≡ t → FormedOutcome (after (if t then (if is_add op then Ok (joined_kind a.facts.kind b.facts.kind) else unnamed operand_not_allowed) else Ok to) (λ kind. Ok (node.node (beside a.facts b.facts) kind (expr_of kind))))
      by_text true t = by_add (is_add op) t refl
      by_text false t = node_formed (beside a.facts b.facts) to (expr_of to) (λ le. trans (found_infix op to (converted to a) (converted to b)) (typed_where _ to (numbers_fit op to a.facts.kind b.facts.kind a.expr b.expr refl t (h (left_shallow le)).0 (g (right_shallow le)).0 n m))) (λ le. real_number to t)

  pub infix_formed : (op : InfixOp) (a b : TypedExpr) → IsFormed a → IsFormed b → FormedOutcome (node.infix_expr op a b)
  infix_formed op a b h g = infix_numbers op (as_number a) (as_number b) (number_formed_as a h) (number_formed_as b g) (numeric_as a h) (numeric_as b g)

  negative_number : (a : TypedExpr) → IsFormed a → FormedOutcome (node.negative_of_number a)
  negative_number a h = by_kind (negative_kind (or_int a.facts.kind)) refl
    where
      by_kind : (kind : Option SqlType) → negative_kind (or_int a.facts.kind) ≡ kind → FormedOutcome (node.negative_to kind a)
      by_kind None e = tt
      by_kind (Some kind) e = node_formed a.facts kind (bound.Negate kind a.expr) (λ le. trans (found_negate kind a.expr) (typed_where _ kind (negated_known a.facts.kind (found_of types a.expr) kind (h le).0 e))) (λ le. negative_real a.facts.kind kind e)

  pub negative_formed : (a : TypedExpr) → IsFormed a → FormedOutcome (node.negative_expr a)
  negative_formed a h = negative_number (as_number a) (number_formed_as a h)

  -- ---- functions

  text_found : (k : Option SqlType) (e : BoundExpr) → HasKind k (found_of types e) → is_as_text (found_of types (node.text_from k e)) ≡ true
  text_found None e h = subst (λ f. is_as_text f ≡ true) (sym h) refl
  text_found (Some kind) e h = by_text (is_text kind) refl
    where
      as_it_is : is_text kind ≡ true → HasKind (Some kind) (found_of types e) → is_as_text (found_of types e) ≡ true
      as_it_is t (inl d) = subst (λ f. is_as_text f ≡ true) (sym d) t
      as_it_is t (inr d) = subst (λ f. is_as_text f ≡ true) (sym d.0) refl

      by_text : (t : Bool) → is_text kind ≡ t → is_as_text (found_of types (if t then e else bound.Convert kind node.digits_kind e)) ≡ true
      by_text true t = as_it_is t h
      by_text false t = subst (λ f. is_as_text f ≡ true) (sym (found_convert kind node.digits_kind e (as_known kind (found_of types e) h))) refl

  pub length_formed : (a : TypedExpr) → IsFormed a → IsFormed (node.length_expr a)
  length_formed a h = node_formed a.facts Int (bound.Length (node.text_from a.facts.kind a.expr)) (λ le. trans (found_length (node.text_from a.facts.kind a.expr)) (typed_where _ Int (text_found a.facts.kind a.expr (h le).0))) (λ le. refl)

  -- ---- ISNULL

  -- of its own type an expression stays as it is
  own_kept : (to from : SqlType) (e : BoundExpr) → to ≡ from → converted_from (Some from) to e ≡ e
  own_kept to from e same = subst (λ k. converted_from (Some from) k e ≡ e) (sym same) (cond-true (is_within from from) e (bound.Convert from from e) (within_self from))

  is_null_common : (to : SqlType) (k l : Option SqlType) (e d : BoundExpr) → to ≡ node.is_null_kind k l → HasKind k (found_of types e) → HasKind l (found_of types d)
      → found_or_int (common (found_of types (converted_from k to e)) (common (found_of types (converted_from l to d)) lone_null)) ≡ typed to
  is_null_common to (Some k) l e d same h g = first_common to (found_of types (converted_from (Some k) to e)) (found_of types (converted_from l to d))
      (subst (λ x. HasKind (Some to) (found_of types x)) (sym (own_kept to k e same)) (subst (λ x. HasKind (Some x) (found_of types e)) (sym same) h)) (brought l to d g)
  is_null_common to None None e d same h g = trans (ap (λ x. found_or_int (common x (common (found_of types d) lone_null))) h)
      (trans (ap (λ x. found_or_int (common lone_null (common x lone_null))) g) (ap typed (sym same)))
  is_null_common to None (Some l) e d same h g = trans (ap (λ x. found_or_int (common x (common (found_of types (converted_from (Some l) to d)) lone_null))) h)
      (of_second (subst (λ x. HasKind (Some to) (found_of types x)) (sym (own_kept to l d same)) (subst (λ x. HasKind (Some x) (found_of types d)) (sym same) g)))
    where
      of_second : HasKind (Some to) (found_of types (converted_from (Some l) to d)) → found_or_int (common lone_null (common (found_of types (converted_from (Some l) to d)) lone_null)) ≡ typed to
      of_second (inl x) = ap (λ f. found_or_int (common lone_null (common f lone_null))) x
      of_second (inr x) = trans (ap (λ f. found_or_int (common lone_null (common f lone_null))) x.0) (ap typed (sym x.1))

  pub is_null_formed : (a b : TypedExpr) → IsFormed a → IsFormed b → IsFormed (node.is_null_expr a b)
  is_null_formed a b h g = node_formed (beside a.facts b.facts) to (bound.Coalesce (converted to a ∷ converted to b ∷ []))
      (λ le. trans (found_coalesce (converted to a ∷ converted to b ∷ [])) (is_null_common to a.facts.kind b.facts.kind a.expr b.expr refl (h (omega (arith, le))).0 (g (omega (arith, le))).0))
      (λ le. null_kind_real a.facts.kind b.facts.kind (h (omega (arith, le))).1 (g (omega (arith, le))).1)
    where
      to : SqlType
      to = node.is_null_kind a.facts.kind b.facts.kind

  -- ---- pairs

  pub null_if_formed : (a b : TypedExpr) → IsFormed a → IsFormed b → IsFormed (node.null_if_expr a b)
  null_if_formed a b h g = node_formed (beside a.facts b.facts) kind (bound.NullIf kind a.expr (side_of a.facts.kind b)) at_depth (λ le. null_kind_real a.facts.kind b.facts.kind (h (omega (arith, le))).1 (g (omega (arith, le))).1)
    where
      kind : SqlType
      kind = node.is_null_kind a.facts.kind b.facts.kind

      pair : SqlType
      pair = pair_kind a.facts.kind b.facts.kind

      side_fits : (beside a.facts b.facts).depth ≤ max_depth → is_side kind (pair, found_of types (converted pair b)) ≡ true
      side_fits le = and_from _ _ (le-leb _ _ (rank_null_kind a.facts.kind b.facts.kind)) (like_brought pair _ (brought b.facts.kind pair b.expr (g (omega (arith, le))).0))

      at_depth : (beside a.facts b.facts).depth ≤ max_depth → found_of types (bound.NullIf kind a.expr (side_of a.facts.kind b)) ≡ typed kind
      at_depth le = trans (found_null_if kind a.expr (side_of a.facts.kind b)) (typed_where _ kind
          (and_from _ _ (as_null_kind a.facts.kind b.facts.kind (found_of types a.expr) (h (omega (arith, le))).0)
          (subst (λ side. is_side kind side ≡ true) (sym (side_roll pair (converted pair b))) (side_fits le))))

  -- the other side of a pair
  side_formed : (k : Option SqlType) (b : TypedExpr) → HasKind b.facts.kind (found_of types b.expr) → is_side (side_kind k) (side_found types (side_of k b)) ≡ true
  side_formed k b g = subst (λ side. is_side (side_kind k) side ≡ true) (sym (side_roll (pair_kind k b.facts.kind) (converted (pair_kind k b.facts.kind) b))) (is_side_of k b.facts.kind _ (brought b.facts.kind (pair_kind k b.facts.kind) b.expr g))

  -- ---- several

  abbrev Has : TypedExpr → Type 0
  Has a = HasKind a.facts.kind (found_of types a.expr)

  -- what is not too deep has no part that is
  pub all_shallow : (items : List TypedExpr) (done : Facts) → (facts_onto done items).depth ≤ max_depth → (done.depth ≤ max_depth) × AllOf (λ a. a.facts.depth ≤ max_depth) items
  all_shallow [] done le = (le, tt)
  all_shallow (a ∷ rest) done le = let both : ((beside done a.facts).depth ≤ max_depth) × AllOf (λ a. a.facts.depth ≤ max_depth) rest = all_shallow rest (beside done a.facts) le in
      (omega (arith, both.0), (omega (arith, both.0), both.1))

  pub all_have : (items : List TypedExpr) → AllOf IsFormed items → AllOf (λ a. a.facts.depth ≤ max_depth) items → AllOf Has items
  all_have [] h le = tt
  all_have (a ∷ rest) h le = ((h.0 le.0).0, all_have rest h.1 le.1)

  abbrev Real : TypedExpr → Type 0
  Real a = IsReal a.facts.kind

  all_real : (items : List TypedExpr) → AllOf IsFormed items → AllOf (λ a. a.facts.depth ≤ max_depth) items → AllOf Real items
  all_real [] h le = tt
  all_real (a ∷ rest) h le = ((h.0 le.0).1, all_real rest h.1 le.1)

  -- the highest type of several, behind that of those before
  abbrev kinds_onto : Option SqlType → List TypedExpr → Option SqlType
  kinds_onto far [] = far
  kinds_onto far (a ∷ rest) = kinds_onto (highest_of far a.facts.kind) rest

  facts_kind : (items : List TypedExpr) (far : Facts) → (facts_onto far items).kind ≡ kinds_onto far.kind items
  facts_kind [] far = refl
  facts_kind (a ∷ rest) far = facts_kind rest (beside far a.facts)

  kinds_real : (items : List TypedExpr) (far : Option SqlType) → IsReal far → AllOf Real items → IsReal (kinds_onto far items)
  kinds_real [] far h all = h
  kinds_real (a ∷ rest) far h all = kinds_real rest (highest_of far a.facts.kind) (highest_real far a.facts.kind h all.0) all.1

  -- where the highest is a text all are texts or lone NULLs, and no longer
  kinds_short : (m : ℕ) (items : List TypedExpr) (far : Option SqlType) → IsShort m (kinds_onto far items) → IsShort m far × AllOf (λ a. IsShort m a.facts.kind) items
  kinds_short m [] far h = (h, tt)
  kinds_short m (a ∷ rest) far h =
      let both : IsShort m (highest_of far a.facts.kind) × AllOf (λ a. IsShort m a.facts.kind) rest = kinds_short m rest (highest_of far a.facts.kind) h in
      let two : IsShort m far × IsShort m a.facts.kind = highest_short m far a.facts.kind both.0 in
      (two.0, (two.1, both.1))

  -- and their common type is the highest
  texts_common : (m : ℕ) (items : List TypedExpr) (far : Option SqlType) → IsShort m (kinds_onto far items) → AllOf Has items
      → common (found_by far) (common_of (map (λ a. found_of types (converted (NText m) a)) items)) ≡ common (found_by (kinds_onto far items)) lone_null
  texts_common m [] far h has = refl
  texts_common m (a ∷ rest) far h has =
      let all : IsShort m far × AllOf (λ a. IsShort m a.facts.kind) (a ∷ rest) = kinds_short m (a ∷ rest) far h in
      let as_known : found_of types (converted (NText m) a) ≡ found_by a.facts.kind = trans (ap (found_of types) (short_kept m a.facts.kind a.expr all.1.0)) (short_found m a.facts.kind (found_of types a.expr) all.1.0 has.0) in
      trans (ap (λ f. common (found_by far) (common f (common_of (map (λ a. found_of types (converted (NText m) a)) rest)))) as_known)
      (trans (common_texts m far a.facts.kind _ all.0 all.1.0) (texts_common m rest (highest_of far a.facts.kind) h has.1))

  -- where it is no text, each has it or is a lone NULL
  numbers_common : (to : SqlType) (items : List TypedExpr) → is_text to ≡ false → AllOf Has items
      → (common_of (map (λ a. found_of types (converted to a)) items) ≡ typed to)
      ⊎ ((common_of (map (λ a. found_of types (converted to a)) items) ≡ lone_null) × (AllOf (λ a. a.facts.kind ≡ None) items ⊎ (to ≡ Int)))
  numbers_common to [] t has = inr (refl, inl tt)
  numbers_common to (a ∷ rest) t has = of_both (as_number_to to a.facts.kind a.expr t has.0) (numbers_common to rest t has.1)
    where
      f : Found
      f = found_of types (converted to a)

      g : Found
      g = common_of (map (λ a. found_of types (converted to a)) rest)

      of_both : AsNumber to a.facts.kind f → (g ≡ typed to) ⊎ ((g ≡ lone_null) × (AllOf (λ a. a.facts.kind ≡ None) rest ⊎ (to ≡ Int)))
          → (common f g ≡ typed to) ⊎ ((common f g ≡ lone_null) × (AllOf (λ a. a.facts.kind ≡ None) (a ∷ rest) ⊎ (to ≡ Int)))
      of_both (inl e) (inl d) = inl (trans (trans (ap (λ x. common x g) e) (ap (common (typed to)) d)) (common_same to t))
      of_both (inl e) (inr d) = inl (trans (ap (λ x. common x g) e) (ap (common (typed to)) d.0))
      of_both (inr e) (inl d) = inl (trans (ap (λ x. common x g) e.0) (ap (common lone_null) d))
      of_both (inr (e, inr i)) (inr d) = inr (trans (ap (λ x. common x g) e) (ap (common lone_null) d.0), inr i)
      of_both (inr (e, inl n)) (inr (d, inr i)) = inr (trans (ap (λ x. common x g) e) (ap (common lone_null) d), inr i)
      of_both (inr (e, inl n)) (inr (d, inl all)) = inr (trans (ap (λ x. common x g) e) (ap (common lone_null) d), inl (n, all))

  no_kinds : (items : List TypedExpr) (far : Option SqlType) → far ≡ None → AllOf (λ a. a.facts.kind ≡ None) items → kinds_onto far items ≡ None
  no_kinds [] far e all = e
  no_kinds (a ∷ rest) far e all = no_kinds rest (highest_of far a.facts.kind) (trans (ap (λ x. highest_of x a.facts.kind) e) all.0) all.1

  -- several that were converted to their highest type have it together
  pub all_common : (to : SqlType) (items : List TypedExpr) → to ≡ or_int (kinds_onto None items) → AllOf Has items → found_or_int (common_of (map (λ a. found_of types (converted to a)) items)) ≡ typed to
  all_common to items same has = by_text (is_text to) refl
    where
      of_numbers : (common_of (map (λ a. found_of types (converted to a)) items) ≡ typed to)
          ⊎ ((common_of (map (λ a. found_of types (converted to a)) items) ≡ lone_null) × (AllOf (λ a. a.facts.kind ≡ None) items ⊎ (to ≡ Int))) → found_or_int (common_of (map (λ a. found_of types (converted to a)) items)) ≡ typed to
      of_numbers (inl e) = ap found_or_int e
      of_numbers (inr (e, inr i)) = trans (ap found_or_int e) (ap typed (sym i))
      of_numbers (inr (e, inl all)) = trans (ap found_or_int e) (ap typed (sym (trans same (ap or_int (no_kinds items None refl all)))))

      of_text : (size : ℕ) → to ≡ NText size → found_or_int (common_of (map (λ a. found_of types (converted to a)) items)) ≡ typed to
      of_text m e =
          let highest : kinds_onto None items ≡ Some (NText m) = highest_text (kinds_onto None items) (trans (sym e) same) in
          let all : common lone_null (common_of (map (λ a. found_of types (converted (NText m) a)) items)) ≡ common (found_by (kinds_onto None items)) lone_null = texts_common m items None (subst (IsShort m) (sym highest) (m, refl, omega arith)) has in
          subst (λ k. found_or_int (common_of (map (λ a. found_of types (converted k a)) items)) ≡ typed k) (sym e) (trans (ap found_or_int all) (ap (λ k. found_or_int (common (found_by k) lone_null)) highest))
        where
          highest_text : (k : Option SqlType) → NText m ≡ or_int k → k ≡ Some (NText m)
          highest_text None e = cc
          highest_text (Some k) e = ap Some (sym e)

      by_text : (t : Bool) → is_text to ≡ t → found_or_int (common_of (map (λ a. found_of types (converted to a)) items)) ≡ typed to
      by_text true t = let size : (m : ℕ) × (to ≡ NText m) = is_a_text to t in of_text size.0 size.1
      by_text false t = of_numbers (numbers_common to items t has)

  pub coalesce_formed : (items : List TypedExpr) → AllOf IsFormed items → IsFormed (node.coalesce_expr items)
  coalesce_formed items h = node_formed parts (or_int parts.kind) (bound.Coalesce (map (converted (or_int parts.kind)) items))
      (λ le. trans (trans (found_coalesce (map (converted (or_int parts.kind)) items)) (ap (λ fs. found_or_int (common_of fs)) (map_map (found_of types) (converted (or_int parts.kind)) items)))
      (all_common (or_int parts.kind) items (ap or_int (facts_kind items no_facts)) (all_have items h (all_shallow items no_facts le).1)))
      (λ le. real_or_int parts.kind (subst IsReal (sym (facts_kind items no_facts)) (kinds_real items None tt (all_real items h (all_shallow items no_facts le).1))))
    where
      parts : Facts
      parts = facts_onto no_facts items

  -- ---- CASE

  abbrev gives_of : TypedArm → TypedExpr
  gives_of arm = arm.gives

  abbrev pub IsFormedArm : TypedArm → Type 0
  IsFormedArm arm = IsFormedTest arm.test × IsFormed arm.gives

  -- what an arm gives, and ELSE behind them
  abbrev given_by : List TypedArm → TypedExpr → List TypedExpr
  given_by arms other = map gives_of arms ++ other ∷ []

  arms_kind : (arms : List TypedArm) (done : Facts) (other : TypedExpr) → AllOf IsFormedArm arms → (beside (arms_facts_onto done arms) other.facts).kind ≡ kinds_onto done.kind (given_by arms other)
  arms_kind [] done other h = refl
  arms_kind (arm ∷ rest) done other h = trans (arms_kind rest (beside done (arm_facts arm)) other h.1) (ap (λ k. kinds_onto (highest_of done.kind (highest_of k arm.gives.facts.kind)) (given_by rest other)) h.0.0.0)

  arms_shallow : (arms : List TypedArm) (done : Facts) → (arms_facts_onto done arms).depth ≤ max_depth → (done.depth ≤ max_depth) × AllOf (λ arm. (arm.test.facts.depth ≤ max_depth) × (arm.gives.facts.depth ≤ max_depth)) arms
  arms_shallow [] done le = (le, tt)
  arms_shallow (arm ∷ rest) done le = let both : ((beside done (arm_facts arm)).depth ≤ max_depth) × AllOf (λ arm. (arm.test.facts.depth ≤ max_depth) × (arm.gives.facts.depth ≤ max_depth)) rest = arms_shallow rest (beside done (arm_facts arm)) le in
      (omega (arith, both.0), ((omega (arith, both.0), omega (arith, both.0)), both.1))

  given_have : (arms : List TypedArm) (other : TypedExpr) → AllOf IsFormedArm arms → AllOf (λ arm. (arm.test.facts.depth ≤ max_depth) × (arm.gives.facts.depth ≤ max_depth)) arms → Has other → AllOf Has (given_by arms other)
  given_have [] other h le g = (g, tt)
  given_have (arm ∷ rest) other h le g = ((h.0.1 le.0.1).0, given_have rest other h.1 le.1 g)

  given_real : (arms : List TypedArm) (other : TypedExpr) → AllOf IsFormedArm arms → AllOf (λ arm. (arm.test.facts.depth ≤ max_depth) × (arm.gives.facts.depth ≤ max_depth)) arms → Real other → AllOf Real (given_by arms other)
  given_real [] other h le g = (g, tt)
  given_real (arm ∷ rest) other h le g = ((h.0.1 le.0.1).1, given_real rest other h.1 le.1 g)

  common_alone : (f : Found) → common f lone_null ≡ f
  common_alone unformed = refl
  common_alone lone_null = refl
  common_alone (typed kind) = refl

  arms_common : (to : SqlType) (arms : List TypedArm) (other : TypedExpr) → AllOf IsFormedArm arms → AllOf (λ arm. (arm.test.facts.depth ≤ max_depth) × (arm.gives.facts.depth ≤ max_depth)) arms
      → arms_found (map (arm_found types) (map (arm_to to) arms)) (found_of types (converted to other)) ≡ common_of (map (λ a. found_of types (converted to a)) (given_by arms other))
  arms_common to [] other h le = sym (common_alone (found_of types (converted to other)))
  arms_common to (arm ∷ rest) other h le = trans (ap (λ one. arms_found (one ∷ map (arm_found types) (map (arm_to to) rest)) (found_of types (converted to other))) (arm_roll arm.test.test (converted to arm.gives))) (trans (cond-true (is_formed_test types arm.test.test) _ unformed (h.0.0.1 le.0.0)) (ap (common (found_of types (converted to arm.gives))) (arms_common to rest other h.1 le.1)))

  pub case_formed : (arms : List TypedArm) (other : TypedExpr) → AllOf IsFormedArm arms → IsFormed other → IsFormed (node.case_expr arms other)
  case_formed arms other h g = node_formed parts to (bound.Case (map (arm_to to) arms) (converted to other)) (λ le. at_depth (arms_shallow arms no_facts (omega (arith, le))).1 (omega (arith, le)))
      (λ le. real_or_int parts.kind (subst IsReal (sym (arms_kind arms no_facts other h)) (kinds_real (given_by arms other) None tt (given_real arms other h (arms_shallow arms no_facts (omega (arith, le))).1 (g (omega (arith, le))).1))))
    where
      parts : Facts
      parts = beside (arms_facts_onto no_facts arms) other.facts

      to : SqlType
      to = or_int parts.kind

      at_depth : AllOf (λ arm. (arm.test.facts.depth ≤ max_depth) × (arm.gives.facts.depth ≤ max_depth)) arms → other.facts.depth ≤ max_depth → found_of types (bound.Case (map (arm_to to) arms) (converted to other)) ≡ typed to
      at_depth shallow le = trans (trans (found_case (map (arm_to to) arms) (converted to other)) (ap found_or_int (arms_common to arms other h shallow)))
          (all_common to (given_by arms other) (ap or_int (arms_kind arms no_facts other h)) (given_have arms other h shallow (g le).0))

  -- ---- tests

  pub test_formed : (parts : Facts) (of : BoundTest) → (parts.depth ≤ max_depth → is_formed_test types of ≡ true) → IsFormedTest (tests.test_node parts of)
  test_formed parts of h = (refl, λ le. trans (ap (is_formed_test types) (cond-true (nat_le (deeper parts.depth) max_depth) of (test.IsNull node.null) (le-leb _ _ le))) (h (parts_shallow parts.depth le)))

  pub not_formed : (a : TypedTest) → IsFormedTest a → IsFormedTest (tests.not_test a)
  not_formed a h = test_formed a.facts (test.Not a.test) (λ le. trans (test_not a.test) (h.1 le))

  pub negated_formed : (negative : Bool) (a : TypedTest) → IsFormedTest a → IsFormedTest (tests.negated_where negative a)
  negated_formed true a h = not_formed a h
  negated_formed false a h = h

  found_brought : (to : SqlType) (f g : Found) → Brought to f → Brought to g → is_found (common f g) ≡ true
  found_brought to f g (inl e) (inl d) = trans (ap (λ x. is_found (common x g)) e) (ap (λ x. is_found (common lone_null x)) d)
  found_brought to f g (inl e) (inr d) = trans (ap (λ x. is_found (common x g)) e) (ap (λ x. is_found (common lone_null x)) d.1)
  found_brought to f g (inr e) (inl d) = trans (ap (λ x. is_found (common x g)) e.1) (ap (λ x. is_found (common (typed e.0) x)) d)
  found_brought to f g (inr e) (inr d) = trans (ap (λ x. is_found (common x g)) e.1) (trans (ap (λ x. is_found (common (typed e.0) x)) d.1)
      (ap (λ b. is_found (found_where b (longer e.0 d.0))) (alike_rank e.0 d.0 (trans (within_rank e.0 to e.2) (sym (within_rank d.0 to d.2))))))

  pub compare_formed : (op : CompareOp) (a b : TypedExpr) → IsFormed a → IsFormed b → IsFormedTest (tests.compare_test op a b)
  compare_formed op a b h g = test_formed (beside a.facts b.facts) (test.Compare op (converted pair a) (converted pair b))
      (λ le. trans (test_compare op (converted pair a) (converted pair b)) (found_brought pair _ _ (brought a.facts.kind pair a.expr (h (omega (arith, le))).0) (brought b.facts.kind pair b.expr (g (omega (arith, le))).0)))
    where
      pair : SqlType
      pair = pair_kind a.facts.kind b.facts.kind

  found_known : (k : Option SqlType) (f : Found) → HasKind k f → is_found f ≡ true
  found_known None f e = ap is_found e
  found_known (Some kind) f (inl e) = ap is_found e
  found_known (Some kind) f (inr e) = ap is_found e.0

  pub is_null_test_formed : (a : TypedExpr) → IsFormed a → IsFormedTest (tests.is_null_test a)
  is_null_test_formed a h = test_formed a.facts (test.IsNull a.expr) (λ le. trans (test_is_null a.expr) (found_known a.facts.kind (found_of types a.expr) (h le).0))

  pub between_formed : (a low high : TypedExpr) → IsFormed a → IsFormed low → IsFormed high → IsFormedTest (tests.between_test a low high)
  between_formed a low high h g f = test_formed (beside a.facts (beside low.facts high.facts)) (test.Between (side_kind a.facts.kind) a.expr (side_of a.facts.kind low) (side_of a.facts.kind high))
      (λ le. trans (test_between (side_kind a.facts.kind) a.expr (side_of a.facts.kind low) (side_of a.facts.kind high)) (and_from _ _ (as_side a.facts.kind (found_of types a.expr) (h (omega (arith, le))).0)
      (and_from _ _ (side_formed a.facts.kind low (g (omega (arith, le))).0) (side_formed a.facts.kind high (f (omega (arith, le))).0))))

  sides_formed : (k : Option SqlType) (items : List TypedExpr) → AllOf Has items → list_all (is_side (side_kind k)) (map (side_found types) (map (side_of k) items)) ≡ true
  sides_formed k [] has = refl
  sides_formed k (a ∷ rest) has = and_from _ _ (side_formed k a has.0) (sides_formed k rest has.1)

  pub in_list_formed : (a : TypedExpr) (items : List TypedExpr) → IsFormed a → AllOf IsFormed items → IsFormedTest (tests.in_list_test a items)
  in_list_formed a items h g = test_formed (facts_onto a.facts items) (test.InList (side_kind a.facts.kind) a.expr (map (side_of a.facts.kind) items))
      (λ le. let both : (a.facts.depth ≤ max_depth) × AllOf (λ a. a.facts.depth ≤ max_depth) items = all_shallow items a.facts le in
      trans (test_in_list (side_kind a.facts.kind) a.expr (map (side_of a.facts.kind) items)) (and_from _ _ (as_side a.facts.kind (found_of types a.expr) (h both.0).0) (sides_formed a.facts.kind items (all_have items g both.1))))

  pub joined_formed : (by : Junction) (a b : TypedTest) → IsFormedTest a → IsFormedTest b → IsFormedTest (tests.joined_test by a b)
  joined_formed And a b h g = test_formed (beside a.facts b.facts) (test.And a.test b.test) (λ le. trans (test_and a.test b.test) (and_from _ _ (h.1 (omega (arith, le))) (g.1 (omega (arith, le)))))
  joined_formed Or a b h g = test_formed (beside a.facts b.facts) (test.Or a.test b.test) (λ le. trans (test_or a.test b.test) (and_from _ _ (h.1 (omega (arith, le))) (g.1 (omega (arith, le)))))

  twos_formed : (by : Junction) (all : List TypedTest) → AllOf IsFormedTest all → AllOf IsFormedTest (tests.joined_twos by all)
  twos_formed by [] h = tt
  twos_formed by (a ∷ []) h = h
  twos_formed by (a ∷ b ∷ rest) h = (joined_formed by a b h.0 h.1.0, twos_formed by rest h.1.1)

  rounds_formed : (by : Junction) (rounds : ℕ) (first : TypedTest) (rest : List TypedTest) → IsFormedTest first → AllOf IsFormedTest rest → IsFormedTest (tests.joined_rounds by rounds first rest)
  rounds_formed by zero first rest h g = h
  rounds_formed by (suc rounds) first [] h g = h
  rounds_formed by (suc rounds) first (second ∷ rest) h g = rounds_formed by rounds (tests.joined_test by first second) (tests.joined_twos by rest) (joined_formed by first second h g.0) (twos_formed by rest g.1)

  pub all_joined_formed : (by : Junction) (first : TypedTest) (rest : List TypedTest) → IsFormedTest first → AllOf IsFormedTest rest → IsFormedTest (tests.all_joined by first rest)
  all_joined_formed by first rest h g = rounds_formed by (length rest) first rest h g
