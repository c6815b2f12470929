-- Nodes over parts that are bound to what is well formed are bound to what is well formed.
use Rattle.std.proofs.Common.{◌≡◌, refl, sym, subst, List, [], ◌∷◌, ◌++◌, map, ℤ, Bool, true, false, ◌&&◌, not, Option, Some, None, option_map, Ok, Err, if◌then◌else◌}
use Rattle.std.specs.List.{list_any}
use Rattle.session_vars.specs.declared.Variable.{Variable}
use Rattle.tsql_tree.specs.declared.definition.Definition.{Definition}
use Rattle.tsql_tree.specs.declared.query.AddSign.{AddSign}
use Rattle.tsql_tree.specs.declared.query.AddSign.TheVariants.{Plus, Minus}
use Rattle.bound_tree.specs.declared.expr.BoundExpr.{BoundExpr}
use Rattle.bound_tree.specs.Typed.{SettingTypes}
use Rattle.typed_nodes.specs.declared.expr.TypedExpr.{TypedExpr}
use Rattle.typed_nodes.specs.declared.expr.TypedArm.{TypedArm}
use Rattle.typed_nodes.specs.declared.test.TypedTest.{TypedTest}
use Rattle.typed_nodes.specs.declared.test.Junction.{Junction}
use Rattle.typed_nodes.specs.Refusals.{Outcome, after}
use Rattle.typed_nodes.specs.Nodes as node
use Rattle.typed_nodes.specs.Tests as tests
use Rattle.clause_binder.specs.declared.inside.Inside.{Inside}
use Rattle.clause_binder.specs.declared.progress.Progress.{Progress}
use Rattle.clause_binder.specs.declared.shape.Shape.{Shape}
use Rattle.clause_binder.specs.declared.shape.Shape.TheVariants as shape
use Rattle.clause_binder.specs.Same.{same_expr}
use Rattle.clause_binder.specs.Progress.{Binding, Context, Read, all_onto, and_then, bind_of, both, each_onto, each_read, given, inside_of, is_deep, nothing, or_read, over, pure, three, two}
use Rattle.clause_binder.specs.Clauses.{ExprRead, settled}
use Rattle.clause_binder.specs.Bind.{TermRead, case_arm, case_read, chain, chain_onto, is_minus, joined_by, joined_to, negated, tested, null_read, read_of, settle, signed_by, signed_from, signed_node, signed_null, signed_onto, term_inside, unseen}
use Rattle.value_types.specs.declared.sql_type.SqlType.TheVariants.{Int, BigInt}
use Rattle.value_types.specs.Types.{is_in_range}
use Rattle.typed_nodes.specs.Facts.{alone}
use Rattle.clause_binder.specs.Operands.{left_out}
use Rattle.clause_binder.specs.Bind.{literal, signed_number}
use Rattle.query_laws.specs.Laws.{AllOf}
use Rattle.query_laws.proofs.Lists.{all_of_both, all_of_each}
use Rattle.query_laws.proofs.FormedNodes.{coalesce_formed, in_list_formed, number_formed, outside_formed, FormedOutcome, IsFormed, IsFormedArm, IsFormedTest, all_joined_formed, case_formed, infix_formed, int_null_formed, negated_formed, negative_formed, null_formed}
use Rattle.query_laws.proofs.Reading.{Binds, Bound, Grows, Lasts, Reads, ReadsAs, binds_pure, grows_not, grows_then, reads_before}
use Rattle.query_laws.proofs.BoundOperands.{FormedAt, FormedTestAt, lasts_formed, lasts_formed_test}

module _ (definitions : List Definition) (vars : List Variable) where
  abbrev F : Context → Progress → TypedExpr → Type 0
  F = FormedAt definitions vars

  abbrev T : Context → Progress → TypedTest → Type 0
  T = FormedTestAt definitions vars

  -- ---- what is made of parts, where nothing is gathered

  -- it is made behind what was gathered, which stays
  abbrev pub Made : {A : Type 0} → (Context → Progress → A → Type 0) → Context → Progress → Outcome (A × Progress) → Type 0
  Made P at mid (Ok r) = (r.1 ≡ mid) × (mid.beyond ≡ false → P at mid r.0)
  Made P at mid (Err refusal) = Unit {0}

  made_last : {A : Type 0} (P : Context → Progress → A → Type 0) (inside : Inside) (at : Context) (done mid : Progress) (second : Outcome (A × Progress)) → Made P at mid second → (mid.beyond ≡ false → Grows definitions vars at inside done mid) → Bound definitions vars P inside at done second
  made_last P inside at done mid (Ok s) m g = λ calm. let at_mid : mid.beyond ≡ false = subst (λ p. p.beyond ≡ false) m.0 calm in
      (subst (Grows definitions vars at inside done) (sym m.0) (g at_mid), subst (λ p. P at p s.0) (sym m.0) (m.1 at_mid))
  made_last P inside at done mid (Err refusal) m g = tt

  pub binds_made : {A B : Type 0} (P : Context → Progress → A → Type 0) (Q : Context → Progress → B → Type 0) (inside : Inside) (bind : Binding A) (next : A → Binding B) → Binds definitions vars P inside bind
      → ((x : A) (at : Context) (mid : Progress) → (mid.beyond ≡ false → P at mid x) → Made Q at mid (next x at mid)) → Binds definitions vars Q inside (and_then bind next)
  binds_made {A = A} P Q inside bind next h made at done = of_first (bind at done) (h at done)
    where
      of_first : (first : Outcome (A × Progress)) → Bound definitions vars P inside at done first → Bound definitions vars Q inside at done (after first (λ r. next r.0 at r.1))
      of_first (Ok r) first = made_last Q inside at done r.1 (next r.0 at r.1) (made r.0 at r.1 (λ calm. (first calm).1)) (λ calm. (first calm).0)
      of_first (Err refusal) first = tt

  -- two parts, and what is made of them
  pub binds_two : {A B C : Type 0} (P : Context → Progress → A → Type 0) (Q : Context → Progress → B → Type 0) (R : Context → Progress → C → Type 0) (one other : Inside) (a : Binding A) (b : Binding B) (make : A → B → Binding C)
      → Lasts definitions vars P → Binds definitions vars P one a → Binds definitions vars Q other b
      → ((x : A) (y : B) (at : Context) (mid : Progress) → (mid.beyond ≡ false → P at mid x) → (mid.beyond ≡ false → Q at mid y) → Made R at mid (make x y at mid)) → Binds definitions vars R (both one other) (and_then a (λ x. and_then b (make x)))
  binds_two {A = A} {B = B} P Q R one other a b make lasts h g made at done = of_first (a at done) (h at done)
    where
      of_second : (r : A × Progress) (second : Outcome (B × Progress)) → (r.1.beyond ≡ false → Grows definitions vars at one done r.1 × P at r.1 r.0) → Bound definitions vars Q other at r.1 second
          → Bound definitions vars R (both one other) at done (after second (λ s. make r.0 s.0 at s.1))
      of_second r (Ok s) first second = made_last R (both one other) at done s.1 (make r.0 s.0 at s.1)
          (made r.0 s.0 at s.1 (λ calm. lasts at other r.1 s.1 r.0 (second calm).0 (first (second calm).0.calm).1) (λ calm. (second calm).1))
          (λ calm. grows_then definitions vars (first (second calm).0.calm).0 (second calm).0)
      of_second r (Err refusal) first second = tt

      of_first : (first : Outcome (A × Progress)) → Bound definitions vars P one at done first → Bound definitions vars R (both one other) at done (after first (λ r. and_then b (make r.0) at r.1))
      of_first (Ok r) first = of_second r (b at r.1) first (g at r.1)
      of_first (Err refusal) first = tt

  -- parts one after another
  abbrev pub AllAt : {A : Type 0} → (Context → Progress → A → Type 0) → Context → Progress → List A → Type 0
  AllAt P at done xs = AllOf (P at done) xs

  pub each_from : {A : Type 0} (P : Context → Progress → A → Type 0) (parts : List (Read A)) (before_inside : Inside) (at : Context) (done mid : Progress) (before : List A) → Lasts definitions vars P → AllOf (ReadsAs definitions vars P) parts
      → (mid.beyond ≡ false → Grows definitions vars at before_inside done mid × AllAt P at mid before) → Bound definitions vars (AllAt P) (all_onto before_inside (map inside_of parts)) at done (each_onto before (map bind_of parts) at mid)
  each_from P [] before_inside at done mid before lasts h g = g
  each_from {A = A} P (a ∷ rest) before_inside at done mid before lasts h g =
      of_first (λ r was. each_from P rest (both before_inside a.inside) at done r.1 (before ++ r.0 ∷ []) lasts h.1 was) (a.bind at mid) (h.0 at mid)
    where
      Behind : A × Progress → Type 0
      Behind r = Bound definitions vars (AllAt P) (all_onto (both before_inside a.inside) (map inside_of rest)) at done (each_onto (before ++ r.0 ∷ []) (map bind_of rest) at r.1)

      of_first : ((r : A × Progress) → (r.1.beyond ≡ false → Grows definitions vars at (both before_inside a.inside) done r.1 × AllAt P at r.1 (before ++ r.0 ∷ [])) → Behind r) → (first : Outcome (A × Progress)) → Bound definitions vars P a.inside at mid first
          → Bound definitions vars (AllAt P) (all_onto (both before_inside a.inside) (map inside_of rest)) at done (after first (λ r. each_onto (before ++ r.0 ∷ []) (map bind_of rest) at r.1))
      of_first again (Ok r) first = again r (λ calm.
          let got : Grows definitions vars at a.inside mid r.1 × P at r.1 r.0 = first calm in
          let was : Grows definitions vars at before_inside done mid × AllAt P at mid before = g got.0.calm in
          (grows_then definitions vars was.0 got.0, all_of_both (P at r.1) before (r.0 ∷ []) (all_of_each (P at mid) (P at r.1) before (λ x p. lasts at a.inside mid r.1 x got.0 p) was.1) (got.1, tt)))
      of_first again (Err refusal) first = tt

  pub each_binds : {A : Type 0} (P : Context → Progress → A → Type 0) (parts : List (Read A)) → Lasts definitions vars P → AllOf (ReadsAs definitions vars P) parts → ReadsAs definitions vars (AllAt P) (each_read parts)
  each_binds P parts lasts h at done = each_from P parts nothing at done done [] lasts h (λ calm. (grows_not definitions vars at done calm, tt))

  -- ---- what is grouped

  pub settled_formed : (types : SettingTypes) (groups : List BoundExpr) (a : TypedExpr) → IsFormed types a → IsFormed types (settled groups a)
  settled_formed types groups a h = by_test (not (is_deep a.facts) && list_any (same_expr a.expr) groups)
    where
      by_test : (b : Bool) → IsFormed types (if b then record a { facts = record a.facts { loose = None } } else a)
      by_test true = h
      by_test false = h

  pub settle_binds : (inside : Inside) (a : Binding TypedExpr) → Binds definitions vars F inside a → Binds definitions vars F inside (settle a)
  settle_binds inside a h at done = of_first (a at done) (h at done)
    where
      of_first : (first : Outcome (TypedExpr × Progress)) → Bound definitions vars F inside at done first → Bound definitions vars F inside at done (after first (λ r. Ok (settled at.groups r.0, r.1)))
      of_first (Ok r) first = λ calm. ((first calm).0, λ types read. settled_formed types at.groups r.0 ((first calm).1 types read))
      of_first (Err refusal) first = tt

  -- ---- expressions

  -- a number or NULL has no parts
  abbrev pub ShapeOk : Shape → Inside → Type 0
  ShapeOk (shape.Number n) inside = inside ≡ nothing
  ShapeOk shape.Null inside = inside ≡ nothing
  ShapeOk shape.Name inside = inside ≡ nothing
  ShapeOk shape.Node inside = Unit {0}

  pub record GoodExpr (a : ExprRead) : Type 0 where
    pub reads : ReadsAs definitions vars F a.read
    pub shaped : ShapeOk a.shape a.read.inside

  pub unseen_good : (a : Read TypedExpr) → ReadsAs definitions vars F a → GoodExpr (unseen a)
  unseen_good a h = record { reads = settle_binds a.inside a.bind h; shaped = tt }

  made_pure : (at : Context) (mid : Progress) (x : TypedExpr) → (mid.beyond ≡ false → F at mid x) → Made F at mid (pure x at mid)
  made_pure at mid x h = (refl, h)

  -- what is given of an outcome
  made_given : (at : Context) (mid : Progress) (outcome : Outcome TypedExpr) → (mid.beyond ≡ false → (types : SettingTypes) → Reads definitions vars at mid types → FormedOutcome types outcome) → Made F at mid (given outcome at mid)
  made_given at mid (Ok x) h = (refl, h)
  made_given at mid (Err refusal) h = tt

  pub over_good : (a : ExprRead) (make : TypedExpr → TypedExpr) → GoodExpr a → ((types : SettingTypes) (x : TypedExpr) → IsFormed types x → IsFormed types (make x)) → ReadsAs definitions vars F (over a.read (λ bind. and_then bind (λ x. pure (make x))))
  over_good a make h f = binds_made F F a.read.inside a.read.bind (λ x. pure (make x)) h.reads (λ x at mid g. made_pure at mid (make x) (λ calm types r. f types x (g calm types r)))

  pub two_good : (a b : ExprRead) (make : TypedExpr → TypedExpr → TypedExpr) → GoodExpr a → GoodExpr b → ((types : SettingTypes) (x y : TypedExpr) → IsFormed types x → IsFormed types y → IsFormed types (make x y)) → ReadsAs definitions vars F (two a.read b.read (λ x y. pure (make x y)))
  two_good a b make h g f = binds_two F F F a.read.inside b.read.inside a.read.bind b.read.bind (λ x y. pure (make x y)) (lasts_formed definitions vars) h.reads g.reads (λ x y at mid p q. made_pure at mid (make x y) (λ calm types r. f types x y (p calm types r) (q calm types r)))

  -- ---- chains

  abbrev pub GoodTerm : TermRead → Type 0
  GoodTerm a = ReadsAs definitions vars F a.read

  -- an operand joined to what stands before it
  joined_bound : (a : TermRead) (before : TypedExpr) (at : Context) (mid : Progress) → GoodTerm a → (mid.beyond ≡ false → F at mid before) → Bound definitions vars F a.read.inside at mid (joined_to before a at mid)
  joined_bound a before at mid h g = of_first (a.read.bind at mid) (h at mid)
    where
      of_node : (r : TypedExpr × Progress) (y : Outcome TypedExpr) → node.infix_expr a.op before r.0 ≡ y → Bound definitions vars F a.read.inside at mid (Ok r) → Bound definitions vars F a.read.inside at mid (settle (given y) at r.1)
      of_node r (Err refusal) e first = tt
      of_node r (Ok y) e first = λ calm.
          let got : Grows definitions vars at a.read.inside mid r.1 × F at r.1 r.0 = first calm in (
            got.0,
            λ types read. settled_formed types at.groups y (subst (FormedOutcome types) e
                (infix_formed types a.op before r.0 (g got.0.calm types (reads_before definitions vars got.0 read)) (got.1 types read))),
          )

      of_first : (first : Outcome (TypedExpr × Progress)) → Bound definitions vars F a.read.inside at mid first
          → Bound definitions vars F a.read.inside at mid (after {A = TypedExpr × Progress} (after first (λ r. given (node.infix_expr a.op before r.0) at r.1)) (λ r. Ok (settled at.groups r.0, r.1)))
      of_first (Ok r) first = of_node r (node.infix_expr a.op before r.0) refl first
      of_first (Err refusal) first = tt

  chain_from : (rest : List TermRead) (before_inside : Inside) (at : Context) (done mid : Progress) (before : TypedExpr) → AllOf GoodTerm rest → (mid.beyond ≡ false → Grows definitions vars at before_inside done mid × F at mid before)
      → Bound definitions vars F (all_onto before_inside (map term_inside rest)) at done (chain_onto before rest at mid)
  chain_from [] before_inside at done mid before h g = g
  chain_from (a ∷ rest) before_inside at done mid before h g =
      of_first (λ r was. chain_from rest (both before_inside a.read.inside) at done r.1 r.0 h.1 was) (joined_to before a at mid) (joined_bound a before at mid h.0 (λ calm. (g calm).1))
    where
      of_first : ((r : TypedExpr × Progress) → (r.1.beyond ≡ false → Grows definitions vars at (both before_inside a.read.inside) done r.1 × F at r.1 r.0) → Bound definitions vars F (all_onto (both before_inside a.read.inside) (map term_inside rest)) at done (chain_onto r.0 rest at r.1))
          → (first : Outcome (TypedExpr × Progress)) → Bound definitions vars F a.read.inside at mid first → Bound definitions vars F (all_onto (both before_inside a.read.inside) (map term_inside rest)) at done (after first (λ r. chain_onto r.0 rest at r.1))
      of_first again (Ok r) first = again r (λ calm. (grows_then definitions vars (g (first calm).0.calm).0 (first calm).0, (first calm).1))
      of_first again (Err refusal) first = tt

  pub chain_good : (first : ExprRead) (rest : List TermRead) → GoodExpr first → AllOf GoodTerm rest → GoodExpr (chain first rest)
  chain_good first rest h g = unseen_good (record { inside = all_onto first.read.inside (map term_inside rest); bind = and_then first.read.bind (λ x. chain_onto x rest) }) (λ at done. of_first at done (first.read.bind at done) (h.reads at done))
    where
      of_first : (at : Context) (done : Progress) (o : Outcome (TypedExpr × Progress)) → Bound definitions vars F first.read.inside at done o → Bound definitions vars F (all_onto first.read.inside (map term_inside rest)) at done (after o (λ r. chain_onto r.0 rest at r.1))
      of_first at done (Ok r) o = chain_from rest first.read.inside at done r.1 r.0 g o
      of_first at done (Err refusal) o = tt

  -- ---- CASE

  abbrev ArmAt : Context → Progress → TypedArm → Type 0
  ArmAt at done arm = (types : SettingTypes) → Reads definitions vars at done types → IsFormedArm types arm

  lasts_arm : Lasts definitions vars ArmAt
  lasts_arm at inside mid new x g h types r = h types (reads_before definitions vars g r)

  abbrev pub GoodArm : Read TypedArm → Type 0
  GoodArm a = ReadsAs definitions vars ArmAt a

  pub arm_good : (test : Read TypedTest) (gives : ExprRead) → ReadsAs definitions vars T test → GoodExpr gives → GoodArm (two test gives.read case_arm)
  arm_good test gives h g = binds_two T F ArmAt test.inside gives.read.inside test.bind gives.read.bind case_arm (lasts_formed_test definitions vars) h g.reads (λ x y at mid p q. (refl, λ calm types r. (p calm types r, q calm types r)))

  abbrev GoodOther : Option ExprRead → Type 0
  GoodOther None = Unit {0}
  GoodOther (Some a) = GoodExpr a

  all_formed_arms : (at : Context) (done : Progress) (xs : List TypedArm) → AllAt ArmAt at done xs → (types : SettingTypes) → Reads definitions vars at done types → AllOf (IsFormedArm types) xs
  all_formed_arms at done [] h types r = tt
  all_formed_arms at done (x ∷ rest) h types r = (h.0 types r, all_formed_arms at done rest h.1 types r)

  lasts_all_arms : Lasts definitions vars (AllAt ArmAt)
  lasts_all_arms at inside mid new xs g h = all_of_each (ArmAt at mid) (ArmAt at new) xs (λ x p. lasts_arm at inside mid new x g p) h

  pub case_good : (arms : List (Read TypedArm)) (other : Option ExprRead) → AllOf GoodArm arms → GoodOther other → GoodExpr (case_read arms other)
  case_good arms other h g = unseen_good (two (each_read arms) (or_read null_read (option_map read_of other)) (λ xs y. pure (node.case_expr xs y)))
      (binds_two (AllAt ArmAt) F F (each_read arms).inside (or_read null_read (option_map read_of other)).inside (each_read arms).bind (or_read null_read (option_map read_of other)).bind (λ xs y. pure (node.case_expr xs y)) lasts_all_arms
      (each_binds ArmAt arms lasts_arm h) (of_other other g) (λ xs y at mid p q. made_pure at mid (node.case_expr xs y) (λ calm types r. case_formed types xs y (all_formed_arms at mid xs (p calm) types r) (q calm types r))))
    where
      of_other : (other : Option ExprRead) → GoodOther other → ReadsAs definitions vars F (or_read null_read (option_map read_of other))
      of_other None g = binds_pure definitions vars F node.lone_null (λ at done types r. null_formed types)
      of_other (Some a) g = g.reads

  -- ---- signs

  signed_made : (groups : List BoundExpr) (signs : List AddSign) (a : TypedExpr) (types : SettingTypes) → IsFormed types a → FormedOutcome types (signed_onto groups a signs)
  signed_made groups [] a types h = h
  signed_made groups (s ∷ rest) a types h = of_sign (signed_by groups s a) (one s) (λ x f. signed_made groups rest x types f)
    where
      of_negative : (o : Outcome TypedExpr) → FormedOutcome types o → FormedOutcome types (after o (λ x. Ok (settled groups x)))
      of_negative (Ok x) f = settled_formed types groups x f
      of_negative (Err refusal) f = tt

      one : (s : AddSign) → FormedOutcome types (signed_by groups s a)
      one Plus = h
      one Minus = of_negative (node.negative_expr a) (negative_formed types a h)

      of_sign : (o : Outcome TypedExpr) → FormedOutcome types o → ((x : TypedExpr) → IsFormed types x → FormedOutcome types (signed_onto groups x rest)) → FormedOutcome types (after o (λ x. signed_onto groups x rest))
      of_sign (Ok x) f again = again x f
      of_sign (Err refusal) f again = tt

  null_signed : (b : Bool) (types : SettingTypes) → IsFormed types (if b then node.leaf Int node.null else node.lone_null)
  null_signed true types = int_null_formed types
  null_signed false types = null_formed types

  pub literal_binds : (n : ℤ) → Binds definitions vars F nothing (pure (literal n))
  literal_binds n = binds_pure definitions vars F (literal n) (λ at done types r. by_range types (is_in_range BigInt n) refl)
    where
      by_range : (types : SettingTypes) (b : Bool) → is_in_range BigInt n ≡ b → IsFormed types (if b then node.number_expr n else left_out (Some BigInt))
      by_range types true e = number_formed types n e
      by_range types false e = outside_formed types (alone (Some BigInt)) node.null

  pub signed_good : (signs : List AddSign) (a : ExprRead) → GoodExpr a → GoodExpr (unseen (over a.read (signed_from signs a.shape)))
  signed_good signs a h = unseen_good (over a.read (signed_from signs a.shape)) (by_shape a.shape h.shaped)
    where
      of_node : ReadsAs definitions vars F (over a.read (λ bind. and_then bind (signed_node signs)))
      of_node = binds_made F F a.read.inside a.read.bind (signed_node signs) h.reads (λ x at mid g. made_given at mid (signed_onto at.groups x signs) (λ calm types r. signed_made at.groups signs x types (g calm types r)))

      by_shape : (of : Shape) → ShapeOk of a.read.inside → ReadsAs definitions vars F (over a.read (signed_from signs of))
      by_shape (shape.Number n) e = subst (λ inside. Binds definitions vars F inside (pure (literal (signed_number signs n)))) (sym e) (literal_binds (signed_number signs n))
      by_shape shape.Null e = subst (λ inside. Binds definitions vars F inside (pure (signed_null signs))) (sym e) (binds_pure definitions vars F (signed_null signs) (λ at done types r. null_signed (list_any is_minus signs) types))
      by_shape shape.Name e = of_node
      by_shape shape.Node e = of_node

  -- ---- tests

  abbrev pub GoodTest : Read TypedTest → Type 0
  GoodTest a = ReadsAs definitions vars T a

  test_pure : (at : Context) (mid : Progress) (x : TypedTest) → (mid.beyond ≡ false → T at mid x) → Made T at mid (pure x at mid)
  test_pure at mid x h = (refl, h)

  pub negated_good : (negative : Bool) (a : Read TypedTest) → GoodTest a → GoodTest (negated negative a)
  negated_good negative a h = binds_made T T a.inside a.bind (λ x. pure (tests.negated_where negative x)) h (λ x at mid g. test_pure at mid (tests.negated_where negative x) (λ calm types r. negated_formed types negative x (g calm types r)))

  pub test_over_good : (a : ExprRead) (make : TypedExpr → TypedTest) → GoodExpr a → ((types : SettingTypes) (x : TypedExpr) → IsFormed types x → IsFormedTest types (make x)) → GoodTest (over a.read (λ bind. and_then bind (λ x. pure (make x))))
  test_over_good a make h f = binds_made F T a.read.inside a.read.bind (λ x. pure (make x)) h.reads (λ x at mid g. test_pure at mid (make x) (λ calm types r. f types x (g calm types r)))

  pub test_two_good : (a b : ExprRead) (make : TypedExpr → TypedExpr → TypedTest) → GoodExpr a → GoodExpr b → ((types : SettingTypes) (x y : TypedExpr) → IsFormed types x → IsFormed types y → IsFormedTest types (make x y)) → GoodTest (two a.read b.read (λ x y. pure (make x y)))
  test_two_good a b make h g f = binds_two F F T a.read.inside b.read.inside a.read.bind b.read.bind (λ x y. pure (make x y)) (lasts_formed definitions vars) h.reads g.reads (λ x y at mid p q. test_pure at mid (make x y) (λ calm types r. f types x y (p calm types r) (q calm types r)))

  pub three_good : (a low high : ExprRead) (make : TypedExpr → TypedExpr → TypedExpr → TypedTest) → GoodExpr a → GoodExpr low → GoodExpr high
      → ((types : SettingTypes) (x y z : TypedExpr) → IsFormed types x → IsFormed types y → IsFormed types z → IsFormedTest types (make x y z)) → GoodTest (three a.read low.read high.read (λ x y z. pure (make x y z)))
  three_good a low high make h g f m at done = of_first (a.read.bind at done) (h.reads at done)
    where
      inside : Inside
      inside = (three a.read low.read high.read (λ x y z. pure (make x y z))).inside

      of_third : (x y : TypedExpr × Progress) (o : Outcome (TypedExpr × Progress)) → (x.1.beyond ≡ false → Grows definitions vars at a.read.inside done x.1 × F at x.1 x.0) → (y.1.beyond ≡ false → Grows definitions vars at low.read.inside x.1 y.1 × F at y.1 y.0)
          → Bound definitions vars F high.read.inside at y.1 o → Bound definitions vars T inside at done (after o (λ z. pure (make x.0 y.0 z.0) at z.1))
      of_third x y (Ok z) p q o = λ calm.
          let third : Grows definitions vars at high.read.inside y.1 z.1 × F at z.1 z.0 = o calm in
          let second : Grows definitions vars at low.read.inside x.1 y.1 × F at y.1 y.0 = q third.0.calm in
          let first : Grows definitions vars at a.read.inside done x.1 × F at x.1 x.0 = p second.0.calm in (
            grown first.0 second.0 third.0,
            λ types read. m types x.0 y.0 z.0
                (first.1 types (reads_before definitions vars second.0 (reads_before definitions vars third.0 read))) (second.1 types (reads_before definitions vars third.0 read)) (third.1 types read),
          )
        where
          grown : Grows definitions vars at a.read.inside done x.1 → Grows definitions vars at low.read.inside x.1 y.1 → Grows definitions vars at high.read.inside y.1 z.1 → Grows definitions vars at inside done z.1
          grown one two three = grows_then definitions vars one (grows_then definitions vars two three)
      of_third x y (Err refusal) p q o = tt

      of_second : (x : TypedExpr × Progress) (o : Outcome (TypedExpr × Progress)) → (x.1.beyond ≡ false → Grows definitions vars at a.read.inside done x.1 × F at x.1 x.0) → Bound definitions vars F low.read.inside at x.1 o
          → Bound definitions vars T inside at done (after o (λ y. and_then high.read.bind (λ z. pure (make x.0 y.0 z)) at y.1))
      of_second x (Ok y) p o = of_third x y (high.read.bind at y.1) p o (f.reads at y.1)
      of_second x (Err refusal) p o = tt

      of_first : (o : Outcome (TypedExpr × Progress)) → Bound definitions vars F a.read.inside at done o → Bound definitions vars T inside at done (after o (λ x. and_then low.read.bind (λ y. and_then high.read.bind (λ z. pure (make x.0 y z))) at x.1))
      of_first (Ok x) o = of_second x (low.read.bind at x.1) o (g.reads at x.1)
      of_first (Err refusal) o = tt

  all_formed : (at : Context) (done : Progress) (xs : List TypedExpr) → AllAt F at done xs → (types : SettingTypes) → Reads definitions vars at done types → AllOf (IsFormed types) xs
  all_formed at done [] h types r = tt
  all_formed at done (x ∷ rest) h types r = (h.0 types r, all_formed at done rest h.1 types r)

  all_tests_formed : (at : Context) (done : Progress) (xs : List TypedTest) → AllAt T at done xs → (types : SettingTypes) → Reads definitions vars at done types → AllOf (IsFormedTest types) xs
  all_tests_formed at done [] h types r = tt
  all_tests_formed at done (x ∷ rest) h types r = (h.0 types r, all_tests_formed at done rest h.1 types r)

  reads_all : (items : List ExprRead) → AllOf GoodExpr items → AllOf (ReadsAs definitions vars F) (map read_of items)
  reads_all [] h = tt
  reads_all (a ∷ rest) h = (h.0.reads, reads_all rest h.1)

  pub in_list_good : (negative : Bool) (a : ExprRead) (items : List ExprRead) → GoodExpr a → AllOf GoodExpr items → GoodTest (two a.read (each_read (map read_of items)) (λ x xs. tested negative (tests.in_list_test x xs)))
  in_list_good negative a items h g = binds_two F (AllAt F) T a.read.inside (each_read (map read_of items)).inside a.read.bind (each_read (map read_of items)).bind (λ x xs. tested negative (tests.in_list_test x xs)) (lasts_formed definitions vars) h.reads
      (each_binds F (map read_of items) (lasts_formed definitions vars) (reads_all items g))
      (λ x xs at mid p q. test_pure at mid (tests.negated_where negative (tests.in_list_test x xs)) (λ calm types r. negated_formed types negative (tests.in_list_test x xs) (in_list_formed types x xs (p calm types r) (all_formed at mid xs (q calm) types r))))

  pub coalesce_good : (items : List ExprRead) → AllOf GoodExpr items → GoodExpr (unseen (over (each_read (map read_of items)) (λ bind. and_then bind (λ xs. pure (node.coalesce_expr xs)))))
  coalesce_good items g = unseen_good (over (each_read (map read_of items)) (λ bind. and_then bind (λ xs. pure (node.coalesce_expr xs))))
      (binds_made (AllAt F) F (each_read (map read_of items)).inside (each_read (map read_of items)).bind (λ xs. pure (node.coalesce_expr xs)) (each_binds F (map read_of items) (lasts_formed definitions vars) (reads_all items g))
      (λ xs at mid q. made_pure at mid (node.coalesce_expr xs) (λ calm types r. coalesce_formed types xs (all_formed at mid xs (q calm) types r))))

  pub joined_good : (by : Junction) (first : Read TypedTest) (rest : List (Read TypedTest)) → GoodTest first → AllOf GoodTest rest → GoodTest (joined_by by first rest)
  joined_good by first rest h g at done = of_first (first.bind at done) (h at done)
    where
      of_rest : (r : TypedTest × Progress) (o : Outcome (List TypedTest × Progress)) → (r.1.beyond ≡ false → Grows definitions vars at first.inside done r.1 × T at r.1 r.0)
          → ((xs : List TypedTest × Progress) → o ≡ Ok xs → xs.1.beyond ≡ false → T at xs.1 r.0)
          → Bound definitions vars (AllAt T) (all_onto first.inside (map inside_of rest)) at done o → Bound definitions vars T (all_onto first.inside (map inside_of rest)) at done (after o (λ xs. pure (tests.all_joined by r.0 xs.0) at xs.1))
      of_rest r (Ok xs) was lasts o = λ calm. ((o calm).0, λ types read. all_joined_formed types by r.0 xs.0 (lasts xs refl calm types read) (all_tests_formed at xs.1 xs.0 (o calm).1 types read))
      of_rest r (Err refusal) was lasts o = tt

      of_first : (o : Outcome (TypedTest × Progress)) → Bound definitions vars T first.inside at done o → Bound definitions vars T (all_onto first.inside (map inside_of rest)) at done (after o (λ r. and_then (each_read rest).bind (λ xs. pure (tests.all_joined by r.0 xs)) at r.1))
      of_first (Ok r) o = of_rest r ((each_read rest).bind at r.1) o (λ xs e calm. later xs e calm)
          (each_from T rest first.inside at done r.1 [] (lasts_formed_test definitions vars) g (λ calm. ((o calm).0, tt)))
        where
          later : (xs : List TypedTest × Progress) → (each_read rest).bind at r.1 ≡ Ok xs → xs.1.beyond ≡ false → T at xs.1 r.0
          later xs e calm = let got : Grows definitions vars at (each_read rest).inside r.1 xs.1 × AllAt T at xs.1 xs.0 =
              subst (Bound definitions vars (AllAt T) (each_read rest).inside at r.1) e (each_binds T rest (lasts_formed_test definitions vars) g at r.1) calm in
              lasts_formed_test definitions vars at (each_read rest).inside r.1 xs.1 r.0 got.0 (o got.0.calm).1
      of_first (Err refusal) o = tt
