-- What is bound over a row alone, as a table's CHECK is, node by node: a variable or an inner query is left out there, as deep as nothing
-- may be, and so is what it is a part of.
use Rattle.std.specs.Prelude.{◌≡◌, ℕ, zero, suc, ◌≤◌, Bool, true, false, not, ◌||◌, ◌&&◌, if◌then◌else◌, List, [], ◌∷◌, ◌++◌, length, map, Option, Some, None, Ok, Err, refl}
use Rattle.std.specs.List.{list_any}
use Rattle.std.proofs.Common.{sym, subst, append_assoc, arith}
use Rattle.std.proofs.lemmas.List.{append-nil}
use Rattle.value_types.specs.declared.sql_type.SqlType.{SqlType}
use Rattle.value_types.specs.declared.sql_type.SqlType.TheVariants.{Int, Bit as BitType}
use Rattle.session_vars.specs.declared.Variable.{Variable}
use Rattle.tsql_tree.specs.declared.query.AddSign.{AddSign}
use Rattle.tsql_tree.specs.declared.query.AddSign.TheVariants.{Plus, Minus}
use Rattle.tsql_tree.specs.declared.query.Aggregate.{Aggregate}
use Rattle.bound_tree.specs.declared.expr.BoundExpr.{BoundExpr}
use Rattle.bound_tree.specs.declared.expr.BoundExpr.TheVariants as bound
use Rattle.bound_tree.specs.declared.expr.InfixOp.{InfixOp}
use Rattle.typed_nodes.specs.declared.facts.Facts.{Facts}
use Rattle.typed_nodes.specs.declared.test.Junction.{Junction}
use Rattle.typed_nodes.specs.declared.expr.TypedArm.{TypedArm}
use Rattle.typed_nodes.specs.declared.expr.TypedExpr.{TypedExpr}
use Rattle.typed_nodes.specs.declared.test.TypedTest.{TypedTest}
use Rattle.typed_nodes.specs.Refusals.{Outcome, after}
use Rattle.clause_binder.specs.Same.{same_expr}
use Rattle.typed_nodes.specs.Facts.{above, beside, highest_of, max_depth, no_facts, or_int, outside, test_above}
use Rattle.typed_nodes.specs.Nodes as node
use Rattle.typed_nodes.specs.Tests as tests
use Rattle.clause_binder.specs.declared.operand.Selected.{Selected}
use Rattle.clause_binder.specs.declared.progress.Progress.{Progress}
use Rattle.clause_binder.specs.declared.shape.Shape.{Shape}
use Rattle.clause_binder.specs.declared.shape.Shape.TheVariants as shape
use Rattle.clause_binder.specs.Progress.{Binding, Context, Read, and_then, bind_of, each_onto, each_read, given, is_deep, pure}
use Rattle.clause_binder.specs.Operands as operand
use Rattle.clause_binder.specs.Clauses.{ExprRead, settled}
use Rattle.clause_binder.specs.Bind as bind
use Rattle.clause_binder.specs.Bind.{TermRead, read_of, settle}
use Rattle.text_laws.specs.Rows.{some_of}

-- ---- none of several

pub none_two : (a b : Bool) → a ≡ false → b ≡ false → (a || b) ≡ false
none_two a b e f = rw (e, f)

pub none_first : (a b : Bool) → (a || b) ≡ false → a ≡ false
none_first true b e = e
none_first false b e = refl

pub none_second : (a b : Bool) → (a || b) ≡ false → b ≡ false
none_second true b e = absurd (cc)
none_second false b e = e

none_third : (a b c : Bool) → ((a || b) || c) ≡ false → (a || (b || c)) ≡ false
none_third true b c e = e
none_third false b c e = e

-- ---- what is bound over a row alone

-- nothing but the row may be named, and no aggregate may stand
pub record RowAlone (at : Context) : Type 0 where
  pub alone : at.row_alone ≡ true
  pub no_sums : at.sums_from ≡ None

-- this holds of what something comes to, and nothing is gathered
abbrev pub Told : {A : Type 0} → (A → Type 0) → Progress → Outcome (A × Progress) → Type 0
Told Q done (Ok r) = Q r.0 × (r.1 ≡ done)
Told Q done (Err refusal) = Unit {0}

abbrev Tells : {A : Type 0} → (A → Type 0) → Binding A → Type 0
Tells Q a = (at : Context) → RowAlone at → (done : Progress) → Told Q done (a at done)

told_after : {A B : Type 0} (Q : A → Type 0) (R : B → Type 0) (done : Progress) (o : Outcome (A × Progress)) (next : A × Progress → Outcome (B × Progress)) → Told Q done o
    → ((x : A) → Q x → Told R done (next (x, done))) → Told R done (after o next)
told_after Q R done (Ok r) next h g = subst (λ (p : Progress). Told R done (next (r.0, p))) (sym h.1) (g r.0 h.0)
told_after Q R done (Err refusal) next h g = tt

pub tells_pure : {A : Type 0} (Q : A → Type 0) (x : A) → Q x → Tells Q (pure x)
tells_pure Q x h at alone done = (h, refl)

pub tells_then : {A B : Type 0} (Q : A → Type 0) (R : B → Type 0) (a : Binding A) (next : A → Binding B) → Tells Q a → ((x : A) → Q x → Tells R (next x)) → Tells R (and_then a next)
tells_then Q R a next h g at alone done = told_after Q R done (a at done) (λ r. next r.0 at r.1) (h at alone done) (λ x q. g x q at alone done)

-- the same of an outcome that gathers nothing
abbrev Says : {A : Type 0} → (A → Type 0) → Outcome A → Type 0
Says Q (Ok x) = Q x
Says Q (Err refusal) = Unit {0}

told_given : {A : Type 0} (Q : A → Type 0) (done : Progress) (o : Outcome A) → Says Q o → Told Q done (after o (λ x. Ok (x, done)))
told_given Q done (Ok x) h = (h, refl)
told_given Q done (Err refusal) h = tt

says_after : {A B : Type 0} (Q : A → Type 0) (R : B → Type 0) (o : Outcome A) (next : A → Outcome B) → Says Q o → ((x : A) → Q x → Says R (next x)) → Says R (after o next)
says_after Q R (Ok x) next h g = g x h
says_after Q R (Err refusal) next h g = tt

-- ---- what is not too deep

-- what is known of a part that leaves its row, or not: it is too deep where it does
abbrev Stays : Bool → Facts → Type 0
Stays leaves facts = facts.depth ≤ max_depth → leaves ≡ false

abbrev pub StayExpr : Bool → TypedExpr → Type 0
StayExpr leaves a = Stays leaves a.facts

abbrev pub StayTest : Bool → TypedTest → Type 0
StayTest leaves a = Stays leaves a.facts

abbrev pub StayArm : Bool → TypedArm → Type 0
StayArm leaves arm = Stays leaves (node.arm_facts arm)

always : (facts : Facts) → Stays false facts
always facts le = refl

too_much : (b : Bool) → 1001 ≤ max_depth → b ≡ false
too_much b le = absurd (omega (arith, le))

pub stays_above : (leaves : Bool) (facts : Facts) (kind : SqlType) → Stays leaves facts → Stays leaves (above facts kind)
stays_above leaves facts kind h le = h (omega (arith, le))

pub stays_test : (leaves : Bool) (facts : Facts) → Stays leaves facts → Stays leaves (test_above facts)
stays_test leaves facts h le = h (omega (arith, le))

pub stays_beside : (p q : Bool) (a b : Facts) → Stays p a → Stays q b → Stays (p || q) (beside a b)
stays_beside p q a b h g le = none_two p q (h (omega (arith, le))) (g (omega (arith, le)))

settled_stays : (leaves : Bool) (groups : List BoundExpr) (a : TypedExpr) → StayExpr leaves a → StayExpr leaves (settled groups a)
settled_stays leaves groups a h = by (not (is_deep a.facts) && list_any (same_expr a.expr) groups)
  where
    by : (b : Bool) → StayExpr leaves (if b then record a { facts = record a.facts { loose = None } } else a)
    by true = h
    by false = h

pub tells_settle : (leaves : Bool) (a : Binding TypedExpr) → Tells (StayExpr leaves) a → Tells (StayExpr leaves) (settle a)
tells_settle leaves a h at alone done = told_after (StayExpr leaves) (StayExpr leaves) done (a at done) (λ r. Ok (settled at.groups r.0, r.1)) (h at alone done) (λ x q. (settled_stays leaves at.groups x q, refl))

-- ---- operands

-- what is left out over a row alone
told_alone : {A : Type 0} (Q : A → Type 0) (done : Progress) (alone : Bool) (x : A) (o : Outcome (A × Progress)) → alone ≡ true → Q x → Told Q done (if alone then Ok (x, done) else o)
told_alone Q done alone x o e h = rw e (h, refl)

pub variable_tells : (vars : List Variable) (name : List ℕ) → Tells (StayExpr true) (operand.variable vars name)
variable_tells vars name at alone done = told_given (StayExpr true) done (operand.variable_in vars at name) (by at.row_alone alone.alone)
  where
    by : (b : Bool) → b ≡ true → Says (StayExpr true) (if b then Ok (operand.left_out None) else operand.variable_of vars name)
    by true e = too_much true
    by false e = absurd (cc)

pub scalar_tells : (select : Outcome Selected) → Tells (StayExpr true) (operand.scalar select)
scalar_tells select at alone done = told_alone (StayExpr true) done at.row_alone (operand.left_out None) _ alone.alone (too_much true)

pub exists_tells : (select : Outcome Selected) → Tells (StayTest true) (operand.exists select)
exists_tells select at alone done = told_alone (StayTest true) done at.row_alone operand.test_left_out _ alone.alone (too_much true)

pub in_query_tells : (select : Outcome Selected) (a : TypedExpr) → Tells (StayTest true) (operand.in_query select a)
in_query_tells select a at alone done = told_alone (StayTest true) done at.row_alone operand.test_left_out _ alone.alone (too_much true)

any_says : (o : Outcome TypedExpr) → Says (StayExpr false) o
any_says (Ok x) = always x.facts
any_says (Err refusal) = tt

pub column_tells : (table : Option (List ℕ)) (name : List ℕ) → Tells (StayExpr false) (operand.column table name)
column_tells table name at alone done = told_given (StayExpr false) done (operand.column_in table name at) (any_says (operand.column_in table name at))

pub count_tells : (leaves : Bool) → Tells (StayExpr leaves) operand.count_rows
count_tells leaves at alone done = subst (λ (from : Option ℕ). Told (StayExpr leaves) done (operand.count_rows_from from done)) (sym alone.no_sums) tt

pub aggregate_tells : (leaves : Bool) (agg : Aggregate) (distinct : Bool) (a : Binding TypedExpr) → Tells (StayExpr leaves) (operand.aggregate agg distinct a)
aggregate_tells leaves agg distinct a at alone done = subst (λ (from : Option ℕ). Told (StayExpr leaves) done (operand.aggregate_from from agg distinct a at done)) (sym alone.no_sums) tt

-- ---- signs and chains

number_stays : (leaves : Bool) (a : TypedExpr) → StayExpr leaves a → StayExpr leaves (node.as_number a)
number_stays leaves a h = by (node.is_bit a.facts.kind)
  where
    by : (b : Bool) → StayExpr leaves (if b then record { expr = bound.Convert BitType Int a.expr; facts = record a.facts { kind = Some Int } } else a)
    by true = h
    by false = h

negative_says : (leaves : Bool) (a : TypedExpr) → StayExpr leaves a → Says (StayExpr leaves) (node.negative_expr a)
negative_says leaves a h = by (node.negative_kind (or_int (node.as_number a).facts.kind))
  where
    by : (kind : Option SqlType) → Says (StayExpr leaves) (node.negative_to kind (node.as_number a))
    by None = tt
    by (Some kind) = stays_above leaves (node.as_number a).facts kind (number_stays leaves a h)

signed_says : (leaves : Bool) (groups : List BoundExpr) (a : TypedExpr) (signs : List AddSign) → StayExpr leaves a → Says (StayExpr leaves) (bind.signed_onto groups a signs)
signed_says leaves groups a [] h = h
signed_says leaves groups a (Plus ∷ rest) h = signed_says leaves groups a rest h
signed_says leaves groups a (Minus ∷ rest) h =
    says_after (StayExpr leaves) (StayExpr leaves) (after (node.negative_expr a) (λ x. Ok (settled groups x))) (λ x. bind.signed_onto groups x rest)
    (says_after (StayExpr leaves) (StayExpr leaves) (node.negative_expr a) (λ x. Ok (settled groups x)) (negative_says leaves a h) (λ x q. settled_stays leaves groups x q))
    (λ x q. signed_says leaves groups x rest q)

-- a constant leaves no row
abbrev Plain : Bool → Shape → Type 0
Plain leaves (shape.Number n) = leaves ≡ false
Plain leaves shape.Null = leaves ≡ false
Plain leaves shape.Name = Unit {0}
Plain leaves shape.Node = Unit {0}

pub signed_tells : (leaves : Bool) (signs : List AddSign) (of : Shape) (a : Binding TypedExpr) → Plain leaves of → Tells (StayExpr leaves) a → Tells (StayExpr leaves) (bind.signed_from signs of a)
signed_tells leaves signs (shape.Number n) a plain h = tells_pure (StayExpr leaves) (bind.literal (bind.signed_number signs n)) (λ le. plain)
signed_tells leaves signs shape.Null a plain h = tells_pure (StayExpr leaves) (bind.signed_null signs) (λ le. plain)
signed_tells leaves signs shape.Name a plain h = tells_then (StayExpr leaves) (StayExpr leaves) a (bind.signed_node signs) h (λ x q at alone done. told_given (StayExpr leaves) done (bind.signed_onto at.groups x signs) (signed_says leaves at.groups x signs q))
signed_tells leaves signs shape.Node a plain h = tells_then (StayExpr leaves) (StayExpr leaves) a (bind.signed_node signs) h (λ x q at alone done. told_given (StayExpr leaves) done (bind.signed_onto at.groups x signs) (signed_says leaves at.groups x signs q))

infix_says : (p q : Bool) (op : InfixOp) (a b : TypedExpr) → StayExpr p a → StayExpr q b → Says (StayExpr (p || q)) (node.infix_expr op a b)
infix_says p q op a b h g = by (node.infix_kind op to (node.as_number a).facts.kind (node.as_number b).facts.kind)
  where
    to : SqlType
    to = or_int (highest_of (node.as_number a).facts.kind (node.as_number b).facts.kind)

    by : (o : Outcome SqlType) → Says (StayExpr (p || q)) (after o (λ kind. Ok (node.node (beside (node.as_number a).facts (node.as_number b).facts) kind (bound.Infix op kind (node.converted to (node.as_number a)) (node.converted to (node.as_number b))))))
    by (Ok kind) = stays_above (p || q) (beside (node.as_number a).facts (node.as_number b).facts) kind (stays_beside p q (node.as_number a).facts (node.as_number b).facts (number_stays p a h) (number_stays q b g))
    by (Err refusal) = tt

-- what is told of two lists side by side
abbrev pub Beside : {A B : Type 0} → (A → B → Type 0) → List A → List B → Type 0
Beside R [] [] = Unit {0}
Beside R [] (b ∷ bs) = ⊥
Beside R (a ∷ more) [] = ⊥
Beside R (a ∷ more) (b ∷ bs) = R a b × Beside R more bs

abbrev pub TermTold : Bool → TermRead → Type 0
TermTold leaves a = Tells (StayExpr leaves) a.read.bind

joined_tells : (p q : Bool) (before : TypedExpr) (a : TermRead) → StayExpr p before → TermTold q a → Tells (StayExpr (p || q)) (bind.joined_to before a)
joined_tells p q before a h g = tells_settle (p || q) (and_then a.read.bind (λ x. given (node.infix_expr a.op before x)))
    (tells_then (StayExpr q) (StayExpr (p || q)) a.read.bind (λ x. given (node.infix_expr a.op before x)) g (λ x k at alone done. told_given (StayExpr (p || q)) done (node.infix_expr a.op before x) (infix_says p q a.op before x h k)))

pub chain_tells : (p : Bool) (qs : List Bool) (before : TypedExpr) (rest : List TermRead) → StayExpr p before → Beside TermTold qs rest → Tells (StayExpr (p || some_of qs)) (bind.chain_onto before rest)
chain_tells p [] before [] h all = tells_pure (StayExpr (p || false)) before (λ le. none_two p false (h le) refl)
chain_tells p [] before (a ∷ rest) h all = absurd all
chain_tells p (q ∷ qs) before [] h all = absurd all
chain_tells p (q ∷ qs) before (a ∷ rest) h all = tells_then (StayExpr (p || q)) (StayExpr (p || (q || some_of qs))) (bind.joined_to before a) (λ x. bind.chain_onto x rest) (joined_tells p q before a h all.0)
    (λ x k at alone done. told_more done _ (chain_tells (p || q) qs x rest k all.1 at alone done))
  where
    told_more : (done : Progress) (o : Outcome (TypedExpr × Progress)) → Told (StayExpr ((p || q) || some_of qs)) done o → Told (StayExpr (p || (q || some_of qs))) done o
    told_more done (Ok r) t = (λ le. none_third p q (some_of qs) (t.0 le), t.1)
    told_more done (Err refusal) t = tt

-- ---- lists

-- what each of several comes to
abbrev pub AllStay : {A : Type 0} → (A → Facts) → List Bool → List A → Type 0
AllStay facts qs xs = Beside (λ q x. Stays q (facts x)) qs xs

stay_more : {A : Type 0} (facts : A → Facts) (ps qs : List Bool) (xs : List A) (x : A) (q : Bool) → AllStay facts ps xs → Stays q (facts x) → AllStay facts (ps ++ q ∷ []) (xs ++ x ∷ [])
stay_more facts [] qs [] x q h g = (g, tt)
stay_more facts [] qs (y ∷ ys) x q h g = absurd h
stay_more facts (p ∷ ps) qs [] x q h g = absurd h
stay_more facts (p ∷ ps) qs (y ∷ ys) x q h g = (h.0, stay_more facts ps qs ys x q h.1 g)

each_tells : {A : Type 0} (facts : A → Facts) (ps qs : List Bool) (before : List A) (rest : List (Binding A)) → AllStay facts ps before → Beside (λ q a. Tells (λ x. Stays q (facts x)) a) qs rest
    → Tells (AllStay facts (ps ++ qs)) (each_onto before rest)
each_tells facts ps [] before [] h all = tells_pure (AllStay facts (ps ++ [])) before (subst (λ (z : List Bool). AllStay facts z before) (sym (append-nil ps)) h)
each_tells facts ps [] before (a ∷ rest) h all = absurd all
each_tells facts ps (q ∷ qs) before [] h all = absurd all
each_tells facts ps (q ∷ qs) before (a ∷ rest) h all = tells_then (λ x. Stays q (facts x)) (AllStay facts (ps ++ q ∷ qs)) a (λ x. each_onto (before ++ x ∷ []) rest) all.0
    (λ x k. subst (λ (z : List Bool). Tells (AllStay facts z) (each_onto (before ++ x ∷ []) rest)) (append_assoc ps (q ∷ []) qs) (each_tells facts (ps ++ q ∷ []) qs (before ++ x ∷ []) rest (stay_more facts ps qs before x q h k) all.1))

beside_map : {A B C : Type 0} (R : A → C → Type 0) (f : B → C) (xs : List A) (bs : List B) → Beside (λ a b. R a (f b)) xs bs → Beside R xs (map f bs)
beside_map R f [] [] h = tt
beside_map R f [] (b ∷ bs) h = absurd h
beside_map R f (a ∷ more) [] h = absurd h
beside_map R f (a ∷ more) (b ∷ bs) h = (h.0, beside_map R f more bs h.1)

-- all that are not too deep leave no row
pub exprs_stay : (qs : List Bool) (xs : List TypedExpr) (done : Facts) → AllStay (λ (x : TypedExpr). x.facts) qs xs → (node.facts_onto done xs).depth ≤ max_depth → (done.depth ≤ max_depth) × (some_of qs ≡ false)
exprs_stay [] [] done h le = (le, refl)
exprs_stay [] (x ∷ xs) done h le = absurd h
exprs_stay (q ∷ qs) [] done h le = absurd h
exprs_stay (q ∷ qs) (x ∷ xs) done h le =
    let rest : ((beside done x.facts).depth ≤ max_depth) × (some_of qs ≡ false) = exprs_stay qs xs (beside done x.facts) h.1 le in
    (omega (arith, rest.0), none_two q (some_of qs) (h.0 (omega (arith, rest.0))) rest.1)

arms_stay : (qs : List Bool) (xs : List TypedArm) (done : Facts) → AllStay node.arm_facts qs xs → (node.arms_facts_onto done xs).depth ≤ max_depth → (done.depth ≤ max_depth) × (some_of qs ≡ false)
arms_stay [] [] done h le = (le, refl)
arms_stay [] (x ∷ xs) done h le = absurd h
arms_stay (q ∷ qs) [] done h le = absurd h
arms_stay (q ∷ qs) (x ∷ xs) done h le =
    let rest : ((beside done (node.arm_facts x)).depth ≤ max_depth) × (some_of qs ≡ false) = arms_stay qs xs (beside done (node.arm_facts x)) h.1 le in
    (omega (arith, rest.0), none_two q (some_of qs) (h.0 (omega (arith, rest.0))) rest.1)

-- neighbors that are joined, by whether one of both leaves its row
abbrev twos : List Bool → List Bool
twos [] = []
twos (a ∷ []) = a ∷ []
twos (a ∷ b ∷ rest) = (a || b) ∷ twos rest

abbrev TestsStay : List Bool → List TypedTest → Type 0
TestsStay qs xs = AllStay (λ (x : TypedTest). x.facts) qs xs

joined_stays : (by : Junction) (p q : Bool) (a b : TypedTest) → StayTest p a → StayTest q b → StayTest (p || q) (tests.joined_test by a b)
joined_stays by p q a b h g = stays_test (p || q) (beside a.facts b.facts) (stays_beside p q a.facts b.facts h g)

twos_stay : (by : Junction) (qs : List Bool) (xs : List TypedTest) → TestsStay qs xs → TestsStay (twos qs) (tests.joined_twos by xs)
twos_stay by [] [] h = tt
twos_stay by [] (x ∷ xs) h = absurd h
twos_stay by (q ∷ qs) [] h = absurd h
twos_stay by (q ∷ []) (x ∷ []) h = h
twos_stay by (q ∷ []) (x ∷ y ∷ xs) h = absurd h.1
twos_stay by (q ∷ p ∷ qs) (x ∷ []) h = absurd h.1
twos_stay by (q ∷ p ∷ qs) (x ∷ y ∷ xs) h = (joined_stays by q p x y h.0 h.1.0, twos_stay by qs xs h.1.1)

twos_length : (by : Junction) (xs : List TypedTest) → length (tests.joined_twos by xs) ≤ length xs
twos_length by [] = omega arith
twos_length by (x ∷ []) = omega arith
twos_length by (x ∷ y ∷ xs) = let rest : length (tests.joined_twos by xs) ≤ length xs = twos_length by xs in omega (arith, rest)

twos_none : (qs : List Bool) → some_of (twos qs) ≡ false → some_of qs ≡ false
twos_none [] e = e
twos_none (q ∷ []) e = e
twos_none (q ∷ p ∷ qs) e =
    let rest = twos_none qs (none_second (q || p) (some_of (twos qs)) e) in
    none_third q p (some_of qs) (none_two (q || p) (some_of qs) (none_first (q || p) (some_of (twos qs)) e) rest)

rounds_stay : (by : Junction) (rounds : ℕ) (p : Bool) (qs : List Bool) (first : TypedTest) (rest : List TypedTest) → length rest ≤ rounds → StayTest p first → TestsStay qs rest
    → StayTest (p || some_of qs) (tests.joined_rounds by rounds first rest)
rounds_stay by zero p [] first [] few h all = λ le. none_two p false (h le) refl
rounds_stay by zero p [] first (x ∷ xs) few h all = absurd all
rounds_stay by zero p (q ∷ qs) first [] few h all = absurd all
rounds_stay by zero p (q ∷ qs) first (x ∷ xs) few h all = absurd (omega (arith, few))
rounds_stay by (suc rounds) p [] first [] few h all = λ le. none_two p false (h le) refl
rounds_stay by (suc rounds) p [] first (x ∷ xs) few h all = absurd all
rounds_stay by (suc rounds) p (q ∷ qs) first [] few h all = absurd all
rounds_stay by (suc rounds) p (q ∷ qs) first (x ∷ xs) few h all =
    let fewer : length (tests.joined_twos by xs) ≤ rounds = omega (arith, few, twos_length by xs) in
    let more = rounds_stay by rounds (p || q) (twos qs) (tests.joined_test by first x) (tests.joined_twos by xs) fewer (joined_stays by p q first x h all.0) (twos_stay by qs xs all.1) in
    λ le. none_third p q (some_of qs) (none_two (p || q) (some_of qs) (none_first (p || q) (some_of (twos qs)) (more le)) (twos_none qs (none_second (p || q) (some_of (twos qs)) (more le))))

-- ---- nodes over parts

pub one_tells : {A B : Type 0} (Q : A → Type 0) (R : B → Type 0) (a : Binding A) (make : A → B) → Tells Q a → ((x : A) → Q x → R (make x)) → Tells R (and_then a (λ x. pure (make x)))
one_tells Q R a make h g = tells_then Q R a (λ x. pure (make x)) h (λ x q. tells_pure R (make x) (g x q))

pub two_tell : {A B C : Type 0} (P : A → Type 0) (Q : B → Type 0) (R : C → Type 0) (a : Binding A) (b : Binding B) (make : A → B → C) → Tells P a → Tells Q b → ((x : A) (y : B) → P x → Q y → R (make x y)) → Tells R (and_then a (λ x. and_then b (λ y. pure (make x y))))
two_tell P Q R a b make h g k = tells_then P R a (λ x. and_then b (λ y. pure (make x y))) h (λ x p. one_tells Q R b (make x) g (λ y q. k x y p q))

pub limited_stays : (leaves : Bool) (to : SqlType) (facts : Facts) → Stays leaves facts → Stays leaves (node.limited to facts)
limited_stays leaves to facts h = by (node.is_kind to)
  where
    by : (b : Bool) → Stays leaves (if b then facts else outside facts)
    by true = h
    by false = too_much leaves

pub negated_stays : (leaves negative : Bool) (a : TypedTest) → StayTest leaves a → StayTest leaves (tests.negated_where negative a)
negated_stays leaves true a h = stays_test leaves a.facts h
negated_stays leaves false a h = h

-- expressions, tests, arms that were read
abbrev pub ExprTold : Bool → ExprRead → Type 0
ExprTold leaves a = Tells (StayExpr leaves) a.read.bind × Plain leaves a.shape

abbrev pub TestTold : Bool → Read TypedTest → Type 0
TestTold leaves a = Tells (StayTest leaves) a.bind

abbrev pub ArmTold : Bool → Read TypedArm → Type 0
ArmTold leaves a = Tells (StayArm leaves) a.bind

pub exprs_tell : (qs : List Bool) (items : List ExprRead) → Beside ExprTold qs items → Tells (AllStay (λ (x : TypedExpr). x.facts) qs) (each_read (map read_of items)).bind
exprs_tell qs items h = each_tells (λ (x : TypedExpr). x.facts) [] qs [] (map bind_of (map read_of items)) tt
    (beside_map (λ q a. Tells (StayExpr q) a) bind_of qs (map read_of items) (beside_map (λ q (a : Read TypedExpr). Tells (StayExpr q) a.bind) read_of qs items (firsts qs items h)))
  where
    firsts : (qs : List Bool) (items : List ExprRead) → Beside ExprTold qs items → Beside (λ q (a : ExprRead). Tells (StayExpr q) a.read.bind) qs items
    firsts [] [] h = tt
    firsts [] (b ∷ bs) h = absurd h
    firsts (a ∷ more) [] h = absurd h
    firsts (a ∷ more) (b ∷ bs) h = (h.0.0, firsts more bs h.1)

arms_tell : (qs : List Bool) (arms : List (Read TypedArm)) → Beside ArmTold qs arms → Tells (AllStay node.arm_facts qs) (each_read arms).bind
arms_tell qs arms h = each_tells node.arm_facts [] qs [] (map bind_of arms) tt (beside_map (λ q a. Tells (StayArm q) a) bind_of qs arms h)

tests_tell : (qs : List Bool) (items : List (Read TypedTest)) → Beside TestTold qs items → Tells (TestsStay qs) (each_read items).bind
tests_tell qs items h = each_tells (λ (x : TypedTest). x.facts) [] qs [] (map bind_of items) tt (beside_map (λ q a. Tells (StayTest q) a) bind_of qs items h)

case_stays : (qs : List Bool) (q : Bool) (arms : List TypedArm) (other : TypedExpr) → AllStay node.arm_facts qs arms → StayExpr q other → StayExpr (some_of qs || q) (node.case_expr arms other)
case_stays qs q arms other h g le = none_two (some_of qs) q (arms_stay qs arms no_facts h (omega (arith, le))).1 (g (omega (arith, le)))

pub case_tells : (qs : List Bool) (q : Bool) (arms : List (Read TypedArm)) (other : Binding TypedExpr) → Beside ArmTold qs arms → Tells (StayExpr q) other
    → Tells (StayExpr (some_of qs || q)) (settle (and_then (each_read arms).bind (λ xs. and_then other (λ y. pure (node.case_expr xs y)))))
case_tells qs q arms other h g = tells_settle (some_of qs || q) _ (two_tell (AllStay node.arm_facts qs) (StayExpr q) (StayExpr (some_of qs || q)) (each_read arms).bind other node.case_expr (arms_tell qs arms h) g (λ xs y. case_stays qs q xs y))

pub joined_tell : (junction : Junction) (p : Bool) (qs : List Bool) (first : Read TypedTest) (rest : List (Read TypedTest)) → TestTold p first → Beside TestTold qs rest → TestTold (p || some_of qs) (bind.joined_by junction first rest)
joined_tell junction p qs first rest h all = two_tell (StayTest p) (TestsStay qs) (StayTest (p || some_of qs)) first.bind (each_read rest).bind (tests.all_joined junction) h (tests_tell qs rest all)
    (λ x xs k ks. rounds_stay junction (length xs) p qs x xs (omega arith) k ks)
