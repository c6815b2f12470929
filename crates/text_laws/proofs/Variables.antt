-- The lexemes of a table whose tree leaves no row hold no variable: each variable that is read stands in the tree, or within an inner
-- query of it.
use Rattle.std.specs.Prelude.{◌≡◌, ℕ, zero, suc, Bool, true, false, ◌||◌, List, [], ◌∷◌, ◌++◌, map, option_map, Option, Some, None, refl}
use Rattle.std.proofs.Common.{ap, sym, ◌∙◌, subst, inl, inr}
use Rattle.tsql_tree.specs.declared.query.Expr.{Expr}
use Rattle.tsql_tree.specs.declared.query.Expr.TheVariants as expr
use Rattle.tsql_tree.specs.declared.query.Test.{Test}
use Rattle.tsql_tree.specs.declared.query.Test.TheVariants as test
use Rattle.tsql_grammar.specs.declared.kind.Function.{Function}
use Rattle.tsql_grammar.specs.declared.kind.Function.TheVariants as f
use Rattle.tsql_grammar.specs.declared.kind.Kind.{Kind}
use Rattle.tsql_grammar.specs.declared.kind.Kind.TheVariants as k
use Rattle.tsql_grammar.specs.declared.rule.Class.{Class}
use Rattle.tsql_grammar.specs.declared.rule.Class.TheVariants as c
use Rattle.tsql_grammar.specs.declared.rule.Rule.{Rule}
use Rattle.tsql_grammar.specs.declared.rule.Rule.TheVariants as r
use Rattle.tsql_grammar.specs.Noted.{Noted, see, note}
use Rattle.tsql_grammar.specs.Kinds.{same_kind}
use Rattle.tsql_grammar.specs.PlainText.{plainly_admits, plain_language}
use Rattle.tsql_grammar.specs.Productions.{Symbols, Production, Tree, productions}
use Rattle.tsql_grammar.specs.Terminals.{Terminal, units}
use Rattle.tsql_grammar.specs.Trees.{with_signs, product, sum, all_of, any_of, with_nots, Draft, empty_draft, add_column}
use Rattle.tsql_grammar.specs.Words.{kind_of}
use Rattle.tsql_grammar.proofs.Instance.{same_so}
use Rattle.grammar_laws.specs.Grammar.{Trees}
use Rattle.grammar_laws.specs.Grammar.Symbol.{lexeme, rule, mark}
use Rattle.grammar_laws.specs.BySymbols.{OfSymbols, Within}
use Rattle.grammar_laws.specs.Alternatives.{IndexOf, at}
use Rattle.grammar_laws.proofs.Booleans.{or_true}
use Rattle.text_laws.specs.Rows.{some_of, maybe_so, expr_leaves, test_leaves, arm_leaves, factor_leaves, term_leaves, table_leaves}
use Rattle.text_laws.proofs.RowAlone.{none_two, none_first, none_second}
use Rattle.text_laws.proofs.Calm.{not_so}
use Rattle.text_laws.proofs.Leaves.{aggregate_is, all_parts, any_parts, arm_is, between_is, both_of, case_is, cast_is, check_parts, coalesce_is, compare_is, draft_leaves, enclosed, exists_leaves, factor_is, in_list_is, in_query_leaves, is_leaving, is_null_is, is_null_test_is, length_is, nots_part, null_if_is, parens_leaves, product_parts, query_leaves, signs_part, sum_parts, term_is, variable_leaves}

-- ---- lexemes

abbrev pub variable_kind : Kind → Bool
variable_kind k.Variable = true
variable_kind _ = false

abbrev pub variable_class : Class → Bool
variable_class (c.One a) = variable_kind a
variable_class _ = false

abbrev pub is_variable : Terminal → Bool
is_variable l = variable_kind (kind_of l.spanned.lexeme)

-- one of these is a variable
abbrev pub holds : List Terminal → Bool
holds [] = false
holds (l ∷ w) = is_variable l || holds w

pub holds_none : (u v : List Terminal) → holds u ≡ false → holds v ≡ false → holds (u ++ v) ≡ false
holds_none [] v e f = f
holds_none (l ∷ u) v e f = none_two (is_variable l) (holds (u ++ v)) (none_first (is_variable l) (holds u) e) (holds_none u v (none_second (is_variable l) (holds u) e) f)

pub holds_parts : (u v : List Terminal) → holds (u ++ v) ≡ false → (holds u ≡ false) × (holds v ≡ false)
holds_parts [] v e = (refl, e)
holds_parts (l ∷ u) v e =
    let both = holds_parts u v (none_second (is_variable l) (holds (u ++ v)) e) in
    (none_two (is_variable l) (holds u) (none_first (is_variable l) (holds (u ++ v)) e) both.0, both.1)

-- a class of others has no variable
pub admitted : (a : Class) (b : Kind) → variable_class a ≡ false → plainly_admits a b ≡ true → variable_kind b ≡ false
admitted (c.One a) k.Variable other e = elim (or_true (same_kind a k.Variable) false e) [
  | inl g ↦ absurd (not_so (sym other ∙ ap variable_kind (same_so a k.Variable g)))
  | inr g ↦ absurd (not_so g)
]
admitted c.Name k.Variable other e = absurd (not_so e)
admitted c.OtherName k.Variable other e = absurd (not_so e)
admitted c.PlainName k.Variable other e = absurd (not_so e)
admitted c.Semicolon k.Variable other e = absurd (not_so e)
admitted a _ other e = refl

-- ---- rules

-- the rules of a table, but for inner queries
abbrev counts : Rule → Bool
counts r.Table = true
counts r.MoreElements = true
counts r.Element = true
counts r.ColumnTraits = true
counts r.ColumnConstraint = true
counts r.TableConstraint = true
counts r.Object = true
counts r.AfterDbo = true
counts r.Type = true
counts r.Names = true
counts r.MoreNames = true
counts r.ReferencedColumn = true
counts r.Test = true
counts r.AndTest = true
counts r.NotTest = true
counts r.Basic = true
counts (r.Opened n) = true
counts r.MoreOrs = true
counts r.MoreAnds = true
counts r.MoreNots = true
counts (r.Operand n) = true
counts (r.Compared n) = true
counts r.Comparison = true
counts (r.Tested n) = true
counts r.Membership = true
counts r.InList = true
counts r.CompareSign = true
counts r.OptionalNot = true
counts r.Expr = true
counts r.Product = true
counts r.Unary = true
counts r.Primary = true
counts r.SimplePrimary = true
counts r.OtherPrimary = true
counts r.Enclosed = true
counts r.NamedPrimary = true
counts (r.FunctionArguments a) = true
counts r.CountArguments = true
counts r.MoreTerms = true
counts r.MoreFactors = true
counts r.AddSign = true
counts r.MultiplySign = true
counts r.MoreSigns = true
counts r.Distinct = true
counts r.AfterName = true
counts (r.AfterFunction a) = true
counts r.Arm = true
counts r.MoreArms = true
counts r.CaseElse = true
counts r.Exprs = true
counts r.MoreExprs = true
counts _ = false

-- X holds, if what a text of the rule stands for leaves no row; of what is made of something it follows that that leaves none either
abbrev Keeps : (q : Rule) → Tree q → Type 0 → Type 0
Keeps r.Table v X = table_leaves v.0 ≡ false → X
Keeps r.MoreElements v X = (d : Draft) → draft_leaves (v d) ≡ false → (draft_leaves d ≡ false) × X
Keeps r.Element v X = (d : Draft) → draft_leaves (v d) ≡ false → (draft_leaves d ≡ false) × X
Keeps r.ColumnTraits v X = (column : List ℕ) (d : Draft) → draft_leaves (v.add column d) ≡ false → (draft_leaves d ≡ false) × X
Keeps r.ColumnConstraint v X = (name : Option (List ℕ)) (column : List ℕ) (d : Draft) → draft_leaves (v name column d) ≡ false → (draft_leaves d ≡ false) × X
Keeps r.TableConstraint v X = (name : Option (List ℕ)) (d : Draft) → draft_leaves (v name d) ≡ false → (draft_leaves d ≡ false) × X
Keeps r.Object v X = X
Keeps r.AfterDbo v X = X
Keeps r.Type v X = X
Keeps r.Names v X = X
Keeps r.MoreNames v X = X
Keeps r.ReferencedColumn v X = X
Keeps r.Test v X = test_leaves v ≡ false → X
Keeps r.AndTest v X = test_leaves v ≡ false → X
Keeps r.NotTest v X = test_leaves v ≡ false → X
Keeps r.Basic v X = test_leaves v ≡ false → X
Keeps (r.Opened n) v X = test_leaves v ≡ false → X
Keeps r.MoreOrs v X = some_of (map test_leaves v) ≡ false → X
Keeps r.MoreAnds v X = some_of (map test_leaves v) ≡ false → X
Keeps r.MoreNots v X = X
Keeps (r.Operand n) v X = (first : Expr) → test_leaves (v first) ≡ false → (expr_leaves first ≡ false) × X
Keeps (r.Compared n) v X = (first : Expr) → test_leaves (v first) ≡ false → (expr_leaves first ≡ false) × X
Keeps r.Comparison v X = (first : Expr) → test_leaves (v first) ≡ false → (expr_leaves first ≡ false) × X
Keeps (r.Tested n) v X = (inner : Test) → test_leaves (v inner) ≡ false → (test_leaves inner ≡ false) × X
Keeps r.Membership v X = (left : Expr) (negated : Bool) → test_leaves (v left negated) ≡ false → (expr_leaves left ≡ false) × X
Keeps r.InList v X = (left : Expr) (negated : Bool) → test_leaves (v left negated) ≡ false → (expr_leaves left ≡ false) × X
Keeps r.CompareSign v X = X
Keeps r.OptionalNot v X = X
Keeps r.Expr v X = expr_leaves v ≡ false → X
Keeps r.Product v X = expr_leaves v ≡ false → X
Keeps r.Unary v X = expr_leaves v ≡ false → X
Keeps r.Primary v X = expr_leaves v ≡ false → X
Keeps r.SimplePrimary v X = expr_leaves v ≡ false → X
Keeps r.OtherPrimary v X = expr_leaves v ≡ false → X
Keeps r.Enclosed v X = expr_leaves v ≡ false → X
Keeps r.NamedPrimary v X = expr_leaves v ≡ false → X
Keeps (r.FunctionArguments a) v X = expr_leaves v ≡ false → X
Keeps r.CountArguments v X = expr_leaves v ≡ false → X
Keeps r.MoreTerms v X = some_of (map term_leaves v) ≡ false → X
Keeps r.MoreFactors v X = some_of (map factor_leaves v) ≡ false → X
Keeps r.AddSign v X = X
Keeps r.MultiplySign v X = X
Keeps r.MoreSigns v X = X
Keeps r.Distinct v X = X
Keeps r.AfterName v X = (name : List ℕ) → expr_leaves (v name) ≡ false → X
Keeps (r.AfterFunction a) v X = (name : List ℕ) → expr_leaves (v name) ≡ false → X
Keeps r.Arm v X = arm_leaves v ≡ false → X
Keeps r.MoreArms v X = some_of (map arm_leaves v) ≡ false → X
Keeps r.CaseElse v X = maybe_so (option_map expr_leaves v) ≡ false → X
Keeps r.Exprs v X = some_of (map expr_leaves v) ≡ false → X
Keeps r.MoreExprs v X = some_of (map expr_leaves v) ≡ false → X
Keeps _ v X = Unit {0}

abbrev AllFalse : List Bool → Type 0
AllFalse [] = Unit {0}
AllFalse (b ∷ bs) = (b ≡ false) × AllFalse bs

keeps_more : (q : Rule) (v : Tree q) (bs : List Bool) (b : Bool) → (AllFalse bs → b ≡ false) → Keeps q v (AllFalse bs) → Keeps q v (b ≡ false)
keeps_more r.Table v bs b f k = λ e. f (k e)
keeps_more r.MoreElements v bs b f k = λ d e. let m = k d e in (m.0, f m.1)
keeps_more r.Element v bs b f k = λ d e. let m = k d e in (m.0, f m.1)
keeps_more r.ColumnTraits v bs b f k = λ column d e. let m = k column d e in (m.0, f m.1)
keeps_more r.ColumnConstraint v bs b f k = λ name column d e. let m = k name column d e in (m.0, f m.1)
keeps_more r.TableConstraint v bs b f k = λ name d e. let m = k name d e in (m.0, f m.1)
keeps_more r.Object v bs b f k = f k
keeps_more r.AfterDbo v bs b f k = f k
keeps_more r.Type v bs b f k = f k
keeps_more r.Names v bs b f k = f k
keeps_more r.MoreNames v bs b f k = f k
keeps_more r.ReferencedColumn v bs b f k = f k
keeps_more r.Test v bs b f k = λ e. f (k e)
keeps_more r.AndTest v bs b f k = λ e. f (k e)
keeps_more r.NotTest v bs b f k = λ e. f (k e)
keeps_more r.Basic v bs b f k = λ e. f (k e)
keeps_more (r.Opened n) v bs b f k = λ e. f (k e)
keeps_more r.MoreOrs v bs b f k = λ e. f (k e)
keeps_more r.MoreAnds v bs b f k = λ e. f (k e)
keeps_more r.MoreNots v bs b f k = f k
keeps_more (r.Operand n) v bs b f k = λ first e. let m = k first e in (m.0, f m.1)
keeps_more (r.Compared n) v bs b f k = λ first e. let m = k first e in (m.0, f m.1)
keeps_more r.Comparison v bs b f k = λ first e. let m = k first e in (m.0, f m.1)
keeps_more (r.Tested n) v bs b f k = λ inner e. let m = k inner e in (m.0, f m.1)
keeps_more r.Membership v bs b f k = λ left negated e. let m = k left negated e in (m.0, f m.1)
keeps_more r.InList v bs b f k = λ left negated e. let m = k left negated e in (m.0, f m.1)
keeps_more r.CompareSign v bs b f k = f k
keeps_more r.OptionalNot v bs b f k = f k
keeps_more r.Expr v bs b f k = λ e. f (k e)
keeps_more r.Product v bs b f k = λ e. f (k e)
keeps_more r.Unary v bs b f k = λ e. f (k e)
keeps_more r.Primary v bs b f k = λ e. f (k e)
keeps_more r.SimplePrimary v bs b f k = λ e. f (k e)
keeps_more r.OtherPrimary v bs b f k = λ e. f (k e)
keeps_more r.Enclosed v bs b f k = λ e. f (k e)
keeps_more r.NamedPrimary v bs b f k = λ e. f (k e)
keeps_more (r.FunctionArguments a) v bs b f k = λ e. f (k e)
keeps_more r.CountArguments v bs b f k = λ e. f (k e)
keeps_more r.MoreTerms v bs b f k = λ e. f (k e)
keeps_more r.MoreFactors v bs b f k = λ e. f (k e)
keeps_more r.AddSign v bs b f k = f k
keeps_more r.MultiplySign v bs b f k = f k
keeps_more r.MoreSigns v bs b f k = f k
keeps_more r.Distinct v bs b f k = f k
keeps_more r.AfterName v bs b f k = λ name e. f (k name e)
keeps_more (r.AfterFunction a) v bs b f k = λ name e. f (k name e)
keeps_more r.Arm v bs b f k = λ e. f (k e)
keeps_more r.MoreArms v bs b f k = λ e. f (k e)
keeps_more r.CaseElse v bs b f k = λ e. f (k e)
keeps_more r.Exprs v bs b f k = λ e. f (k e)
keeps_more r.MoreExprs v bs b f k = λ e. f (k e)
keeps_more _ v bs b f k = tt

keeps_none : (q : Rule) (v : Tree q) (b : Bool) → counts q ≡ false → Keeps q v (b ≡ false)
keeps_none r.Table v b e = absurd (not_so (sym e))
keeps_none r.MoreElements v b e = absurd (not_so (sym e))
keeps_none r.Element v b e = absurd (not_so (sym e))
keeps_none r.ColumnTraits v b e = absurd (not_so (sym e))
keeps_none r.ColumnConstraint v b e = absurd (not_so (sym e))
keeps_none r.TableConstraint v b e = absurd (not_so (sym e))
keeps_none r.Object v b e = absurd (not_so (sym e))
keeps_none r.AfterDbo v b e = absurd (not_so (sym e))
keeps_none r.Type v b e = absurd (not_so (sym e))
keeps_none r.Names v b e = absurd (not_so (sym e))
keeps_none r.MoreNames v b e = absurd (not_so (sym e))
keeps_none r.ReferencedColumn v b e = absurd (not_so (sym e))
keeps_none r.Test v b e = absurd (not_so (sym e))
keeps_none r.AndTest v b e = absurd (not_so (sym e))
keeps_none r.NotTest v b e = absurd (not_so (sym e))
keeps_none r.Basic v b e = absurd (not_so (sym e))
keeps_none (r.Opened n) v b e = absurd (not_so (sym e))
keeps_none r.MoreOrs v b e = absurd (not_so (sym e))
keeps_none r.MoreAnds v b e = absurd (not_so (sym e))
keeps_none r.MoreNots v b e = absurd (not_so (sym e))
keeps_none (r.Operand n) v b e = absurd (not_so (sym e))
keeps_none (r.Compared n) v b e = absurd (not_so (sym e))
keeps_none r.Comparison v b e = absurd (not_so (sym e))
keeps_none (r.Tested n) v b e = absurd (not_so (sym e))
keeps_none r.Membership v b e = absurd (not_so (sym e))
keeps_none r.InList v b e = absurd (not_so (sym e))
keeps_none r.CompareSign v b e = absurd (not_so (sym e))
keeps_none r.OptionalNot v b e = absurd (not_so (sym e))
keeps_none r.Expr v b e = absurd (not_so (sym e))
keeps_none r.Product v b e = absurd (not_so (sym e))
keeps_none r.Unary v b e = absurd (not_so (sym e))
keeps_none r.Primary v b e = absurd (not_so (sym e))
keeps_none r.SimplePrimary v b e = absurd (not_so (sym e))
keeps_none r.OtherPrimary v b e = absurd (not_so (sym e))
keeps_none r.Enclosed v b e = absurd (not_so (sym e))
keeps_none r.NamedPrimary v b e = absurd (not_so (sym e))
keeps_none (r.FunctionArguments a) v b e = absurd (not_so (sym e))
keeps_none r.CountArguments v b e = absurd (not_so (sym e))
keeps_none r.MoreTerms v b e = absurd (not_so (sym e))
keeps_none r.MoreFactors v b e = absurd (not_so (sym e))
keeps_none r.AddSign v b e = absurd (not_so (sym e))
keeps_none r.MultiplySign v b e = absurd (not_so (sym e))
keeps_none r.MoreSigns v b e = absurd (not_so (sym e))
keeps_none r.Distinct v b e = absurd (not_so (sym e))
keeps_none r.AfterName v b e = absurd (not_so (sym e))
keeps_none (r.AfterFunction a) v b e = absurd (not_so (sym e))
keeps_none r.Arm v b e = absurd (not_so (sym e))
keeps_none r.MoreArms v b e = absurd (not_so (sym e))
keeps_none r.CaseElse v b e = absurd (not_so (sym e))
keeps_none r.Exprs v b e = absurd (not_so (sym e))
keeps_none r.MoreExprs v b e = absurd (not_so (sym e))
keeps_none _ v b e = tt

-- a variable more
abbrev if_variable : Bool → List Bool → List Bool
if_variable true bs = true ∷ bs
if_variable false bs = bs

-- what is to be shown of a production: K of its values, where of each part it is known whether variables stand in it
abbrev Leads : (is : Symbols) → (Trees Terminal Tree is → List Bool → Type 0) → List Bool → Type 0
Leads [] K bs = K tt bs
Leads (lexeme a ∷ is) K bs = (l : Terminal) → Leads is (λ vs. K (l, vs)) (if_variable (variable_class a) bs)
Leads (rule q ∷ is) K bs = (v : Tree q) (b : Bool) → Keeps q v (b ≡ false) → Leads is (λ vs. K (v, vs)) (b ∷ bs)
Leads (mark m ∷ is) K bs = Leads is K bs

abbrev AllLead : (q : Rule) → List (Production q) → Type 0
AllLead q [] = Unit {0}
AllLead q (one ∷ more) = Leads one.symbols (λ vs bs. Keeps q (one.build vs) (AllFalse bs)) [] × AllLead q more

function_leads : (text : List ℕ) (a : Function) → AllLead (r.FunctionArguments a) (productions text (r.FunctionArguments a))
function_leads text f.Cast = (λ _ operand b1 k1 _ kind b2 k2 _ e. (k2, (k1 (sym (cast_is operand kind) ∙ e), tt)), tt)
function_leads text f.IsNull = (λ _ first b1 k1 _ second b2 k2 _ e. let m = both_of _ (expr_leaves first) (expr_leaves second) (is_null_is first second) e in (k2 m.1, (k1 m.0, tt)), tt)
function_leads text f.Len = (λ _ operand b k _ e. (k (sym (length_is operand) ∙ e), tt), tt)
function_leads text f.Count = (λ _ counted b k _ e. (k e, tt), tt)
function_leads text f.Sum = (λ _ distinct b1 k1 operand b2 k2 _ e. (k2 (sym (aggregate_is _ distinct operand) ∙ e), (k1, tt)), tt)
function_leads text f.Avg = (λ _ distinct b1 k1 operand b2 k2 _ e. (k2 (sym (aggregate_is _ distinct operand) ∙ e), (k1, tt)), tt)
function_leads text f.Min = (λ _ distinct b1 k1 operand b2 k2 _ e. (k2 (sym (aggregate_is _ distinct operand) ∙ e), (k1, tt)), tt)
function_leads text f.Max = (λ _ distinct b1 k1 operand b2 k2 _ e. (k2 (sym (aggregate_is _ distinct operand) ∙ e), (k1, tt)), tt)
function_leads text f.XactState = (λ _ _ e. tt, tt)
function_leads text f.ErrorNumber = (λ _ _ e. tt, tt)
function_leads text f.ErrorSeverity = (λ _ _ e. tt, tt)
function_leads text f.ErrorState = (λ _ _ e. tt, tt)
function_leads text f.ErrorLine = (λ _ _ e. tt, tt)
function_leads text f.ErrorMessage = (λ _ _ e. tt, tt)
function_leads text f.ErrorProcedure = (λ _ _ e. tt, tt)
function_leads text f.SchemaName = (λ _ _ e. tt, tt)
function_leads text f.DatabaseName = (λ _ _ e. tt, tt)
function_leads text f.UserName = (λ _ _ e. tt, tt)

-- every production
leads : (text : List ℕ) (q : Rule) → counts q ≡ true → AllLead q (productions text q)
leads text r.Table e = (λ _ name b1 k1 _ first b2 k2 more b3 k3 close e. let m = k3 (first (empty_draft name)) e in let g = k2 (empty_draft name) m.0 in (m.1, (g.1, (k1, tt))), tt)
leads text r.MoreElements e = (λ _ first b1 k1 more b2 k2 d e. let m = k2 (first d) e in let g = k1 d m.0 in (g.0, (m.1, (g.1, tt))), (λ d e. (e, tt), tt))
leads text r.Element e = (
  λ name kind b1 k1 traits b2 k2 d e. let m = k2 (units name) (add_column (record { name = units name; kind = kind; required = traits.required }) d) e in (m.0, (m.1, (k1, tt))),
  (
    λ _ name constraint b k d e. let m = k (Some (units name)) d e in (m.0, (m.1, tt)),
    (λ constraint b k d e. let m = k None d e in (m.0, (m.1, tt)), tt),
  ),
)
leads text r.ColumnTraits e = (
  λ _ more b k column d e. let m = k column d e in (m.0, (m.1, tt)),
  (
    λ _ _ more b k column d e. let m = k column d e in (m.0, (m.1, tt)),
    (
      λ _ name first b1 k1 more b2 k2 column d e. let m = k2 column (first (Some (units name)) column d) e in let g = k1 (Some (units name)) column d m.0 in (g.0, (m.1, (g.1, tt))),
      (
        λ first b1 k1 more b2 k2 column d e. let m = k2 column (first None column d) e in let g = k1 None column d m.0 in (g.0, (m.1, (g.1, tt))),
        (λ column d e. (e, tt), tt),
      ),
    ),
  ),
)
leads text r.ColumnConstraint e = (
  λ _ _ name column d e. (e, tt),
  (
    λ _ name column d e. (e, tt),
    (
      λ _ _ of b k _ name column d e. let m = check_parts of name d e in (m.0, (k m.1, tt)),
      (λ _ parent b1 k1 columns b2 k2 name column d e. (e, (k2, (k1, tt))), tt),
    ),
  ),
)
leads text r.TableConstraint e = (
  λ _ _ _ columns b k _ name d e. (e, (k, tt)),
  (
    λ _ _ columns b k _ name d e. (e, (k, tt)),
    (
      λ _ _ of b k _ name d e. let m = check_parts of name d e in (m.0, (k m.1, tt)),
      (λ _ _ _ columns b1 k1 _ _ parent b2 k2 _ others b3 k3 _ name d e. (e, (k3, (k2, (k1, tt)))), tt),
    ),
  ),
)
leads text r.Object e = (λ _. tt, (λ _ after b k. (k, tt), tt))
leads text r.AfterDbo e = (λ _ _. tt, (tt, tt))
leads text r.Type e = (λ _. tt, (λ _. tt, (λ _. tt, (λ _. tt, (λ _. tt, (λ _ _ _ _. tt, tt))))))
leads text r.Names e = (λ _ more b k. (k, tt), tt)
leads text r.MoreNames e = (λ _ _ more b k. (k, tt), (tt, tt))
leads text r.ReferencedColumn e = (λ _ _ _. tt, (tt, tt))
leads text r.Test e = (λ first b1 k1 more b2 k2 e. let m = any_parts first more e in (k2 m.1, (k1 m.0, tt)), tt)
leads text r.AndTest e = (λ first b1 k1 more b2 k2 e. let m = all_parts first more e in (k2 m.1, (k1 m.0, tt)), tt)
leads text r.NotTest e = (λ _ more b1 k1 inner b2 k2 e. (k2 (nots_part (suc more) inner e), (k1, tt)), (λ inner b k e. (k e, tt), tt))
leads text r.Basic e = (
  λ _ _ _ select b k _ e. absurd (is_leaving _ (exists_leaves select) e),
  (
    λ _ opened b k e. (k e, tt),
    (
      λ operand b1 k1 after b2 k2 e. let m = k2 operand e in (m.1, (k1 m.0, tt)),
      (λ sign b1 k1 more b2 k2 operand b3 k3 after b4 k4 e. let m = k4 (with_signs (sign ∷ more) operand) e in (m.1, (k3 (signs_part (sign ∷ more) operand m.0), (k2, (k1, tt)))), tt),
    ),
  ),
)
leads text (r.Opened n) e = (
  λ _ opened b k e. (k e, tt),
  (
    λ operand b1 k1 after b2 k2 e. let m = k2 operand e in (m.1, (k1 m.0, tt)),
    (
      λ sign b1 k1 more b2 k2 operand b3 k3 after b4 k4 e. let m = k4 (with_signs (sign ∷ more) operand) e in (m.1, (k3 (signs_part (sign ∷ more) operand m.0), (k2, (k1, tt)))),
      (
        λ _ select b1 k1 _ after b2 k2 e. let m = k2 (expr.Query select) e in absurd (is_leaving _ (query_leaves select) m.0),
        (
          λ _ more b1 k1 inner b2 k2 ands b3 k3 ors b4 k4 _ after b5 k5 e.
              let m = k5 (test.Parens (any_of (all_of (with_nots (suc more) inner) ands) ors)) e in
              let g = enclosed (with_nots (suc more) inner) ands ors m.0 in
              (m.1, (k4 g.ors, (k3 g.ands, (k2 (nots_part (suc more) inner g.front), (k1, tt))))),
          (
            λ _ _ _ select b1 k1 _ ands b2 k2 ors b3 k3 _ after b4 k4 e.
                let m = k4 (test.Parens (any_of (all_of (test.Exists select) ands) ors)) e in
                absurd (is_leaving _ (exists_leaves select) (enclosed (test.Exists select) ands ors m.0).front),
            tt,
          ),
        ),
      ),
    ),
  ),
)
leads text r.MoreOrs e = (λ _ first b1 k1 more b2 k2 e. (k2 (none_second (test_leaves first) _ e), (k1 (none_first (test_leaves first) _ e), tt)), (λ e. tt, tt))
leads text r.MoreAnds e = (λ _ first b1 k1 more b2 k2 e. (k2 (none_second (test_leaves first) _ e), (k1 (none_first (test_leaves first) _ e), tt)), (λ e. tt, tt))
leads text r.MoreNots e = (λ _ more b k. (k, tt), (tt, tt))
leads text (r.Operand n) e = (
  λ factors b1 k1 terms b2 k2 after b3 k3 first e.
      let m = k3 (sum (product first factors) terms) e in
      let s = sum_parts (product first factors) terms m.0 in
      let p = product_parts first factors s.0 in
      (p.0, (m.1, (k2 s.1, (k1 p.1, tt)))),
  tt,
)
leads text (r.Compared zero) e = (λ comparison b k first e. let m = k first e in (m.0, (m.1, tt)), tt)
leads text (r.Compared (suc n)) e = (
  λ _ after b k inner e. let m = k (expr.Parens inner) e in (sym (parens_leaves inner) ∙ m.0, (m.1, tt)),
  (
    λ comparison b1 k1 ands b2 k2 ors b3 k3 _ after b4 k4 left e.
        let m = k4 (test.Parens (any_of (all_of (comparison left) ands) ors)) e in
        let g = enclosed (comparison left) ands ors m.0 in
        let l = k1 left g.front in
        (l.0, (m.1, (k3 g.ors, (k2 g.ands, (l.1, tt))))),
    tt,
  ),
)
leads text r.Comparison e = (
  λ sign b1 k1 right b2 k2 left e. let m = both_of _ (expr_leaves left) (expr_leaves right) (compare_is left sign right) e in (m.0, (k2 m.1, (k1, tt))),
  (
    λ _ negated b k _ left e. (sym (is_null_test_is left negated) ∙ e, (k, tt)),
    (
      λ _ membership b k left e. let m = k left true e in (m.0, (m.1, tt)),
      (λ membership b k left e. let m = k left false e in (m.0, (m.1, tt)), tt),
    ),
  ),
)
leads text (r.Tested zero) e = (λ inner e. (e, tt), tt)
leads text (r.Tested (suc n)) e = (
  λ ands b1 k1 ors b2 k2 _ after b3 k3 inner e.
      let m = k3 (test.Parens (any_of (all_of inner ands) ors)) e in
      let g = enclosed inner ands ors m.0 in
      (g.front, (m.1, (k2 g.ors, (k1 g.ands, tt)))),
  tt,
)
leads text r.Membership e = (
  λ _ low b1 k1 _ high b2 k2 left negated e.
      let m = both_of _ (expr_leaves left) (expr_leaves low || expr_leaves high) (between_is left negated low high) e in
      (m.0, (k2 (none_second (expr_leaves low) (expr_leaves high) m.1), (k1 (none_first (expr_leaves low) (expr_leaves high) m.1), tt))),
  (λ _ _ within b k _ left negated e. let m = k left negated e in (m.0, (m.1, tt)), tt),
)
leads text r.InList e = (
  λ _ select b k left negated e. absurd (is_leaving _ (in_query_leaves left negated select) e),
  (λ exprs b k left negated e. let m = both_of _ (expr_leaves left) (some_of (map expr_leaves exprs)) (in_list_is left negated exprs) e in (m.0, (k m.1, tt)), tt),
)
leads text r.CompareSign e = (λ _. tt, (λ _. tt, (λ _. tt, (λ _. tt, (λ _. tt, (λ _. tt, tt))))))
leads text r.OptionalNot e = (λ _. tt, (tt, tt))
leads text r.Expr e = (λ first b1 k1 more b2 k2 e. let m = sum_parts first more e in (k2 m.1, (k1 m.0, tt)), tt)
leads text r.Product e = (λ first b1 k1 more b2 k2 e. let m = product_parts first more e in (k2 m.1, (k1 m.0, tt)), tt)
leads text r.Unary e = (λ sign b1 k1 more b2 k2 operand b3 k3 e. (k3 (signs_part (sign ∷ more) operand e), (k2, (k1, tt))), (λ operand b k e. (k e, tt), tt))
leads text r.Primary e = (λ _ operand b k _ e. (k e, tt), (λ operand b k e. (k e, tt), tt))
leads text r.SimplePrimary e = (λ name e. absurd (is_leaving _ (variable_leaves (units name)) e), (λ named b k e. (k e, tt), (λ other b k e. (k e, tt), tt)))
leads text r.OtherPrimary e = (
  λ _ e. tt,
  (
    λ _ e. tt,
    (
      λ _ e. tt,
      (
        λ _ e. tt,
        (
          λ _ e. tt,
          (
            λ _ e. tt,
            (
              λ _ e. tt,
              (
                λ _ e. tt,
                (
                  λ _ e. tt,
                  (
                    λ _ e. tt,
                    (
                      λ _ first b1 k1 more b2 k2 other b3 k3 _ e.
                          let m = both_of _ (some_of (map arm_leaves (first ∷ more))) (maybe_so (option_map expr_leaves other)) (case_is (first ∷ more) other) e in
                          (k3 m.1, (k2 (none_second (arm_leaves first) _ m.0), (k1 (none_first (arm_leaves first) _ m.0), tt))),
                      (
                        λ _ _ first b1 k1 _ second b2 k2 _ e. let m = both_of _ (expr_leaves first) (expr_leaves second) (null_if_is first second) e in (k2 m.1, (k1 m.0, tt)),
                        (λ _ _ exprs b k _ e. (k (sym (coalesce_is exprs) ∙ e), tt), tt),
                      ),
                    ),
                  ),
                ),
              ),
            ),
          ),
        ),
      ),
    ),
  ),
)
leads text r.Enclosed e = (λ _ select b k e. absurd (is_leaving _ (query_leaves select) e), (λ inner b k e. (k (sym (parens_leaves inner) ∙ e), tt), tt))
leads text r.NamedPrimary e = (λ name after b k e. (k (units name) e, tt), (λ name after b k e. (k (units name) e, tt), (λ name after b k e. (k (units name) e, tt), (λ name after b k e. (k (units name) e, tt), (λ name after b k e. (k (units name) e, tt), (λ name after b k e. (k (units name) e, tt), (λ name after b k e. (k (units name) e, tt), (λ name after b k e. (k (units name) e, tt), (λ name after b k e. (k (units name) e, tt), (λ name after b k e. (k (units name) e, tt), (λ name after b k e. (k (units name) e, tt), (λ name after b k e. (k (units name) e, tt), (λ name after b k e. (k (units name) e, tt), (λ name after b k e. (k (units name) e, tt), (λ name after b k e. (k (units name) e, tt), (λ name after b k e. (k (units name) e, tt), (λ name after b k e. (k (units name) e, tt), (λ name after b k e. (k (units name) e, tt), (λ name after b k e. (k (units name) e, tt), tt)))))))))))))))))))
leads text (r.FunctionArguments a) e = function_leads text a
leads text r.CountArguments e = (λ _ e. tt, (λ distinct b1 k1 operand b2 k2 e. (k2 (sym (aggregate_is _ distinct operand) ∙ e), (k1, tt)), tt))
leads text r.MoreTerms e = (λ sign b1 k1 operand b2 k2 more b3 k3 e. (k3 (none_second (term_leaves _) _ e), (k2 (sym (term_is sign operand) ∙ none_first (term_leaves _) _ e), (k1, tt))), (λ e. tt, tt))
leads text r.MoreFactors e = (λ sign b1 k1 operand b2 k2 more b3 k3 e. (k3 (none_second (factor_leaves _) _ e), (k2 (sym (factor_is sign operand) ∙ none_first (factor_leaves _) _ e), (k1, tt))), (λ e. tt, tt))
leads text r.AddSign e = (λ _. tt, (λ _. tt, tt))
leads text r.MultiplySign e = (λ _. tt, (λ _. tt, (λ _. tt, tt)))
leads text r.MoreSigns e = (λ first b1 k1 more b2 k2. (k2, (k1, tt)), (tt, tt))
leads text r.Distinct e = (λ _. tt, (tt, tt))
leads text r.AfterName e = (λ _ name table e. tt, (λ name e. tt, tt))
leads text (r.AfterFunction a) e = (λ call b k name e. (k e, tt), (λ after b k name e. (k name e, tt), tt))
leads text r.Arm e = (λ _ of b1 k1 _ gives b2 k2 e. let m = both_of _ (test_leaves of) (expr_leaves gives) (arm_is of gives) e in (k2 m.1, (k1 m.0, tt)), tt)
leads text r.MoreArms e = (λ first b1 k1 more b2 k2 e. (k2 (none_second (arm_leaves first) _ e), (k1 (none_first (arm_leaves first) _ e), tt)), (λ e. tt, tt))
leads text r.CaseElse e = (λ _ other b k e. (k e, tt), (λ e. tt, tt))
leads text r.Exprs e = (λ first b1 k1 more b2 k2 e. (k2 (none_second (expr_leaves first) _ e), (k1 (none_first (expr_leaves first) _ e), tt)), tt)
leads text r.MoreExprs e = (λ _ first b1 k1 more b2 k2 e. (k2 (none_second (expr_leaves first) _ e), (k1 (none_first (expr_leaves first) _ e), tt)), (λ e. tt, tt))
leads text _ e = absurd (not_so e)

lead_at : (q : Rule) (ways : List (Production q)) → AllLead q ways → (p : IndexOf ways) → Leads (at ways p).symbols (λ vs bs. Keeps q ((at ways p).build vs) (AllFalse bs)) []
lead_at q [] all p = absurd p
lead_at q (one ∷ more) all None = all.0
lead_at q (one ∷ more) all (Some p) = lead_at q more all.1 p

-- ---- derivations

module _ (text : List ℕ) where
  abbrev RuleKept : ℕ → Type 0
  RuleKept h = (q : Rule) (w : List Terminal) (v : Tree q) (s t : Noted) → Within (plain_language text) h q w v s t → Keeps q v (holds w ≡ false)

  lexeme_free : (a : Class) (l : Terminal) (bs : List Bool) (b : Bool) → variable_class a ≡ b → plainly_admits a (kind_of l.spanned.lexeme) ≡ true → AllFalse (if_variable b bs) → AllFalse bs × (is_variable l ≡ false)
  lexeme_free a l bs true is k all = absurd (not_so (sym all.0))
  lexeme_free a l bs false is k all = (all, admitted a (kind_of l.spanned.lexeme) is k)

  gathered : (h : ℕ) → RuleKept h → (is : Symbols) (w : List Terminal) (vs : Trees Terminal Tree is) (s t : Noted) (K : Trees Terminal Tree is → List Bool → Type 0) (bs : List Bool) → Leads is K bs
      → OfSymbols (plain_language text) (Within (plain_language text) h) is w vs s t → (all : List Bool) × K vs all × (AllFalse all → AllFalse bs × (holds w ≡ false))
  gathered h kept [] w vs s t K bs leads d = (bs, leads, λ none. (none, subst (λ (z : List Terminal). holds z ≡ false) (sym d.0) refl))
  gathered h kept (lexeme a ∷ is) w vs s t K bs leads (u, e, k, d) =
      let (all, holds_so, so) = gathered h kept is u vs.1 (see s vs.0) t (λ rest. K (vs.0, rest)) (if_variable (variable_class a) bs) (leads vs.0) d in (
        all,
        holds_so,
        λ none.
            let rest = so none in
            let first = lexeme_free a vs.0 bs (variable_class a) refl k rest.0 in
            (first.0, subst (λ (z : List Terminal). holds z ≡ false) (sym e) (none_two (is_variable vs.0) (holds u) first.1 rest.1)),
      )
  gathered h kept (mark m ∷ is) w vs s t K bs leads d = gathered h kept is w vs (note s m) t K bs leads d
  gathered h kept (rule q ∷ is) w vs s t K bs leads (u, v, m, e, o, d) =
      let (all, holds_so, so) = gathered h kept is v vs.1 m t (λ rest. K (vs.0, rest)) (holds u ∷ bs) (leads vs.0 (holds u) (kept q u vs.0 s m o)) d in (
        all,
        holds_so,
        λ none.
            let rest = so none in
            (rest.0.1, subst (λ (z : List Terminal). holds z ≡ false) (sym e) (holds_none u v rest.0.0 rest.1)),
      )

  rule_kept : (h : ℕ) → RuleKept h
  rule_kept zero q w v s t d = absurd d
  rule_kept (suc h) q w v s t (p, vs, e, d) = by (counts q) refl (rule_kept h)
    where
      by : (b : Bool) → counts q ≡ b → RuleKept h → Keeps q v (holds w ≡ false)
      by false is kept = keeps_none q v (holds w) is
      by true is kept =
          let one = at (productions text q) p in
          let (all, holds_so, so) = gathered h kept one.symbols w vs s t (λ vs bs. Keeps q (one.build vs) (AllFalse bs)) [] (lead_at q (productions text q) (leads text q is) p) d in
          subst (λ (z : Tree q). Keeps q z (holds w ≡ false)) (sym e) (keeps_more q (one.build vs) all (holds w) (λ none. (so none).1) holds_so)

  -- the lexemes of a table that leaves no row
  pub table_free : (h : ℕ) (w : List Terminal) (v : Tree r.Table) (s t : Noted) → Within (plain_language text) h r.Table w v s t → table_leaves v.0 ≡ false → holds w ≡ false
  table_free h w v s t d e = rule_kept h r.Table w v s t d e
