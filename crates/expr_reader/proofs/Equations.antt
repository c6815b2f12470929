-- What reading by descent is at each rule, in the order of the grammar's rules.
use Rattle.std.specs.Prelude.{◌≡◌, ℕ, Bool, true, false, ◌||◌, List, [], ◌∷◌, ◌++◌, map, Some, None, if◌then◌else◌, refl}
use Rattle.std.proofs.Common.{inl, inr, ap, ◌∙◌, append-nil, append_assoc}
use Rattle.tsql_lexer.specs.declared.lexeme.Sign.{Sign}
use Rattle.tsql_lexer.specs.declared.lexeme.Sign.TheVariants as s
use Rattle.tsql_tree.specs.declared.query.AddSign.TheVariants as add
use Rattle.tsql_tree.specs.declared.query.Aggregate.TheVariants as aggregate
use Rattle.tsql_tree.specs.declared.query.Arm.{Arm, roll-Arm}
use Rattle.tsql_tree.specs.declared.query.Expr.{Expr}
use Rattle.tsql_tree.specs.declared.query.Expr.TheVariants as expr
use Rattle.tsql_tree.specs.declared.query.Factor.{Factor, roll-Factor}
use Rattle.tsql_tree.specs.declared.query.MultiplySign.TheVariants as multiply
use Rattle.tsql_tree.specs.declared.query.SystemWord.TheVariants as system
use Rattle.tsql_tree.specs.declared.query.Term.{Term, roll-Term}
use Rattle.tsql_grammar.specs.declared.kind.Function.{Function}
use Rattle.tsql_grammar.specs.declared.kind.Function.TheVariants as f
use Rattle.tsql_grammar.specs.declared.kind.Kind.TheVariants as k
use Rattle.tsql_grammar.specs.declared.kind.Reserved.{Reserved}
use Rattle.tsql_grammar.specs.declared.kind.Reserved.TheVariants as word
use Rattle.tsql_grammar.specs.declared.rule.Class.{Class}
use Rattle.tsql_grammar.specs.declared.rule.Class.TheVariants as c
use Rattle.tsql_grammar.specs.declared.rule.Rule.TheVariants as r
use Rattle.tsql_grammar.specs.Lookahead.{adds, multiplies}
use Rattle.tsql_grammar.specs.Productions.{Tree, way}
use Rattle.tsql_grammar.specs.Terminals.{Terminal, kind as kind_at, units, number}
use Rattle.tsql_grammar.specs.Trees.{sum, product}
use Rattle.tsql_grammar.specs.Kinds.{functions}
use Rattle.grammar_laws.specs.Grammar.Symbol.{lexeme, rule}
use Rattle.expr_reader.specs.Parts.{case_from, pair_from, coalesce_from, arguments_from, signed_from, chain_from}
use Rattle.lexeme_reader.proofs.Ways.{by_order, by_certain, ordered, Skips}
use Rattle.lexeme_reader.proofs.Front.{front_bind, front_when, front_if, if_bind, when_bind, bind_assoc, bind_same}
use Rattle.lexeme_reader.specs.Reading.{Outcome, read, ahead, expect, sees_any, ◌>>=◌, when, applied, front}

abbrev sign : Sign → Class
sign a = c.One (k.Sign a)

abbrev reserved : Reserved → Class
reserved a = c.One (k.Reserved a)

unless : {A : Type 0} (a b : A) (it : Bool) → it ≡ false → (if it then a else b) ≡ b
unless a b true e = absurd (cc)
unless a b false e = refl

pub distinct_is : (w : List Terminal) → read r.Distinct w ≡ when (expect (reserved word.Distinct) w) (λ x. Some (true, x.1)) (Some (false, w))
distinct_is w = by_order [] r.Distinct w refl

pub expr_is : (w : List Terminal) → read r.Expr w ≡ (do x ← read r.Product w; y ← read r.MoreTerms x.1; Some (sum x.0 y.0, y.1))
expr_is w = by_order [] r.Expr w refl

pub more_terms_is : (w : List Terminal) → read r.MoreTerms w
    ≡ (if sees_any adds w then (do x ← read r.AddSign w; y ← read r.Product x.1; z ← read r.MoreTerms y.1; Some (roll-Term (record { sign = x.0; operand = y.0 }) ∷ z.0, z.1)) else Some ([], w))
more_terms_is w = by_order [] r.MoreTerms w refl

pub more_terms_on : (done : List Term) (w : List Terminal) → front done (read r.MoreTerms w)
    ≡ (if sees_any adds w then (do x ← read r.AddSign w; y ← read r.Product x.1; front (done ++ roll-Term (record { sign = x.0; operand = y.0 }) ∷ []) (read r.MoreTerms y.1)) else Some (done, w))
more_terms_on done w = ap (front done) (more_terms_is w) ∙ simp (front_if, front_bind, append_assoc, append-nil)

-- a product that no sign follows
pub expr_alone : (e : Expr) (w v : List Terminal) → read r.Product w ≡ Some (e, v) → sees_any adds v ≡ false → read r.Expr w ≡ Some (e, v)
expr_alone e w v h f =
    expr_is w ∙ ap (λ o. o >>= λ x. read r.MoreTerms x.1 >>= λ y. Some (sum x.0 y.0, y.1)) h
    ∙ ap (λ o. o >>= λ y. Some (sum e y.0, y.1)) (more_terms_is v ∙ unless _ _ (sees_any adds v) f)

pub add_sign_is : (w : List Terminal) → read r.AddSign w ≡ when (expect (sign s.Plus) w) (λ x. Some (add.Plus, x.1)) (do x ← expect (sign s.Minus) w; Some (add.Minus, x.1))
add_sign_is w = by_order [] r.AddSign w refl

pub product_is : (w : List Terminal) → read r.Product w ≡ (do x ← read r.Unary w; y ← read r.MoreFactors x.1; Some (product x.0 y.0, y.1))
product_is w = by_order [] r.Product w refl

pub more_factors_on : (done : List Factor) (w : List Terminal) → front done (read r.MoreFactors w)
    ≡ (if sees_any multiplies w then (do x ← read r.MultiplySign w; y ← read r.Unary x.1; front (done ++ roll-Factor (record { sign = x.0; operand = y.0 }) ∷ []) (read r.MoreFactors y.1)) else Some (done, w))
more_factors_on done w = ap (front done) (by_order [] r.MoreFactors w refl) ∙ simp (front_if, front_bind, append_assoc, append-nil)

more_factors_none : (w : List Terminal) → sees_any multiplies w ≡ false → read r.MoreFactors w ≡ Some ([], w)
more_factors_none w f = by_order [] r.MoreFactors w refl ∙ unless _ _ (sees_any multiplies w) f

-- an operand that no sign of a product follows
pub product_alone : (e : Expr) (w v : List Terminal) → read r.Unary w ≡ Some (e, v) → sees_any multiplies v ≡ false → read r.Product w ≡ Some (e, v)
product_alone e w v h f =
    product_is w ∙ ap (λ o. o >>= λ x. read r.MoreFactors x.1 >>= λ y. Some (product x.0 y.0, y.1)) h
    ∙ ap (λ o. o >>= λ y. Some (product e y.0, y.1)) (more_factors_none v f)

-- an operand that neither follows
pub chain_alone : (e : Expr) (w : List Terminal) → (sees_any multiplies w || sees_any adds w) ≡ false → chain_from e w ≡ Some (e, w)
chain_alone e w h = go (sees_any multiplies w) (sees_any adds w) refl refl h
  where
    go : (a b : Bool) → sees_any multiplies w ≡ a → sees_any adds w ≡ b → (a || b) ≡ false → chain_from e w ≡ Some (e, w)
    go true b f g h = absurd (cc)
    go false true f g h = absurd (cc)
    go false false f g h =
        ap (λ o. o >>= λ x. read r.MoreTerms x.1 >>= λ y. Some (sum (product e x.0) y.0, y.1)) (more_factors_none w f)
        ∙ ap (λ o. o >>= λ y. Some (sum e y.0, y.1)) (more_terms_is w ∙ unless _ _ (sees_any adds w) g)

pub multiply_sign_is : (w : List Terminal) → read r.MultiplySign w
    ≡ when (expect (sign s.Star) w) (λ x. Some (multiply.Times, x.1)) (when (expect (sign s.Slash) w) (λ x. Some (multiply.Divide, x.1)) (do x ← expect (sign s.Percent) w; Some (multiply.Remainder, x.1)))
multiply_sign_is w = by_order [] r.MultiplySign w refl

pub unary_is : (w : List Terminal) → read r.Unary w ≡ (if sees_any adds w then signed_from w else read r.Primary w >>= λ x. Some (x.0, x.1))
unary_is w = by_order [] r.Unary w refl

pub more_signs_on : (done : List (Tree r.AddSign)) (w : List Terminal) → front done (read r.MoreSigns w)
    ≡ (if sees_any adds w then (do x ← read r.AddSign w; front (done ++ x.0 ∷ []) (read r.MoreSigns x.1)) else Some (done, w))
more_signs_on done w = ap (front done) (by_order [] r.MoreSigns w refl) ∙ simp (front_if, front_bind, append_assoc, append-nil)

pub primary_is : (w : List Terminal) → read r.Primary w
    ≡ when (expect (sign s.Open) w) (λ x. do y ← read r.Enclosed x.1; z ← expect (sign s.Close) y.1; Some (y.0, z.1)) (do x ← read r.SimplePrimary w; Some (x.0, x.1))
primary_is w = by_order [] r.Primary w refl

pub enclosed_is : (w : List Terminal) → read r.Enclosed w
    ≡ when (expect (reserved word.Select) w) (λ x. do y ← read r.Select x.1; Some (expr.Query y.0, y.1)) (do x ← read r.Expr w; Some (expr.Parens x.0, x.1))
enclosed_is w = by_order [] r.Enclosed w refl

pub simple_primary_is : (w : List Terminal) → read r.SimplePrimary w
    ≡ when (expect (c.One k.Variable) w) (λ x. Some (expr.Variable (units x.0), x.1))
    (if sees_any (c.Name ∷ []) w then (do x ← read r.NamedPrimary w; Some (x.0, x.1)) else (do x ← read r.OtherPrimary w; Some (x.0, x.1)))
simple_primary_is w = by_order [] r.SimplePrimary w refl

-- a lexeme that is an operand by itself
abbrev pub literal : List Terminal → Outcome Expr → Outcome Expr
literal w other =
    when (expect (c.One k.Number) w) (λ x. Some (expr.Number (number x.0), x.1))
    (when (expect (c.One k.Text) w) (λ x. Some (expr.Text (units x.0), x.1))
    (when (expect (reserved word.Null) w) (λ x. Some (expr.Null, x.1))
    (when (expect (c.One k.TranCount) w) (λ x. Some (expr.System system.TranCount, x.1))
    (when (expect (c.One k.Error) w) (λ x. Some (expr.System system.Error, x.1))
    (when (expect (c.One k.RowCount) w) (λ x. Some (expr.System system.RowCount, x.1))
    (when (expect (c.One k.FetchStatus) w) (λ x. Some (expr.System system.FetchStatus, x.1))
    (when (expect (c.One k.Version) w) (λ x. Some (expr.System system.Version, x.1))
    (when (expect (c.One k.ServerName) w) (λ x. Some (expr.System system.ServerName, x.1))
    (when (expect (c.One k.MaxPrecision) w) (λ x. Some (expr.System system.MaxPrecision, x.1)) other)))))))))

pub other_primary_is : (w : List Terminal) → read r.OtherPrimary w
    ≡ literal w
    (when (expect (reserved word.Case) w) (λ x. case_from x.1)
    (when (expect (reserved word.NullIf) w) (λ x. pair_from expr.NullIf x.1)
    (do x ← expect (reserved word.Coalesce) w; coalesce_from x.1)))
other_primary_is w = by_order [] r.OtherPrimary w refl

pub arm_is : (w : List Terminal) → read r.Arm w
    ≡ (do x ← expect (reserved word.When) w; a ← read r.Test x.1; y ← expect (reserved word.Then) a.1; b ← read r.Expr y.1; Some (roll-Arm (record { test = a.0; gives = b.0 }), b.1))
arm_is w = by_order [] r.Arm w refl

pub more_arms_on : (done : List Arm) (w : List Terminal) → front done (read r.MoreArms w)
    ≡ (if sees_any (reserved word.When ∷ []) w then (do x ← read r.Arm w; front (done ++ x.0 ∷ []) (read r.MoreArms x.1)) else Some (done, w))
more_arms_on done w = ap (front done) (by_order [] r.MoreArms w refl) ∙ simp (front_if, front_bind, append_assoc, append-nil)

pub case_else_is : (w : List Terminal) → read r.CaseElse w ≡ when (expect (reserved word.Else) w) (λ x. do y ← read r.Expr x.1; Some (Some y.0, y.1)) (Some (None, w))
case_else_is w = by_order [] r.CaseElse w refl

pub exprs_is : (w : List Terminal) → read r.Exprs w ≡ (do x ← read r.Expr w; y ← read r.MoreExprs x.1; Some (x.0 ∷ y.0, y.1))
exprs_is w = by_order [] r.Exprs w refl

pub more_exprs_on : (done : List Expr) (w : List Terminal) → front done (read r.MoreExprs w)
    ≡ when (expect (sign s.Comma) w) (λ x. do y ← read r.Expr x.1; front (done ++ y.0 ∷ []) (read r.MoreExprs y.1)) (Some (done, w))
more_exprs_on done w = ap (front done) (by_order [] r.MoreExprs w refl) ∙ simp (front_when, front_bind, append_assoc, append-nil)

pub after_name_is : (w : List Terminal) → read r.AfterName w
    ≡ when (expect (sign s.Dot) w) (λ x. do y ← expect c.Name x.1; Some ((λ table. expr.Column (Some table) (units y.0)), y.1)) (Some ((λ name. expr.Column None name), w))
after_name_is w = by_order [] r.AfterName w refl

pub after_function_is : (a : Function) (w : List Terminal) → read (r.AfterFunction a) w
    ≡ (if sees_any (sign s.Open ∷ []) w then (do x ← read (r.FunctionArguments a) w; Some ((λ name. x.0), x.1)) else (do x ← read r.AfterName w; Some (x.0, x.1)))
after_function_is a w = by_order [] (r.AfterFunction a) w refl

pub after_function_on : (name : List ℕ) (a : Function) (w : List Terminal) → applied name (read (r.AfterFunction a) w)
    ≡ (if sees_any (sign s.Open ∷ []) w then read (r.FunctionArguments a) w else applied name (read r.AfterName w))
after_function_on name a w = ap (applied name) (after_function_is a w) ∙ simp (if_bind, bind_assoc, bind_same)

pub after_name_on : (name : List ℕ) (w : List Terminal) → applied name (read r.AfterName w)
    ≡ when (expect (sign s.Dot) w) (λ x. do y ← expect c.Name x.1; Some (expr.Column (Some name) (units y.0), y.1)) (Some (expr.Column None name, w))
after_name_on name w = ap (applied name) (after_name_is w) ∙ simp (when_bind, bind_assoc)

pub arguments_is : (a : Function) (w : List Terminal) → read (r.FunctionArguments a) w ≡ arguments_from a w
arguments_is f.Cast w = by_order [] (r.FunctionArguments f.Cast) w refl
arguments_is f.IsNull w = by_order [] (r.FunctionArguments f.IsNull) w refl
arguments_is f.Len w = by_order [] (r.FunctionArguments f.Len) w refl
arguments_is f.Count w = by_order [] (r.FunctionArguments f.Count) w refl
arguments_is f.Sum w = by_order [] (r.FunctionArguments f.Sum) w refl
arguments_is f.Avg w = by_order [] (r.FunctionArguments f.Avg) w refl
arguments_is f.Min w = by_order [] (r.FunctionArguments f.Min) w refl
arguments_is f.Max w = by_order [] (r.FunctionArguments f.Max) w refl
arguments_is f.XactState w = by_order [] (r.FunctionArguments f.XactState) w refl
arguments_is f.ErrorNumber w = by_order [] (r.FunctionArguments f.ErrorNumber) w refl
arguments_is f.ErrorSeverity w = by_order [] (r.FunctionArguments f.ErrorSeverity) w refl
arguments_is f.ErrorState w = by_order [] (r.FunctionArguments f.ErrorState) w refl
arguments_is f.ErrorLine w = by_order [] (r.FunctionArguments f.ErrorLine) w refl
arguments_is f.ErrorMessage w = by_order [] (r.FunctionArguments f.ErrorMessage) w refl
arguments_is f.ErrorProcedure w = by_order [] (r.FunctionArguments f.ErrorProcedure) w refl
arguments_is f.SchemaName w = by_order [] (r.FunctionArguments f.SchemaName) w refl
arguments_is f.DatabaseName w = by_order [] (r.FunctionArguments f.DatabaseName) w refl
arguments_is f.UserName w = by_order [] (r.FunctionArguments f.UserName) w refl

-- what is read behind the names of functions
pub named_rest : List Terminal → Outcome Expr
named_rest w = ordered [] r.NamedPrimary (map (λ a. way (lexeme (c.One (k.Function a)) ∷ rule (r.AfterFunction a) ∷ []) (λ name after. after (units name))) functions) w

-- a column, or a function by its name
pub named_primary_is : (w : List Terminal) → read r.NamedPrimary w ≡ when (expect c.PlainName w) (λ x. applied (units x.0) (read r.AfterName x.1)) (named_rest w)
unfolding named_rest
named_primary_is w = by_order [] r.NamedPrimary w refl

function_at : (a : Function) (t : Terminal) (w : List Terminal) → kind_at t ≡ k.Function a
    → named_rest (t ∷ w) ≡ (do x ← expect (c.One (k.Function a)) (t ∷ w); applied (units x.0) (read (r.AfterFunction a) x.1))
unfolding expect named_rest
function_at f.Cast t w e = rw e refl
function_at _ t w e = rw e refl

function_is : (a : Function) (w : List Terminal) → ahead w ≡ Some (k.Function a)
    → named_rest w ≡ (do x ← expect (c.One (k.Function a)) w; applied (units x.0) (read (r.AfterFunction a) x.1))
function_is a [] e = absurd (cc)
function_is a (t ∷ w) e = let same : kind_at t ≡ k.Function a = cc in function_at a t w same

-- where no other name comes next, that of a function does
pub named_function_is : (a : Function) (w : List Terminal) → expect c.PlainName w ≡ None → ahead w ≡ Some (k.Function a)
    → read r.NamedPrimary w ≡ (do x ← expect (c.One (k.Function a)) w; applied (units x.0) (read (r.AfterFunction a) x.1))
named_function_is a w e f = named_primary_is w ∙ rw e (function_is a w f)

pub skips_distinct : Skips [] r.Distinct
unfolding sees_any expect
skips_distinct [] e = (false, distinct_is [])
skips_distinct (t ∷ w) e = (false, distinct_is (t ∷ w) ∙ rw (or_no _ e) refl)
  where
    or_no : (b : Bool) → (b || false) ≡ false → b ≡ false
    or_no true e = e
    or_no false e = refl

pub count_arguments_is : (w : List Terminal) → read r.CountArguments w
    ≡ when (expect (sign s.Star) w) (λ x. Some (expr.CountRows, x.1)) (do x ← read r.Distinct w; y ← read r.Expr x.1; Some (expr.Aggregate aggregate.Count x.0 y.0, y.1))
count_arguments_is w = by_certain [] r.CountArguments w (refl, (inr (skips_distinct, inl refl), refl))
