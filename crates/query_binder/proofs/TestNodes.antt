-- What a test is bound to, behind its first parts.
use Rattle.std.proofs.Common.{◌≡◌, Bool, List, Ok, refl, ap, ◌∙◌, rules}
use Rattle.session_vars.specs.declared.Variable.{Variable}
use Rattle.tsql_tree.specs.declared.definition.Definition.{Definition}
use Rattle.tsql_tree.specs.declared.query.CompareSign.{CompareSign}
use Rattle.tsql_tree.specs.declared.query.Expr.{Expr, the_lemmas}
use Rattle.tsql_tree.specs.declared.query.Test.{Test, Between, Compare}
use Rattle.typed_nodes.specs.declared.expr.TypedExpr.{TypedExpr}
use Rattle.typed_nodes.specs.declared.test.TypedTest.{TypedTest}
use Rattle.typed_nodes.specs.Tests as tests
use Rattle.clause_binder.specs.declared.progress.Progress.{Progress}
use Rattle.clause_binder.specs.Progress.{Context, Read, and_then, pure, three, two}
use Rattle.clause_binder.specs.Bind.{compare_op, expr_of, test_of, tested}

pub compared : (definitions : List Definition) (vars : List Variable) (of : Test) (a b : Expr) (sign : CompareSign) (at : Context) (done behind : Progress) (x : TypedExpr)
    → of ≡ Compare a sign b → (expr_of definitions vars a).read.bind at done ≡ Ok (x, behind)
    → (test_of definitions vars of).bind at done ≡ and_then (expr_of definitions vars b).read.bind (λ y. pure (tests.compare_test (compare_op sign) x y)) at behind
compared definitions vars of a b sign at done behind x is begun =
    let node : test_of definitions vars of ≡ two (expr_of definitions vars a).read (expr_of definitions vars b).read (λ x y. pure (tests.compare_test (compare_op sign) x y)) = search (rules, the_lemmas) in
    ap (λ (r : Read TypedTest). r.bind at done) node ∙ rw begun refl

pub between : (definitions : List Definition) (vars : List Variable) (of : Test) (a low high : Expr) (negated : Bool) (at : Context) (done behind later : Progress) (x y : TypedExpr)
    → of ≡ Between a negated low high → (expr_of definitions vars a).read.bind at done ≡ Ok (x, behind) → (expr_of definitions vars low).read.bind at behind ≡ Ok (y, later)
    → (test_of definitions vars of).bind at done ≡ and_then (expr_of definitions vars high).read.bind (λ z. tested negated (tests.between_test x y z)) at later
between definitions vars of a low high negated at done behind later x y is begun then_begun =
    let node : test_of definitions vars of ≡ three (expr_of definitions vars a).read (expr_of definitions vars low).read (expr_of definitions vars high).read
    (λ x y z. tested negated (tests.between_test x y z)) = search (rules, the_lemmas) in
    ap (λ (r : Read TypedTest). r.bind at done) node ∙ rw begun (rw then_begun refl)
