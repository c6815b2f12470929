-- What is found is what was read.
use Rattle.std.specs.Prelude.{◌≡◌, List, Some, None, refl}
use Rattle.std.proofs.Common.{ap, sym, ◌∙◌}
use Rattle.tsql_tree.specs.declared.query.Expr.{Expr}
use Rattle.tsql_tree.specs.declared.query.Test.{Test}
use Rattle.tsql_tree.specs.declared.query.Select.{Select}
use Rattle.tsql_grammar.specs.declared.rule.Rule.TheVariants as r
use Rattle.tsql_grammar.specs.Terminals.{Terminal}
use Rattle.expr_reader.specs.declared.nested.Nested.TheVariants as nested
use Rattle.expr_reader.specs.declared.nested.Found.{Found}
use Rattle.expr_reader.specs.declared.nested.Found.TheVariants as found
use Rattle.lexeme_reader.specs.Reading.{Outcome, read, ◌>>=◌}
use Rattle.expr_reader.specs.Nests.{read_nested}

expr_of : Expr → Found → Expr
expr_of d (found.Expr e) = e
expr_of d f = d

expr_in : Expr → Outcome Found → Outcome Expr
expr_in d o = o >>= λ x. Some (expr_of d x.0, x.1)

expr_back : (d : Expr) (o : Outcome Expr) → expr_in d (o >>= λ x. Some (found.Expr x.0, x.1)) ≡ o
unfolding expr_in expr_of
expr_back d None = refl
expr_back d (Some x) = refl

pub nested_expr : (w : List Terminal) (e : Expr) (rest : List Terminal) → read_nested nested.Expr w ≡ Some (found.Expr e, rest) → read r.Expr w ≡ Some (e, rest)
unfolding expr_in expr_of
nested_expr w e rest h = sym (expr_back e (read r.Expr w)) ∙ ap (expr_in e) h

test_of : Test → Found → Test
test_of d (found.Test e) = e
test_of d f = d

test_in : Test → Outcome Found → Outcome Test
test_in d o = o >>= λ x. Some (test_of d x.0, x.1)

test_back : (d : Test) (o : Outcome Test) → test_in d (o >>= λ x. Some (found.Test x.0, x.1)) ≡ o
unfolding test_in test_of
test_back d None = refl
test_back d (Some x) = refl

pub nested_test : (w : List Terminal) (e : Test) (rest : List Terminal) → read_nested nested.Test w ≡ Some (found.Test e, rest) → read r.Test w ≡ Some (e, rest)
unfolding test_in test_of
nested_test w e rest h = sym (test_back e (read r.Test w)) ∙ ap (test_in e) h

pub nested_basic : (w : List Terminal) (e : Test) (rest : List Terminal) → read_nested nested.Basic w ≡ Some (found.Test e, rest) → read r.Basic w ≡ Some (e, rest)
unfolding test_in test_of
nested_basic w e rest h = sym (test_back e (read r.Basic w)) ∙ ap (test_in e) h

select_of : Select → Found → Select
select_of d (found.Select e) = e
select_of d f = d

select_in : Select → Outcome Found → Outcome Select
select_in d o = o >>= λ x. Some (select_of d x.0, x.1)

select_back : (d : Select) (o : Outcome Select) → select_in d (o >>= λ x. Some (found.Select x.0, x.1)) ≡ o
unfolding select_in select_of
select_back d None = refl
select_back d (Some x) = refl

pub nested_select : (w : List Terminal) (e : Select) (rest : List Terminal) → read_nested nested.Select w ≡ Some (found.Select e, rest) → read r.Select w ≡ Some (e, rest)
unfolding select_in select_of
nested_select w e rest h = sym (select_back e (read r.Select w)) ∙ ap (select_in e) h

exprs_of : List Expr → Found → List Expr
exprs_of d (found.Exprs e) = e
exprs_of d f = d

exprs_in : List Expr → Outcome Found → Outcome (List Expr)
exprs_in d o = o >>= λ x. Some (exprs_of d x.0, x.1)

exprs_back : (d : List Expr) (o : Outcome (List Expr)) → exprs_in d (o >>= λ x. Some (found.Exprs x.0, x.1)) ≡ o
unfolding exprs_in exprs_of
exprs_back d None = refl
exprs_back d (Some x) = refl

pub nested_exprs : (w : List Terminal) (e : List Expr) (rest : List Terminal) → read_nested nested.Exprs w ≡ Some (found.Exprs e, rest) → read r.Exprs w ≡ Some (e, rest)
unfolding exprs_in exprs_of
nested_exprs w e rest h = sym (exprs_back e (read r.Exprs w)) ∙ ap (exprs_in e) h

tests_of : List Test → Found → List Test
tests_of d (found.Tests e) = e
tests_of d f = d

tests_in : List Test → Outcome Found → Outcome (List Test)
tests_in d o = o >>= λ x. Some (tests_of d x.0, x.1)

tests_back : (d : List Test) (o : Outcome (List Test)) → tests_in d (o >>= λ x. Some (found.Tests x.0, x.1)) ≡ o
unfolding tests_in tests_of
tests_back d None = refl
tests_back d (Some x) = refl

pub nested_ands : (w : List Terminal) (e : List Test) (rest : List Terminal) → read_nested nested.Ands w ≡ Some (found.Tests e, rest) → read r.MoreAnds w ≡ Some (e, rest)
unfolding tests_in tests_of
nested_ands w e rest h = sym (tests_back e (read r.MoreAnds w)) ∙ ap (tests_in e) h

pub nested_ors : (w : List Terminal) (e : List Test) (rest : List Terminal) → read_nested nested.Ors w ≡ Some (found.Tests e, rest) → read r.MoreOrs w ≡ Some (e, rest)
unfolding tests_in tests_of
nested_ors w e rest h = sym (tests_back e (read r.MoreOrs w)) ∙ ap (tests_in e) h
