-- What is found is what was read.
use Rattle.std.specs.Prelude.{◌≡◌, ℕ, List, Some, None, refl}
use Rattle.std.proofs.Common.{ap, sym, ◌∙◌}
use Rattle.tsql_tree.specs.declared.statement.Statement.{Statement}
use Rattle.tsql_grammar.specs.declared.rule.Around.{Around}
use Rattle.tsql_grammar.specs.declared.rule.Rule.TheVariants as r
use Rattle.tsql_grammar.specs.Terminals.{Terminal}
use Rattle.lexeme_reader.specs.Reading.{Outcome, ◌>>=◌, read_in}
use Rattle.statement_reader.specs.declared.nested.Inner.TheVariants as inner
use Rattle.statement_reader.specs.declared.nested.FoundInner.{FoundInner}
use Rattle.statement_reader.specs.declared.nested.FoundInner.TheVariants as found
use Rattle.statement_reader.specs.Nests.{read_inner}

one_of : Statement → FoundInner → Statement
one_of d (found.One e) = e
one_of d f = d

one_in : Statement → Outcome FoundInner → Outcome Statement
one_in d o = o >>= λ x. Some (one_of d x.0, x.1)

one_back : (d : Statement) (o : Outcome Statement) → one_in d (o >>= λ x. Some (found.One x.0, x.1)) ≡ o
unfolding one_in one_of
one_back d None = refl
one_back d (Some x) = refl

pub inner_one : (text : List ℕ) (a : Around) (w : List Terminal) (e : Statement) (rest : List Terminal) → read_inner text (inner.One a) w ≡ Some (found.One e, rest) → read_in text (r.Statement a) w ≡ Some (e, rest)
unfolding one_in one_of
inner_one text a w e rest h = sym (one_back e (read_in text (r.Statement a) w)) ∙ ap (one_in e) h

body_of : List Statement → FoundInner → List Statement
body_of d (found.Body e) = e
body_of d f = d

body_in : List Statement → Outcome FoundInner → Outcome (List Statement)
body_in d o = o >>= λ x. Some (body_of d x.0, x.1)

body_back : (d : List Statement) (o : Outcome (List Statement)) → body_in d (o >>= λ x. Some (found.Body x.0, x.1)) ≡ o
unfolding body_in body_of
body_back d None = refl
body_back d (Some x) = refl

pub inner_body : (text : List ℕ) (a : Around) (w : List Terminal) (e : List Statement) (rest : List Terminal) → read_inner text (inner.Body a) w ≡ Some (found.Body e, rest) → read_in text (r.Body a) w ≡ Some (e, rest)
unfolding body_in body_of
inner_body text a w e rest h = sym (body_back e (read_in text (r.Body a) w)) ∙ ap (body_in e) h
