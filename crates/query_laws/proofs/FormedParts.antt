-- Expressions and tests that stand by themselves are bound to what is well formed.
use Rattle.std.proofs.Common.{◌≡◌, ◌≤◌, refl, sym, subst, false, List, [], length, None}
use Rattle.std.proofs.lemmas.Bool.{ltb-false}
use Rattle.std.proofs.lemmas.List.{append-nil}
use Rattle.value_types.specs.declared.sql_type.SqlType.{SqlType}
use Rattle.session_vars.specs.declared.Variable.{Variable}
use Rattle.tsql_tree.specs.declared.definition.Definition.{Definition}
use Rattle.bound_tree.specs.Typed.{found_of}
use Rattle.typed_nodes.specs.Facts.{max_depth}
use Rattle.typed_nodes.specs.declared.facts.Facts.{Facts}
use Rattle.clause_binder.specs.declared.progress.Progress.{Progress}
use Rattle.clause_binder.specs.Scope.{columns_in}
use Rattle.clause_binder.specs.Progress.{Context, is_deep}
use Rattle.clause_binder.specs.Bind.{expr_of, test_of}
use Rattle.query_laws.specs.Columns.{kinds}
use Rattle.query_laws.specs.Parts.{AreSound, ExprFormed, TestFormed, types_behind}
use Rattle.query_laws.proofs.FoundKinds.{as_or_int}
use Rattle.query_laws.proofs.Reading.{Bound, Reads, ReadsRow}
use Rattle.query_laws.proofs.BoundOperands.{FormedAt, FormedTestAt}
use Rattle.query_laws.proofs.BoundTrees.{expr_bound, test_bound}

module _ (definitions : List Definition) (vars : List Variable) where
  reads_here : (at : Context) (new : Progress) (before more : List (List SqlType)) → at.sums_from ≡ None → AreSound at.sources → length before ≡ new.first → Reads definitions vars at new (types_behind definitions vars at new before more)
  reads_here at new before more plain sound counted = record {
    row = subst (λ from. ReadsRow definitions vars from at.sources new.sums (kinds (columns_in at.sources))) (sym plain) ([], sym (append-nil (kinds (columns_in at.sources))));
    variables = refl;
    session = refl;
    sound = sound;
    inner = (before, more, counted, refl);
  }

shallow : (facts : Facts) → is_deep facts ≡ false → facts.depth ≤ max_depth
shallow facts e = ltb-false max_depth facts.depth e

pub expr_formed : ExprFormed
expr_formed definitions vars expr at done new a e calm near plain sound before more counted =
    let bound = subst (Bound definitions vars (FormedAt definitions vars) (expr_of definitions vars expr).read.inside at done) e ((expr_bound definitions vars expr).reads at done) in
    let types = types_behind definitions vars at new before more in
    as_or_int a.facts.kind (found_of types a.expr) ((bound calm).1 types (reads_here definitions vars at new before more plain sound counted) (shallow a.facts near)).0

pub test_formed : TestFormed
test_formed definitions vars test at done new a e calm near plain sound before more counted =
    let bound = subst (Bound definitions vars (FormedTestAt definitions vars) (test_of definitions vars test).inside at done) e (test_bound definitions vars test at done) in
    ((bound calm).1 (types_behind definitions vars at new before more) (reads_here definitions vars at new before more plain sound counted)).1 (shallow a.facts near)
