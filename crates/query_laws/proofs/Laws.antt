-- The laws, from what is proved of every tree.
use Rattle.std.proofs.Common.{◌≡◌, ap, subst, List, [], ◌∷◌, Ok}
use Rattle.std.proofs.lemmas.List.Elements.{recursion_from_All}
use Rattle.std.specs.List.{AllByRecursion}
use Rattle.value_types.specs.declared.sql_type.SqlType.{SqlType}
use Rattle.value_types.specs.declared.table_name.TableName.{TableName}
use Rattle.session_vars.specs.declared.Variable.{Variable}
use Rattle.session_vars.specs.Variables.{HasItsType}
use Rattle.bound_tree.specs.declared.query.BoundQuery.{BoundQuery}
use Rattle.bound_tree.specs.declared.query.BoundQuery.TheFolds.{fold_out-BoundQuery}
use Rattle.bound_tree.specs.Typed.{AreOf}
use Rattle.scalar_eval.specs.Scopes.{values_of}
use Rattle.clause_binder.specs.Operands.{items_of}
use Rattle.query_laws.specs.Formed as form
use Rattle.query_laws.specs.Formed.{QueryFound, items_kinds, query_found}
use Rattle.query_laws.specs.Columns.{tables_in, variable_kinds}
use Rattle.query_laws.specs.Laws.{AnswerTyped, RowsOf, SelectFormed, SelectTyped}
use Rattle.query_laws.proofs.BoundOperands.{GoodSelect}
use Rattle.query_laws.proofs.BoundTrees.{query_bound}
use Rattle.query_laws.proofs.AnswerTypes.{ans_types}

pub select_formed : SelectFormed
select_formed definitions vars select selected e calm = let good : GoodSelect definitions vars (Ok selected) = subst (GoodSelect definitions vars) e (query_bound definitions vars select) in
    ((good calm).0, (good calm).2, (good calm).3)

-- the types that are found of a query are those of its items
items_found : (tables : TableName → List SqlType) (kinds : List SqlType) (query : BoundQuery) → (query_found tables kinds query).1 ≡ items_kinds (items_of query)
items_found tables kinds query = ap (λ found. found.1) (fold_out-BoundQuery QueryFound QueryFound (form.query_step tables kinds) (form.inner_step tables kinds) query)

pub answer_typed : AnswerTyped
answer_typed tables kinds_of_vars vars system are_vars are_system query images rows formed fit e =
    subst (λ kinds. RowsOf kinds rows) (items_found tables kinds_of_vars query) (ans_types tables kinds_of_vars vars system are_vars are_system query images rows formed fit e)

values_fit : (vars : List Variable) → AllByRecursion HasItsType vars → AreOf (variable_kinds vars) (values_of vars)
values_fit [] h = tt
values_fit (variable ∷ rest) h = (h.0, values_fit rest h.1)

pub select_typed : SelectTyped
select_typed definitions vars select selected e calm typed system are_system images rows fit answers =
    answer_typed (tables_in definitions) (variable_kinds vars) (values_of vars) system (values_fit vars (recursion_from_All HasItsType vars typed)) are_system selected.query images rows
    (select_formed definitions vars select selected e calm).0 fit answers
