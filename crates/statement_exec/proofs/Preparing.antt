-- How a statement is bound over what its names are defined as.
use Rattle.std.proofs.Common.{◌≡◌, Bool, true, false, not, IfOk, IsTrue, inl, inr, List, Result, Ok, Err, refl, sym, ap, ◌∙◌}
use Rattle.tsql_tree.specs.declared.definition.Definition.{Definition}
use Rattle.tsql_tree.specs.declared.definition.TableTree.{TableTree}
use Rattle.tsql_tree.specs.declared.statement.Statement.{Statement}
use Rattle.bound_tree.specs.declared.write.Bound.{Bound}
use Rattle.session_vars.specs.declared.Variable.{Variable}
use Rattle.table_rows.specs.Definitions.{tables_of}
use Rattle.batch_meaning.specs.declared.failure.Failure.{Failure}
use Rattle.batch_meaning.specs.Failures.{plain}
use Rattle.batch_meaning.specs.Selecting.{bound_over}
use Rattle.dml_exec.specs.Reading.{GivenRows}
use Rattle.statement_exec.specs.Selected.{BoundSo, IsBoundOver, asks_bound}
use Rattle.session_state.specs.Parts.{IsOrMemory}
use Rattle.session_state.proofs.Stepping.{meant_ok}

-- what was shaped: the tables, beside what is bound
shaped_as : (definitions : List Definition) (of : Bound) (made : List TableTree × Bound) → IsOrMemory (Ok (tables_of definitions, of)) (Ok made) → (tables_of definitions ≡ made.0) × (of ≡ made.1)
shaped_as definitions of made is =
    let same : (tables_of definitions, of) ≡ made = (let whole = meant_ok (Ok (tables_of definitions, of)) made is in cc) in
    (ap (λ (m : List TableTree × Bound). m.0) same, ap (λ (m : List TableTree × Bound). m.1) same)

-- a transaction is open, if what is bound asks anything
pub shaped_begun : (given : GivenRows) (opened : Bool) (definitions : List Definition) (of : Bound) (result : Result (List TableTree × Bound) Failure) → (asks_bound given of ≡ true → opened ≡ true)
    → IsOrMemory (Ok (tables_of definitions, of)) result → IfOk result (λ made. asks_bound given made.1 ≡ true → opened ≡ true)
shaped_begun given opened definitions of (Ok made) begun is = λ asks. begun (ap (asks_bound given) (shaped_as definitions of made is).1 ∙ asks)
shaped_begun given opened definitions of (Err failure) begun is = tt

-- it is bound over these tables
pub shaped_bound : (definitions : List Definition) (vars : List Variable) (statement : Statement) (of : Bound) (result : Result (List TableTree × Bound) Failure) → IsOrMemory (bound_over definitions vars statement) (Ok of)
    → IsOrMemory (Ok (tables_of definitions, of)) result → IfOk result (λ made. IsBoundOver made.0 vars statement made.1)
shaped_bound definitions vars statement of (Ok made) bound is =
    let parts = shaped_as definitions of made is in
    (definitions, sym parts.0, meant_ok (bound_over definitions vars statement) of bound ∙ ap Ok parts.1)
shaped_bound definitions vars statement of (Err failure) bound is = tt

-- ---- a statement that is bound over no definitions

pub bound_so : (meant : Result Bound Failure) (of : Bound) → IsOrMemory meant (Ok of) → BoundSo meant (Ok tt)
bound_so (Ok meant) of is = inl refl
bound_so (Err why) of (inl same) = absurd cc
bound_so (Err why) of (inr none) = absurd cc

pub unbound_so : (meant : Result Bound Failure) (failure : Failure) → IsOrMemory meant (Err failure) → BoundSo meant (Err failure)
unbound_so (Ok meant) failure (inl same) = absurd cc
unbound_so (Ok meant) failure (inr none) = inr (let is : failure ≡ plain 701 = cc in ap Err is)
unbound_so (Err why) failure (inl same) = inl (let is : failure ≡ why = cc in ap Err is)
unbound_so (Err why) failure (inr none) = inr (let is : failure ≡ plain 701 = cc in ap Err is)

-- ---- a statement that is bound where no transaction is open

pub not_asked : (asked meant opened : Bool) → asked ≡ meant → IsTrue (not asked) → meant ≡ true → opened ≡ true
not_asked asked meant opened same may asks = absurd (let no : false ≡ true = sym (ap not (same ∙ asks)) ∙ may in cc)
