-- What a query is answered on, and what it answers.
use Rattle.std.proofs.Common.{◌≡◌, ◌⊎◌, true, None, inl, inr, All, IfOk, List, [], ◌∷◌, Result, Ok, Err, refl, ap}
use Rattle.std.specs.declared.alloc.Global.{Global}
use Rattle.std.specs.declared.vec.Vec.{Vec}
use Rattle.value_types.specs.declared.value.Value.{Value}
use Rattle.session_vars.specs.Variables.{HasItsType}
use Rattle.tsql_tree.specs.declared.definition.TableTree.{TableTree}
use Rattle.bound_tree.specs.declared.query.BoundQuery.{BoundQuery}
use Rattle.bound_tree.specs.declared.write.Bound.{Bound}
use Rattle.bound_tree.specs.declared.write.Bound.TheVariants as bound
use Rattle.bound_tree.specs.Outcomes as value
use Rattle.bound_tree.specs.Typed.{AreOf, system_kinds}
use Rattle.query_eval.specs.Ans.{Ans}
use Rattle.query_eval.specs.Given.{tables_read}
use Rattle.step_model.specs.Port.{PortPast}
use Rattle.step_model.specs.Ranges.{Rows}
use Rattle.dml_exec.specs.declared.refusal.Level.{Level}
use Rattle.dml_exec.specs.Asking.{seen}
use Rattle.dml_exec.specs.Reading.{GivenRows, fetches_any, images_of, tables_of_reads}
use Rattle.batch_meaning.specs.declared.failure.Failure.{Failure}
use Rattle.batch_meaning.specs.Raised.{Around}
use Rattle.batch_meaning.specs.Progress.{SessionProgress, system_in, values_of}
use Rattle.batch_meaning.specs.Doing.{Did, Held}
use Rattle.batch_meaning.specs.Asking.{reads_at}
use Rattle.batch_meaning.specs.Selecting.{answer_as, answer_in}
use Rattle.std.specs.Prelude.{IsTrue}
use Rattle.clause_binder.specs.Operands.{items_of}
use Rattle.statement_exec.specs.Selected.{ImagesFit, IsAnswer, IsOfQuery, are_typed, asks_bound}
use Rattle.session_state.specs.Parts.{IsOrMemory}
use Rattle.session_state.proofs.Stepping.{meant_ok}

-- where no table is named there is no image
pub unshaped_images : {before after : PortPast} (given : GivenRows) (level : Level) (vars : List Value) (shapes : List TableTree) (of : Bound) {images : List Rows} {p q : SessionProgress} → Did before after (reads_at given level vars shapes of) p (Ok (Ok images)) q → shapes ≡ [] → images ≡ []
unfolding reads_at Held
unshaped_images given level vars [] of {images = images} did none = (let is : ◌≡◌ {A = Result (List Rows) Failure} (Ok images) (Ok []) = did.came.1 in cc)
unshaped_images given level vars (shape ∷ shapes) of did none = absurd cc

-- the tables of a query are read, whether it is answered or assigned
pub same_reads : (given : GivenRows) (level : Level) (vars : List Value) (shapes : List TableTree) (of : Bound) (query : BoundQuery) → IsOfQuery query of
    → reads_at given level vars shapes of ≡ reads_at given level vars shapes (bound.Query query)
unfolding reads_at images_of
same_reads given level vars shapes (bound.Query of) query is = ap (λ (q : BoundQuery). reads_at given level vars shapes (bound.Query q)) is
same_reads given level vars [] (bound.Assign of places) query is = refl
same_reads given level vars (shape ∷ shapes) (bound.Assign of places) query is = ap (λ (q : BoundQuery). reads_at given level vars (shape ∷ shapes) (bound.Query q)) is
same_reads given level vars shapes bound.Plain query is = absurd is
same_reads given level vars shapes (bound.Write write) query is = absurd is

reads_same : (of : Bound) (query : BoundQuery) → IsOfQuery query of → tables_of_reads of ≡ tables_read query
reads_same (bound.Query of) query is = ap tables_read is
reads_same (bound.Assign of places) query is = ap tables_read is
reads_same bound.Plain query is = absurd is
reads_same (bound.Write write) query is = absurd is

-- where a table of it is fetched, something is asked
pub fetched_asks : (given : GivenRows) (query : BoundQuery) (of : Bound) → IsOfQuery query of → fetches_any given of ≡ true → asks_bound given of ≡ true
fetched_asks given query (bound.Query of) is fetched = fetched
fetched_asks given query (bound.Assign of places) is fetched = fetched
fetched_asks given query bound.Plain is fetched = absurd is
fetched_asks given query (bound.Write write) is fetched = absurd is

answer_of : (outcome : value.Outcome Rows) (rows : Rows) → answer_as outcome ≡ Ok rows → outcome ≡ Ok rows
answer_of (Ok given) rows is = (let same : given ≡ rows = cc in ap Ok same)
answer_of (Err number) rows is = absurd cc

-- what it answers on them; in a trigger its rows were looked at
pub answer_is : (around : Around) (p : SessionProgress) (shapes : List TableTree) (of : Bound) (query : BoundQuery) (images : List Rows) (result : Result (Vec (List Value) Global) Failure) → IsOfQuery query of
    → (around.fired ≡ None → (shapes ≡ [] → ⊥) → ImagesFit shapes (tables_of_reads of) images) → (shapes ≡ [] → images ≡ []) → IfOk result (λ rows. All HasItsType p.vars × AreOf system_kinds (system_in around p))
    → IfOk result (λ rows. (around.fired ≡ None) ⊎ IsTrue (are_typed (items_of query) rows.items))
    → IsOrMemory (answer_in around p query images) (seen result) → IfOk result (λ rows. IsAnswer around p shapes query rows.items)
answer_is around p shapes of query images (Ok rows) same fit none typed (inl batch) is = inl (record {
  images = images;
  fit = λ some. rw (reads_same of query same) at (fit batch some);
  none = none;
  vars = typed.0;
  system = typed.1;
  answers = answer_of (Ans (values_of p.vars) (system_in around p) query images) rows.items (meant_ok (answer_in around p query images) rows.items is);
})
answer_is around p shapes of query images (Ok rows) same fit none typed (inr looked) is = inr looked
answer_is around p shapes of query images (Err failure) same fit none typed looked is = tt
