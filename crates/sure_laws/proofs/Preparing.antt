-- What a write is bound to: a table whose rows are fetched, and not given; so all that it asks up to its triggers is of rows that are sure.
use Rattle.std.proofs.Common.{◌≡◌, ◌⊎◌, inl, inr, ℕ, if◌then◌else◌, List, [], ◌∷◌, Option, Some, None, Result, Ok, Err, refl, sym, ap, ◌∙◌, subst}
use Rattle.tsql_tree.specs.declared.definition.Definition.{Definition}
use Rattle.tsql_tree.specs.declared.definition.TableTree.{TableTree}
use Rattle.tsql_tree.specs.declared.statement.Statement.{Statement}
use Rattle.bound_tree.specs.declared.write.Bound.{Bound}
use Rattle.bound_tree.specs.declared.write.Bound.TheVariants as bound
use Rattle.bound_tree.specs.declared.write.BoundWrite.{BoundWrite}
use Rattle.binder.specs.Names.{form_of, looked_up}
use Rattle.session_vars.specs.declared.Variable.{Variable}
use Rattle.table_rows.specs.Definitions.{tables_of}
use Rattle.table_rows.specs.Rows.{rows_table}
use Rattle.value_types.specs.declared.table_name.TableName.{TableName}
use Rattle.step_model.specs.declared.manner.Manner.{Manner}
use Rattle.step_model.specs.Exchange.{Exchange}
use Rattle.dml_exec.specs.Planning.{table_written}
use Rattle.batch_meaning.specs.declared.failure.Failure.{Failure}
use Rattle.batch_meaning.specs.Asking.{KnownNames, ◌>>=◌, comes_to, finds_by, is_table, looks_up, with_found, with_room}
use Rattle.batch_meaning.specs.Doing.{over, reads}
use Rattle.batch_meaning.specs.Raised.{Around}
use Rattle.batch_meaning.specs.Selecting.{bound_over}
use Rattle.batch_meaning.specs.Working.{binds, given_in, known_by, prepares}
use Rattle.batch_meaning.specs.Writes.{change_bound}
use Rattle.statement_paths.proofs.Looking.{looks_read}
use Rattle.sound_laws.proofs.Targets.{bound_writes, first_in, known_so, not_read, target_of}
use Rattle.sure_laws.proofs.Sures.{Any}
use Rattle.sure_laws.proofs.Trees.{OnOk, Surely, Sures, sures_bind, sures_comes, sures_more}
use Rattle.sure_laws.proofs.Changing.{changes_sure, reads_sure}

module _ (manner : Manner) (around : Around) (statement : Statement) (table : List ℕ) (of_form : target_of (form_of statement) ≡ Some table) where
  -- nothing was found, or the rows of the table are not given
  abbrev Looked : List Definition → List Exchange → Type 0
  Looked definitions behind = (definitions ≡ []) ⊎ (given_in around.fired (rows_table table) ≡ None)

  none_looked : (known_names : KnownNames) (more : List (List ℕ)) (known : Option (Option Definition)) (before : List Exchange) → known ≡ Some None
      → Sures manner (OnOk manner Looked) before (finds_by known table >>= λ found. if is_table found then with_room (looks_up known_names (with_found [] found) more) else over (Ok []))
  none_looked known_names more None before is = absurd (let no : ◌≡◌ {A = Option (Option Definition)} None (Some None) = is in cc)
  none_looked known_names more (Some (Some definition)) before is = absurd (let no : ◌≡◌ {A = Option (Option Definition)} (Some (Some definition)) (Some None) = is in cc)
  none_looked known_names more (Some None) before is =
      sures_bind manner (λ (found : Option Definition) behind. found ≡ None) (OnOk manner Looked) before (with_room (over (Ok None))) _ (λ failure behind. tt)
      (sures_comes manner (λ (found : Option Definition) behind. found ≡ None) before (Ok None) (λ found same. let one : None ≡ found = cc in sym one)) by_found
    where
      by_found : (found : Option Definition) (behind : List Exchange) → found ≡ None → Sures manner (OnOk manner Looked) behind (if is_table found then with_room (looks_up known_names (with_found [] found) more) else over (Ok []))
      by_found None behind none = inl refl
      by_found (Some definition) behind none = absurd (let no : Some definition ≡ None = none in cc)

  names_looked : (names more : List (List ℕ)) (before : List Exchange) → names ≡ table ∷ more → known_by around statement table ≡ Some None → Sures manner (OnOk manner Looked) before (looks_up (known_by around statement) [] names)
  unfolding looks_up
  names_looked [] more before is known = absurd (let no : [] ≡ table ∷ more = is in cc)
  names_looked (name ∷ names) more before is known =
      let head : table ≡ name = cc in
      subst (λ (n : List ℕ). Sures manner (OnOk manner Looked) before (finds_by (known_by around statement n) n >>= λ found. if is_table found then with_room (looks_up (known_by around statement) (with_found [] found) names) else over (Ok []))) head
      (none_looked (known_by around statement) names (known_by around statement table) before known)

  looks_sure : (before : List Exchange) → Sures manner (OnOk manner Looked) before (looks_up (known_by around statement) [] (looked_up statement))
  looks_sure before = elim (known_so around.fired (form_of statement) table (not_read (form_of statement) table of_form)) [
    | inl nothing ↦ let first = first_in (form_of statement) table of_form in names_looked (looked_up statement) first.0 before first.1 nothing
    | inr none ↦ sures_more manner Any (OnOk manner Looked) before (looks_up (known_by around statement) [] (looked_up statement)) (by_came none)
        (reads_sure manner before (looks_up (known_by around statement) [] (looked_up statement)) (looks_read (known_by around statement) (looked_up statement) []))
  ]
    where
      by_came : given_in around.fired (rows_table table) ≡ None → (came : Result (List Definition) Failure) (behind : List Exchange) → Any came behind → OnOk manner Looked came behind
      by_came none (Ok definitions) behind any = inr none
      by_came none (Err failure) behind any = tt

  -- where a write is bound to something, its rows are not given
  abbrev Prepared : List TableTree × Bound → List Exchange → Type 0
  Prepared made behind = (shape : TableTree) (shapes : List TableTree) (write : BoundWrite) → made.0 ≡ shape ∷ shapes → made.1 ≡ bound.Write write → given_in around.fired (table_written write) ≡ None

  is_prepared : (definitions : List Definition) (vars : List Variable) (of : Bound) (behind : List Exchange) → Looked definitions behind → bound_over definitions vars statement ≡ Ok of → Prepared (tables_of definitions, of) behind
  is_prepared definitions vars of behind (inl none) binds_so shape shapes write tables is = absurd (let no : [] ≡ shape ∷ shapes = sym (ap tables_of none) ∙ tables in cc)
  is_prepared definitions vars of behind (inr none) binds_so shape shapes write tables is =
      subst (λ (t : TableName). given_in around.fired t ≡ None) (sym (bound_writes definitions vars statement table write of_form (binds_so ∙ ap Ok is))) none

  prepares_sure : (before : List Exchange) → Sures manner (OnOk manner Prepared) before (prepares around statement)
  unfolding prepares
  prepares_sure before =
      sures_bind manner Looked (OnOk manner Prepared) before (looks_up (known_by around statement) [] (looked_up statement)) _ (λ failure behind. tt) (looks_sure before) (λ definitions behind looked.
      sures_bind manner (λ (of : Bound) at. (vars : List Variable) × (bound_over definitions vars statement ≡ Ok of)) (OnOk manner Prepared) behind (reads λ p. comes_to (bound_over definitions p.vars statement)) _ (λ failure at. tt)
      (λ p. sures_comes manner (λ (of : Bound) at. (vars : List Variable) × (bound_over definitions vars statement ≡ Ok of)) behind (bound_over definitions p.vars statement) (λ of is. (p.vars, is))) (λ of at is.
      sures_comes manner Prepared at (Ok (tables_of definitions, of)) (λ made same. let one : (tables_of definitions, of) ≡ made = cc in subst (λ (m : List TableTree × Bound). Prepared m at) one (is_prepared definitions is.0 of at looked is.1))))

  by_bound : (shapes : List TableTree) (of : Bound) (behind : List Exchange) → Prepared (shapes, of) behind → Sures manner Any behind (change_bound around shapes of)
  by_bound [] of behind prepared = tt
  by_bound (shape ∷ shapes) (bound.Write write) behind prepared = changes_sure manner around shape shapes write (prepared shape shapes write refl refl) behind
  by_bound (shape ∷ shapes) (bound.Query query) behind prepared = tt
  by_bound (shape ∷ shapes) (bound.Assign query places) behind prepared = tt
  by_bound (shape ∷ shapes) bound.Plain behind prepared = tt

  pub change_surely : Surely manner (binds around statement (change_bound around))
  unfolding binds
  change_surely before = sures_bind manner Prepared Any before (prepares around statement) _ (λ failure behind. tt) (prepares_sure before) (λ made behind prepared. by_bound made.0 made.1 behind prepared)
