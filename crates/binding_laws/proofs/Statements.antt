-- Each statement is bound to what is well formed.
use Rattle.std.proofs.lemmas.Bool.{or_parts}
use Rattle.std.proofs.Common.{◌≡◌, refl, subst, List, [], ◌∷◌, filter_map, Bool, true, false, ◌||◌, Ok, Err}
use Rattle.session_vars.specs.declared.Variable.{Variable}
use Rattle.tsql_tree.specs.declared.definition.Definition.{Definition}
use Rattle.tsql_tree.specs.declared.query.Expr.{Expr}
use Rattle.tsql_tree.specs.declared.statement.Form.{Form-F}
use Rattle.bound_tree.specs.declared.write.Bound.{Bound}
use Rattle.typed_nodes.specs.Refusals.{Outcome, after}
use Rattle.table_names.specs.Contents.{distinct_onto}
use Rattle.binder.specs.declared.made.Made.{Made}
use Rattle.binder.specs.Limits.{within_limits}
use Rattle.binder.specs.Names.{Layer, all_tables, form_of, table_names}
use Rattle.binder.specs.Statements.{bind_form, made_by, maybe_expr, names_outside, plain_made}
use Rattle.binder.specs.Tables.{create_table}
use Rattle.binder.specs.Values.{three_query}
use Rattle.query_laws.specs.Laws.{AllOf}
use Rattle.binding_laws.specs.Formed.{is_formed_bound}
use Rattle.binding_laws.specs.Laws.{BoundFormed, IsSoundDefinition}
use Rattle.binding_laws.proofs.Made.{GoodMade, select_good, test_good, values_good}
use Rattle.binding_laws.proofs.Writes.{delete_good, insert_good, update_good}

module _ (definitions : List Definition) (vars : List Variable) where
  abbrev Good : Outcome Bound → Type 0
  Good (Ok bound) = is_formed_bound definitions vars bound ≡ true
  Good (Err refusal) = Unit {0}

  three_good : (first second third : Expr) → GoodMade definitions vars (three_query definitions vars first second third)
  unfolding three_query
  three_good first second third = values_good definitions vars (first ∷ second ∷ third ∷ [])

  made_good : (form : Layer) → AllOf IsSoundDefinition definitions → GoodMade definitions vars (made_by definitions vars form)
  made_good (Form-F.Select select) sound = select_good definitions vars select
  made_good (Form-F.Insert table columns rows) sound = insert_good definitions vars table columns rows
  made_good (Form-F.Update table sets filter) sound = update_good definitions vars table sets filter sound
  made_good (Form-F.Delete table filter) sound = delete_good definitions vars table filter sound
  made_good (Form-F.CreateTable table text) sound = of_table (create_table definitions table)
    where
      of_table : (o : Outcome Bool) → GoodMade definitions vars (after o (λ beyond. Ok (plain_made beyond)))
      of_table (Ok beyond) = λ calm. refl
      of_table (Err refusal) = tt
  made_good (Form-F.If test so otherwise) sound = test_good definitions vars test
  made_good (Form-F.While test body) sound = test_good definitions vars test
  made_good (Form-F.Print text) sound = values_good definitions vars (text ∷ [])
  made_good (Form-F.RaiseError text severity state) sound = three_good text severity state
  made_good (Form-F.Return value) sound = values_good definitions vars (maybe_expr value)
  made_good (Form-F.Throw number text state) sound = three_good number text state
  made_good (Form-F.Declare declarations) sound = values_good definitions vars (filter_map (λ of. of.initial) declarations)
  made_good (Form-F.SetVariable name value) sound = values_good definitions vars (value ∷ [])
  made_good _ sound = λ calm. refl

  within_good : (made : Made) (other : Bool) → GoodMade definitions vars (Ok made) → Good (within_limits (made.beyond || other) made.bound)
  within_good made other h = by_limits (made.beyond || other) refl
    where
      by_limits : (b : Bool) → (made.beyond || other) ≡ b → Good (within_limits b made.bound)
      by_limits true e = tt
      by_limits false e = h (or_parts made.beyond other e).0

  form_good : (form : Layer) → AllOf IsSoundDefinition definitions → Good (bind_form definitions vars form)
  form_good form sound = of_tables (all_tables definitions (distinct_onto [] (table_names form)))
    where
      of_made : (o : Outcome Made) → GoodMade definitions vars o → Good (after o (λ made. within_limits (made.beyond || names_outside vars form) made.bound))
      of_made (Ok made) h = within_good made (names_outside vars form) h
      of_made (Err refusal) h = tt

      of_tables : (o : Outcome (Unit {0})) → Good (after o (λ known. after (made_by definitions vars form) (λ made. within_limits (made.beyond || names_outside vars form) made.bound)))
      of_tables (Ok known) = of_made (made_by definitions vars form) (made_good form sound)
      of_tables (Err refusal) = tt

pub bound_formed : BoundFormed
bound_formed definitions vars statement bound sound e = subst (Good definitions vars) e (form_good definitions vars (form_of statement) sound)
