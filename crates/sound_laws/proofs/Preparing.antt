-- What a statement has looked up, and is bound to, is so in the database at its transaction's place.
use Rattle.std.proofs.Common.{◌≡◌, inl, inr, ℕ, not, Bool, true, false, List, [], ◌∷◌, ◌++◌, Option, Some, None, Result, Ok, refl, sym, ap, subst, ◌∙◌, append_assoc}
use Rattle.std.specs.List.{AllByRecursion}
use Rattle.tsql_tree.specs.declared.definition.Definition.{Definition}
use Rattle.tsql_tree.specs.declared.definition.TableTree.{TableTree}
use Rattle.tsql_tree.specs.declared.statement.Statement.{Statement}
use Rattle.session_vars.specs.declared.Variable.{Variable}
use Rattle.bound_tree.specs.declared.write.Bound.{Bound}
use Rattle.binder.specs.Names.{looked_up}
use Rattle.table_rows.specs.Definitions.{is_objects, tables_of}
use Rattle.step_model.specs.declared.manner.Manner.{Manner}
use Rattle.step_model.specs.Database.{Database}
use Rattle.step_model.specs.Exchange.{Exchange}
use Rattle.step_model.specs.Log.{Commit as Logged}
use Rattle.write_laws.specs.Reads.{at_place}
use Rattle.write_laws.proofs.Parts.{answers}
use Rattle.batch_meaning.specs.declared.failure.Failure.{Failure}
use Rattle.batch_meaning.specs.Asking.{KnownNames, comes_to, finds_by, is_table, looks_up, with_found, ◌>>=◌}
use Rattle.batch_meaning.specs.Doing.{Doing, reads, Held}
use Rattle.batch_meaning.specs.Progress.{SessionProgress}
use Rattle.batch_meaning.specs.Selecting.{bound_over}
use Rattle.batch_meaning.specs.Raised.{Around}
use Rattle.batch_meaning.specs.Working.{asks_any, asks_first, binds, known_by, prepares}
use Rattle.statement_paths.specs.Paths.{AreLookedUp, IsFoundBy, IsLookedUp}
use Rattle.statement_paths.proofs.Apart.{bind_apart, comes_apart}
use Rattle.statement_paths.proofs.Looking.{finds_apart, finds_read, looks_apart, looks_read, ok_same}
use Rattle.statement_paths.proofs.Only.{IsTouch, only_bind, only_comes}
use Rattle.statement_paths.proofs.Still.{Reads}
use Rattle.statement_paths.specs.Asked.{IsFetch}
use Rattle.sound_laws.specs.Stands.{Intact, Brings, Stands}
use Rattle.sound_laws.specs.Tied.{Tied}
use Rattle.sound_laws.proofs.Here.{hold_fetches}
use Rattle.sound_laws.proofs.Bringing.{brings_mono}
use Rattle.write_laws.proofs.Changes.{all_both}
use Rattle.sound_laws.proofs.Looked.{Answered, IsDefinedIf, IsKnownAs, IsThere, by_holds, looked_holds, looked_there, name_defined}
use Rattle.sound_laws.proofs.Trees.{StandsWith, front_place, reads_bind}

-- The tables are those among definitions of the database, or that names are known to stand for, over which the statement is bound, with some
-- variables.
pub record IsPrepared (around : Around) (statement : Statement) (shapes : List TableTree) (of : Bound) (db : Database) : Type 0 where
  pub definitions : List Definition
  pub vars : List Variable
  pub tables : shapes ≡ tables_of definitions
  pub binds : bound_over definitions vars statement ≡ Ok of
  pub there : AllByRecursion (IsThere db (known_by around statement)) definitions
  -- where nothing is asked for a name, nothing else was found
  pub none : asks_any (known_by around statement) (looked_up statement) ≡ false → AllByRecursion (IsKnownAs (known_by around statement)) definitions
  -- where the first name stands for nothing, nothing was found
  pub first : (name : List ℕ) (names : List (List ℕ)) → looked_up statement ≡ name ∷ names → known_by around statement name ≡ Some None → definitions ≡ []

abbrev Bind : List Definition → Statement → Doing (Result Bound Failure)
Bind definitions statement = reads λ p. comes_to (bound_over definitions p.vars statement)

module _ (manner : Manner) (known_names : KnownNames) where
  abbrev AllKnown : List Definition → Type 0
  AllKnown definitions = AllByRecursion (IsKnownAs known_names) definitions

  -- where nothing is asked
  none_found : (names : List (List ℕ)) (so_far definitions : List Definition) (exchanges : List Exchange) → AreLookedUp manner known_names so_far names exchanges definitions → asks_any known_names names ≡ false → AllKnown so_far → AllKnown definitions
  none_found [] so_far definitions exchanges looked none all = subst AllKnown (sym looked.1) all
  none_found (name ∷ names) so_far definitions exchanges (found, first, later, parts, looked, goes) none all =
      by_known (λ more on asks known. none_found names more definitions later on asks known) (known_names name) refl looked none
    where
      ends : found ≡ None → AllKnown definitions
      ends nothing = elim goes [
        | inl on ↦ absurd (let no : false ≡ true = sym (ap is_table nothing) ∙ on.0 in cc)
        | inr over ↦ subst AllKnown (sym over.2) all
      ]

      by_objects : (b : Bool) → not b ≡ false → IsLookedUp manner b name first found → AllKnown definitions
      by_objects true asks is = ends is.1
      by_objects false asks is = absurd (let no : true ≡ false = asks in cc)

      by_known : ((more : List Definition) → AreLookedUp manner known_names more names later definitions → asks_any known_names names ≡ false → AllKnown more → AllKnown definitions) → (known : Option (Option Definition)) → known_names name ≡ known → IsFoundBy manner known name first found → asks_first known name (asks_any known_names names) ≡ false → AllKnown definitions
      by_known rest None same is asks = by_objects (is_objects name) asks is
      by_known rest (Some None) same is asks = ends is.1
      by_known rest (Some (Some definition)) same is asks = elim goes [
        | inl on ↦ rest (with_found so_far found) on.1 asks
            (subst (λ (found : Option Definition). AllKnown (with_found so_far found)) (sym is.1) (all_both (IsKnownAs known_names) so_far (definition ∷ []) all ((name, same), tt)))
        | inr over ↦ subst AllKnown (sym over.2) all
      ]

  -- where the first name stands for nothing
  first_none : (names : List (List ℕ)) (definitions : List Definition) (exchanges : List Exchange) → AreLookedUp manner known_names [] names exchanges definitions
      → (name : List ℕ) (more : List (List ℕ)) → names ≡ name ∷ more → known_names name ≡ Some None → definitions ≡ []
  first_none [] definitions exchanges looked name more same known = looked.1
  first_none (first ∷ names) definitions exchanges (found, front, later, parts, looked, goes) name more same known =
      let head : first ≡ name = cc in
      let nothing : found ≡ None = (subst (λ (known : Option (Option Definition)). IsFoundBy manner known first front found) (ap known_names head ∙ known) looked).1 in
      elim goes [
        | inl on ↦ absurd (let no : false ≡ true = sym (ap is_table nothing) ∙ on.0 in cc)
        | inr over ↦ over.2
      ]

pub prepares_read : (around : Around) (statement : Statement) → Reads (prepares around statement)
unfolding prepares
prepares_read around statement =
    only_bind IsTouch IsFetch (looks_up (known_by around statement) [] (looked_up statement)) (λ definitions. Bind definitions statement >>= λ of. comes_to (Ok (tables_of definitions, of))) (looks_read (known_by around statement) (looked_up statement) [])
    (λ definitions. only_bind IsTouch IsFetch (Bind definitions statement) (λ of. comes_to (Ok (tables_of definitions, of))) (λ p. only_comes IsTouch IsFetch (bound_over definitions p.vars statement))
    (λ of. only_comes IsTouch IsFetch (Ok (tables_of definitions, of))))

module _ (session : ℕ) (begin log : List Logged) (mine : List Exchange) (tied : Tied session begin log mine) where
  prepared : (around : Around) (statement : Statement) (before part later : List Exchange) (p new : SessionProgress) (made : List TableTree × Bound) → mine ≡ before ++ (part ++ later) → Held (prepares around statement) p part (Ok made) new
      → Intact (at_place log before (part ++ later)) → IsPrepared around statement made.0 made.1 (at_place log before (part ++ later))
  unfolding prepares Held
  prepared around statement before part later p new made is held intact =
      let known_names : KnownNames = known_by around statement in
      let (front, back, definitions, mid, parts, looked, rest) = bind_apart (looks_up known_names [] (looked_up statement)) (λ definitions. Bind definitions statement >>= λ of. comes_to (Ok (tables_of definitions, of))) p new part made held in
      let (first, last, of, next, split, bound, ends) = bind_apart (Bind definitions statement) (λ of. comes_to (Ok (tables_of definitions, of))) mid new back made rest in
      let names = looks_apart p.settings.manner known_names (looked_up statement) [] p mid front definitions refl looked in
      let holds = looked_holds p.settings.manner known_names (looked_up statement) [] definitions front names in
      let all : part ++ later ≡ front ++ (back ++ later) = ap (λ (xs : List Exchange). xs ++ later) parts ∙ append_assoc front back later in
      let there : at_place log before (part ++ later) ≡ at_place log before (back ++ later) = ap (at_place log before) all ∙ front_place log before front (back ++ later) (hold_fetches front holds) in
      let answered : Answered (at_place log before (part ++ later)) front = subst (λ (db : Database). Answered db front) (sym there) (answers log mine before front (back ++ later) (is ∙ ap (λ (xs : List Exchange). before ++ xs) all) tied.ranges holds) in
      let came : (tables_of definitions, of) ≡ made = ok_same {E = Failure} (tables_of definitions, of) made (comes_apart (Ok (tables_of definitions, of)) next new last made ends).1 in
      subst (λ (m : List TableTree × Bound). IsPrepared around statement m.0 m.1 (at_place log before (part ++ later))) came (record {
        definitions = definitions;
        vars = mid.vars;
        tables = refl;
        binds = (comes_apart (bound_over definitions mid.vars statement) mid next first of bound).1;
        none = λ asks. none_found p.settings.manner known_names (looked_up statement) [] definitions front names asks tt;
        first = first_none p.settings.manner known_names (looked_up statement) definitions front names;
        there = looked_there (at_place log before (part ++ later)) intact.firm known_names p.settings.manner (looked_up statement) [] definitions front names answered tt;
      })

  -- what goes on by what a statement is bound to may count on that
  pub binds_bring : {A : Type 0} (around : Around) (statement : Statement) (go : List TableTree → Bound → Doing (Result A Failure))
      → ((shapes : List TableTree) (of : Bound) → Brings log mine (StandsWith log (IsPrepared around statement shapes of)) (go shapes of) (λ (a : Result A Failure). Stands log)) → Brings log mine (Stands log) (binds around statement go) (λ (a : Result A Failure). Stands log)
  unfolding binds
  binds_bring {A} around statement go brings =
      brings_mono log mine (StandsWith log (λ db. Unit {0})) (Stands log) (prepares around statement >>= λ made. go made.0 made.1) (λ (a : Result A Failure). Stands log) (λ (a : Result A Failure). Stands log) (λ before later is stands. (stands, λ intact. tt)) (λ a before later is stands. stands)
      (reads_bind session begin log mine tied (λ db. Unit {0}) (prepares around statement) (λ made. IsPrepared around statement made.0 made.1) (λ made. go made.0 made.1) (prepares_read around statement)
      (λ before part later p new made is held intact none. prepared around statement before part later p new made is held intact) (λ made. brings made.0 made.1))

  -- so may what goes on by what one name was found to be
  pub finds_bring : {A : Type 0} (F : Database → Type 0) (known : Option (Option Definition)) (name : List ℕ) → ((definition : Definition) → known ≡ Some (Some definition) → ⊥) → (go : Option Definition → Doing (Result A Failure))
      → ((found : Option Definition) → Brings log mine (StandsWith log (λ db. F db × IsDefinedIf db found)) (go found) (λ (a : Result A Failure). Stands log)) → Brings log mine (StandsWith log F) (finds_by known name >>= go) (λ (a : Result A Failure). Stands log)
  finds_bring F known name none go on = reads_bind session begin log mine tied F (finds_by known name) (λ found db. F db × IsDefinedIf db found) go (finds_read known name) found_so on
    where
      found_so : (before part later : List Exchange) (p new : SessionProgress) (found : Option Definition) → mine ≡ before ++ (part ++ later) → Held (finds_by known name) p part (Ok found) new → Intact (at_place log before (part ++ later)) → F (at_place log before (part ++ later))
          → F (at_place log before (part ++ later)) × IsDefinedIf (at_place log before (part ++ later)) found
      found_so before part later p new found is held intact fact =
          let by = finds_apart p.settings.manner known name p new part found refl held in
          let holds = by_holds p.settings.manner known name part found by in
          let there : at_place log before (part ++ later) ≡ at_place log before later = front_place log before part later (hold_fetches part holds) in
          let answered : Answered (at_place log before (part ++ later)) part = subst (λ (db : Database). Answered db part) (sym there) (answers log mine before part later is tied.ranges holds) in
          (fact, name_defined (at_place log before (part ++ later)) intact.firm p.settings.manner name known part found none by answered)
