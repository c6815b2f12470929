-- A bound write is one of the table that its statement names first. That one is looked up, and no name of a trigger's tables.
use Rattle.std.proofs.Common.{◌≡◌, inl, inr, ℕ, not, ◌||◌, Bool, true, false, if◌then◌else◌, List, [], ◌∷◌, ◌++◌, Option, Some, None, Ok, Err, refl, sym, ap, subst, ◌∙◌}
use Rattle.std.specs.Prelude.{◌⊎◌, length, nat_eq}
use Rattle.std.specs.Cmp.Lexicographic.{bytes_decides}
use Rattle.std.specs.List.{AllByRecursion, list_all}
use Rattle.value_types.specs.declared.table_name.TableName.{TableName}
use Rattle.value_types.specs.Units.{same_units}
use Rattle.tsql_tree.specs.declared.definition.Definition.{Definition}
use Rattle.tsql_tree.specs.declared.definition.Definition.TheVariants.{Table}
use Rattle.tsql_tree.specs.declared.definition.TableTree.{TableTree}
use Rattle.tsql_tree.specs.declared.query.Test.{Test}
use Rattle.tsql_tree.specs.declared.statement.Assignment.{Assignment}
use Rattle.tsql_tree.specs.declared.statement.Form.{Form-F}
use Rattle.tsql_tree.specs.declared.statement.InsertRows.{InsertRows}
use Rattle.tsql_tree.specs.declared.statement.InsertRows.TheVariants.{Values, Query}
use Rattle.tsql_tree.specs.declared.statement.Statement.{Statement}
use Rattle.session_vars.specs.declared.Variable.{Variable}
use Rattle.bound_tree.specs.declared.write.Bound.{Bound}
use Rattle.bound_tree.specs.declared.write.Bound.TheVariants as bound
use Rattle.bound_tree.specs.declared.write.BoundWrite.{BoundWrite}
use Rattle.bound_tree.specs.declared.write.BoundRows.TheVariants as rows
use Rattle.bound_tree.specs.declared.write.BoundWrite.TheVariants as write
use Rattle.typed_nodes.specs.Refusals.{Outcome, Refusal, after}
use Rattle.table_names.specs.Contents.{distinct_onto, is_among}
use Rattle.binder.specs.declared.made.Made.{Made}
use Rattle.binder.specs.Limits.{within_limits}
use Rattle.binder.specs.Names.{Layer, all_tables, in_maybe_test, in_rows, in_sets, form_of, object_names, table_names}
use Rattle.binder.specs.Statements.{bind_form, made_by, names_outside}
use Rattle.binder.specs.Writes.{delete, delete_made, given_places, inners_onto, insert, insert_rows, insert_selected, is_repeated, is_set_twice, items_counted, rows_onto, sets_onto, target, update, update_made, values_inserted, where_of, whole_table}
use Rattle.clause_binder.specs.Bind.{query_of}
use Rattle.clause_binder.specs.Clauses.{set_aside}
use Rattle.clause_binder.specs.Operands.{items_of}
use Rattle.clause_binder.specs.Progress.{begin_at, beyond_where, plain}
use Rattle.clause_binder.specs.Scope.{columns_of, table_of}
use Rattle.table_rows.specs.Rows.{is_shape_of, rows_table, shape_of}
use Rattle.table_rows.specs.Definitions.{tables_of}
use Rattle.dml_exec.specs.Planning.{table_written}
use Rattle.dml_exec.specs.Reading.{deleted_name, inserted_name}
use Rattle.step_model.specs.Database.{Database}
use Rattle.step_model.specs.Ranges.{Rows}
use Rattle.write_laws.proofs.Planned.{shape_named}
use Rattle.write_laws.specs.Sound.{IsTableOf}
use Rattle.write_laws.proofs.Written.{of_found}
use Rattle.batch_meaning.specs.Raised.{Around, Fired}
use Rattle.batch_meaning.specs.Selecting.{bound_as, bound_over}
use Rattle.batch_meaning.specs.Working.{given_in, is_of_trigger, is_read_by, known_by, known_in, table_called}
use Rattle.sound_laws.proofs.Looked.{IsThere, tables_there}
use Rattle.sound_laws.proofs.Preparing.{IsPrepared}

-- ---- what a write is bound to

-- what is made of a statement that writes this table
abbrev Writes : List ℕ → Made → Type 0
Writes table made = (write : BoundWrite) → made.bound ≡ bound.Write write → table_written write ≡ rows_table table

write_same : (one other : BoundWrite) → bound.Write one ≡ bound.Write other → one ≡ other
write_same one other e = cc

after_ok : {A B : Type 0} (o : Outcome A) (next : A → Outcome B) (y : B) → after o next ≡ Ok y → (x : A) × (o ≡ Ok x) × (next x ≡ Ok y)
after_ok (Ok x) next y e = (x, refl, e)
after_ok (Err refusal) next y e = cc

-- of a write that is told
by_write : (table : List ℕ) (one : BoundWrite) (made other : Made) → other.bound ≡ bound.Write one → table_written one ≡ rows_table table → ◌≡◌ {A = Outcome Made} (Ok other) (Ok made) → Writes table made
by_write table one made other is of e write w =
    let same : other ≡ made = cc in
    ap table_written (write_same write one (sym w ∙ ap (λ (m : Made). m.bound) (sym same) ∙ is)) ∙ of

-- where a test holds
if_ok : (b : Bool) (outcome : Outcome Made) (refusal : Refusal) (made : Made) → (if b then outcome else Err refusal) ≡ Ok made → outcome ≡ Ok made
if_ok true outcome refusal made e = e
if_ok false outcome refusal made e = cc

module _ (definitions : List Definition) (vars : List Variable) (table : List ℕ) where
  rows_write : (places : List ℕ) (twice : Bool) (given : InsertRows) (made : Made) → insert_rows definitions vars table places twice given ≡ Ok made → Writes table made
  rows_write places twice (Values values) made e =
      let bound_rows = after_ok (rows_onto definitions vars [] values (plain []) (beyond_where twice (begin_at 0))) (λ r. Ok (values_inserted table places r.0 r.1)) made
      (if_ok (list_all (λ row. nat_eq (length row) (length places)) values) _ _ made e) in
      by_write table (write.Insert (whole_table table) places (rows.Values bound_rows.0.0 bound_rows.0.1.inner)) made (values_inserted table places bound_rows.0.0 bound_rows.0.1) refl refl bound_rows.2
  rows_write places twice (Query select) made e =
      let selected = after_ok (query_of definitions vars select) (insert_selected table places twice) made e in
      by_write table (write.Insert (whole_table table) places (rows.Query selected.0.query)) made
      (record { bound = bound.Write (write.Insert (whole_table table) places (rows.Query selected.0.query)); beyond = (selected.0.beyond || selected.0.assigns) || twice }) refl refl
      (if_ok (nat_eq (items_counted (length (items_of selected.0.query))) (items_counted (length places))) _ _ made selected.2)

  insert_writes : (columns : List (List ℕ)) (given : InsertRows) (made : Made) → insert definitions vars table columns given ≡ Ok made → Writes table made
  insert_writes columns given made e =
      let places = after_ok (given_places (columns_of (table_of table definitions)) columns) (λ places. insert_rows definitions vars table places (is_repeated columns) given) made e in
      rows_write places.0 (is_repeated columns) given made places.2

  update_writes : (sets : List Assignment) (filter : Option Test) (made : Made) → update definitions vars table sets filter ≡ Ok made → Writes table made
  update_writes sets filter made e =
      let test = after_ok (where_of definitions vars filter (plain (target definitions vars table ∷ [])) (begin_at (inners_onto definitions vars 0 sets))) _ made e in
      let set = after_ok (sets_onto definitions vars (target definitions vars table).columns [] sets (plain (target definitions vars table ∷ [])) (set_aside test.0.1)) _ made test.2 in
      by_write table (write.Update (whole_table table) set.0.0 test.0.0 ((beyond_where (is_set_twice sets) set.0.1).inner ++ test.0.1.inner)) made (update_made table set.0.0 test.0.0 test.0.1.inner (beyond_where (is_set_twice sets) set.0.1)) refl refl set.2

  delete_writes : (filter : Option Test) (made : Made) → delete definitions vars table filter ≡ Ok made → Writes table made
  delete_writes filter made e =
      let test = after_ok (where_of definitions vars filter (plain (target definitions vars table ∷ [])) (begin_at 0)) (λ test. Ok (delete_made table test.0 test.1)) made e in
      by_write table (write.Delete (whole_table table) test.0.0 test.0.1.inner) made (delete_made table test.0.0 test.0.1) refl refl test.2

-- ---- of a statement

-- the table that a form writes
abbrev pub target_of : Layer → Option (List ℕ)
target_of (Form-F.Insert table columns rows) = Some table
target_of (Form-F.Update table sets filter) = Some table
target_of (Form-F.Delete table filter) = Some table
target_of form = None

none_some : (table : List ℕ) → ◌≡◌ {A = Option (List ℕ)} None (Some table) → ⊥
none_some table e = cc

some_same : (one other : List ℕ) → Some one ≡ Some other → one ≡ other
some_same one other e = cc

made_writes : (definitions : List Definition) (vars : List Variable) (form : Layer) (table : List ℕ) → target_of form ≡ Some table → (made : Made) → made_by definitions vars form ≡ Ok made → Writes table made
made_writes definitions vars (Form-F.Insert name columns given) table of made e = subst (λ (table : List ℕ). Writes table made) (some_same name table of) (insert_writes definitions vars name columns given made e)
made_writes definitions vars (Form-F.Update name sets filter) table of made e = subst (λ (table : List ℕ). Writes table made) (some_same name table of) (update_writes definitions vars name sets filter made e)
made_writes definitions vars (Form-F.Delete name filter) table of made e = subst (λ (table : List ℕ). Writes table made) (some_same name table of) (delete_writes definitions vars name filter made e)
made_writes definitions vars _ table of made e = absurd (none_some table of)

within_ok : (b : Bool) (one of : Bound) → within_limits b one ≡ Ok of → one ≡ of
within_ok true one of e = cc
within_ok false one of e = cc

bound_ok : (outcome : Outcome Bound) (of : Bound) → bound_as outcome ≡ Ok of → outcome ≡ Ok of
bound_ok (Ok one) of e = let same : one ≡ of = cc in ap Ok same
bound_ok (Err refusal) of e = cc

pub bound_writes : (definitions : List Definition) (vars : List Variable) (statement : Statement) (table : List ℕ) (write : BoundWrite) → target_of (form_of statement) ≡ Some table → bound_over definitions vars statement ≡ Ok (bound.Write write) → table_written write ≡ rows_table table
bound_writes definitions vars statement table write of binds =
    let tables = after_ok (all_tables definitions (distinct_onto [] (table_names (form_of statement)))) _ (bound.Write write) (bound_ok (bind_form definitions vars (form_of statement)) (bound.Write write) binds) in
    let made = after_ok (made_by definitions vars (form_of statement)) (λ made. within_limits (made.beyond || names_outside vars (form_of statement)) made.bound) (bound.Write write) tables.2 in
    made_writes definitions vars (form_of statement) table of made.0 made.1 write (within_ok (made.0.beyond || names_outside vars (form_of statement)) made.0.bound (bound.Write write) made.2)

-- ---- the first name

-- names behind one leave it the first
first_stays : (name : List ℕ) (done rest : List (List ℕ)) → (more : List (List ℕ)) × (distinct_onto (name ∷ done) rest ≡ name ∷ more)
first_stays name done [] = (done, refl)
first_stays name done (next ∷ rest) = by_test (is_among next (name ∷ done)) (first_stays name done rest) (first_stays name (done ++ next ∷ []) rest)
  where
    by_test : (b : Bool) → (more : List (List ℕ)) × (distinct_onto (name ∷ done) rest ≡ name ∷ more) → (more : List (List ℕ)) × (distinct_onto (name ∷ (done ++ next ∷ [])) rest ≡ name ∷ more) → (more : List (List ℕ)) × (distinct_onto (if b then name ∷ done else (name ∷ done) ++ next ∷ []) rest ≡ name ∷ more)
    by_test true as_was longer = as_was
    by_test false as_was longer = longer

abbrev pub StartsWith : Layer → List ℕ → Type 0
StartsWith form table = (more : List (List ℕ)) × (distinct_onto [] (table_names form ++ object_names form) ≡ table ∷ more)

pub first_in : (form : Layer) (table : List ℕ) → target_of form ≡ Some table → StartsWith form table
first_in (Form-F.Insert name columns given) table of = subst (StartsWith (Form-F.Insert name columns given)) (some_same name table of) (first_stays name [] (in_rows given ++ object_names (Form-F.Insert name columns given)))
first_in (Form-F.Update name sets filter) table of = subst (StartsWith (Form-F.Update name sets filter)) (some_same name table of) (first_stays name [] ((in_sets sets ++ in_maybe_test filter) ++ object_names (Form-F.Update name sets filter)))
first_in (Form-F.Delete name filter) table of = subst (StartsWith (Form-F.Delete name filter)) (some_same name table of) (first_stays name [] (in_maybe_test filter ++ object_names (Form-F.Delete name filter)))
first_in _ table of = absurd (none_some table of)

-- ---- what is known

same_self : (name : List ℕ) → same_units name name ≡ true
same_self name = (bytes_decides name name).1 refl

-- a table is found by its own name
pub shape_itself : (shape : TableTree) → shape_of (rows_table shape.name) (shape ∷ []) ≡ Some shape
shape_itself shape = by_test (is_shape_of (rows_table shape.name) shape) (same_self shape.name)
  where
    by_test : (b : Bool) → b ≡ true → (if b then Some shape else None) ≡ Some shape
    by_test true is = refl
    by_test false is = cc

-- the table that a form writes is none that it reads of a trigger
pub not_read : (form : Layer) (table : List ℕ) → target_of form ≡ Some table → is_read_by form table ≡ false
not_read (Form-F.Insert name columns given) table of = let same : name ≡ table = some_same name table of in ap not (ap (λ (n : List ℕ). same_units n table) same ∙ same_self table)
not_read (Form-F.Update name sets filter) table of = let same : name ≡ table = some_same name table of in ap not (ap (λ (n : List ℕ). same_units n table) same ∙ same_self table)
not_read (Form-F.Delete name filter) table of = let same : name ≡ table = some_same name table of in ap not (ap (λ (n : List ℕ). same_units n table) same ∙ same_self table)
not_read _ table of = absurd (none_some table of)

-- what is known of it is that it stands for nothing, and then its rows are given; else its rows are not given
abbrev pub KnownSo : Option Fired → Layer → List ℕ → Type 0
KnownSo fired form table = (known_in fired form table ≡ Some None) ⊎ (given_in fired (rows_table table) ≡ None)

pub known_so : (fired : Option Fired) (form : Layer) (table : List ℕ) → is_read_by form table ≡ false → KnownSo fired form table
known_so None form table other = inr refl
known_so (Some fired) form table other = by_names (same_units table inserted_name) (same_units table deleted_name)
  where
    Found : Bool → Bool → Option (Option Definition)
    Found b c = if b || c then Some (if is_read_by form table then Some (table_called table fired) else None) else None

    Rowed : Bool → Bool → Option Rows
    Rowed b c = if b then Some fired.inserted else if c then Some fired.deleted else None

    nothing : Found true true ≡ Some None
    nothing = ap (λ (b : Bool). Some (if b then Some (table_called table fired) else None)) other

    by_names : (b c : Bool) → (Found b c ≡ Some None) ⊎ (Rowed b c ≡ None)
    by_names true c = inl nothing
    by_names false true = inl nothing
    by_names false false = inr refl

-- what a name is known to stand for is a table of that name, which the form reads
pub known_name : (fired : Option Fired) (form : Layer) (name : List ℕ) (definition : Definition) → known_in fired form name ≡ Some (Some definition) → (is_read_by form name ≡ true) × ((of : Fired) × (definition ≡ table_called name of))
known_name None form name definition is = absurd (let no : ◌≡◌ {A = Option (Option Definition)} None (Some (Some definition)) = is in cc)
known_name (Some fired) form name definition is = by_tests (is_of_trigger name) (is_read_by form name) refl is
  where
    by_tests : (b c : Bool) → is_read_by form name ≡ c → (if b then Some (if c then Some (table_called name fired) else None) else None) ≡ Some (Some definition) → (is_read_by form name ≡ true) × ((of : Fired) × (definition ≡ table_called name of))
    by_tests true true reads e = let same : table_called name fired ≡ definition = cc in (reads, (fired, sym same))
    by_tests true false reads e = cc
    by_tests false c reads e = cc

-- ---- the table that is written

-- it is defined, and its rows are not given
abbrev pub IsTarget : Around → List TableTree → BoundWrite → Database → Type 0
IsTarget around named write db = (shape : TableTree) → shape_of (table_written write) named ≡ Some shape → IsTableOf db shape × (given_in around.fired (table_written write) ≡ None)

object_same : (one other : List ℕ) → rows_table one ≡ rows_table other → one ≡ other
object_same one other e = ap (λ (t : TableName). t.object) e

pub is_target : (around : Around) (statement : Statement) (table : List ℕ) (named : List TableTree) (write : BoundWrite) (db : Database) → target_of (form_of statement) ≡ Some table → IsPrepared around statement named (bound.Write write) db → IsTarget around named write db
is_target around statement table named write db of prepared shape found =
    (by_there there, subst (λ (t : TableName). given_in around.fired t ≡ None) (sym written) given)
  where
    written : table_written write ≡ rows_table table
    written = bound_writes prepared.definitions prepared.vars statement table write of prepared.binds

    known : shape_of (rows_table table) named ≡ Some shape
    known = ap (λ (t : TableName). shape_of t named) (sym written) ∙ found

    named_so : table ≡ shape.name
    named_so = object_same table shape.name (shape_named (rows_table table) named shape known)

    there : IsThere db (known_by around statement) (Table shape)
    there = of_found (λ shape. IsThere db (known_by around statement) (Table shape)) (rows_table table) named shape known
        (subst (AllByRecursion (λ shape. IsThere db (known_by around statement) (Table shape))) (sym prepared.tables) (tables_there db (known_by around statement) prepared.definitions prepared.there))

    -- it is none that is read of a trigger
    by_there : IsThere db (known_by around statement) (Table shape) → IsTableOf db shape
    by_there (inl defined) = defined
    by_there (inr (name, is)) =
        let (reads, (of_fired, same)) = known_name around.fired (form_of statement) name (Table shape) is in
        let called : shape.name ≡ name = table_name shape name of_fired same in
        absurd (let no : false ≡ true = sym (not_read (form_of statement) table of) ∙ ap (is_read_by (form_of statement)) (named_so ∙ called) ∙ reads in cc)
      where
        table_name : (shape : TableTree) (name : List ℕ) (of_fired : Fired) → Table shape ≡ table_called name of_fired → shape.name ≡ name
        table_name shape name of_fired e = cc

    -- something was found, so its name was looked up
    given : given_in around.fired (rows_table table) ≡ None
    given = elim (known_so around.fired (form_of statement) table (not_read (form_of statement) table of)) [
      | inl nothing ↦
          let first = first_in (form_of statement) table of in
          let none : prepared.definitions ≡ [] = prepared.first table first.0 first.1 nothing in
          absurd (let no : None ≡ Some shape = sym (ap (shape_of (rows_table table)) (prepared.tables ∙ ap tables_of none)) ∙ known in cc)
      | inr none ↦ none
    ]
