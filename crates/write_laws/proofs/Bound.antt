-- What is known of a table whose CREATE TABLE is bound.
use Rattle.std.proofs.Common.{◌≡◌, refl, sym, ap, ◌∙◌, subst, ◌⊎◌, inl, inr, ℕ, suc, ◌+◌, ◌≤◌, ◌<◌, Bool, true, false, not, ◌||◌, cond, if◌then◌else◌, nat_lt, List, [], ◌∷◌, ◌++◌, length, map, filter_map, Option, Some, None, IsSome, is_some, Ok, Err, arith}
use Rattle.std.proofs.lemmas.Bool.{and_parts, ltb-false, lt-ltb, le-leb}
use Rattle.std.specs.List.{AllByRecursion, cons_option, list_any, position_or_len}
use Rattle.value_types.specs.Units.{same_units}
use Rattle.tsql_tree.specs.declared.definition.ColumnTree.{ColumnTree}
use Rattle.tsql_tree.specs.declared.definition.Definition.{Definition}
use Rattle.tsql_tree.specs.declared.definition.Definition.TheVariants.{Table, Procedure, Trigger}
use Rattle.tsql_tree.specs.declared.definition.ForeignTree.{ForeignTree}
use Rattle.tsql_tree.specs.declared.definition.KeyTree.{KeyTree}
use Rattle.tsql_tree.specs.declared.definition.TableTree.{TableTree}
use Rattle.tsql_tree.specs.declared.statement.Form.{Form-F}
use Rattle.session_vars.specs.declared.Variable.{Variable}
use Rattle.bound_tree.specs.declared.expr.BoundTest.{BoundTest}
use Rattle.bound_tree.specs.declared.write.Bound.{Bound}
use Rattle.typed_nodes.specs.Refusals.{Outcome, after}
use Rattle.table_names.specs.Contents.{all_of, distinct_onto, is_among}
use Rattle.clause_binder.specs.declared.progress.Progress.{Progress}
use Rattle.tsql_tree.specs.Places.{key_places, nameable, place_in}
use Rattle.tsql_tree.specs.Places as scope
use Rattle.clause_binder.specs.Scope.{as_table, columns_of, invalid_column, invalid_object, max_columns, or_first, table_of}
use Rattle.binder.specs.declared.made.Made.{Made}
use Rattle.binder.specs.Limits.{is_beyond, within_limits}
use Rattle.binder.specs.Names.{all_tables, in_foreign, table_names}
use Rattle.binder.specs.Statements.{bind, bind_form, made_by, names_outside, plain_made}
use Rattle.binder.specs.Tables.{all_columns, all_foreigns, all_keys, are_odd_columns, are_odd_keys, are_odd_names, checks_of, constraint_names, create_table, first_columns, foreign_columns, has_column, is_key, is_odd_foreign, is_odd_table, key_columns, kind_named, kinds_agree, parent_of, refers_to, same_found}
use Rattle.step_model.specs.Database.{Database}
use Rattle.table_rows.specs.Definitions.{defined_name}
use Rattle.table_rows.specs.Rows.{places_of}
use Rattle.constraint_check.proofs.Behind.{name_is}
use Rattle.constraint_check.proofs.Lists.{all_left, all_right, all_two, among_any, among_both, from_among}
use Rattle.batch_meaning.specs.Selecting.{bound_as}
use Rattle.write_laws.specs.Sound.{HasParentTable, IsDefined, IsTableOf, RefersTo, Firm}
use Rattle.write_laws.specs.Plans.{BoundStands}
use Rattle.write_laws.proofs.Dropped.{none_any}

-- ---- outcomes and tests

after_ok : {A B : Type 0} (o : Outcome A) (next : A → Outcome B) (y : B) → after o next ≡ Ok y → (x : A) × (o ≡ Ok x) × (next x ≡ Ok y)
after_ok (Ok x) next y e = (x, refl, e)
after_ok (Err refusal) next y e = cc

or_false : (a b : Bool) → (a || b) ≡ false → (a ≡ false) × (b ≡ false)
or_false true b e = cc
or_false false b e = (refl, e)

not_false : (b : Bool) → not b ≡ false → b ≡ true
not_false true e = refl
not_false false e = cc

within_ok : {A : Type 0} (b : Bool) (a of : A) → within_limits b a ≡ Ok of → b ≡ false
within_ok true a of e = cc
within_ok false a of e = refl

within_is : {A : Type 0} (b : Bool) (a : A) → b ≡ false → within_limits b a ≡ Ok a
within_is true a e = cc
within_is false a e = refl

abbrev whole : Bool → Outcome Bool
whole a = Ok a

ok_is : (a b : Bool) → whole a ≡ Ok b → a ≡ b
ok_is a b e = cc

-- ---- places of columns

first_within : {A : Type 0} (p : A → Bool) (xs : List A) → list_any p xs ≡ true → position_or_len p xs < length xs
first_within p [] any = cc
first_within p (x ∷ xs) any = by_test (p x) any (first_within p xs)
  where
    by_test : (b : Bool) → (b || list_any p xs) ≡ true → (list_any p xs ≡ true → position_or_len p xs < length xs) → cond (not b) (1 + position_or_len p xs) 0 < suc (length xs)
    by_test true any rest = omega arith
    by_test false any rest = let below = rest any in omega (arith, below)

abbrev Few : List ColumnTree → Type 0
Few columns = length columns ≤ max_columns

abbrev Has : List ColumnTree → List ℕ → Type 0
Has columns name = has_column columns name ≡ true

some_place : (place : ℕ) → place ≤ 64 → IsSome (nameable (Some place))
some_place place low = subst (λ (b : Bool). IsSome (if b then Some place else None)) (sym (le-leb place scope.max_place (omega (arith, low)))) refl

-- a column that is there has a place
place_known : (columns : List ColumnTree) (name : List ℕ) → Few columns → Has columns name → IsSome (place_in columns name)
place_known columns name few has =
    let test : ColumnTree → Bool = λ column. same_units name column.name in
    let below : position_or_len test columns < length columns = first_within test columns has in
    subst (λ (b : Bool). IsSome (nameable (cond b (Some (position_or_len test columns)) None))) (sym (lt-ltb (position_or_len test columns) (length columns) below))
    (some_place (position_or_len test columns) (omega (arith, below, few)))

places_long : (columns : List ColumnTree) (names : List (List ℕ)) → Few columns → AllByRecursion (Has columns) names → length (filter_map (place_in columns) names) ≡ length names
places_long columns [] few all = refl
places_long columns (name ∷ names) few all = by_place (place_in columns name) (place_known columns name few all.0) (places_long columns names few all.1)
  where
    by_place : (o : Option ℕ) → IsSome o → length (filter_map (place_in columns) names) ≡ length names → length (cons_option o (filter_map (place_in columns) names)) ≡ suc (length names)
    by_place None some rest = let both : false ≡ true = some in cc
    by_place (Some place) some rest = ap suc rest

key_long : (columns : List ColumnTree) (keys : List KeyTree) → Few columns → AllByRecursion (Has columns) (first_columns keys) → length (scope.places_of columns keys) ≡ length (first_columns keys)
key_long columns [] few all = refl
key_long columns (key ∷ rest) few all = places_long columns key.columns few all

-- ---- columns that are named

columns_known : (columns : List ColumnTree) (names : List (List ℕ)) (x : Unit {0}) → all_columns columns names ≡ Ok x → AllByRecursion (Has columns) names
columns_known columns [] x e = tt
columns_known columns (name ∷ names) x e = by_test (has_column columns name) refl e (columns_known columns names x)
  where
    by_test : (b : Bool) → has_column columns name ≡ b → (if b then all_columns columns names else Err (invalid_column, name)) ≡ Ok x → (all_columns columns names ≡ Ok x → AllByRecursion (Has columns) names) → Has columns name × AllByRecursion (Has columns) names
    by_test true has e rest = (has, rest e)
    by_test false lacks e rest = cc

some_kind : (columns : List ColumnTree) (name : List ℕ) → IsSome (kind_named columns name) → Has columns name
some_kind [] name some = let both : false ≡ true = some in cc
some_kind (column ∷ rest) name some = by_test (same_units name column.name) some (some_kind rest name)
  where
    by_test : (b : Bool) → IsSome (if b then Some column.kind else kind_named rest name) → (IsSome (kind_named rest name) → Has rest name) → (b || has_column rest name) ≡ true
    by_test true some further = refl
    by_test false some further = further some

found_same : (a b : Option _) → same_found a b ≡ true → IsSome b
found_same None b e = cc
found_same (Some a) None e = cc
found_same (Some a) (Some b) e = refl

agree_parts : (columns others : List ColumnTree) (names key : List (List ℕ)) → kinds_agree columns names others key ≡ true → (length names ≡ length key) × AllByRecursion (Has others) key
agree_parts columns others [] [] e = (refl, tt)
agree_parts columns others [] (b ∷ key) e = cc
agree_parts columns others (a ∷ names) [] e = cc
agree_parts columns others (a ∷ names) (b ∷ key) e =
    let parts = and_parts (same_found (kind_named columns a) (kind_named others b)) (kinds_agree columns names others key) e in
    let rest = agree_parts columns others names key parts.1 in
    (ap suc rest.0, (some_kind others b (found_same (kind_named columns a) (kind_named others b) parts.0), rest.1))

-- a FOREIGN KEY has as many columns as the key that it refers to
refers_long : (table parent : TableTree) (foreign : ForeignTree) → Few table.columns → Few parent.columns → AllByRecursion (Has table.columns) foreign.columns → refers_to (Some parent) table foreign ≡ true
    → length (places_of table foreign.columns) ≡ length (key_places (Some parent))
refers_long table parent foreign few parent_few known refers =
    let parts = and_parts (is_key foreign.parent_columns (key_columns (Some parent))) (kinds_agree table.columns foreign.columns parent.columns (first_columns parent.key)) refers in
    let agree = agree_parts table.columns parent.columns foreign.columns (first_columns parent.key) parts.1 in
    places_long table.columns foreign.columns few known ∙ agree.0 ∙ sym (key_long parent.columns parent.key parent_few agree.1)

foreigns_known : (definitions : List Definition) (table : TableTree) (foreigns : List ForeignTree) (x : Unit {0}) → all_foreigns definitions table foreigns ≡ Ok x → AllByRecursion (λ foreign. AllByRecursion (Has table.columns) foreign.columns) foreigns
foreigns_known definitions table [] x e = tt
foreigns_known definitions table (foreign ∷ rest) x e =
    let first = after_ok (foreign_columns definitions table foreign) (λ known. all_foreigns definitions table rest) x e in
    let own = after_ok (all_columns table.columns foreign.columns) (λ known. all_columns (columns_of (parent_of definitions table foreign)) foreign.parent_columns) first.0 first.1 in
    (columns_known table.columns foreign.columns own.0 own.1, foreigns_known definitions table rest x first.2)

-- ---- tables that are named

module _ (definitions : List Definition) where
  abbrev Known : List ℕ → Type 0
  Known name = IsSome (table_of name definitions)

  tables_known : (names : List (List ℕ)) (x : Unit {0}) → all_tables definitions names ≡ Ok x → AllByRecursion Known names
  tables_known [] x e = tt
  tables_known (name ∷ names) x e = by_test (is_some (table_of name definitions)) refl e (tables_known names x)
    where
      by_test : (b : Bool) → is_some (table_of name definitions) ≡ b → (if b then all_tables definitions names else Err (invalid_object, name)) ≡ Ok x → (all_tables definitions names ≡ Ok x → AllByRecursion Known names) → Known name × AllByRecursion Known names
      by_test true is e rest = (is, rest e)
      by_test false is e rest = cc

  distinct_known : (done names : List (List ℕ)) → AllByRecursion Known (distinct_onto done names) → AllByRecursion Known done × AllByRecursion Known names
  distinct_known done [] all = (all, tt)
  distinct_known done (name ∷ names) all = by_test (is_among name done) refl all (λ done. distinct_known done names)
    where
      by_test : (b : Bool) → is_among name done ≡ b → AllByRecursion Known (distinct_onto (if b then done else done ++ name ∷ []) names)
          → ((done : List (List ℕ)) → AllByRecursion Known (distinct_onto done names) → AllByRecursion Known done × AllByRecursion Known names) → AllByRecursion Known done × (Known name × AllByRecursion Known names)
      by_test true is all further =
          let rest = further done all in (
            rest.0,
            (
              from_among (λ other. Known other × (same_units name other ≡ true)) (Known name) (λ other h. subst Known (sym (name_is name other h.1)) h.0) done
                  (among_both Known (λ other. same_units name other ≡ true) done rest.0 (among_any (same_units name) done is)),
              rest.1,
            ),
          )
      by_test false is all further =
          let rest = further (done ++ name ∷ []) all in
          (all_left Known done (name ∷ []) rest.0, ((all_right Known done (name ∷ []) rest.0).0, rest.1))

  parents_known : (name : List ℕ) (foreigns : List ForeignTree) → AllByRecursion Known (all_of (map (in_foreign name) foreigns)) → AllByRecursion (λ foreign. AllByRecursion Known (in_foreign name foreign)) foreigns
  parents_known name [] all = tt
  parents_known name (foreign ∷ rest) all =
      (all_left Known (in_foreign name foreign) (all_of (map (in_foreign name) rest)) all, parents_known name rest (all_right Known (in_foreign name foreign) (all_of (map (in_foreign name) rest)) all))

-- a table that is found among definitions is defined
found_is : (db : Database) (name : List ℕ) (definitions : List Definition) (parent : TableTree) → AllByRecursion (λ definition. IsDefined db (defined_name definition) definition) definitions
    → table_of name definitions ≡ Some parent → IsTableOf db parent × (parent.name ≡ name)
found_is db name [] parent all e = cc
found_is db name (Procedure of ∷ rest) parent all e = found_is db name rest parent all.1 e
found_is db name (Trigger of ∷ rest) parent all e = found_is db name rest parent all.1 e
found_is db name (Table of ∷ rest) parent all e = by_test (same_units name of.name) refl e (found_is db name rest parent all.1)
  where
    by_test : (b : Bool) → same_units name of.name ≡ b → or_first (if b then Some of else None) (table_of name rest) ≡ Some parent → (table_of name rest ≡ Some parent → IsTableOf db parent × (parent.name ≡ name)) → IsTableOf db parent × (parent.name ≡ name)
    by_test true is e further =
        let same : of ≡ parent = cc in
        subst (λ (t : TableTree). IsTableOf db t × (t.name ≡ name)) same (all.0, sym (name_is name of.name is))
    by_test false apart e further = further e

-- ---- one FOREIGN KEY

module _ (db : Database) (definitions : List Definition) (table : TableTree) (firm : Firm db) (all : AllByRecursion (λ definition. IsDefined db (defined_name definition) definition) definitions) (few : Few table.columns) where
  abbrev Refers : ForeignTree → Type 0
  Refers foreign = RefersTo table foreign table ⊎ HasParentTable db table foreign

  outer : (foreign : ForeignTree) → AllByRecursion (Has table.columns) foreign.columns → Known definitions foreign.parent → refers_to (table_of foreign.parent definitions) table foreign ≡ true → Refers foreign
  outer foreign known there refers = by_parent (table_of foreign.parent definitions) refl there refers
    where
      by_parent : (o : Option TableTree) → table_of foreign.parent definitions ≡ o → IsSome o → refers_to o table foreign ≡ true → Refers foreign
      by_parent None is some refers = let both : false ≡ true = some in cc
      by_parent (Some parent) is some refers =
          let found = found_is db foreign.parent definitions parent all is in
          inr (parent, found.0, (found.1, refers_long table parent foreign few (firm.few parent found.0) known refers))

  one : (foreign : ForeignTree) → AllByRecursion (Has table.columns) foreign.columns × AllByRecursion (Known definitions) (in_foreign table.name foreign) → is_odd_foreign definitions table foreign ≡ false → Refers foreign
  one foreign known sane =
      let refers : refers_to (parent_of definitions table foreign) table foreign ≡ true = not_false _ (or_false (not (refers_to (parent_of definitions table foreign) table foreign)) _ sane).0 in
      by_test (same_units foreign.parent table.name) refl known.1 refers
    where
      by_test : (b : Bool) → same_units foreign.parent table.name ≡ b → AllByRecursion (Known definitions) (if b then [] else foreign.parent ∷ [])
          → refers_to (if b then Some table else table_of foreign.parent definitions) table foreign ≡ true → Refers foreign
      by_test true is there refers = inl (sym (name_is foreign.parent table.name is), refers_long table table foreign few few known.0 refers)
      by_test false apart there refers = outer foreign known.0 there.0 refers

-- ---- the statement

-- what is known of a table that CREATE TABLE does not refuse, which says whether something is beyond a limit
abbrev IsMade : List Definition → TableTree → Bool → Type 0
IsMade definitions table beyond = (checks : List BoundTest × Progress) × (x : Unit {0}) × (checks_of table ≡ Ok checks) × (all_foreigns definitions table table.foreigns ≡ Ok x)
    × ((is_beyond checks.1 || is_odd_table definitions table) ≡ beyond)

made_table : (definitions : List Definition) (table : TableTree) (beyond : Bool) → create_table definitions table ≡ Ok beyond → IsMade definitions table beyond
made_table definitions table beyond e =
    let keys = after_ok (all_keys table.columns table.key) _ beyond e in
    let uniques = after_ok (all_keys table.columns table.uniques) _ beyond keys.2 in
    let checks = after_ok (checks_of table) _ beyond uniques.2 in
    let foreigns = after_ok (all_foreigns definitions table table.foreigns) _ beyond checks.2 in
    (checks.0, foreigns.0, checks.1, foreigns.1, ok_is (is_beyond checks.0.1 || is_odd_table definitions table) beyond foreigns.2)

-- and of one that is bound, nothing of it is
abbrev IsPlain : List Definition → TableTree → Type 0
IsPlain definitions table = IsMade definitions table false × ((x : Unit {0}) × (all_tables definitions (distinct_onto [] (all_of (map (in_foreign table.name) table.foreigns))) ≡ Ok x))

bound_ok : {A : Type 0} (o : Outcome A) (of : A) → bound_as o ≡ Ok of → o ≡ Ok of
bound_ok (Ok x) of e = let same : x ≡ of = cc in ap Ok same
bound_ok (Err refusal) of e = cc

abbrev plain_ok : Bool → Outcome Made
plain_ok beyond = Ok (plain_made beyond)

plain_beyond : (beyond : Bool) (made : Made) → plain_ok beyond ≡ Ok made → beyond ≡ made.beyond
plain_beyond beyond made e = let same : plain_made beyond ≡ made = cc in ap (λ (m : Made). m.beyond) same

plain : (definitions : List Definition) (vars : List Variable) (table : TableTree) (text : List ℕ) (of : Bound) → bind_form definitions vars (Form-F.CreateTable table text) ≡ Ok of → IsPlain definitions table
plain definitions vars table text of e =
    let form = Form-F.CreateTable table text in
    let tables = after_ok (all_tables definitions (distinct_onto [] (table_names form))) _ of e in
    let made = after_ok (made_by definitions vars form) _ of tables.2 in
    let create = after_ok (create_table definitions table) _ made.0 made.1 in
    let limited : (made.0.beyond || names_outside vars form) ≡ false = within_ok (made.0.beyond || names_outside vars form) made.0.bound of made.2 in
    let none : create.0 ≡ false = plain_beyond create.0 made.0 create.2 ∙ (or_false made.0.beyond (names_outside vars form) limited).0 in
    (subst (IsMade definitions table) none (made_table definitions table create.0 create.1), (tables.0, tables.1))

pub bound_stands : BoundStands
bound_stands db definitions vars statement table text of firm all form e =
    let both = plain definitions vars table text of (ap (bind_form definitions vars) (sym form) ∙ bound_ok (bind definitions vars statement) of e) in
    let is = both.0 in
    let checks = is.0 in
    let limits = or_false (is_beyond checks.1) (is_odd_table definitions table) is.4 in
    let parts = or_false (_ || are_odd_columns table.columns) ((are_odd_names (constraint_names table) || are_odd_keys table) || list_any (is_odd_foreign definitions table) table.foreigns) limits.1 in
    let columns = or_false (nat_lt max_columns (length table.columns)) _ (or_false _ (are_odd_columns table.columns) parts.0).1 in
    let few : length table.columns ≤ max_columns = ltb-false max_columns (length table.columns) columns.0 in
    let foreigns = or_false (are_odd_names (constraint_names table) || are_odd_keys table) (list_any (is_odd_foreign definitions table) table.foreigns) parts.1 in
    record {
      few = few;
      bound = (checks.0, ap (λ o. after o (λ checks. within_limits (is_beyond checks.1) checks.0)) is.2 ∙ within_is (is_beyond checks.1) checks.0 limits.0);
      parents = all_two (λ foreign. AllByRecursion (Has table.columns) foreign.columns × AllByRecursion (Known definitions) (in_foreign table.name foreign)) (λ foreign. is_odd_foreign definitions table foreign ≡ false) (Refers db definitions table firm all few)
          (one db definitions table firm all few) table.foreigns
          (all_two (λ foreign. AllByRecursion (Has table.columns) foreign.columns) (λ foreign. AllByRecursion (Known definitions) (in_foreign table.name foreign))
          (λ foreign. AllByRecursion (Has table.columns) foreign.columns × AllByRecursion (Known definitions) (in_foreign table.name foreign)) (λ foreign a b. (a, b)) table.foreigns
          (foreigns_known definitions table table.foreigns is.1 is.3)
          (parents_known definitions table.name table.foreigns (distinct_known definitions [] (all_of (map (in_foreign table.name) table.foreigns)) (tables_known definitions (distinct_onto [] (all_of (map (in_foreign table.name) table.foreigns))) both.1.0 both.1.1)).1))
          (none_any (is_odd_foreign definitions table) table.foreigns foreigns.1);
    }
