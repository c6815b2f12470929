-- What the rows of `objects` are read as is defined, and that of all rows is all of it.
use Rattle.std.proofs.Common.{◌≡◌, refl, sym, ap, ◌∙◌, subst, inl, inr, ℕ, Bool, true, false, if◌then◌else◌, List, [], ◌∷◌, Option, Some, None, IsSome}
use Rattle.std.proofs.lemmas.List.Elements.{recursion_from_All}
use Rattle.std.specs.List.{AllByRecursion}
use Rattle.std.specs.Prelude.{IsTrue}
use Rattle.value_types.specs.Units.{same_units}
use Rattle.value_types.specs.declared.value.Value.{Value}
use Rattle.tsql_tree.specs.declared.definition.Definition.{Definition}
use Rattle.tsql_tree.specs.declared.definition.Definition.TheVariants.{Table, Procedure, Trigger}
use Rattle.tsql_tree.specs.declared.definition.TableTree.{TableTree}
use Rattle.step_model.specs.declared.range.Start.TheVariants.{First}
use Rattle.step_model.specs.declared.range.Stop.TheVariants.{Last}
use Rattle.step_model.specs.Database.{Database, In}
use Rattle.table_rows.specs.Definitions.{IsDefinitionIn, IsDefinitionOf, IsOfName, defined_name, object_key, objects_name, own_name, tables_of}
use Rattle.table_rows.specs.Rows.{rows_table, same_key, shape_of}
use Rattle.constraint_check.proofs.Behind.{name_is}
use Rattle.constraint_check.proofs.Lists.{Among, among_any, among_both, among_left, among_more, among_right}
use Rattle.batch_meaning.specs.Asking.{with_found}
use Rattle.write_laws.proofs.Changes.{all_both}
use Rattle.write_laws.specs.Sound.{IsDefined, IsTableOf, Firm}
use Rattle.write_laws.specs.Found.{Entry, FoundDefined, FoundDefinitions, FoundTables, ReadAs}
use Rattle.write_laws.specs.Keeping.{IsAmong}
use Rattle.write_laws.proofs.Defined.{not_same, one_name, one_table, one_thing}

-- ---- one row

-- it defines this, for whichever name
abbrev Says : List Value → Definition → Type 0
Says row definition = (name : List ℕ) × IsDefinitionOf name row (Some definition)

says_in : (entry : Entry) (definition : Definition) → IsDefinitionIn entry (Some definition) → Says entry.1 definition
says_in entry definition is = by_name (own_name entry.0 entry.1) is
  where
    by_name : (name : Option (List ℕ)) → IsOfName name entry.1 (Some definition) → Says entry.1 definition
    by_name None is = let both : Some definition ≡ None = is in cc
    by_name (Some name) is = (name, is)

-- it defines this for the name at whose key it stands
abbrev IsSaid : Definition → Entry → Type 0
IsSaid definition entry = (name : List ℕ) × (same_key (object_key name) entry.0 ≡ true) × IsDefinitionOf name entry.1 (Some definition)

-- where nothing is read in it, it defines nothing
none_in : (entry : Entry) → IsDefinitionIn entry None → (definition : Definition) → IsSaid definition entry → ⊥
none_in entry is definition (name, at, (text, same, defines)) =
    let own : own_name entry.0 entry.1 ≡ Some name = ap (own_name entry.0) same ∙ ap (λ (b : Bool). if b then Some name else None) at in
    let none : IsDefinitionOf name entry.1 None = subst (λ (n : Option (List ℕ)). IsOfName n entry.1 None) own is in
    none text definition same defines

pub found_defined : FoundDefined
found_defined db key row definition firm stands is =
    let said = says_in (key, row) definition is in
    let own = firm.definitions key row stands in
    let names : own.name ≡ said.0 = one_name row own.name said.0 own.definition definition own.defines said.1 in
    let at : db (rows_table objects_name) (object_key said.0) ≡ db (rows_table objects_name) key =
    firm.one_key (rows_table objects_name) (object_key said.0) key (subst (λ (n : List ℕ). same_key (object_key n) key ≡ true) names own.at) in
    let named : defined_name definition ≡ said.0 = said.1.2.named in
    subst (λ (n : List ℕ). IsDefined db n definition) (sym named) (row, at ∙ stands, said.1)

-- ---- all rows

abbrev DefinedIn : Database → Definition → Type 0
DefinedIn db definition = IsDefined db (defined_name definition) definition

module _ (db : Database) (firm : Firm db) where
  abbrev Stand : List Entry → Type 0
  Stand entries = AllByRecursion (λ entry. db (rows_table objects_name) entry.0 ≡ Some entry.1) entries

  with_defined : (so_far : List Definition) (entry : Entry) (found : Option Definition) → db (rows_table objects_name) entry.0 ≡ Some entry.1 → IsDefinitionIn entry found
      → AllByRecursion (DefinedIn db) so_far → AllByRecursion (DefinedIn db) (with_found so_far found)
  with_defined so_far entry None stands is all = all
  with_defined so_far entry (Some definition) stands is all = all_both (DefinedIn db) so_far (definition ∷ []) all (found_defined db entry.0 entry.1 definition firm stands is, tt)

  all_defined : (entries : List Entry) (so_far all : List Definition) → Stand entries → AllByRecursion (DefinedIn db) so_far → ReadAs so_far entries all → AllByRecursion (DefinedIn db) all
  all_defined [] so_far all stand before read = subst (AllByRecursion (DefinedIn db)) (sym read) before
  all_defined (entry ∷ rest) so_far all stand before read = all_defined rest (with_found so_far read.0) all stand.1 (with_defined so_far entry read.0 stand.0 read.1 before) read.2

  tables_defined : (all : List Definition) → AllByRecursion (DefinedIn db) all → AllByRecursion (IsTableOf db) (tables_of all)
  tables_defined [] defined = tt
  tables_defined (Table shape ∷ rest) defined = (defined.0, tables_defined rest defined.1)
  tables_defined (Procedure procedure ∷ rest) defined = tables_defined rest defined.1
  tables_defined (Trigger trigger ∷ rest) defined = tables_defined rest defined.1

  -- by its name a table is found that is among them
  found_of : (shapes : List TableTree) (shape : TableTree) → AllByRecursion (IsTableOf db) shapes → IsTableOf db shape → Among (λ of. of ≡ shape) shapes → shape_of (rows_table shape.name) shapes ≡ Some shape
  found_of [] shape all is none = absurd none
  found_of (first ∷ rest) shape all is among = by_test (same_units shape.name first.name) refl (found_of rest shape all.1 is)
    where
      by_test : (b : Bool) → same_units shape.name first.name ≡ b → (Among (λ of. of ≡ shape) rest → shape_of (rows_table shape.name) rest ≡ Some shape)
          → (if b then Some first else shape_of (rows_table shape.name) rest) ≡ Some shape
      by_test true named further = ap Some (one_table db first shape all.0 is (sym (name_is shape.name first.name named)))
      by_test false apart further = elim among [
        | inl here ↦ absurd (not_same shape.name first.name apart (ap (λ (t : TableTree). t.name) (sym here)))
        | inr later ↦ further later
      ]

-- ---- those that are found

among_found : (definition : Definition) (so_far : List Definition) (found : Option Definition) → Among (λ of. of ≡ definition) so_far → Among (λ of. of ≡ definition) (with_found so_far found)
among_found definition so_far None among = among
among_found definition so_far (Some other) among = among_left (λ of. of ≡ definition) so_far (other ∷ []) among

among_stays : (definition : Definition) (entries : List Entry) (so_far all : List Definition) → ReadAs so_far entries all → Among (λ of. of ≡ definition) so_far → Among (λ of. of ≡ definition) all
among_stays definition [] so_far all read among = subst (Among (λ of. of ≡ definition)) (sym read) among
among_stays definition (entry ∷ rest) so_far all read among = among_stays definition rest (with_found so_far read.0) all read.2 (among_found definition so_far read.0 among)

said_found : (definition : Definition) (so_far : List Definition) (entry : Entry) (found : Option Definition) → IsSaid definition entry → IsDefinitionIn entry found → Among (λ of. of ≡ definition) (with_found so_far found)
said_found definition so_far entry None said is = absurd (none_in entry is definition said)
said_found definition so_far entry (Some other) said is =
    let also = says_in entry other is in
    let names : also.0 ≡ said.0 = one_name entry.1 also.0 said.0 other definition also.1 said.2 in
    among_right (λ of. of ≡ definition) so_far (other ∷ []) (inl (one_thing entry.1 said.0 other definition (subst (λ (n : List ℕ). IsDefinitionOf n entry.1 (Some other)) names also.1) said.2))

all_found : (definition : Definition) (entries : List Entry) (so_far all : List Definition) → ReadAs so_far entries all → Among (IsSaid definition) entries → Among (λ of. of ≡ definition) all
all_found definition [] so_far all read none = absurd none
all_found definition (entry ∷ rest) so_far all read (inl here) = among_stays definition rest (with_found so_far read.0) all read.2 (said_found definition so_far entry read.0 here read.1)
all_found definition (entry ∷ rest) so_far all read (inr later) = all_found definition rest (with_found so_far read.0) all read.2 later

among_tables : (shape : TableTree) (all : List Definition) → Among (λ of. of ≡ Table shape) all → Among (λ of. of ≡ shape) (tables_of all)
among_tables shape [] none = absurd none
among_tables shape (Table of ∷ rest) (inl here) = inl (let both : Table of ≡ Table shape = here in cc)
among_tables shape (Table of ∷ rest) (inr later) = inr (among_tables shape rest later)
among_tables shape (Procedure of ∷ rest) (inl here) = let both : Procedure of ≡ Table shape = here in cc
among_tables shape (Procedure of ∷ rest) (inr later) = among_tables shape rest later
among_tables shape (Trigger of ∷ rest) (inl here) = let both : Trigger of ≡ Table shape = here in cc
among_tables shape (Trigger of ∷ rest) (inr later) = among_tables shape rest later

module _ (db : Database) (entries : List Entry) (all : List Definition) (firm : Firm db) (image : In db (rows_table objects_name) First Last entries) (read : ReadAs [] entries all) where
  ranged : AllByRecursion (λ (at : Entry). IsTrue true × (db (rows_table objects_name) at.0 ≡ Some at.1)) entries
  ranged = recursion_from_All (λ (at : Entry). IsTrue true × (db (rows_table objects_name) at.0 ≡ Some at.1)) entries image.rows_of_range

  standing : (list : List Entry) → AllByRecursion (λ (at : Entry). IsTrue true × (db (rows_table objects_name) at.0 ≡ Some at.1)) list → Stand db firm list
  standing [] all = tt
  standing (at ∷ list) all = (all.0.1, standing list all.1)

  stand : Stand db firm entries
  stand = standing entries ranged

  are_tables : AllByRecursion (IsTableOf db) (tables_of all)
  are_tables = tables_defined db firm all (all_defined db firm entries [] all stand tt read)

  -- the row of what is defined is among those that were read
  said : (name : List ℕ) (definition : Definition) → IsDefined db name definition → Among (IsSaid definition) entries
  said name definition is =
      among_more (λ at. (db (rows_table objects_name) at.0 ≡ Some at.1) × (same_key (object_key name) at.0 ≡ true)) (IsSaid definition) one entries
      (among_both (λ at. db (rows_table objects_name) at.0 ≡ Some at.1) (λ at. same_key (object_key name) at.0 ≡ true) entries stand
      (among_any (λ (at : Entry). same_key (object_key name) at.0) entries (image.whole (object_key name) refl (subst (λ (o : Option (List Value)). IsSome o) (sym is.1) refl))))
    where
      one : (at : Entry) → (db (rows_table objects_name) at.0 ≡ Some at.1) × (same_key (object_key name) at.0 ≡ true) → IsSaid definition at
      one at h =
          let both : Some is.0 ≡ Some at.1 = sym is.1 ∙ firm.one_key (rows_table objects_name) (object_key name) at.0 h.1 ∙ h.0 in
          let rows : is.0 ≡ at.1 = cc in
          (name, h.1, subst (λ (row : List Value). IsDefinitionOf name row (Some definition)) rows is.2)

is_among : (definition : Definition) (list : List Definition) → Among (λ of. of ≡ definition) list → IsAmong definition list
is_among definition [] none = none
is_among definition (of ∷ rest) (inl here) = inl here
is_among definition (of ∷ rest) (inr later) = inr (is_among definition rest later)

pub found_tables : FoundTables
found_tables db entries all firm image read = record {
  defined = are_tables db entries all firm image read;
  found = λ shape is. found_of db firm (tables_of all) shape (are_tables db entries all firm image read) is
      (among_tables shape all (all_found (Table shape) entries [] all read (said db entries all firm image read shape.name (Table shape) is)));
}

pub found_definitions : FoundDefinitions
found_definitions db entries all firm image read = record {
  tables = found_tables db entries all firm image read;
  defined = all_defined db firm entries [] all (stand db entries all firm image read) tt read;
  found = λ name definition is. is_among definition all (all_found definition entries [] all read (said db entries all firm image read name definition is));
}
