-- A row of `objects` defines one name, as one thing; so what is defined is told by the rows of `objects` alone.
use Rattle.std.proofs.Common.{◌≡◌, refl, sym, ap, ◌∙◌, subst, ℕ, true, false, List, [], ◌∷◌, Some}
use Rattle.std.specs.Cmp.Lexicographic.{bytes_decides}
use Rattle.value_types.specs.Units.{same_units}
use Rattle.value_types.specs.declared.value.Value.{Value}
use Rattle.value_types.specs.declared.value.Value.TheVariants.{Text}
use Rattle.tsql_tree.specs.declared.definition.Definition.{Definition}
use Rattle.tsql_tree.specs.declared.definition.Definition.TheVariants.{Table}
use Rattle.tsql_tree.specs.declared.definition.TableTree.{TableTree}
use Rattle.step_model.specs.Database.{Database}
use Rattle.table_rows.specs.Definitions.{IsDefinitionOf, is_objects, object_key, objects_name, row_of}
use Rattle.table_rows.specs.Rows.{rows_table}
use Rattle.catalog_rows.proofs.Defining.{one_definition}
use Rattle.write_laws.specs.Sound.{HasTable, IsDefined, IsTableOf, Firm}

-- ---- names

pub names_apart : (a b : List ℕ) → (a ≡ b → ⊥) → same_units a b ≡ false
names_apart a b apart = by_test (same_units a b) refl
  where
    by_test : (test : _) → same_units a b ≡ test → test ≡ false
    by_test true is = absurd (apart ((bytes_decides a b).0 is))
    by_test false is = refl

pub not_same : (a b : List ℕ) → same_units a b ≡ false → a ≡ b → ⊥
not_same a b apart is = let both : false ≡ true = sym apart ∙ (bytes_decides a b).1 is in cc

-- ---- one row

abbrev units_in : List Value → List ℕ
units_in (Text units ∷ rest) = units
units_in row = []

pub same_name : (name text other more : List ℕ) → row_of name text ≡ row_of other more → name ≡ other
same_name name text other more same = ap units_in same

-- a row defines one name
pub one_name : (row : List Value) (a b : List ℕ) (c d : Definition) → IsDefinitionOf a row (Some c) → IsDefinitionOf b row (Some d) → a ≡ b
one_name row a b c d x y = same_name a x.0 b y.0 (sym x.1 ∙ y.1)

-- and as one thing
pub one_thing : (row : List Value) (name : List ℕ) (c d : Definition) → IsDefinitionOf name row (Some c) → IsDefinitionOf name row (Some d) → c ≡ d
one_thing row name c d x y = let same : Some c ≡ Some d = one_definition name row (Some c) (Some d) x y in cc

-- ---- databases

-- where `objects` has the same row for a name
pub defined_by : (db other : Database) (name : List ℕ) (definition : Definition) → other (rows_table objects_name) (object_key name) ≡ db (rows_table objects_name) (object_key name)
    → IsDefined db name definition → IsDefined other name definition
defined_by db other name definition same is = (is.0, same ∙ is.1, is.2)

-- what is defined is not `objects`
pub not_objects : (db : Database) → Firm db → (name : List ℕ) (definition : Definition) → IsDefined db name definition → is_objects name ≡ false
not_objects db firm name definition is =
    let own = firm.definitions (object_key name) is.0 is.1 in
    subst (λ (n : List ℕ). is_objects n ≡ false) (one_name is.0 own.name name own.definition definition own.defines is.2) own.other

-- a name is defined as one thing
pub defined_once : (db : Database) (name : List ℕ) (c d : Definition) → IsDefined db name c → IsDefined db name d → c ≡ d
defined_once db name c d x y =
    let same : Some x.0 ≡ Some y.0 = sym x.1 ∙ y.1 in
    let rows : x.0 ≡ y.0 = cc in
    one_thing x.0 name c d x.2 (subst (λ (row : List Value). IsDefinitionOf name row (Some d)) (sym rows) y.2)

-- there is one table of a name
pub one_table : (db : Database) (a b : TableTree) → IsTableOf db a → IsTableOf db b → a.name ≡ b.name → a ≡ b
one_table db a b x y same =
    let both : Table a ≡ Table b = defined_once db b.name (Table a) (Table b) (subst (λ (n : List ℕ). IsDefined db n (Table a)) same x) y in
    cc

-- a table that is there is there in another database, if all tables are
pub table_there : (db other : Database) → ((shape : TableTree) → IsTableOf db shape → IsTableOf other shape) → (name : List ℕ) → HasTable db name → HasTable other name
table_there db other goes name has = (has.0, goes has.0 has.1, has.2)
