-- Own: ordered maps by name, and the lists of which they say what is looked up by walking.
use Rattle.std.specs.Prelude.{◌≡◌, ℕ, List, Option, Some, None, option_map, position, unwrap_or}
use Rattle.std.proofs.Common.{Bor}
use Rattle.std.specs.Ordering.{nat_cmp}
use Rattle.std.specs.Cmp.Lexicographic.{slice_cmp}
use Rattle.std.specs.BTreeMap.{BTreeMap, get, get_by}
use Rattle.tsql_tree.specs.declared.definition.ColumnTree.{ColumnTree}
use Rattle.tsql_tree.specs.declared.definition.Definition.{Definition}
use Rattle.tsql_tree.specs.declared.definition.TableTree.{TableTree}
use Rattle.clause_binder.specs.declared.scope.Matches.{Matches}
use Rattle.clause_binder.specs.declared.scope.Matches.TheVariants.{Nothing}
use Rattle.clause_binder.specs.Scope.{found_in, has_name, table_of}

-- what the map has of a name
abbrev pub at_name : {X : Type 0} → BTreeMap (Bor (List ℕ)) X → List ℕ → Option X
at_name map name = get_by (λ key. slice_cmp nat_cmp name key.now) map

abbrev pub table_at : BTreeMap (Bor (List ℕ)) (Bor TableTree) → List ℕ → Option TableTree
table_at map name = option_map (λ table. table.now) (at_name map name)

-- the map has the first table of each name
abbrev pub AreTables : BTreeMap (Bor (List ℕ)) (Bor TableTree) → List Definition → Type 0
AreTables map definitions = (name : List ℕ) → table_at map name ≡ table_of name definitions

abbrev pub matches_at : BTreeMap (Bor (List ℕ)) Matches → List ℕ → Matches
matches_at map name = unwrap_or (at_name map name) Nothing

-- the map has what is found of each name
abbrev pub AreColumns : BTreeMap (Bor (List ℕ)) Matches → List ColumnTree → Type 0
AreColumns map columns = (name : List ℕ) → matches_at map name ≡ found_in name 0 columns Nothing

-- what the map has of an alias
abbrev pub place_at : BTreeMap (List ℕ) ℕ → List ℕ → Option ℕ
place_at map name = get (slice_cmp nat_cmp) map name

abbrev pub or_place : Option ℕ → Option ℕ → Option ℕ
or_place None b = b
or_place (Some a) b = Some a

-- the map has the place of the first item of each alias
abbrev pub AreAliases : BTreeMap (List ℕ) ℕ → List (Option (List ℕ)) → Type 0
AreAliases map aliases = (name : List ℕ) → place_at map name ≡ position (has_name name) aliases
