-- Worked rows of the rules, over CREATE TABLE t (n NVARCHAR(3), k TINYINT NOT NULL, PRIMARY KEY (k, n)), and of index parts over
-- CREATE TABLE u (k TINYINT NOT NULL PRIMARY KEY, n NVARCHAR(3) UNIQUE, p TINYINT REFERENCES o).
use Rattle.std.proofs.Common.{◌≡◌, refl, ℕ, pos, negsuc, true, false, List, [], ◌∷◌, Some, None}
use Rattle.std.specs.Prelude.{codes}
use Rattle.value_types.specs.declared.sql_type.SqlType.TheVariants.{TinyInt, NText}
use Rattle.value_types.specs.declared.value.Value.{Value}
use Rattle.value_types.specs.declared.value.Value.TheVariants.{Null, Whole, Bit, Text}
use Rattle.tsql_tree.specs.declared.definition.TableTree.{TableTree}
use Rattle.table_rows.specs.Rows.{index_columns, key_of, part_places, row_fits}

abbrev t : TableTree
t = record {
  name = codes "t";
  columns = record { name = codes "n"; kind = NText 3; required = false } ∷ record { name = codes "k"; kind = TinyInt; required = true } ∷ [];
  key = record { name = codes "PK_t"; columns = codes "k" ∷ codes "n" ∷ [] } ∷ [];
  uniques = [];
  checks = [];
  foreigns = [];
}

abbrev row : List ℕ → ℕ → List Value
row n k = Text n ∷ Whole (pos k) ∷ []

abbrev key : ℕ → List ℕ → List Value
key k n = Whole (pos k) ∷ Text n ∷ []

-- the key's columns stand in the key's order
own_key : key_of t (row (codes "ab") 7) ≡ key 7 (codes "ab")
own_key = refl

at_its_key : row_fits t 0 (key 7 (codes "ab")) (row (codes "ab") 7) ≡ true
at_its_key = refl

-- a key with a space more at its end is the same key
at_a_padded_key : row_fits t 0 (key 7 (codes "ab ")) (row (codes "ab") 7) ≡ true
at_a_padded_key = refl

at_another_key : row_fits t 0 (key 8 (codes "ab")) (row (codes "ab") 7) ≡ false
at_another_key = refl

at_a_part_of_the_key : row_fits t 0 (Whole (pos 7) ∷ []) (row (codes "ab") 7) ≡ false
at_a_part_of_the_key = refl

in_another_part : row_fits t 1 (key 7 (codes "ab")) (row (codes "ab") 7) ≡ false
unfolding index_columns
in_another_part = refl

-- NULL is of every type, also where NOT NULL stands
with_nulls : row_fits t 0 (Null ∷ Null ∷ []) (Null ∷ Null ∷ []) ≡ true
with_nulls = refl

-- outside the type, too long, of another kind, a value too few, and one too many
outside : row_fits t 0 (key 256 (codes "ab")) (row (codes "ab") 256) ≡ false
outside = refl

below : row_fits t 0 (Whole (negsuc 0) ∷ Null ∷ []) (Null ∷ Whole (negsuc 0) ∷ []) ≡ false
below = refl

too_long : row_fits t 0 (key 7 (codes "abcd")) (Text (codes "abcd") ∷ Whole (pos 7) ∷ []) ≡ false
too_long = refl

of_another_kind : row_fits t 0 (Bit true ∷ Null ∷ []) (Null ∷ Bit true ∷ []) ≡ false
of_another_kind = refl

too_few : row_fits t 0 (Null ∷ Null ∷ []) (Null ∷ []) ≡ false
too_few = refl

too_many : row_fits t 0 (Null ∷ Null ∷ []) (Null ∷ Null ∷ Null ∷ []) ≡ false
too_many = refl

-- ---- index parts

abbrev u : TableTree
u = record {
  name = codes "u";
  columns = record { name = codes "k"; kind = TinyInt; required = true } ∷ record { name = codes "n"; kind = NText 3; required = false } ∷ record { name = codes "p"; kind = TinyInt; required = false } ∷ [];
  key = record { name = codes "PK_u"; columns = codes "k" ∷ [] } ∷ [];
  uniques = record { name = codes "UQ_u_1"; columns = codes "n" ∷ [] } ∷ [];
  checks = [];
  foreigns = record { name = codes "FK_u_1"; columns = codes "p" ∷ []; parent = codes "o"; parent_columns = [] } ∷ [];
}

-- the part of the UNIQUE, and behind it that of the FOREIGN KEY: its columns, and then the key's
of_the_unique : part_places u 1 ≡ Some (1 ∷ 0 ∷ [])
unfolding index_columns
of_the_unique = refl

of_the_foreign : part_places u 2 ≡ Some (2 ∷ 0 ∷ [])
unfolding index_columns
of_the_foreign = refl

of_none : part_places u 3 ≡ None
unfolding index_columns
of_none = refl

-- an index row is its own key
index_row : row_fits u 1 (row (codes "ab") 7) (row (codes "ab") 7) ≡ true
unfolding index_columns
index_row = refl

index_row_of_null : row_fits u 2 (Null ∷ Whole (pos 7) ∷ []) (Null ∷ Whole (pos 7) ∷ []) ≡ true
unfolding index_columns
index_row_of_null = refl

at_another_index_key : row_fits u 1 (row (codes "ac") 7) (row (codes "ab") 7) ≡ false
unfolding index_columns
at_another_index_key = refl

-- a row of the table is none of a part
no_index_row : row_fits u 1 (key 7 (codes "ab")) (Whole (pos 7) ∷ Text (codes "ab") ∷ Null ∷ []) ≡ false
unfolding index_columns
no_index_row = refl
