-- The tables of what is read for a statement: those of the ranges, in the same order.
use Rattle.std.proofs.Common.{◌≡◌, ℕ, Bool, true, None, List, [], ◌∷◌, ◌++◌, length, map, refl, sym, ap, ◌∙◌}
use Rattle.std.specs.Prelude.{◌||◌}
use Rattle.std.specs.List.{list_any}
use Rattle.std.proofs.lemmas.List.{length-map, map-append}
use Rattle.value_types.specs.declared.table_name.TableName.{TableName}
use Rattle.value_types.specs.declared.value.Value.{Value}
use Rattle.tsql_tree.specs.declared.definition.TableTree.{TableTree}
use Rattle.tsql_tree.specs.Places.{key_places}
use Rattle.bound_tree.specs.declared.query.BoundQuery.{BoundQuery}
use Rattle.bound_tree.specs.declared.query.InnerQuery.{InnerQuery, out-InnerQuery}
use Rattle.bound_tree.specs.declared.write.Bound.{Bound}
use Rattle.bound_tree.specs.declared.write.Bound.TheVariants as bound
use Rattle.bound_tree.specs.declared.write.BoundRows.{BoundRows}
use Rattle.bound_tree.specs.declared.write.BoundRows.TheVariants as rows
use Rattle.bound_tree.specs.declared.write.BoundWrite.{BoundWrite}
use Rattle.bound_tree.specs.declared.write.BoundWrite.TheVariants as write
use Rattle.step_model.specs.declared.range.KeyRange.{KeyRange}
use Rattle.query_eval.specs.Given.{tables_read}
use Rattle.table_rows.specs.Rows.{shape_of}
use Rattle.range_plan.specs.RangeOf.{RangeOf, whole_table}
use Rattle.range_plan.specs.OnRanges.{ranges_of}
use Rattle.range_plan.proofs.Tables.{query_tables}
use Rattle.dml_exec.specs.Reading.{GivenRows, TableRead, fetches_any, inner_reads, inner_tables, is_fetched, is_read_fetched, query_reads, reads_of, rows_reads, rows_tables, shared, tables_of_reads, target_read, write_reads, write_tables}

abbrev pub table_of : TableRead → TableName
table_of read = read.0.table

abbrev pub tables_of : List TableRead → List TableName
tables_of reads = map table_of reads

of_ranges : (ranges : List KeyRange) → tables_of (map shared ranges) ≡ map (λ range. range.table) ranges
of_ranges [] = refl
of_ranges (range ∷ ranges) = ap (λ (l : List TableName). range.table ∷ l) (of_ranges ranges)

module _ (vars : List Value) where
  pub of_query : (query : BoundQuery) → tables_of (query_reads vars query) ≡ tables_read query
  of_query query = of_ranges (ranges_of vars query) ∙ query_tables vars query

  pub of_inner : (inner : List InnerQuery) → tables_of (inner_reads vars inner) ≡ inner_tables inner
  of_inner [] = refl
  of_inner (of ∷ rest) =
      map-append table_of (query_reads vars (out-InnerQuery of).query) (inner_reads vars rest)
      ∙ ap (λ (l : List TableName). l ++ tables_of (inner_reads vars rest)) (of_query (out-InnerQuery of).query)
      ∙ ap (λ (l : List TableName). tables_read (out-InnerQuery of).query ++ l) (of_inner rest)

  of_rows : (given : BoundRows) → tables_of (rows_reads vars given) ≡ rows_tables given
  of_rows (rows.Values values inner) = of_inner inner
  of_rows (rows.Query query) = of_query query

  -- behind the inner queries' stands the target's
  of_target : (inner : List InnerQuery) (target : TableRead) → tables_of (inner_reads vars inner ++ target ∷ []) ≡ inner_tables inner ++ target.0.table ∷ []
  of_target inner target = map-append table_of (inner_reads vars inner) (target ∷ []) ∙ ap (λ (l : List TableName). l ++ target.0.table ∷ []) (of_inner inner)

  module _ (shapes : List TableTree) where
    of_write : (of : BoundWrite) → tables_of (write_reads vars shapes of) ≡ write_tables of
    of_write (write.Insert table places given) = of_rows given
    of_write (write.Update table sets filter inner) = of_target inner _
    of_write (write.Delete table filter inner) = of_target inner _

    pub tables_of_reads_are : (of : Bound) → tables_of (reads_of vars shapes of) ≡ tables_of_reads of
    tables_of_reads_are (bound.Query query) = of_query query
    tables_of_reads_are (bound.Assign query places) = of_query query
    tables_of_reads_are (bound.Write of) = of_write of
    tables_of_reads_are bound.Plain = refl

  -- there are as many
  pub inner_counted : (inner : List InnerQuery) → length (inner_reads vars inner) ≡ length (inner_tables inner)
  inner_counted inner = sym (length-map (inner_reads vars inner) table_of) ∙ ap (λ (l : List TableName). length l) (of_inner inner)

any_table : (test : TableName → Bool) (reads : List TableRead) → list_any (λ read. test (table_of read)) reads ≡ list_any test (tables_of reads)
any_table test [] = refl
any_table test (read ∷ reads) = ap (λ b. test (table_of read) || b) (any_table test reads)

-- so what is fetched does not hang on variables
pub reads_fetched : (given : GivenRows) (vars : List Value) (shapes : List TableTree) (of : Bound) → list_any (is_read_fetched given) (reads_of vars shapes of) ≡ fetches_any given of
reads_fetched given vars shapes of =
    any_table (is_fetched given) (reads_of vars shapes of) ∙ ap (λ (l : List TableName). list_any (is_fetched given) l) (tables_of_reads_are vars shapes of)

-- ---- without WHERE a target is read whole

whole_of_key : (table : TableName) (key : List ℕ) (vars : List Value) → RangeOf None 0 table key vars ≡ whole_table table
whole_of_key table [] vars = refl
whole_of_key table (place ∷ key) vars = refl

pub target_whole : (vars : List Value) (shapes : List TableTree) (table : TableName) → target_read vars shapes table None ≡ (whole_table table, true)
target_whole vars shapes table = ap (λ (range : KeyRange). (range, true)) (whole_of_key table (key_places (shape_of table shapes)) vars)
