use Rattle.std.proofs.Common.{◌≡◌, drop}
use Rattle.std.specs.List.{list_all}
use Rattle.table_rows.specs.Rows.{index_columns, index_places}
use Rattle.dml_exec.specs.Planning.{has_key}
use Rattle.dml_exec.proofs.index.have_keys.Given as goal

-- the parts that are left decide
abbrev pub invariant-loop-place : goal.invariant-loop-place
invariant-loop-place l = list_all (λ names. has_key (index_places l.shape names)) (drop l.place (index_columns l.shape)) ≡ list_all (λ names. has_key (index_places l.shape names)) (index_columns l.shape)
