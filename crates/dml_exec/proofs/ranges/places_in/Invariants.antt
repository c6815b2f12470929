use Rattle.std.proofs.Common.{◌≡◌, ◌+◌, ◌≤◌, drop, filter_map, length}
use Rattle.tsql_tree.specs.Places.{place_in}
use Rattle.dml_exec.proofs.ranges.places_in.Given as goal

-- those that were counted, and those of the names that are left, are all
abbrev pub invariant-loop-name : goal.invariant-loop-name
invariant-loop-name l = record {
  all : l.places + length (filter_map (place_in l.columns) (drop l.name-index l.names)) ≡ length (filter_map (place_in l.columns) l.names);
  few : l.places ≤ l.name-index;
}
