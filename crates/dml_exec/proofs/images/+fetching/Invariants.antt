use Rattle.std.proofs.Common.{◌≡◌, drop}
use Rattle.std.specs.List.{list_any}
use Rattle.std.specs.Option.{option_map}
use Rattle.dml_exec.specs.Reading.{given_of, inner_tables, is_fetched}
use Rattle.dml_exec.proofs.images.+fetching.Given as goal

-- the inner queries that are left decide
abbrev pub invariant-fetches_within-loop-of : goal.invariant-fetches_within-loop-of
invariant-fetches_within-loop-of l = list_any (is_fetched (given_of (option_map (λ tables. tables.now) l.given))) (inner_tables (drop l.of-index l.inner)) ≡ list_any (is_fetched (given_of (option_map (λ tables. tables.now) l.given))) (inner_tables l.inner)
