use Rattle.std.proofs.Common.{◌≡◌, drop}
use Rattle.std.specs.List.{list_any}
use Rattle.std.specs.Option.{option_map}
use Rattle.dml_exec.specs.Reading.{given_of, is_fetched}
use Rattle.dml_exec.proofs.images.fetches_own.Given as goal

-- the references that are left decide
abbrev pub invariant-loop-reference : goal.invariant-loop-reference
invariant-loop-reference l =
    list_any (λ ref. is_fetched (given_of (option_map (λ tables. tables.now) l.given)) ref.table) (drop l.reference-index l.refs) ≡ list_any (λ ref. is_fetched (given_of (option_map (λ tables. tables.now) l.given)) ref.table) l.refs
