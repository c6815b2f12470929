use Rattle.std.proofs.Common.{◌≡◌, true, false, slice_get, Some, None, rules}
use Rattle.table_rows.specs.Rows.{index_columns, index_places}
use Rattle.dml_exec.specs.Planning.{has_key}
use Rattle.dml_exec.proofs.IndexSteps.{keys_end, keys_fail, keys_next}
use Rattle.dml_exec.proofs.index.have_keys.Goals as goal

pub returns-in_default : goal.returns-in_default
returns-in_default c =
    let none : slice_get (index_columns c.args.shape.now) c.loop-place.place ≡ None = search rules in
    keys_end c.args.shape.now c.loop-place.place c.loop-place.invariant none

pub returns-then-not-has_key : goal.returns-then-not-has_key
returns-then-not-has_key c =
    let is : slice_get (index_columns c.args.shape.now) c.loop-place.place ≡ Some c.in-Some.names.now = search rules in
    let keyless : has_key (index_places c.args.shape.now c.in-Some.names.now) ≡ false = search rules in
    keys_fail c.args.shape.now c.loop-place.place c.loop-place.invariant c.in-Some.names.now is keyless

pub loop-place-preserved : goal.loop-place-preserved
loop-place-preserved c =
    let is : slice_get (index_columns c.args.shape.now) c.loop-place.place ≡ Some c.in-Some.names.now = search rules in
    let keyed : has_key (index_places c.args.shape.now c.in-Some.names.now) ≡ true = search rules in
    keys_next c.args.shape.now c.loop-place.place c.loop-place.invariant c.in-Some.names.now is keyed
