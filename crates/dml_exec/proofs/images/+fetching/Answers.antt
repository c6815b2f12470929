use Rattle.dml_exec.proofs.Fetched.{own_is, within_is}
use Rattle.dml_exec.proofs.images.+fetching.Goals as goal

pub fetches_in-returns-then-fetches_within : goal.fetches_in-returns-then-fetches_within
fetches_in-returns-then-fetches_within t c = within_is _ c.args.query.now c.as_slice.result.now _ c.fetches_within.ensures c.as_slice.ensures c.if-fetches_within.true

pub fetches_in-returns-else-fetches_within : goal.fetches_in-returns-else-fetches_within
fetches_in-returns-else-fetches_within t c =
    own_is _ c.args.query.now c.as_slice.result.now _ c.fetches_within.ensures c.as_slice.ensures c.as_slice-else-fetches_within.result.now _ c.if-fetches_within.false c.fetches_own.ensures c.as_slice-else-fetches_within.ensures
