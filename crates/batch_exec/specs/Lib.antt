-- What batches mean stands in `batch_meaning`. No public clause cites this file.
pub mod Running  -- IsAffordable, IsSimple, Loops: transactions, forms and loops
