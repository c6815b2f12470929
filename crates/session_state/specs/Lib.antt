-- What batches mean stands in `batch_meaning`. These say of its parts what that leaves open: want of memory, and what fits.
pub mod Sendable  -- IsFit: what can be sent
pub mod Parts  -- IsOrMemory, Stepped, SetsFit: what is done in memory alone
pub mod Ending  -- KeepsEndings: what is told where a transaction ends, from its begin on
