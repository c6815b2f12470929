-- Read in this order; the comment behind a name says what the file is for.
pub mod Tasks  -- AsksTasks: what a connection has asked, one batch or call after another
pub mod Laws  -- ConnectionAsks, ConnectionServed, ConnectionsKeep, ConnectionsSound: the laws
pub mod Causes  -- ConnectionCauses: each response tells an error of a lock only where the engine has replied so to one of its statements
pub mod Ample  -- ConnectionEnds, ConnectionAmple, ConnectionSmall: each response is whole, and refuses nothing without a refusal, or a result above its limit
