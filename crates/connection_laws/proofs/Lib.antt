-- Read in this order; the comment behind a name says what the file is for.
pub mod Sizes  -- a call has no text that is longer than its payload
pub mod Taken  -- nor is what a call of a driver is run as long, or what is kept behind it
pub mod Short  -- texts of messages are short, so what they keep reads back
pub mod Talks  -- what a talk has asked, request by request
pub mod Shut  -- what a batch or a call that was left has open is rolled back
pub mod Served  -- what a connection has asked are batches and calls; and so it is of connections one behind another
pub mod Sound  -- each commit keeps its database intact, and each database of the log is
pub mod Once  -- a batch's tokens with one DONE at their end
pub mod Responses  -- what holds of each response by its own stretch of what the connection has asked
pub mod InTurn  -- each response is what its request comes to by its own stretch
pub mod Causes  -- each response tells an error of a lock only where the engine has replied so
pub mod Ample  -- each response is whole, and tells want of memory only where it was wanting
pub mod Small  -- and tells 49002 only where a result was more than its limit
