-- Read in this order; the comment behind a name says what the file is for.
pub mod Tied  -- Tied: what is asked of a session's exchanges
pub mod Stands  -- Stands, Carries: what stands between a session's exchanges, and that what a tree asks keeps it
pub mod Runs  -- Task, IsServed, RunSound: what connections ask, and the law of every run
pub mod Laws  -- StatementSound, BatchSound, CallSound, LogSound: the laws
