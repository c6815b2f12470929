-- Read in this order; the comment behind a name says what the file is for.
pub mod Program  -- Piped, HallServed: the statuses, and what the commands do
pub mod Asking  -- AsksFor: which words ask for a command
