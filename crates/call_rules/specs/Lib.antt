-- Read in this order; the comment behind a name says what the file is for.
pub mod Arguments  -- matched: whose each argument is; argument_values, outputs_of: what the parameters take, and what is written back
pub mod Triggers  -- triggers_for: the triggers that an event fires; deleted, inserted: the rows that they see
-- What private contracts alone cite.
pub mod Found  -- what is known between two steps of the code
