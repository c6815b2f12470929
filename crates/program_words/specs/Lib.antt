-- Read in this order; the comment behind a name says what the file is for.
pub mod Numbers  -- number_in: the number that a word spells
pub mod Options  -- program: the clap command, with its subcommands and options
pub mod Asked  -- asked: the command that words ask for, and Answers: what reading them gives
pub mod Spelled  -- Spells: how a command is written
