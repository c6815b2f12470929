-- Read in this order; the comment behind a name says what the file is for.
pub mod Script  -- script_lines: the lines of a script
pub mod Play  -- Plays: what the lines of a script do and print
pub mod Steps  -- IsRun: the steps of a script are a run
pub mod Command  -- Steps: what the command takes and writes, its status, and when it ends well
-- What private contracts alone cite.
pub mod Played  -- Played: what one line more did
