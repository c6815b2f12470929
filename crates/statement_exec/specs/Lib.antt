-- What statements mean stands in `batch_meaning`.
pub mod Changed  -- HasWritten, MayFire: how far a write has come where its triggers are to run
-- What private contracts say.
pub mod Fetched  -- IsKeyDefined: what a row of `objects` adds
pub mod Selected  -- IsBoundOver, IsBoundFirst, ImagesFit, IsAnswer: what is bound, read and answered
pub mod Prepared  -- prepares_home: where a statement works, with what it is bound to there
pub mod Named  -- known_so: what a name stands for, as the code has it
pub mod Created  -- creates_trigger: what CREATE TRIGGER asks within its transaction
pub mod Dropped  -- drops_in: what DROP asks within its transaction
pub mod Slots  -- AreSlots: definitions of which some triggers were taken out
pub mod CursorAnswers  -- IsKept, IsRefused, Passes: what is answered of a cursor, or why a statement on it is refused; how a row is passed
