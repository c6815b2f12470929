-- Read in this order; the comment behind a name says what the file is for.
pub mod Served  -- ServedConnection, Follow: what a seat did in a connection, and in connections one behind another
pub mod Workers  -- AllWorked, Tallied: what the workers of a hall did, and how they are counted
pub mod House  -- HouseState, IsFull: a desk with its seats, and what the engine knows of them at the end
-- Cited by private contracts alone.
pub mod Posts  -- IsPosted, Works: one worker; AreHired, tally_after: how all of them begin, and how they are dismissed
