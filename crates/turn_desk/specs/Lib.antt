pub mod Seats  -- a desk and its seats, as callers see them
pub mod Acts  -- what one act is
-- what private contracts cite
pub mod Views  -- what the seats of the table know
pub mod Rule  -- what holds between any two steps
pub mod Moves  -- what each step tells
