pub mod Runs  -- what the commands did, as the program tells it
