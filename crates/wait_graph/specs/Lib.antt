-- What the public clauses cite stands in step_model: its files Cycles and Victims.

-- For private contracts alone
pub mod Lists  -- given edges, and those edges by the session that stands in the way
pub mod Trails  -- edges that lead to a session, as the search gathers them
