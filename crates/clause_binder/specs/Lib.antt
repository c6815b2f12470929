-- Read in this order; the comment behind a name says what the file is for.
pub mod Same  -- same_expr: whether two trees are the same
pub mod Scope  -- TableSource: what a name may mean; the_one: the column that it means
pub mod ByName  -- AreTables: maps by name, as what is looked up in lists
pub mod Progress  -- Binding: what is bound one after another, and what is gathered on the way
pub mod Server  -- server_text: what the server says of itself
pub mod Operands  -- what names, inner queries and aggregates are bound to
pub mod Clauses  -- the clauses of a select, and select_of: the query that it is bound to
pub mod Bind  -- expr_of, test_of, query_of: what the trees are bound to
-- What private contracts alone cite.
pub mod Answers  -- GivesOn: an answer is the outcome that is meant
