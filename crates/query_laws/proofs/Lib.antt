-- Read in this order; the comment behind a name says what the file is for.
pub mod Lists  -- what is true of each element of a list stays true
pub mod FoundKinds  -- what is found of a node, by the types that are known of its parts
pub mod FormedNodes  -- nodes over well-formed parts are well formed
pub mod Reading  -- what may be read at a place of a text, and what is gathered there
pub mod BoundOperands  -- names and inner queries are bound to what is well formed
pub mod BoundSums  -- aggregates are bound to cells behind those of the tables
pub mod BoundNodes  -- nodes over well-formed parts are bound to what is well formed
pub mod BoundClauses  -- the clauses of a select are well formed over the rows that they see
pub mod BoundSelects  -- a select is bound to a well-formed query, if its parts are bound to what is well formed
pub mod BoundTrees  -- so it is for every tree
pub mod AnswerTypes  -- what a well-formed query answers is of its items' types
pub mod Laws  -- the laws
pub mod KeptNames  -- what clauses are bound to reads tables of given names alone
pub mod NamedTables  -- so it is for every tree
pub mod FormedParts  -- expressions and tests by themselves
pub mod KeptPlaces  -- items are assigned to variables that there are
