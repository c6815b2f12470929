-- Read in this order; the comment behind a name says what the file is for.
pub mod Formed  -- is_formed_query: which queries are well formed, over the types of tables and variables
pub mod Columns  -- tables_in, variable_kinds: the types of what a select may read
pub mod Laws  -- SelectFormed, AnswerTyped: the laws
pub mod Named  -- TablesNamed: the tables that a bound select reads are those that its text names
pub mod Parts  -- ExprFormed, TestFormed: what expressions and tests by themselves are bound to is well formed
pub mod Placed  -- PlacesFound: the variables that items are assigned to are there
