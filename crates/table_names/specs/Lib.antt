pub mod Contents  -- in_expr, in_test, in_select: the tables that a tree names
pub mod Seen  -- AreSeen: a set of names, as a list
