-- Read in this order; the comment behind a name says what the file is for.
pub mod Slices  -- slices of texts
pub mod RowAlone  -- what is bound over a row alone
pub mod Leaving  -- it leaves no row, and no more does a table that is bound
pub mod Calm  -- rules by which no variable is declared and no statement is read
pub mod Leaves  -- which nodes leave the row
pub mod Variables  -- the lexemes of a table that leaves no row hold no variable
pub mod Blind  -- what the productions of calm rules see of lexemes
pub mod Uses  -- the rules of a table, in which a variable is a use of it
pub mod Noting  -- what is noted of two texts that have the same lexemes
pub mod Alike  -- the same lexemes, in another text
pub mod Tables  -- a table alone
pub mod Everywhere  -- what holds of a statement at whatever level
pub mod Forms  -- the forms of statements
pub mod Nested  -- statements that hold others
pub mod Batches  -- each CREATE TABLE of a batch
pub mod Bodies  -- the bodies of procedures and triggers
pub mod Stating  -- what statements stand for, but for places
pub mod Alone  -- a procedure or trigger alone
pub mod Served  -- the statements that a text is read as
pub mod Declared  -- what declarations are read as is not much longer
