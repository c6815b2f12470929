-- Read in this order; the comment behind a name says what the file is for.
pub mod Truths  -- and, or, not: the three truth values
pub mod Kinds  -- higher: the order of types
pub mod Outcomes  -- Outcome: a value, or the number of the first error
pub mod Numbers  -- arithmetic: what is computed of whole numbers
pub mod Texts  -- joined and length_of: what is computed of texts
pub mod Conversions  -- conversion: a value of one type as one of another
pub mod Comparisons  -- compared: what a comparison says; both, either and any_of: tests joined
pub mod Setting  -- Setting: what an expression reads beside its own tree
pub mod Meaning  -- value and truth: what an expression gives, and what a test says
pub mod Typed  -- is_formed: which trees are well formed over types
pub mod Faults  -- is_fault: the numbers of the errors of expressions and tests
