-- Read in this order; the comment behind a name says what the file is for.
pub mod RangeOf  -- RangeOf: the range on which a reference is fetched
pub mod OnRanges  -- ranges_of: those of all references of a query; the right side of a LEFT JOIN is read whole
pub mod Laws  -- RowsOutside, AnswersInRanges, TargetsInRanges: what is left out takes no part
