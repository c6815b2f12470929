mod Rows
pub mod Runs
pub mod QuoteSteps
pub mod CommentSteps
pub mod Digits
pub mod Openings
pub mod Sizes
pub mod Passing
pub mod Stops
pub mod QuoteLaws
pub mod CommentLaws
pub mod Begins
pub mod Found
pub mod Whole
