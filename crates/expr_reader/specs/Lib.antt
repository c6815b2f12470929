pub mod Nests  -- functions that read what nests
pub mod Parts  -- parts of productions
