pub mod Gathering
pub mod Keys
pub mod Least
pub mod Numbers
pub mod Sorting
