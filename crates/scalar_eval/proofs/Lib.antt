pub mod Computed
pub mod Reading
