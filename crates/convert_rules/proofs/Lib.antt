pub mod Digits
mod Known
mod Rows
mod Table
