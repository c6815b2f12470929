mod Texts
mod Placeholders
mod Rows
