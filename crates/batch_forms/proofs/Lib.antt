mod Declared
mod Taken
