pub mod Prints
pub mod Writes
