pub mod Cells
pub mod Counting
pub mod Full
pub mod Telling
pub mod Words
