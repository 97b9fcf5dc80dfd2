pub mod Asking
pub mod Marks
