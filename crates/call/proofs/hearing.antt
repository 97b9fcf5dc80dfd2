pub mod Answering
pub mod Removal
