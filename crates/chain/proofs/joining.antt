pub mod Answering
pub mod Turns
