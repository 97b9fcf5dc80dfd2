pub mod Listening
pub mod Repeating
pub mod Waiting
