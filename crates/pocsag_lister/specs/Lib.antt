pub mod Inputs
pub mod Tokens
pub mod RawWords
pub mod Runs
pub mod Collecting
pub mod Pages
