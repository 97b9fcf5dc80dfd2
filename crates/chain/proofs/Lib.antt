pub mod Examples
pub mod Fates
pub mod Laws
pub mod Records
pub mod Runs
pub mod Steps
pub mod Stores
pub mod Texts
