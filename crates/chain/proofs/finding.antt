pub mod Asking
pub mod Found
