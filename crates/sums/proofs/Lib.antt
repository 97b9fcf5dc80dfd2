pub mod Asking
pub mod Examples
pub mod Laws
pub mod Summing
