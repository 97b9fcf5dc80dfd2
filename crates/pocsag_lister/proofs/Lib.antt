pub mod Addresses
pub mod Digits
pub mod Divided
pub mod Examples
pub mod Portions
pub mod RawLaws
pub mod Runs
