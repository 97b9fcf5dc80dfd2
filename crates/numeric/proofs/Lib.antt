pub mod Bits
pub mod Choices
pub mod Codes
pub mod Examples
pub mod Heads
pub mod Laws
pub mod Spaces
pub mod Tells
