pub mod Examples
pub mod Laws
pub mod Parts
pub mod Receiver
pub mod States
