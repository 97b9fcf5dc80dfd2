pub mod Handshake
pub mod StartUp
