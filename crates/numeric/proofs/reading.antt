pub mod Characters
pub mod Readable
