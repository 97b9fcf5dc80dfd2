pub mod Hearing
pub mod Laws
pub mod Masks
pub mod WaitLaws
