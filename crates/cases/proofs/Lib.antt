pub mod CallTable
pub mod Cases
pub mod Kept
pub mod Idle
