pub mod Lines
pub mod Portions
pub mod Stands
pub mod Texts
pub mod Verdicts
