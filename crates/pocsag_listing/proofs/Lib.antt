pub mod Taking
pub mod Written
