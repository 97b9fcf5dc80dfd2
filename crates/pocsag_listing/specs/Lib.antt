pub mod Said
pub mod Totals
