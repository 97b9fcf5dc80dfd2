pub mod Choice
pub mod Layouts
pub mod Lists
pub mod Numerals
pub mod Texts
