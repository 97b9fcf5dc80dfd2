pub mod Examples
pub mod Laws
pub mod StartUpExamples
pub mod StartUpLaws
pub mod Tells
