pub mod CallDemands
pub mod Cases
pub mod Demands
