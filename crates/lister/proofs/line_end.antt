pub mod Lengths
pub mod LineEnds
pub mod Phase
pub mod Told
