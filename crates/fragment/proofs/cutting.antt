pub mod MessageCells
pub mod Writing
