pub mod Answers
pub mod Pages
pub mod Sets
pub mod WritingPieces
