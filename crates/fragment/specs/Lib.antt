pub mod Answers
pub mod Cells
pub mod CutAnswers
pub mod Cutting
pub mod FlatAnswers
pub mod Fragments
pub mod Full
