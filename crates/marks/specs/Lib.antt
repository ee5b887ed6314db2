pub mod Marks
pub mod AtMarks
