-- For bodies
pub mod Carried
pub mod Answers
pub mod Cleared
pub mod Moves
