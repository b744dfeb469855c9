-- Believed
pub mod Judgements
pub mod Types
pub mod Kinds
pub mod Statements
pub mod Sources
pub mod Translation
-- For bodies
pub mod Laws
pub mod Answers
pub mod Views
pub mod Picks
pub mod Variables
pub mod SourceAnswers
