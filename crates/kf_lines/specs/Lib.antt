-- Believed
pub mod Sites
pub mod Summaries
pub mod LineTexts
-- For bodies
pub mod Views
