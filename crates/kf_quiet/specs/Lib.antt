-- Believed
pub mod Summaries
pub mod Blames
-- For bodies
pub mod Views
pub mod Standing
pub mod Unseen
pub mod Laws
pub mod SilentLaws
