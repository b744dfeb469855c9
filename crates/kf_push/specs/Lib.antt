-- Believed
pub mod Blocks
-- For bodies
pub mod Erased
pub mod Following
pub mod Meanings
pub mod Merging
