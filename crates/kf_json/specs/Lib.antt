-- Believed
pub mod Json
pub mod Rules
-- For bodies
pub mod Seen
