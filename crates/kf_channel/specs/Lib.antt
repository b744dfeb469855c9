-- Believed
pub mod Channels
-- For bodies
pub mod Laws
pub mod Shapes
pub mod Views
