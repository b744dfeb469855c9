-- Believed
pub mod Steps
pub mod Place
pub mod Texts
pub mod Readings
-- For bodies
pub mod Refusals
pub mod Stops
pub mod Views
