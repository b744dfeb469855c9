-- Believed
pub mod Gains
pub mod Worth
pub mod Vulnerabilities
pub mod Tables
-- For bodies
pub mod Falling
pub mod Forms
pub mod Laws
pub mod Reading
pub mod Shapes
pub mod TableLaws
pub mod Views
