-- Believed
pub mod Averages
pub mod Columns
pub mod Hypers
pub mod Traces
-- For bodies
pub mod Classes
pub mod Joint
pub mod Laws
pub mod Merged
pub mod Projection
pub mod Shapes
