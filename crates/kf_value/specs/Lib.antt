-- Believed
pub mod Kinds
pub mod Stores
pub mod Targets
pub mod Texts
pub mod Types
pub mod Values
-- For bodies
pub mod Forms
pub mod Laws
pub mod Numbers
pub mod Readings
pub mod Shapes
pub mod Sizes
pub mod TypeViews
pub mod Views
pub mod Written
