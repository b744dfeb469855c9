-- Believed
pub mod Refinements
pub mod Equations
pub mod Verdicts
-- For bodies
pub mod Built
pub mod Laws
pub mod Rows
pub mod Views
