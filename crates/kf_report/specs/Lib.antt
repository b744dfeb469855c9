-- Believed
pub mod Reports
-- For bodies
pub mod Laws
pub mod Views
