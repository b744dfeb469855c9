-- Believed
pub mod Quiet
pub mod Silent
-- For bodies
pub mod Laws
pub mod Paths
