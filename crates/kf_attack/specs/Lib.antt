-- Believed
pub mod Attacks
-- For bodies
pub mod Inners
pub mod Laws
pub mod Positions
pub mod Views
