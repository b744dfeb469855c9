-- Believed
pub mod Compositions
pub mod Grids
-- For bodies
pub mod Cases
pub mod Dens
pub mod Divided
pub mod Composing
pub mod Laws
pub mod Shapes
pub mod Views
pub mod Vulnerabilities
pub mod Beliefs
