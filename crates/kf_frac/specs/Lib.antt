-- Believed
pub mod Divisors
pub mod Fractions
pub mod Rules
pub mod Views
-- For bodies
pub mod Arithmetic
pub mod Laws
pub mod Parts
