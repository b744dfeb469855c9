-- Believed
pub mod Words
pub mod Lexemes
pub mod Pieces
pub mod Readings
-- For bodies
pub mod Cuts
pub mod Laws
pub mod Operators
