-- Believed
pub mod Making
-- For bodies
pub mod Made
pub mod Laws
