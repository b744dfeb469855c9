-- Believed by a caller from C
pub mod Held
-- For bodies
pub mod EndsOver
pub mod Laws
pub mod Refusals
pub mod Rooms
pub mod Silence
pub mod Structure
pub mod Written
