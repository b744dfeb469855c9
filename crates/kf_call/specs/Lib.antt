-- Believed
pub mod Calls
pub mod Contents
pub mod Runs
-- For bodies
pub mod Sinks
