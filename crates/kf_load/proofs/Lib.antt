pub mod Faults
pub mod Stepwise
mod Lines
mod Readings
