pub mod CommonDivisors
pub mod CommonMultiples
pub mod LowestTerms
pub mod Multiples
pub mod Products
pub mod Ring
pub mod Scaling
mod Signs
pub mod Twos
