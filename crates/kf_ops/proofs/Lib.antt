mod Applying
mod Ascending
pub mod EachRow
mod Euclid
mod First
mod Keeping
pub mod Mapped
mod Merging
mod Naming
mod OperatorLaws
mod Readings
mod SetLaws
mod Sound
mod Subsets
