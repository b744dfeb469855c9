mod Agreeing
pub mod Choices
pub mod CommonFactors
pub mod Converting
pub mod Counting
pub mod Crossing
mod Deciding
pub mod Duality
pub mod Endings
pub mod EndsOnce
pub mod Entries
pub mod Equations
mod EveryRunEnds
pub mod Falls
mod Filled
pub mod FirstRows
pub mod FirstTableau
pub mod FlatBuild
pub mod FlatRows
pub mod FlatSteps
pub mod FlatTurns
pub mod Forms
pub mod Objective
pub mod Merging
mod OneResult
pub mod Outcomes
pub mod Pivots
pub mod Places
pub mod Primitive
pub mod Quotients
pub mod Reducing
pub mod RowOrder
pub mod RunFacts
pub mod Signs
mod SomeAnswer
pub mod Sums
pub mod Tails
pub mod Unique
