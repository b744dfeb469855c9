pub mod Built
pub mod Certifying
pub mod Coefficients
pub mod Composing
mod Keeping
pub mod Matrices
pub mod MatrixRows
mod Members
pub mod Multiplying
pub mod OneSystem
pub mod OneTable
pub mod OneVerdict
mod Pushing
pub mod Refuting
mod RowWeights
pub mod Scaled
pub mod Separating
pub mod Solving
pub mod SomeKept
pub mod SomeMultiplier
pub mod SomeSystem
pub mod SomeTable
pub mod SomeTargets
pub mod SomeVerdict
pub mod SomeWhole
pub mod Spreading
pub mod Tabling
pub mod Totals
pub mod VerdictParts
mod Walking
