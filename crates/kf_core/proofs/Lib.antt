mod Among
mod Choosing
mod DistsFound
pub mod Filled
mod FirstFault
pub mod FirstStore
pub mod Gcds
pub mod HypersFound
pub mod Keeping
mod KindsFound
pub mod Measures
pub mod Numbering
pub mod OneTable
mod PassFollows
pub mod PassTells
pub mod Plain
pub mod RowsFound
pub mod RunEnds
mod RunsChain
pub mod Scales
pub mod SetLiterals
mod SetMembers
mod Settled
pub mod Shares
pub mod Solid
pub mod SoundParts
pub mod StoreKinds
pub mod Stores
pub mod Sums
mod SupportAgrees
pub mod Trees
pub mod Unsquashed
pub mod WeightKept
pub mod WholeJoint
pub mod Wider
