pub mod Kinding
mod Naming
mod Left
mod StmtTurns
pub mod Declared
mod SlotsApart
pub mod Checking
mod LawsChoices
mod LawsFits
mod LawsKinds
mod LawsItems
mod One
mod Places
mod Some
mod SizesAgree
mod LawsPrograms
mod DistRules
mod RowRules
mod Each
mod ExprNodes
mod ExprRules
mod Judging
mod KindLists
mod Nodes
mod PickRules
mod TypeRules
mod Behind
pub mod Sized
mod DeclTurns
mod DeclFacts
mod Standing
mod ItemTurns
mod CopyTurns
mod TargetSizes
mod TargetFacts
mod TargetTurns
mod Programs
mod Copied
mod SourceTurns
