mod Accepted
mod ClearedPrograms
mod CoveringAll
mod EachCommand
pub mod HeldFiles
mod LeakBounds
mod OneAnswer
mod OneComposed
mod ProperHypers
mod RunRefusals
mod ShownAnswers
mod SilentRefines
mod SizedTargets
mod SomeAnswer
mod StructuralVerdicts
mod TaskFiles
mod TaskRefusals
mod WrittenCertificates
