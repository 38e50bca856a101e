mod Fronts
mod ReadAhead
mod Merging
mod Differing
mod MappedPlans
pub mod InOrder
mod WholeContents
mod CutContents
pub mod HeldTrees
mod ToldTrees
mod HeldParts
mod SameTrees
pub mod SamePaths
mod MappedTrees
pub mod CutItems
pub mod Passing
