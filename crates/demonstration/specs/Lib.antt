pub mod DemoTrees
pub mod Demo
pub mod DemoSteps
