pub mod Under
pub mod Bounded
pub mod Dependence
pub mod Growth
pub mod Determined
pub mod Samples
pub mod Examples
pub mod StepExamples
