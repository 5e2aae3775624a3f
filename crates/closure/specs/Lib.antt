pub mod State
pub mod Refining
pub mod Build
pub mod Marking
pub mod Refine
pub mod Call
pub mod History
pub mod Exact
