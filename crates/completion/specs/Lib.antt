pub mod Completion
pub mod Compute
pub mod Worked
