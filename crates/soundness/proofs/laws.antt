pub mod Chains
pub mod Pairs
pub mod Conform
pub mod Midpoints
pub mod Checked
pub mod Roots
pub mod Steps
