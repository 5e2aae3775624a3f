pub mod Kept
pub mod Rebuild
pub mod Passes
