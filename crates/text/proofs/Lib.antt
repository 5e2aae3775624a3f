pub mod laws
pub mod Prefix
pub mod Determined
