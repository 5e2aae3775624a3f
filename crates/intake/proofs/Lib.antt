pub mod laws
pub mod Determined
