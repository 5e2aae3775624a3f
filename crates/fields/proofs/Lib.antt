pub mod laws
pub mod Inverse
pub mod Determined
