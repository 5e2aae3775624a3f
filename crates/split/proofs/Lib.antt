pub mod laws
pub mod Determined
pub mod ByTable
