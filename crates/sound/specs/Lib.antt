pub mod Sound
pub mod Check
pub mod Forest
pub mod Follows
pub mod Whole
