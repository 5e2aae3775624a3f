pub mod Input
pub mod Shown
pub mod Sum
