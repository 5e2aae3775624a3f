pub mod Split
pub mod SplitTable
pub mod Row
pub mod Midpoint
pub mod Exact
pub mod Magnitude
pub mod Shown
