pub mod Dropping
pub mod Free
pub mod Thinned
pub mod Worked
