pub mod Input
pub mod Output
pub mod Reading
pub mod Putting
pub mod Printing
pub mod Program
pub mod Working
