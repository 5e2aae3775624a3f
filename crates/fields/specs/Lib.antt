pub mod Digits
pub mod Field
pub mod Line
