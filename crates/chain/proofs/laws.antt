pub mod Pushed
pub mod Walk
pub mod Index
pub mod Clearing
