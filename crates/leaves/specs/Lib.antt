pub mod Level
pub mod Listing
pub mod Lists
pub mod Walk
