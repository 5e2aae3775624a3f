pub mod Ranges
pub mod Fitted
pub mod Zero
pub mod Family
pub mod Used
pub mod Whole
