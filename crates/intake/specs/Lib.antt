pub mod Search
pub mod Cells
pub mod Causes
pub mod Verdict
pub mod First
pub mod Reason
