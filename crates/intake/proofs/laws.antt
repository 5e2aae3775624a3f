pub mod Search
pub mod Tests
pub mod Usable
pub mod Verdicts
pub mod First
pub mod Grid
