pub mod Reading
pub mod Fields
pub mod Lines
pub mod Reports
