pub mod Layout
pub mod Mesh
pub mod Refusal
pub mod Report
pub mod Steps
pub mod Shown
