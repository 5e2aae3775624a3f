pub mod Width
pub mod Parts
pub mod Table
pub mod Rows
pub mod View
pub mod Append
pub mod Show
pub mod Steps
