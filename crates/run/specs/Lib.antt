pub mod Skeleton
pub mod Run
pub mod Demand
pub mod Leaves
pub mod Compute
pub mod Worked
pub mod Ready
