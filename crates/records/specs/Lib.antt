pub mod Lines
pub mod Files
pub mod Known
pub mod Demand
pub mod WholeRead
