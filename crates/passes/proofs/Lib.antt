pub mod Here
pub mod Lowest
pub mod Least
