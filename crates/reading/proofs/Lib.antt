pub mod From
pub mod Offsets
pub mod Marking
pub mod Pass
