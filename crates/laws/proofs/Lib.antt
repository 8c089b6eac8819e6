pub mod Core
pub mod Longs
pub mod Instruction
pub mod Runs
