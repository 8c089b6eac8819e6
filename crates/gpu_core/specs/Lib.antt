pub mod Core
pub mod Machine
pub mod Types
