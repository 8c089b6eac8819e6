pub mod Call
pub mod Display
