pub mod Add
pub mod Logic
