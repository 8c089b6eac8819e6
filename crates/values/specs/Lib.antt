pub mod Results
pub mod Signed
