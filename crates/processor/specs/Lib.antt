pub mod Processor
