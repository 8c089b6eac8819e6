pub mod KnownRows
