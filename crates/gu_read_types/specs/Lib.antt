pub mod ReadTypes
