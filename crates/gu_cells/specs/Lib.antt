pub mod Record
pub mod Views
pub mod Rule
pub mod NoFacts
