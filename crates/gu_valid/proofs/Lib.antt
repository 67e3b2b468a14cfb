pub mod Counted
pub mod Holding
pub mod Lists
pub mod Names
pub mod Lacks
pub mod Unnamed
