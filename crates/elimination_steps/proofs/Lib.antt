pub mod Tables
pub mod Exchanges
pub mod Substitutions
