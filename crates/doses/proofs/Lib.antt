pub mod Chains
pub mod Doses
pub mod Listings
