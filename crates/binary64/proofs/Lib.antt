-- The laws that the functions' proofs rest on, here and in `binary64_order`.
pub mod Tests
pub mod Folds
pub mod Units
pub mod Patterns
pub mod Magnitudes
pub mod Total
-- Laws for the crates above, and for sorting in place.
pub mod Order
pub mod Differences
pub mod Signs
pub mod TotalOrder
pub mod Sorted
pub mod Unique
pub mod Insert
