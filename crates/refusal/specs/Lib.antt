pub mod Result
pub mod Numbers
