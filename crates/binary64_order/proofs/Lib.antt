pub mod Keys
pub mod SortKeys
