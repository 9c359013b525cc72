pub mod SortKeys
