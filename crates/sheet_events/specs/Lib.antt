pub mod OrderedDoses
