pub mod CycleSheet
