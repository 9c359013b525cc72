pub mod BenchValues
