pub mod Table
pub mod ClosedCycles
