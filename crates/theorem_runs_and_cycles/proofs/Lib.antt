pub mod Cases
pub mod Demand3
pub mod Simulate
pub mod PeriodicSteadyState
pub mod Printed
pub mod RunsAndCycles
