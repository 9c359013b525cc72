pub mod First
pub mod Events
pub mod Prepare
pub mod Schedule
pub mod Execute
pub mod Entry
pub mod PlainRun
pub mod SamplesApart
