pub mod SteadyPrintout
pub mod SteadyReplies
