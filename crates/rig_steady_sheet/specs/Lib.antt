pub mod SteadySheet
