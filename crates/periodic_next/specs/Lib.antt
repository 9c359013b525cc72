pub mod ReachesEnd
