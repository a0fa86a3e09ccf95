pub mod Demand3
pub mod Simulation
pub mod Finished
