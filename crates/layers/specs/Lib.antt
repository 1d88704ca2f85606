pub mod Deaths
pub mod Faults
pub mod Layers
pub mod LivingSteps
pub mod Sources
