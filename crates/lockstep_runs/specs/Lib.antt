pub use Rattle.adversary.specs.Driving
pub use Rattle.policies.specs.Policies
pub mod Timing
pub mod Changes
pub mod Lockstep
pub mod Pacing
pub mod IdleTicks
