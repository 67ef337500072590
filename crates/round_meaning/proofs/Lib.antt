pub mod Lists
pub mod LookUps
pub mod Decisions
pub mod RoundLaws
pub mod Inboxes
pub mod OmissionLaws
pub mod Rows
pub mod EveryOperator
pub mod Sound
pub mod TypedTurns
pub mod TypedStarts
mod Broadcasts
mod Places
pub mod EqualityLaws
pub mod PhaseSteps
pub mod SetReading
pub mod Hearing
pub mod LockInvariant
pub mod ProposalRound
pub mod LockRound
pub mod DecisionRound
pub mod ReleaseRound
pub mod PhaseRuns
pub mod PhaseProgram
pub mod Consensus
pub mod SetMembership
