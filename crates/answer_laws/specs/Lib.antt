pub mod EveryReport
pub mod Shown
pub mod Asked
pub mod Read
pub mod Answered
pub mod Parts
pub mod OneQuestion
pub mod AnswerLines
