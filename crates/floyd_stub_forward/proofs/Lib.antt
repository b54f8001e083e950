pub mod ForwardLocals
pub mod ForwardHolds
pub mod TurnLaws
