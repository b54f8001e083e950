-- Definitions that contracts cite.
pub mod ForwardIf
pub mod ForwardLoop
pub mod ForwardSwitch
pub mod ForwardWhile
pub mod LoopClauses
pub mod Parts
pub mod SwitchClauses
