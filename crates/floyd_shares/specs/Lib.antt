-- Definitions that contracts cite.
pub mod Chains
pub mod JoinShare
pub mod Shares
pub mod SplitShare
