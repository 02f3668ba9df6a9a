-- charts joined entry by entry: Zips; answers that make no node: Answering; two nodes' edges in step: Pairs; the loop: Joining
pub mod Zips
pub mod Answering
pub mod Pairs
pub mod Joining
-- a sum with a chart that is 0 throughout: Zeros
pub mod Zeros
