-- weights lowered and raised: Weights; least weights: Lows; an array mapped: Mapped; greatest times: Highs; the node made of some kids: Makes, Made; building kid by kid: Steps, Spreads
pub mod Weights
pub mod Lows
pub mod Mapped
pub mod Highs
pub mod Makes
pub mod Steps
pub mod Made
pub mod Spreads
pub mod Sides
-- a store that grows: Grown
pub mod Grown
-- whether a chart is 0 throughout: Zeros
pub mod Zeros
