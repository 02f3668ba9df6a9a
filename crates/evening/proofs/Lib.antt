-- what holds of each of several: Each; shelves with room: Rooms; what a plan must answer: Plans; the best way by
-- the times that the rule leaves: Ways; the plans of the evening: Evening; its list of cases: Cases
pub mod Each
pub mod Rooms
pub mod Plans
pub mod Ways
pub mod Evening
pub mod Cases
