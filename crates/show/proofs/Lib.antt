-- two plans of rigs that are alike: Agreements; one cue more: Turns
pub mod Agreements
pub mod Turns
