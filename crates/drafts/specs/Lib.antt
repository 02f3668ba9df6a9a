pub mod Flaws
pub mod Drafts
