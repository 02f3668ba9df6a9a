-- masks and a scene side by side: Pairs; a table with one slot rewritten: Storing; what a call answers and leaves: Answering; an edit: Editing; an opening: OpeningSeen
pub mod Pairs
pub mod Storing
pub mod Answering
pub mod Editing
pub mod OpeningSeen
