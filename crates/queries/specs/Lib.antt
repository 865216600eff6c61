pub mod Answers
pub mod laws
pub mod clipped
pub mod all_neighbours
pub mod bulk_neighbours
pub mod bulk_ends
