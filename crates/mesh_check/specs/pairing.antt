-- Rule 8 with one look at each pair.
pub mod Half
pub mod laws
