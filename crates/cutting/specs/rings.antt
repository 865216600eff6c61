-- The root of the crate's definitions.
pub mod Linked
pub mod Names
pub mod Rings
pub mod Opposed
pub mod Border
pub mod BorderCounts
pub mod Parted
pub mod Absent
pub mod Joined
pub mod Counts
pub mod laws
