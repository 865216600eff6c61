-- The root of the crate's definitions.
pub mod Printed
pub mod Steps
pub mod One
pub mod Enough
pub mod Sound
pub mod laws
pub mod boxes
pub mod box_line
pub mod change_lines
pub mod text
pub mod writer
