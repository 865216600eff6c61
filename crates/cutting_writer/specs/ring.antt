-- The ring of a site, wholly inside or not.
pub mod Inside
pub mod laws
