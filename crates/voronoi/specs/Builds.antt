-- The promises of the build and of the cell query, those of crates building::answers and cell_query: the number, each lent number and each lent slice at exit.
-- The build is clipped to the given box: 1, 2, 3, 6, 7 to 10, 11 to 14.
pub use Rattle.building.specs.answers.Promise.{Build}
-- The cell of site s as the part of the index list, and by where it starts and how long it is: 4, then 16.
pub use Rattle.cell_query.specs.Cells.{CellAnswer as CellPart, PlaceAnswer as Cell}
