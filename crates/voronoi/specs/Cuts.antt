-- The promise of the pieces by cutting, that of cutting_calls::call: the number, each lent slice at exit and the count of vertices: 1, 2, 3, 6, 7 to 10, 11, 25.
pub use Rattle.cutting_calls.specs.call.Promise.{CutAnswer as Cut}
