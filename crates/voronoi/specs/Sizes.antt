-- The promise of the call for areas: the number, and the slice at exit. What an area is: Area of crate ring_area; the rules: Promise of crate areas; what it is for: crate area_laws.
use Rattle.std.specs.Prelude.{List, ℕ, Float}
use Rattle.areas.specs.Promise.{AreasAnswer}

-- 1, 16, 18, 24, 2
abbrev pub Areas : List Float → List ℕ → List ℕ → List Float → List Float → ℕ → Type 0
Areas = AreasAnswer
