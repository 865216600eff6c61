-- What is answered of a hull that was worked out: rule 9, that there is a hull at all, and rule 10; and what the slices hold.
use Rattle.std.specs.Prelude.{◌≡◌, List, ◌∷◌, ◌⊎◌, ℕ, ◌≤◌, ◌<◌, length, get_or, Result, Ok, Err}
use Rattle.std.proofs.lemmas.List.Edits.{sets}
use Rattle.base.specs.common.Refusals.{Rule, once, reads, Finds}
use Rattle.base.specs.numbers.Numbers.{EMPTY, refused_hull}
use Rattle.base.specs.declared.refusal.Refusal.{Refusal}
use Rattle.mesh.specs.Mesh.{leftmost_in}
use Rattle.mesh.specs.Hull.{Hull}
use Rattle.mesh.specs.Faults.{number_of, fan_rules}
use Rattle.mending.specs.border.Loop.{hull_of}

-- s is a site of the table, or EMPTY
abbrev pub OnTable : List ℕ → ℕ → Type 0
OnTable t s = (s ≡ EMPTY) ⊎ (s < length t)

-- a table leads from site to site
abbrev pub Closed : List ℕ → Type 0
Closed t = (s : ℕ) → s < length t → OnTable t (get_or t s 0)

-- a list of at least three distinct sites that is the hull of these triangles and pairs
pub record IsHull (tri he : List ℕ) (sites : ℕ) (h : List ℕ) : Type 0 where
  pub three : 3 ≤ length h
  pub hull : Hull tri he h sites

abbrev pub HasHull : List ℕ → List ℕ → ℕ → Type 0
HasHull tri he sites = (h : List ℕ) × IsHull tri he sites h

-- 9 and 10
abbrev pub border_rules : List ℕ → List ℕ → ℕ → List (Rule ℕ)
border_rules tri he sites = once refused_hull (HasHull tri he sites) ∷ reads number_of (fan_rules tri he sites)

-- how many sites an answer tells: 0 where it is refused
abbrev pub hull_count : Result ℕ Refusal → ℕ
hull_count (Ok k) = k
hull_count (Err r) = 0

pub record TracedHull (tri he : List ℕ) (first sites : ℕ) (w w' m m' : List ℕ) (number k : ℕ) : Type 0 where
  pub found : Finds (border_rules tri he sites) 0 number
  pub count : k ≡ length (hull_of tri he first sites)
  pub mended : m' ≡ sets m 0 (hull_of tri he first sites)
  pub table : number ≡ 0 → w' ≡ leftmost_in tri he sites (length w)
