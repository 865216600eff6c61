-- The promise of a flip: the rules in the order in which they are tried, and what each lent list holds at exit.
use Rattle.std.specs.Prelude.{◌≡◌, List, [], ◌∷◌, ◌++◌, ℕ, ◌*◌, ◌≤◌, eqb, length, drop}
use Rattle.base.specs.common.Pick.{pick}
use Rattle.base.specs.common.Refusals.{Rule, once, reads, Finds}
use Rattle.base.specs.numbers.Numbers.{EMPTY, refused_count, refused_room, refused_flip}
use Rattle.mesh.specs.Mesh.{leftmost_of, leftmost_in}
use Rattle.mesh.specs.Faults.{number_of, topology_rules}
use Rattle.mesh.specs.Accepted.{Counted}
use Rattle.mesh_check.specs.whole.AtExit.{at_exit}
use Rattle.flipping.specs.Flip.{flipped_triangles, flipped_pairs, Flippable}

-- the lent lists that a flip may change
pub record FlipLists : Type 0 where
  pub triangles : List ℕ
  pub halfedges : List ℕ
  pub table : List ℕ
  pub work : List ℕ

abbrev pub flip_lists : List ℕ → List ℕ → List ℕ → List ℕ → FlipLists
flip_lists tri he table work = record { triangles = tri; halfedges = he; table = table; work = work }

-- 1 and 2, by the lengths: so many sites have twice as many coordinates
abbrev pub flip_start : ℕ → ℕ → ℕ → ℕ → ℕ → ℕ → List (Rule ℕ)
flip_start sites entries halfedges hull table work =
    once refused_count (Counted (2 * sites) entries halfedges hull) ∷ once refused_room ((sites ≤ table) × (sites ≤ work)) ∷ []

-- 7 to 10, then 23
abbrev pub flip_late : List ℕ → List ℕ → List ℕ → List ℕ → ℕ → ℕ → List (Rule ℕ)
flip_late tri he hull table sites a = reads number_of (topology_rules tri he hull sites) ++ once refused_flip (Flippable tri he sites table a) ∷ []

abbrev pub flip_rules : ℕ → List ℕ → ℕ → FlipLists → List (Rule ℕ)
flip_rules sites hull a old =
    flip_start sites (length old.triangles) (length old.halfedges) (length hull) (length old.table) (length old.work)
    ++ flip_late old.triangles old.halfedges hull old.table sites a

-- a list at exit, by the number r: what was made after 0, else what it held
unfoldable pub when_flipped : List ℕ → List ℕ → ℕ → List ℕ
when_flipped made old r = pick (eqb r 0) (λ _. made) (λ _. old)

-- the flipped mesh, and its table worked out afresh
abbrev pub new_triangles : FlipLists → ℕ → List ℕ
new_triangles old a = flipped_triangles old.triangles old.halfedges a

abbrev pub new_pairs : FlipLists → ℕ → List ℕ
new_pairs old a = flipped_pairs old.halfedges a

abbrev pub new_table : ℕ → ℕ → FlipLists → List ℕ
new_table sites a old = leftmost_of (new_triangles old a) (new_pairs old a) sites

-- the promise
pub record Flips (sites : ℕ) (hull : List ℕ) (a : ℕ) (old new : FlipLists) (r : ℕ) : Type 0 where
  pub number : Finds (flip_rules sites hull a old) 0 r
  pub triangles : new.triangles ≡ when_flipped (new_triangles old a) old.triangles r
  pub halfedges : new.halfedges ≡ when_flipped (new_pairs old a) old.halfedges r
  pub table : new.table ≡ when_flipped (new_table sites a old ++ drop sites old.table) old.table r
  pub work : new.work ≡ at_exit EMPTY (leftmost_in (new_triangles old a) (new_pairs old a) sites (length old.work)) old.work r
