-- The number of a call on a lent mesh up to rule 10: that of the first rule that is broken.
use Rattle.std.specs.Prelude.{◌≡◌, Bool, true, List, [], ◌∷◌, ◌++◌, ℕ, Float, length}
use Rattle.base.specs.common.Refusals.{Rule, once, reads, Keep, Finds}
use Rattle.mesh.specs.Faults.{number_of, start_rules, coordinate_rules, shape_rules, hull_rules}
use Rattle.mesh.specs.Rules.{call_rules}
use Rattle.mesh.specs.Accepted.{Mesh, Accepted, site_count}

-- what the call's own arguments gave: a number, 0 where they are sound
abbrev pub asked_rules : ℕ → List (Rule ℕ)
asked_rules asked = once asked (asked ≡ 0) ∷ []

-- before rule 7: `roomy` is the test of rule 2
abbrev pub early_rules : List Float → ℕ → ℕ → ℕ → Bool → ℕ → List (Rule ℕ)
early_rules sites entries halfedges hull roomy asked =
    reads number_of (start_rules (length sites) entries halfedges hull (roomy ≡ true)) ++ asked_rules asked ++ reads number_of (coordinate_rules sites)

pub record Early (sites : List Float) (entries halfedges hull : ℕ) (roomy : Bool) (asked r : ℕ) : Type 0 where
  pub found : Finds (early_rules sites entries halfedges hull roomy asked) 0 r

-- 7 to 9
abbrev pub late_outline : Mesh → List (Rule ℕ)
late_outline m = reads number_of (shape_rules m.triangles m.halfedges (site_count m.sites) ++ hull_rules m.triangles m.halfedges m.hull (site_count m.sites))

-- up to rule 9
pub record Outlines (m : Mesh) (roomy : Bool) (asked r : ℕ) : Type 0 where
  pub found : Finds (early_rules m.sites (length m.triangles) (length m.halfedges) (length m.hull) roomy asked ++ late_outline m) 0 r

-- up to rule 10, `own` being what the call asks of its own arguments
pub record Admits (m : Mesh) (roomy : Bool) (own : List (Rule ℕ)) (r : ℕ) : Type 0 where
  pub found : Finds (call_rules m (roomy ≡ true) own) 0 r

-- 0: the mesh is accepted, there is room, and the arguments are sound
pub record Admitted (m : Mesh) (roomy : Bool) (own : List (Rule ℕ)) : Type 0 where
  pub accepted : Accepted m
  pub roomed : roomy ≡ true
  pub fit : Keep own
