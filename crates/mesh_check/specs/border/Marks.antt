-- How rule 9 is tested with one list of numbers: each site of the hull is marked with its place, and loses its mark at the first unpaired
-- half-edge from it to the next.
use Rattle.std.specs.Prelude.{◌≡◌, List, Bool, false, ℕ, zero, suc, ◌≤◌, ◌<◌, ltb, eqb, length, get_or, set, replicate, ⊤, Result, Ok, Err}
use Rattle.base.specs.common.Pick.{pick}
use Rattle.base.specs.numbers.Numbers.{EMPTY}
use Rattle.mesh.specs.Mesh.{start_of, end_of, pair_of}
use Rattle.mesh.specs.Hull.{next_site}
use Rattle.mesh.specs.declared.MeshFault.TheVariants.{HullPlace, HullEdge}
use Rattle.mesh.specs.declared.MeshFault.{MeshFault}

-- the marks: each site that stands at a place below n has that place
unfoldable pub marks_to : List ℕ → ℕ → ℕ → List ℕ
marks_to hull w zero = replicate w EMPTY
marks_to hull w (suc i) = set (marks_to hull w i) (get_or hull i 0) i

-- from the place m of the hull one comes to site b
abbrev pub Leads : List ℕ → ℕ → ℕ → Type 0
Leads hull m b = (m < length hull) × (next_site hull m ≡ b)

unfoldable pub leads_of : List ℕ → ℕ → ℕ → Bool
leads_of hull m b = pick (ltb m (length hull)) (λ _. eqb (next_site hull m) b) (λ _. false)

-- the marks t after half-edge e: an unpaired one takes the mark off the site where it starts, if it runs to the next
unfoldable pub unmark_at : List ℕ → List ℕ → List ℕ → List ℕ → ℕ → List ℕ
unmark_at tri he hull t e =
    pick (eqb (pair_of he e) EMPTY) (λ _. pick (leads_of hull (get_or t (start_of tri e) 0) (end_of tri e)) (λ _. set t (start_of tri e) EMPTY) (λ _. t)) (λ _. t)

-- the marks that are left after the half-edges below n
unfoldable pub left_to : List ℕ → List ℕ → List ℕ → List ℕ → ℕ → List ℕ
left_to tri he hull t zero = t
left_to tri he hull t (suc e) = unmark_at tri he hull (left_to tri he hull t e) e

-- half-edge e is paired, or takes a mark off
abbrev pub TakesAt : List ℕ → List ℕ → List ℕ → List ℕ → ℕ → Type 0
TakesAt tri he hull t e = pair_of he e ≡ EMPTY → Leads hull (get_or t (start_of tri e) 0) (end_of tri e)

-- the marks t after the half-edges below e are left in work, and stray is the first offender below e, or the number of half-edges
pub record Unmarking (tri he hull t work : List ℕ) (e stray : ℕ) : Type 0 where
  pub room : e ≤ length tri
  pub long : length work ≡ length t
  pub left : work ≡ left_to tri he hull t e
  pub within : stray ≤ length tri
  pub before : (k : ℕ) → k < e → k < stray → TakesAt tri he hull (left_to tri he hull t k) k
  pub at : stray < length tri → (stray < e) × (TakesAt tri he hull (left_to tri he hull t stray) stray → ⊥)

-- from half-edge d to half-edge e the marks and the first offender are brought along, whichever marks were first
abbrev pub Unmarks : List ℕ → List ℕ → List ℕ → List ℕ → ℕ → ℕ → List ℕ → ℕ → ℕ → Type 0
Unmarks tri he hull old d was new e stray = (t : List ℕ) → Unmarking tri he hull t old d was → Unmarking tri he hull t new e stray

-- the site at place i has lost its mark
abbrev pub GoneAt : List ℕ → List ℕ → ℕ → Type 0
GoneAt hull t i = get_or t (get_or hull i 0) 0 ≡ EMPTY

-- the lower of an earlier offender and e, if e offends
unfoldable pub lowest_of : ℕ → ℕ → Bool → ℕ
lowest_of old e sound = pick sound (λ _. old) (λ _. pick (ltb e old) (λ _. e) (λ _. old))

-- the answer from what the loops found
unfoldable pub hull_fault_of : ℕ → ℕ → ℕ → ℕ → Result ⊤ MeshFault
hull_fault_of kept places stray edges = pick (ltb kept places) (λ _. Err (HullPlace kept)) (λ _. pick (ltb stray edges) (λ _. Err (HullEdge stray)) (λ _. Ok tt))
