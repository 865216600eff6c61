-- What the theorems count: new points, sums over all cells, a site's share, entries in their places, corners that are lost; and the room that a build keeps to.
use Rattle.std.specs.Prelude.{◌≡◌, Bool, true, false, List, [], ◌∷◌, ℕ, suc, ◌+◌, ◌≤◌, ◌<◌, ◌*◌, ◌/◌, eqb, length, get_or}
use Rattle.base.specs.common.Pick.{pick}
use Rattle.base.specs.numbers.Numbers.{EMPTY}
use Rattle.plane.specs.declared.boxes.BoundingBox.{BoundingBox}
use Rattle.base.specs.common.Count.{occ}
use Rattle.definition.specs.Cell.{Taken, Entry, Mark, plain, crossing, wrapped, in_box}
use Rattle.definition.specs.Build.{Built}

-- how many points were new
abbrev pub count_if : Bool → ℕ
count_if true = 1
count_if false = 0

abbrev pub new_points : List Taken → ℕ
new_points [] = 0
new_points (t ∷ ts) = count_if t.fresh + new_points ts

-- the weights of the cells, the first of them that of site i
abbrev pub weigh : (ℕ → List Entry → ℕ) → ℕ → List (List Entry) → ℕ
weigh w i [] = 0
weigh w i (c ∷ cs) = w i c + weigh w (suc i) cs

-- as many as half-edges end at site s, which is as often as the triangles name it, and two more on the hull
abbrev pub share_of : List ℕ → List ℕ → ℕ → ℕ
share_of tri hull s = occ s tri + 2 * occ s hull

-- of n vertices, nc of them circumcenters and the next four the corners: a plain entry has what P says, a crossing comes after the circumcenters, a wrapped one is a corner
abbrev pub ValidEntry : (ℕ → Type 0) → ℕ → ℕ → Mark → ℕ → Type 0
ValidEntry P nc n plain v = P v × (v < nc)
ValidEntry P nc n crossing v = (nc ≤ v) × (v < n)
ValidEntry P nc n wrapped v = (nc ≤ v) × (v < nc + 4)

abbrev pub ValidEntries : (ℕ → Type 0) → ℕ → ℕ → List Entry → Type 0
ValidEntries P nc n [] = Unit {0}
ValidEntries P nc n (e ∷ es) = ValidEntry P nc n e.mark e.at × ValidEntries P nc n es

-- 1 where the corner of vertex v is with its owner o still and stands not among the entries l
abbrev pub if_lost : ℕ → ℕ → List ℕ → ℕ
if_lost v o l = pick (eqb o EMPTY) (λ _. 0) (λ _. pick (eqb (occ v l) 0) (λ _. 1) (λ _. 0))

-- how many such corners there are from vertex v on, by the owners left
abbrev pub lost_left : ℕ → List ℕ → List ℕ → ℕ
lost_left v [] l = 0
lost_left v (o ∷ os) l = if_lost v o l + lost_left (suc v) os l

-- T triangles, H hull places: at most 7T + 5H + 4 vertices, 6T + 5H steps that add a point or take one again, and 9T + 6H + 4 entries, and each entry is a vertex:
-- plain ones circumcenters inside the box, crossings after the circumcenters
pub record Room (tri hull : List ℕ) (b : BoundingBox) (r : Built) : Type 0 where
  pub vertices : length r.verts ≤ 7 * (length tri / 3) + 5 * length hull + 4
  pub added : length r.verts ≡ length tri / 3 + 4 + new_points r.steps
  pub steps : length r.steps ≤ 6 * (length tri / 3) + 5 * length hull
  pub entries : weigh (λ s c. length c) 0 r.cells ≤ 9 * (length tri / 3) + 6 * length hull + 4
  pub region : (s : ℕ) → s < length r.cells → length (get_or r.cells s []) ≤ 3 * share_of tri hull s + occ s r.owners
  pub placed : (s : ℕ) → ValidEntries (λ v. in_box b (length tri / 3) r.verts v ≡ true) (length tri / 3) (length r.verts) (get_or r.cells s [])
