-- What a build that answers 0 leaves in its slices, by its outcome's value: each slice, that each number among the vertices is finite, and the cells as the query reads them.
use Rattle.std.specs.Prelude.{◌≡◌, true, List, [], ◌∷◌, ◌++◌, map, ℕ, zero, suc, ◌+◌, ◌-◌, ◌*◌, ◌<◌, Float, length, get_or, take, drop, replicate, eqb}
use Rattle.std.proofs.Math.Path.{refl}
use Rattle.std.proofs.Common.{ap, ◌∙◌, subst, append_assoc, arith, length-append, take_at, eq-eqb}
use Rattle.std.specs.Float.{nan}
use Rattle.std.specs.Float.Ieee.{of_bits}
use Rattle.std.proofs.lemmas.List.{length-map, length-replicate, get_or-replicate}
use Rattle.std.proofs.Math.ListN.{get_or-append, get_or-map}
use Rattle.std.proofs.Math.Seq.{get_or-append_seam}
use Rattle.base.specs.common.Pick.{pick}
use Rattle.base.specs.numbers.Numbers.{EMPTY}
use Rattle.base.specs.common.laws.And.{and_left, and_right}
use Rattle.base.specs.common.Binary64 as R
use Rattle.plane.specs.points.Flat.{point_at, flat}
use Rattle.plane.specs.declared.points.Point.{Point}
use Rattle.cell_memory.specs.layout.Regions.{joined, offsets_from}
use Rattle.cell_memory.specs.layout.laws.Compacted.{offsets_length}
use Rattle.walks.specs.shared.Cells.{cell_of}
use Rattle.definition.specs.declared.Fault.{Fault}
use Rattle.definition.specs.Fault.{Outcome, ok}
use Rattle.definition.specs.Build.{finite, Built}
use Rattle.definition.specs.Cell.{Entry, vertex_at, unmarked}
use Rattle.build_laws.specs.laws.VerticesFinite.{Each, FinitePoint}
use Rattle.cell_memory.specs.layout.Cleared.{padded}
use Rattle.cell_memory.specs.outputs.Outputs.{of_built, counts_made}
use Rattle.building.specs.answers.Promise.{BuildAnswer}
use Rattle.mesh_check.specs.whole.AtExit.{at_exit}
use Rattle.admission.specs.Slices.{Slices}
use Rattle.cell_query.specs.Cells.{CellAnswer, PlaceAnswer}
use Rattle.cell_query.specs.ReadBack.{read_back}

module _ {N : ℕ → Type 0} {table : List ℕ} {o : Outcome Fault Built} {old new : Slices} (a : BuildAnswer N table o old new 0) where
  pub left_work : new.work ≡ padded (length old.work) EMPTY table
  unfolding at_exit
  left_work = a.work

  module _ (b : Built) (is : o ≡ ok b) where
    pub left_vertices : new.vertices ≡ padded (length old.vertices) R.zero (flat b.verts)
    unfolding at_exit of_built
    left_vertices = rw is at a.vertices

    pub left_indexes : new.indexes ≡ padded (length old.indexes) EMPTY (joined (map unmarked b.cells))
    unfolding at_exit of_built
    left_indexes = rw is at a.indexes

    pub left_offsets : new.offsets ≡ padded (length old.offsets) EMPTY (offsets_from 0 (map unmarked b.cells))
    unfolding at_exit of_built
    left_offsets = rw is at a.offsets

    pub left_counts : new.counts ≡ padded (length old.counts) EMPTY (counts_made b)
    unfolding at_exit of_built
    left_counts = rw is at a.counts

-- ---- the vertices
zero_finite : finite R.zero ≡ true
unfolding of_bits
zero_finite = refl

numbers_finite : (vs : List Point) (m i : ℕ) → Each FinitePoint vs → i < length (flat vs ++ replicate m R.zero) → finite (get_or (flat vs ++ replicate m R.zero) i nan) ≡ true
unfolding flat
numbers_finite [] m i h l = rw (get_or-replicate m i R.zero nan (omega (arith, length-replicate m R.zero))) zero_finite
numbers_finite (p ∷ vs) m zero h l = and_left (finite p.x) (finite p.y) h.0
numbers_finite (p ∷ vs) m (suc zero) h l = and_right (finite p.x) (finite p.y) h.0
numbers_finite (p ∷ vs) m (suc (suc i)) h l = numbers_finite vs m i h.1 (omega arith)

pub slice_finite : {new : List Float} (vs : List Point) (n : ℕ) → new ≡ padded n R.zero (flat vs) → Each FinitePoint vs → (i : ℕ) → i < length new → finite (get_or new i nan) ≡ true
slice_finite vs n q h i l = rw q (numbers_finite vs (n - length (flat vs)) i h (rw q at l))

-- vertex i stands at its place among the numbers
pub slice_point : (vs : List Point) (tail : List Float) (i : ℕ) → i < length vs → point_at (flat vs ++ tail) i ≡ vertex_at vs i
unfolding flat
slice_point [] tail i l = absurd (omega arith)
slice_point (p ∷ vs) tail zero l = refl
slice_point (p ∷ vs) tail (suc i) l =
    let y : 2 * suc i + 1 ≡ suc (suc (2 * i + 1)) = omega arith in
    let x : 2 * suc i ≡ suc (suc (2 * i)) = omega arith in
    rw (y, x) (slice_point vs tail i (omega arith))

-- ---- the cells, by the offsets without their tail and the index list as it is left
module _ (marked : List (List Entry)) (n : ℕ) (many : length marked ≡ n) (room : ℕ) (off : List ℕ) (q : off ≡ padded room EMPTY (offsets_from 0 (map unmarked marked))) where
  pub offsets_head : take (suc n) off ≡ offsets_from 0 (map unmarked marked)
  offsets_head = rw q (take_at (offsets_from 0 (map unmarked marked)) _ (suc n) (offsets_length 0 (map unmarked marked) ∙ ap suc (length-map marked unmarked ∙ many)))

  module _ (indexes : ℕ) (ix : List ℕ) (p : ix ≡ padded indexes EMPTY (joined (map unmarked marked))) (s : ℕ) (l : s < n) where
    pub read_part : {part : List ℕ} {r : ℕ} → CellAnswer (take (suc n) off) ix s part r → (r ≡ 0) × (part ≡ unmarked (get_or marked s []))
    read_part {part} {r} x =
        let y = read_back (map unmarked marked) _ s {part = part} {r = r} (omega (arith, length-map marked unmarked)) (rw (offsets_head, p) at x) in
        (y.0, y.1 ∙ get_or-map unmarked marked s [])

    pub read_place : {start long r : ℕ} → PlaceAnswer (take (suc n) off) ix s start long r → (r ≡ 0) × (take long (drop start ix) ≡ unmarked (get_or marked s []))
    unfolding cell_of
    read_place {start} {long} {r} x =
        let y = read_part {part = pick (eqb r 0) (λ _. cell_of (take (suc n) off) ix s) (λ _. [])} {r = r} (record { number = x.number; entries = refl }) in
        (y.0, rw (x.from, x.many) (rw (eq-eqb r 0 y.0) (rw (eq-eqb r 0 y.0) at y.1)))

-- ---- the counts: the number of vertices, four owners, the lost corners, the points taken again, and what comes after them
module _ (v : ℕ) (os : List ℕ) (lost : ℕ) (reused tail : List ℕ) (four : length os ≡ 4) where
  behind : (c : ℕ) → c < 4 → get_or ((os ++ lost ∷ reused) ++ tail) c 0 ≡ get_or os c 0
  behind c l =
      get_or-append (os ++ lost ∷ reused) tail 0 c (omega (arith, length-append os (lost ∷ reused))) ∙ get_or-append os (lost ∷ reused) 0 c (omega arith)

  pub count_owner : (c : ℕ) → c < 4 → get_or ((v ∷ os ++ lost ∷ reused) ++ tail) (suc c) 0 ≡ get_or os c 0
  count_owner c l = behind c l

  -- the owner before, or what the first path starts from
  pub count_before : (first c : ℕ) → c < 4 → get_or (first ∷ drop 1 ((v ∷ os ++ lost ∷ reused) ++ tail)) c 0 ≡ get_or (first ∷ os) c 0
  count_before first zero l = refl
  count_before first (suc c) l = behind c (omega arith)

  pub count_lost : get_or ((v ∷ os ++ lost ∷ reused) ++ tail) 5 0 ≡ lost
  count_lost = rw (append_assoc os (lost ∷ reused) tail) (subst (λ (n : ℕ). get_or (os ++ lost ∷ (reused ++ tail)) n 0 ≡ lost) four (get_or-append_seam os lost (reused ++ tail) 0))
