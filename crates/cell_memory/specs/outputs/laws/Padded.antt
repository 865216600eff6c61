-- What is written at the beginning of a slice, and the rest of it cleared: blank regions, cells moved together, poured vertices.
use Rattle.std.specs.Prelude.{◌≡◌, List, ℕ, suc, ◌+◌, ◌-◌, ◌*◌, ◌≤◌, Float, length, take, drop, replicate}
use Rattle.std.proofs.Common.{sym, ap, ◌∙◌, arith, take_at}
use Rattle.std.proofs.Math.Nat.{sub-zero}
use Rattle.std.proofs.lemmas.List.{length-replicate, get_or-replicate}
use Rattle.base.specs.common.Binary64.{zero}
use Rattle.base.specs.numbers.Numbers.{EMPTY}
use Rattle.plane.specs.points.Flat.{flat, pour}
use Rattle.plane.specs.declared.points.Point.{Point}
use Rattle.vertices.specs.laws.Points.{length_flat, length_pour}
use Rattle.cell_memory.specs.layout.Cleared.{cleared_from, padded}
use Rattle.cell_memory.specs.layout.Regions.{joined, offsets_from, Compacted}
use Rattle.cell_memory.specs.layout.Rooms.{Roomy, Started}
use Rattle.cell_memory.specs.layout.laws.Rooms.{start_end}
use Rattle.cell_memory.specs.layout.laws.Compacted.{offsets_length}
use Rattle.cell_memory.specs.layout.laws.Regions.{regions_none, started_rising}
use Rattle.cell_memory.specs.outputs.Outputs.{LaidOut, Gathered}

-- ---- the beginning
pub laid_out : (tri hull owners : List ℕ) (n : ℕ) (ix ix₁ off off₁ : List ℕ) → Roomy tri hull owners n off
    → 3 * length tri + 6 * length hull + length owners ≤ length ix → ix₁ ≡ cleared_from 0 EMPTY ix → length off₁ ≡ length off
    → Started tri hull owners n off₁ → LaidOut tri hull owners n ix₁ off₁
laid_out tri hull owners n ix ix₁ off off₁ r room q long st = record {
  started = st;
  regions = regions_none ix₁ off₁ n
      (started_rising tri hull owners n off₁ (length ix₁) st (omega (arith, r.places)) (omega (arith, start_end tri hull owners n off r, size)))
      (λ k h. rw blank (get_or-replicate (length ix) k EMPTY 0 (omega (arith, size))));
}
  where
    blank : ix₁ ≡ replicate (length ix) EMPTY
    blank = q ∙ rw sub-zero

    size : length ix₁ ≡ length ix
    size = ap length blank ∙ length-replicate (length ix) EMPTY

-- ---- the end
pub poured_cleared : (vs : List Point) (t : ℕ) (v v₁ v₂ : List Float) → length vs ≡ t → 2 * t ≤ length v → v₁ ≡ pour vs v
    → v₂ ≡ cleared_from (2 * t) zero v₁ → v₂ ≡ padded (length v) zero (flat vs)
unfolding pour
poured_cleared vs t v v₁ v₂ n room p q =
    let size : length (flat vs) ≡ 2 * t = length_flat vs ∙ rw n in
    let long : length v₁ ≡ length v = ap length p ∙ length_pour vs v (rw n room) in
    let begun : take (2 * t) v₁ ≡ flat vs = ap (take (2 * t)) p ∙ take_at (flat vs) (drop (2 * length vs) v) (2 * t) size in
    q ∙ rw (begun, long, size)

module _ (cells : List (List ℕ)) (ix off ix₁ off₁ : List ℕ) (w sites : ℕ) (c : Compacted ix off cells ix₁ off₁ w) (all : length cells ≡ sites) where
  indexes : (ix₂ : List ℕ) → length ix₁ ≡ length ix → ix₂ ≡ cleared_from w EMPTY ix₁ → ix₂ ≡ padded (length ix) EMPTY (joined cells)
  indexes ix₂ long q = q ∙ rw (c.moved, long, ← c.counted)

  offsets : (off₂ : List ℕ) → length off₁ ≡ length off → off₂ ≡ cleared_from (sites + 1) EMPTY off₁ → off₂ ≡ padded (length off) EMPTY (offsets_from 0 cells)
  offsets off₂ long q =
      let n : length (offsets_from 0 cells) ≡ sites + 1 = offsets_length 0 cells ∙ omega arith in
      let t : take (sites + 1) off₁ ≡ offsets_from 0 cells = ap (take (sites + 1)) c.offsets ∙ take_at (offsets_from 0 cells) (drop (suc (length cells)) off) (sites + 1) n in
      q ∙ rw (t, long, n)

  pub gathered : (ix₂ off₂ : List ℕ) → length ix₁ ≡ length ix → length off₁ ≡ length off → ix₂ ≡ cleared_from w EMPTY ix₁
      → off₂ ≡ cleared_from (sites + 1) EMPTY off₁ → (w ≡ length (joined cells)) × Gathered cells ix off ix₂ off₂
  gathered ix₂ off₂ li lo qi qo = (c.counted, record { indexes = indexes ix₂ li qi; offsets = offsets off₂ lo qo })

-- the used part is the cells one after the other
pub used_part : (cells : List (List ℕ)) (ix off ix₁ off₁ : List ℕ) (w : ℕ) → (w ≡ length (joined cells)) × Gathered cells ix off ix₁ off₁ → take w ix₁ ≡ joined cells
used_part cells ix off ix₁ off₁ w g = ap (take w) g.1.indexes ∙ take_at (joined cells) (replicate (length ix - length (joined cells)) EMPTY) w (sym g.0)
