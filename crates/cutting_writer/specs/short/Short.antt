-- What the steps of a short ring come to: it is laid into the first half of the slots, cut from one half into the other, and inked. A count over 16 says that it has no room.
use Rattle.std.specs.Prelude.{◌≡◌, List, ◌++◌, map, ◌⊎◌, ℕ, ◌+◌, ◌-◌, ◌≤◌, ◌<◌, ltb, Float, length}
use Rattle.base.specs.common.Pick.{pick}
use Rattle.mesh.specs.Mesh.{whole_of}
use Rattle.cutting.specs.cuts.Cut.{Side, cut_by}
use Rattle.cutting.specs.declared.corner.Corner.{Corner}
use Rattle.cutting.specs.declared.corner.Carrier.{Carrier}
use Rattle.cutting_writer.specs.declared.stream.Spot.{Spot}
use Rattle.cutting_writer.specs.stream.Stages.{Ring}
use Rattle.cutting_writer.specs.site.Ring.{out_at, last_or}
use Rattle.cutting_writer.specs.slots.Slots.{spot_in, ring_in}
use Rattle.cutting_writer.specs.declared.short.Lying.{Lying}
use Rattle.cutting_writer.specs.declared.short.SlotTrail.{SlotTrail}

-- where a half begins
abbrev pub AtHalf : ℕ → Type 0
AtHalf a = (a ≡ 0) ⊎ (a ≡ 16)

-- the slot after i of a ring, and its first after the last
unfoldable pub next_slot : ℕ → ℕ → ℕ → ℕ
next_slot from count i = pick (ltb (i + 1) count) (λ _. from + i + 1) (λ _. from)

-- the slots of `to` go on with what is left of an edge, and every other is as it was
pub record Edged (part : Ring) (to k : ℕ) (f : List Spot) (r : ℕ) (f₁ : List Spot) : Type 0 where
  pub made : ring_in f₁ to r ≡ ring_in f to k ++ part
  pub others : (j : ℕ) → (to ≤ j → j < to + 16 → ⊥) → spot_in f₁ j ≡ spot_in f j
  pub most : r ≤ k + 2

-- the other half has the ring by a side
pub record PassedSide (s : Side Corner Carrier) (from count : ℕ) (f : List Spot) (r : ℕ) (f₁ : List Spot) : Type 0 where
  pub made : r ≤ 16 → ring_in f₁ (16 - from) r ≡ cut_by s (ring_in f from count)

abbrev pub laid : List Spot → Lying → Ring
laid f l = ring_in f l.from l.count

-- one half has g of the ring
pub record Cuts (g : Ring → Ring) (l : Lying) (f : List Spot) (r : Lying) (f₁ : List Spot) : Type 0 where
  pub half : AtHalf r.from
  pub fits : r.count ≤ 16 → l.count ≤ 16
  pub made : r.count ≤ 16 → laid f₁ r ≡ g (laid f l)

-- the first half goes on with a part of the ring
pub record LaidOn (part : Ring) (k : ℕ) (f : List Spot) (r : ℕ) (f₁ : List Spot) : Type 0 where
  pub fits : r ≤ 16 → k ≤ 16
  pub made : r ≤ 16 → ring_in f₁ 0 r ≡ ring_in f 0 k ++ part

-- with the circumcenters of the whole walk from t
pub record LaidWalk (tri he : List ℕ) (centers : List Float) (t k : ℕ) (f : List Spot) (r : SlotTrail) (f₁ : List Spot) : Type 0 where
  pub walk : LaidOn (map (out_at tri centers) (whole_of he t)) k f r.count f₁
  pub last : r.count ≤ 16 → r.last ≡ last_or t (whole_of he t)
  pub there : t < length he → r.last < length he
