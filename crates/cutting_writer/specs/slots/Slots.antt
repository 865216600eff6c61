-- The slots of a short ring, and the ring in some slots in a row. Definitions only.
use Rattle.std.specs.Prelude.{◌≡◌, List, [], ◌∷◌, ℕ, zero, suc, length, get_or}
use Rattle.base.specs.common.Binary64 as B
use Rattle.plane.specs.points.Plane.{at}
use Rattle.cutting.specs.cuts.Rings.{At}
use Rattle.cutting.specs.corner.Corner.{near}
use Rattle.cutting.specs.declared.corner.Corner.{Corner}
use Rattle.cutting.specs.declared.corner.Carrier.{Carrier}
use Rattle.cutting.specs.declared.corner.Carrier.TheVariants.{Infinity}
use Rattle.cutting_writer.specs.declared.stream.Spot.{Spot}
use Rattle.cutting_writer.specs.stream.Stages.{Ring, at_of}

-- what stands in no slot
abbrev pub no_spot : Spot
no_spot = record { corner = near (at B.zero B.zero); on = Infinity }

abbrev pub spot_in : List Spot → ℕ → At Corner Carrier
spot_in f k = at_of (get_or f k no_spot)

abbrev pub corner_in : List Spot → ℕ → Corner
corner_in f k = (spot_in f k).corner

-- two halves of 16 slots
abbrev pub Slotted : List Spot → Type 0
Slotted f = length f ≡ 32

-- slot k has v, and every other is as it was
pub record PutSlot (f : List Spot) (k : ℕ) (v : At Corner Carrier) (f₁ : List Spot) : Type 0 where
  pub there : spot_in f₁ k ≡ v
  pub others : (j : ℕ) → (j ≡ k → ⊥) → spot_in f₁ j ≡ spot_in f j

-- the ring in n slots from a on
abbrev pub ring_in : List Spot → ℕ → ℕ → Ring
ring_in f a zero = []
ring_in f a (suc n) = spot_in f a ∷ ring_in f (suc a) n
