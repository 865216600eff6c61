-- Offsets of cells that lie one behind the other: the first, and that they climb to the last.
use Rattle.std.specs.Prelude.{◌≡◌, refl, List, [], ◌∷◌, ℕ, zero, suc, ◌+◌, ◌≤◌, ◌<◌, length, get_or}
use Rattle.std.proofs.Common.{arith, add-one, length-append}
use Rattle.cell_memory.specs.layout.Regions.{joined, offsets_from}
use Rattle.walks.specs.shared.Cells.{cell_of}

pub first_offset : (m : ℕ) (cells : List (List ℕ)) → get_or (offsets_from m cells) 0 0 ≡ m
unfolding offsets_from
first_offset m [] = refl
first_offset m (c ∷ cells) = refl

pub shift : (m : ℕ) (off ix : List ℕ) (s : ℕ) → cell_of (m ∷ off) ix (suc s) ≡ cell_of off ix s
unfolding cell_of
shift m off ix s = rw (add-one (suc s), add-one s)

-- offsets that count from m do not fall and stay within the entries
pub bounds : (m : ℕ) (cells : List (List ℕ)) (i : ℕ) → i < length (offsets_from m cells) → (m ≤ get_or (offsets_from m cells) i 0) × (get_or (offsets_from m cells) i 0 ≤ m + length (joined cells))
unfolding offsets_from joined
bounds m [] zero h = (omega arith, omega arith)
bounds m [] (suc i) h = absurd (omega arith)
bounds m (c ∷ cells) zero h = (omega arith, omega arith)
bounds m (c ∷ cells) (suc i) h =
    let b = bounds (m + length c) cells i (omega arith) in
    (omega (arith, b.0), omega (arith, b.1, length-append c (joined cells)))

pub climbs : (m : ℕ) (cells : List (List ℕ)) (i : ℕ) → i + 1 < length (offsets_from m cells) → get_or (offsets_from m cells) i 0 ≤ get_or (offsets_from m cells) (i + 1) 0
unfolding offsets_from
climbs m [] i h = absurd (omega arith)
climbs m (c ∷ cells) zero h = let b = bounds (m + length c) cells 0 (omega arith) in omega (arith, b.0)
climbs m (c ∷ cells) (suc i) h = rw (add-one (suc i)) (rw (add-one i) at (climbs (m + length c) cells i (omega arith)))
