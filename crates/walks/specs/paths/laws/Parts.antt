-- A path's rule read entry by entry: it begins at its site, each hop goes to the first of the nearest neighbours and strictly nearer, and none is nearer than its end.
use Rattle.std.specs.Prelude.{◌≡◌, refl, List, ℕ, zero, suc, ◌+◌, ◌<◌, T, length, get_or, Float}
use Rattle.std.proofs.Common.{arith, add-one}
use Rattle.std.specs.Float.Ieee.{lt}
use Rattle.walks.specs.paths.PathRule.{NoneNearer, FirstNearest, stops, hops, PathFrom}
use Rattle.walks.specs.paths.laws.WholePath.{last_cons}
use Rattle.walks.specs.paths.Path.{last_of}

module _ {d : ℕ → Float} {nb : ℕ → List ℕ} where
  pub rule_some : {s : ℕ} {l : List ℕ} → PathFrom d nb s l → 0 < length l
  rule_some (stops none) = omega arith
  rule_some (hops g h r) = omega arith

  pub rule_first : {s : ℕ} {l : List ℕ} → PathFrom d nb s l → get_or l 0 0 ≡ s
  rule_first (stops none) = refl
  rule_first (hops g h r) = refl

  pub rule_hops : {s : ℕ} {l : List ℕ} → PathFrom d nb s l → (i : ℕ) → i + 1 < length l
      → FirstNearest d (nb (get_or l i 0)) (get_or l (i + 1) 0) × T (lt (d (get_or l (i + 1) 0)) (d (get_or l i 0)))
  rule_hops (stops none) i h = absurd (omega arith)
  rule_hops (hops g h r) zero k = rw (rule_first r) (g, h)
  rule_hops (hops g h r) (suc i) k = rw (add-one (suc i)) (rw (add-one i) at (rule_hops r i (omega arith)))

  pub rule_ends : {s : ℕ} {l : List ℕ} → PathFrom d nb s l → NoneNearer d (nb (last_of l)) (last_of l)
  rule_ends (stops none) = none
  rule_ends (hops {s = s} {l = l} g h r) = rw (last_cons s l (rule_some r)) (rule_ends r)
