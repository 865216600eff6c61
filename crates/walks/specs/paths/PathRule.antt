-- The rule of a path (docs/use/RULES.md): each hop goes to the first of the nearest neighbours, strictly nearer, and it stops only where none is.
use Rattle.std.specs.Prelude.{◌≡◌, List, [], ◌∷◌, ℕ, ◌<◌, T, eqb, length, get_or, Float}
use Rattle.std.specs.Float.Ieee.{lt, le}
use Rattle.base.specs.common.Count.{occ, sum_to}
use Rattle.base.specs.common.Pick.{pick}

-- no site of ns is strictly nearer than s, d being the distance
abbrev pub NoneNearer : (ℕ → Float) → List ℕ → ℕ → Type 0
NoneNearer d ns s = (k : ℕ) → k < length ns → T (le (d s) (d (get_or ns k 0)))

-- n stands in ns at a place before which all are strictly farther, and none is strictly nearer
pub record FirstNearest (d : ℕ → Float) (ns : List ℕ) (n : ℕ) : Type 0 where
  pub place : ℕ
  pub within : place < length ns
  pub there : get_or ns place 0 ≡ n
  pub least : NoneNearer d ns n
  pub first : (k : ℕ) → k < place → T (lt (d n) (d (get_or ns k 0)))

-- l is the path from s, d being the distance to its goal and nb a site's neighbours
pub data PathFrom (d : ℕ → Float) (nb : ℕ → List ℕ) : ℕ → List ℕ → Type 0 where
  stops : {s : ℕ} → NoneNearer d (nb s) s → PathFrom d nb s (s ∷ [])
  hops : {s n : ℕ} {l : List ℕ} → FirstNearest d (nb s) n → T (lt (d n) (d s)) → PathFrom d nb n l → PathFrom d nb s (s ∷ l)

-- 1 where site s stands in a triangle, else 0
unfoldable pub used_at : List ℕ → ℕ → ℕ
used_at tri s = pick (eqb (occ s tri) 0) (λ _. 0) (λ _. 1)

-- how many of the sites below n stand in a triangle
abbrev pub used_of : List ℕ → ℕ → ℕ
used_of tri n = sum_to (used_at tri) n
