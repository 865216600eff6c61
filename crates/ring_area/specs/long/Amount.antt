-- A long number in limbs of 32 bits, the lowest first: what it amounts to. A limb may hold more than its 32 bits until the carries are settled. Definitions only.
use Rattle.std.specs.Prelude.{List, [], ◌∷◌, ℕ, zero, suc, ◌+◌, ◌*◌, ◌^◌, ◌<◌, get_or}

abbrev pub base : ℕ
base = 2 ^ 32

abbrev pub amount : List ℕ → ℕ
amount [] = 0
amount (w ∷ r) = w + base * amount r

-- the weight of limb k
abbrev pub weight : ℕ → ℕ
weight zero = 1
weight (suc k) = base * weight k

-- l from limb k on: k limbs of 0, then its own
unfoldable pub lifted : ℕ → List ℕ → List ℕ
lifted zero l = l
lifted (suc k) l = 0 ∷ lifted k l

-- every limb is a limb
pub record WholeLimbs (l : List ℕ) : Type 0 where
  pub each : (k : ℕ) → get_or l k 0 < base
