-- What a step puts into the cell of a site: entries for vertices that there are, and of the corners that the site owns some, each struck out as it is taken.
-- The laws are in proofs/laws/Puts.antt.
use Rattle.std.specs.Prelude.{◌≡◌, List, ◌⊎◌, ◌≢◌, get_or}
use Prim.Native.Nat.{ℕ, ◌+◌, ◌≤◌, ◌<◌}
use Rattle.std.proofs.Math.ListN.{length}
use Rattle.base.specs.common.Count.{occ}
use Rattle.base.specs.numbers.Numbers.{EMPTY}
use Rattle.definition.specs.Cell.{Entry}
use Rattle.definition.specs.Build.{wrapped_in}
use Rattle.definition.specs.Measures.{ValidEntries}

-- corner c stays with its owner o, or it was the site's, is struck out and stands among the entries, once
abbrev pub Struck : ℕ → ℕ → ℕ → List Entry → ℕ → ℕ → Type 0
Struck nc site c es o w = ((w ≡ o) × (occ (nc + c) (wrapped_in es) ≡ 0)) ⊎ ((o ≡ site) × (w ≡ EMPTY) × (occ (nc + c) (wrapped_in es) ≡ 1))

-- the entries es, k of them not wrapped, leave of the owners os the owners ws
pub record Puts (P : ℕ → Type 0) (nc site n k : ℕ) (os : List ℕ) (es : List Entry) (ws : List ℕ) : Type 0 where
  pub owners : length ws ≡ length os
  pub placed : ValidEntries P nc n es
  pub corner : (c : ℕ) → c < 4 → Struck nc site c es (get_or os c 0) (get_or ws c 0)
  pub counted : length (wrapped_in es) + occ site ws ≡ occ site os
  pub struck : length (wrapped_in es) + occ EMPTY os ≡ occ EMPTY ws
  pub others : (s : ℕ) → s ≢ EMPTY → occ s ws ≤ occ s os
  pub rest : length es ≡ k + length (wrapped_in es)
