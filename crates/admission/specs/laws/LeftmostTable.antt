-- The leftmost table of a mesh that rules 7 to 9 accept as it stands in a work slice of w entries.
use Rattle.std.specs.Prelude.{◌≡◌, List, ℕ, ◌-◌, ◌≤◌, ◌<◌, length, get_or, take, replicate}
use Rattle.std.proofs.Common.{◌∙◌, arith, length-append, take_at}
use Rattle.std.proofs.lemmas.List.{length-replicate}
use Rattle.std.proofs.Math.ListN.{get_or-append}
use Rattle.base.specs.numbers.Numbers.{EMPTY}
use Rattle.mesh.specs.Mesh.{leftmost_of, leftmost_in}
use Rattle.mesh.specs.Accepted.{TopologyWith}
use Rattle.mesh.specs.laws.Facts.{tab_length}

module _ {Fans : Type 0} (tri he hull : List ℕ) (n : ℕ) (t : TopologyWith Fans tri he hull n) (w : ℕ) (room : n ≤ w) where
  pub table_long : length (leftmost_in tri he n w) ≡ w
  table_long = length-append (leftmost_of tri he n) (replicate (w - n) EMPTY) ∙ omega (arith, tab_length t, length-replicate (w - n) EMPTY)

  pub table_at : (s : ℕ) → s < n → get_or (leftmost_in tri he n w) s 0 ≡ get_or (leftmost_of tri he n) s 0
  table_at s l = get_or-append (leftmost_of tri he n) (replicate (w - n) EMPTY) 0 s (rw (tab_length t) l)

  pub table_part : take n (leftmost_in tri he n w) ≡ leftmost_of tri he n
  table_part = take_at (leftmost_of tri he n) (replicate (w - n) EMPTY) n (tab_length t)
