-- A site's neighbours stand in triangles.
use Rattle.std.specs.Prelude.{◌≡◌, Bool, eqb, length}
use mathlib.Core.List.{List, [], ◌∷◌}
use Rattle.std.proofs.Math.Logic.{⊎_elim}
use Rattle.std.proofs.Math.Bool.{true, false}
use Prim.Native.Nat.{ℕ, zero, suc, ◌%◌, ◌<◌}
use Rattle.std.proofs.Common.{arith}
use Rattle.std.proofs.Math.ListN.{get_or}
use Rattle.base.specs.common.Pick.{pick}
use Rattle.base.specs.common.laws.Decide.{lt_or_ge}
use Rattle.base.specs.common.Count.{occ}
use Rattle.base.specs.numbers.Numbers.{EMPTY}
use Rattle.mesh.specs.Mesh.{next_of, around, turn_of, walk_of}
use Rattle.mesh.specs.laws.Next.{next_lt}
use Rattle.mesh.specs.laws.WalkSteps.{walk_go, walk_done}
use Rattle.mesh.specs.laws.Occurs.{occ_there}
use Rattle.walks.specs.neighbours.Neighbours.{last_end, starts_of, neighbours_of}
use Rattle.walks.specs.neighbours.laws.Neighbours.{sites_from, starts_cons}

-- every entry of the list stands in a triangle
abbrev pub InUse : List ℕ → List ℕ → Type 0
InUse tri l = (k : ℕ) → k < length l → 0 < occ (get_or l k 0) tri

both : (tri : List ℕ) (x : ℕ) (l : List ℕ) → 0 < occ x tri → InUse tri l → InUse tri (x ∷ l)
both tri x l h t zero k = h
both tri x l h t (suc i) k = t i (omega arith)

module _ (tri he : List ℕ) (threes : length he % 3 ≡ 0) (even : length he ≡ length tri) where
  last_used : (e : ℕ) → e < length he → InUse tri (last_end tri he e)
  unfolding last_end
  last_used e l = go (eqb (around he e) EMPTY)
    where
      go : (b : Bool) → InUse tri (pick {A = List ℕ} b (λ _. get_or tri (next_of (next_of e)) 0 ∷ []) (λ _. []))
      go true = both tri _ [] (occ_there tri (next_of (next_of e)) (rw (← even) (next_lt threes (next_lt threes l)))) (λ k h. absurd (omega arith))
      go false = λ k h. absurd (omega arith)

  pub walk_used : (s k e l : ℕ) → l < length he → InUse tri (sites_from tri he l (walk_of he s k e))
  unfolding walk_of sites_from
  walk_used s zero e l h = last_used l h
  walk_used s (suc k) e l h =
      ⊎_elim
      (λ w. rw (walk_go he s k e w) (both tri (get_or tri e 0) (sites_from tri he e (walk_of he s k (turn_of he s e))) (occ_there tri e (rw (← even) w)) (walk_used s k (turn_of he s e) e w)))
      (λ w. rw (walk_done he s (suc k) e w) (last_used l h))
      (lt_or_ge e (length he))

  pub starts_used : (s k e : ℕ) → InUse tri (starts_of tri he (walk_of he s k e))
  unfolding walk_of starts_of
  starts_used s zero e = λ k h. absurd (omega arith)
  starts_used s (suc k) e =
      ⊎_elim
      (λ w. rw (walk_go he s k e w, starts_cons tri he e (walk_of he s k (turn_of he s e)))
      (both tri (get_or tri e 0) (sites_from tri he e (walk_of he s k (turn_of he s e))) (occ_there tri e (rw (← even) w)) (walk_used s k (turn_of he s e) e w)))
      (λ w. rw (walk_done he s (suc k) e w) (λ i h. absurd (omega arith)))
      (lt_or_ge e (length he))

  pub neighbours_used : (table : List ℕ) (s : ℕ) → InUse tri (neighbours_of tri he table s)
  unfolding neighbours_of
  neighbours_used table s = starts_used (get_or table s 0) (length he) (get_or table s 0)
