-- A walk with an allowance hands out the beginning of the whole walk.
use Rattle.std.specs.Prelude.{◌≡◌, List, ◌++◌, Bool, ℕ, ◌+◌, leb, length, take, drop}
use Rattle.std.proofs.Common.{sym, ap, ◌∙◌, ⊎_elim, arith, take_all, length-take-le}
use Rattle.std.proofs.lemmas.Bool.{lt-leb}
use Rattle.base.specs.common.laws.Decide.{lt_or_ge}
use Rattle.mesh.specs.Mesh.{walk_of, whole_of, Walks, Paired}
use Rattle.mesh.specs.laws.WalkSteps.{walk_take}
use Rattle.walks.specs.neighbours.laws.Rest.{settled_start, walk_enough}
use Rattle.walks.specs.neighbours.Fills.{Fills}

walk_prefix : (tri he : List ℕ) → Paired tri he → (s k : ℕ) → walk_of he s k s ≡ take k (whole_of he s)
walk_prefix tri he ok s k =
    let q : k + length he ≡ length he + k = omega arith in
    walk_take he s k (length he) s ∙ ap (λ j. take k (walk_of he s j s)) q ∙ ap (take k) (walk_enough he s s (settled_start tri he ok s) k)

over_same : (l : List ℕ) (k : ℕ) → leb (length (take (k + 1) l)) k ≡ leb (length l) k
over_same l k =
    ⊎_elim
    (λ h. lt-leb (length (take (k + 1) l)) k (omega (arith, length-take-le (k + 1) l (omega arith))) ∙ sym (lt-leb (length l) k h))
    (λ h. ap (λ r. leb (length r) k) (take_all (k + 1) l (omega arith)))
    (lt_or_ge k (length l))

pub walks_fill : (tri he : List ℕ) → Paired tri he → (s : ℕ) (old new : List ℕ) (n : ℕ) (b : Bool) → Walks he s old new n b → Fills (whole_of he s) old new n b
walks_fill tri he ok s old new n b w = record {
  counted = w.counted ∙ ap length (walk_prefix tri he ok s (length old));
  entries = w.entries ∙ ap (λ l. l ++ drop n old) (walk_prefix tri he ok s (length old));
  over = w.over ∙ ap (λ l. leb (length l) (length old)) (walk_prefix tri he ok s (length old + 1)) ∙ over_same (whole_of he s) (length old);
}
