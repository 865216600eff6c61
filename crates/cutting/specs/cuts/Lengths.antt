-- Theorem: a cut by one side makes a ring at most half as long again (`cut_length`), since edges that leave and edges that enter take turns.
use Rattle.std.specs.Prelude.{Bool, true, false, List, [], ◌∷◌, ℕ, ◌+◌, ◌*◌, ◌≤◌, length}
use Rattle.std.proofs.Common.{arith, length-append}
use Rattle.cutting.specs.cuts.Rings.{At, head_or}
use Rattle.cutting.specs.cuts.Cut.{Side, kept_by, kept, cut_to, cut_by}

abbrev one : Bool → ℕ
one true = 1
one false = 0

one_edge : {C K : Type 0} (a b : Bool) (s : Side C K) (p : At C K) (q : C) → 2 * length (kept_by a b s p q) + one b ≤ 3 + one a
one_edge true true s p q = omega arith
one_edge true false s p q = omega arith
one_edge false true s p q = omega arith
one_edge false false s p q = omega arith

open_length : {C K : Type 0} (s : Side C K) (e : C) (l : List (At C K)) → 2 * length (cut_to s e l) + one (s.within e) ≤ 3 * length l + one (s.within (head_or e l))
open_length s e [] = omega arith
open_length s e (p ∷ r) =
    omega (
      arith,
      length-append (kept s p (head_or e r)) (cut_to s e r),
      one_edge (s.within p.corner) (s.within (head_or e r)) s p (head_or e r),
      open_length s e r,
    )

pub cut_length : {C K : Type 0} (s : Side C K) (ring : List (At C K)) → 2 * length (cut_by s ring) ≤ 3 * length ring
cut_length s [] = omega arith
cut_length s (p ∷ r) = omega (arith, open_length s p.corner (p ∷ r))
