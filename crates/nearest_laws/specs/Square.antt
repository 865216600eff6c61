-- Rows: the theorem on "square", towards the box's corner (-1, 1): it is not empty.
use Rattle.std.specs.Prelude.{refl, [], ◌∷◌, ◌≢◌, ℕ, suc, ◌+◌, ◌*◌, ◌^◌, ◌≤◌, ◌<◌, T, get_or}
use Rattle.std.proofs.Common.{inl, inr, arith, lit<, below_none, below_more}
use lib.Ieee.{of_bits, neg, le}
use Rattle.plane.specs.points.Plane.{at}
use Rattle.base.specs.common.Binary64.{one, minus_one}
use Rattle.base.specs.numbers.Numbers.{EMPTY}
use Rattle.mesh.specs.Mesh.{next_of, start_of, end_of, pair_of, Used, leftmost_of}
use Rattle.mesh.specs.Hull.{next_place, next_site}
use Rattle.mesh.specs.laws.Facts.{topology}
use Rattle.mesh.specs.Square.{sites, tri, he, hull, square_accepted}
use Rattle.walks.specs.paths.Path.{dist_of, whole_path, last_of}
use Rattle.nearest_laws.specs.laws.Area.{more}
use Rattle.grid.specs.Raised.{area_of, lift_of}
use Rattle.nearest_laws.specs.laws.Signs.{Pos, Neg, NonNeg, NonPos}
use Rattle.nearest_laws.specs.laws.Circle.{raised_at}
use Rattle.nearest_laws.specs.Linear.{Runs, onward, place}
use Rattle.grid.specs.scan.Judged.{apex_of}
use Rattle.nearest_laws.specs.laws.Outside.{Outside}
use Rattle.nearest_laws.specs.laws.Least.{by_pairs}
use Rattle.nearest_laws.specs.Nearest.{Checked, raised, far_from}
use Rattle.nearest_laws.specs.Ends.{Multiple, path_nearest}

abbrev X : ℕ → ℕ
X v = get_or (2 ∷ 2 ∷ 3 ∷ 3 ∷ []) v 0

abbrev Y : ℕ → ℕ
Y v = get_or (2 ∷ 3 ∷ 3 ∷ 2 ∷ []) v 0

pub four : (P : ℕ → Type 0) → P 0 → P 1 → P 2 → P 3 → (k : ℕ) → k < 4 → P k
four P a b c d = below_more P 3 (below_more P 2 (below_more P 1 (below_more P 0 (below_none P) a) b) c) d

pub six : (P : ℕ → Type 0) → P 0 → P 1 → P 2 → P 3 → P 4 → P 5 → (k : ℕ) → k < 6 → P k
six P a b c d e f = below_more P 5 (below_more P 4 (four P a b c d) e) f

good : Checked (topology square_accepted) X Y
unfolding next_of next_place
good =
    let R = raised (topology square_accepted) X Y in
    record {
      turns = six (λ e. Pos (area_of (R (start_of tri e)) (R (end_of tri e)) (R (apex_of tri e)))) (omega arith) (omega arith) (omega arith) (omega arith) (omega arith) (omega arith);
      circles = six (λ e. pair_of he e ≢ EMPTY → NonPos (lift_of (R (start_of tri e)) (R (end_of tri e)) (R (apex_of tri e)) (R (apex_of tri (pair_of he e))))) (λ n. absurd (n refl))
          (λ n. absurd (n refl)) (λ n. omega arith) (λ n. omega arith) (λ n. absurd (n refl)) (λ n. absurd (n refl));
      convex = by_pairs hull R (λ i j li lj. four (λ i. (j : ℕ) → j < 4 → j ≢ i → j ≢ next_place 4 i → Outside (R (get_or hull i 0)) (R (next_site hull i)) (R (get_or hull j 0)))
          (four (λ j. j ≢ 0 → j ≢ 1 → Outside (R 0) (R 1) (R (get_or hull j 0))) (λ n m. absurd (n refl)) (λ n m. absurd (m refl)) (λ n m. inl (omega arith)) (λ n m. inl (omega arith)))
          (four (λ j. j ≢ 1 → j ≢ 2 → Outside (R 1) (R 2) (R (get_or hull j 0))) (λ n m. inl (omega arith)) (λ n m. absurd (n refl)) (λ n m. absurd (m refl)) (λ n m. inl (omega arith)))
          (four (λ j. j ≢ 2 → j ≢ 3 → Outside (R 2) (R 3) (R (get_or hull j 0))) (λ n m. inl (omega arith)) (λ n m. inl (omega arith)) (λ n m. absurd (n refl)) (λ n m. absurd (m refl)))
          (four (λ j. j ≢ 3 → j ≢ 0 → Outside (R 3) (R 0) (R (get_or hull j 0))) (λ n m. absurd (m refl)) (λ n m. inl (omega arith)) (λ n m. inl (omega arith)) (λ n m. absurd (n refl)))
          i li j lj);
    }

-- the path from site 3 to the corner (-1, 1) ends at a nearest site
pub corner : (t : ℕ) → Used tri t → let end = last_of (whole_path sites tri he (leftmost_of tri he 4) (at minus_one one) 3) in (far_from 2 3 7 (X end) (Y end) ≤ far_from 2 3 7 (X t) (Y t)) × T
    (le (dist_of sites (at minus_one one) end) (dist_of sites (at minus_one one) t))
unfolding of_bits neg le
corner t u =
    let w = path_nearest square_accepted X Y good 1 5 (omega arith) (lit< tt)
    (four (λ v. Multiple 1 5 (get_or sites (2 * v) lib.Ieee.nan) (2 * X v) × Multiple 1 5 (get_or sites (2 * v + 1) lib.Ieee.nan) (2 * Y v))
    ((lit< tt, inr (omega arith, (refl, refl))), (lit< tt, inr (omega arith, (refl, refl))))
    ((lit< tt, inr (omega arith, (refl, refl))), (lit< tt, inl (omega arith, (refl, refl))))
    ((lit< tt, inl (omega arith, (refl, refl))), (lit< tt, inl (omega arith, (refl, refl))))
    ((lit< tt, inl (omega arith, (refl, refl))), (lit< tt, inr (omega arith, (refl, refl)))))
    (at minus_one one) 3 7 (lit< tt, inr (omega arith, (refl, refl))) (lit< tt, inl (omega arith, (refl, refl)))
    (four (λ v. far_from 2 3 7 (X v) (Y v) < 2 ^ 53) (lit< tt) (lit< tt) (lit< tt) (lit< tt))
    3 (5, omega arith, refl) in
    (w.exactly t u, w.computed t u)

-- its hull passes the short check as well, up being y and then x, on the grid's scale
two : (P : ℕ → Type 0) → P 0 → P 1 → (k : ℕ) → k < 2 → P k
two P a b = below_more P 1 (below_more P 0 (below_none P) a) b

pub runs : Runs hull (raised (topology square_accepted) X Y) 0 2 (omega arith) (raised_at 32768 0 0) (raised_at 0 1 0)
unfolding place
runs =
    let p = onward hull (raised (topology square_accepted) X Y) 0 2 (omega arith) (raised_at 32768 0 0) (raised_at 0 1 0) in
    record {
      ups = two (λ l. Pos (more (raised_at 32768 0 0) (raised_at 0 1 0) (p l) (p (suc l)))) (omega arith) (omega arith);
      downs = λ l h k. four (λ l. 2 ≤ l → Neg (more (raised_at 32768 0 0) (raised_at 0 1 0) (p l) (p (suc l)))) (λ z. absurd (omega arith)) (λ z. absurd (omega arith)) (λ z. omega arith)
          (λ z. omega arith) l k h;
      turn_up = λ l h. two (λ l. suc l < 2 → NonNeg (more (p l) (p (suc l)) (p (suc l)) (p (suc (suc l))))) (λ z. omega arith) (λ z. absurd (omega arith)) l (omega arith) h;
      turn_down = λ l h k. four (λ l. 2 ≤ l → suc l < 4 → NonNeg (more (p l) (p (suc l)) (p (suc l)) (p (suc (suc l))))) (λ z. absurd (omega arith)) (λ z. absurd (omega arith))
          (λ z w. omega arith) (λ z w. absurd (omega arith)) l (omega arith) h k;
    }
