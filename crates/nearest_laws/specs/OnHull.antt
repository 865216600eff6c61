-- Theorem: a hull that keeps the short form (grid::border) is convex and runs round once, where the triangles turn as they must: its lowest place is the
-- one where a run of edges up begins, and after the first edge down all edges go down.
use Rattle.std.specs.Prelude.{◌≡◌, true, false, List, ◌⊎◌, ◌≢◌, ℕ, zero, suc, ◌+◌, ◌-◌, ◌≤◌, ◌<◌, ltb, ℤ, length, get_or}
use Rattle.std.proofs.Common.{sym, ap, ◌∙◌, subst, inl, inr, ⊎_elim, arith, lt-ltb, le-ltb, ltb-false, eq-eqb, ne_eqb}
use Rattle.base.specs.common.laws.Decide.{lt_or_ge, eq_or_ne}
use Rattle.mesh.specs.Hull.{next_place}
use Rattle.mesh.specs.laws.Border.{after_cases, after_lt}
use Rattle.grid.specs.Plane.{place_at, goes_up, turns_right}
use Rattle.grid.specs.declared.Raised.{Raised}
use Rattle.grid.specs.Raised.{raised_of, area_of, level_of}
use Rattle.grid.specs.laws.Same.{Inside, turns_is, up_is_up}
use Rattle.grid.specs.border.ShortForm.{prior_place, up_before, up_after, CornerAt, StartAt, LoneAt}
use Rattle.nearest_laws.specs.laws.Area.{more}
use Rattle.nearest_laws.specs.laws.Signs.{Pos, Neg, NonNeg}
use Rattle.nearest_laws.specs.laws.Circle.{raised_at, move, area_moved}
use Rattle.nearest_laws.specs.laws.Least.{Convex}
use Rattle.nearest_laws.specs.Linear.{place, place_cases, Runs, by_runs}

-- ---- numbers only
lowest : (f : ℕ → ℕ) (n : ℕ) → 0 < n → (r : ℕ) × (r < n) × ((k : ℕ) → k < n → f r ≤ f k)
lowest f zero l = absurd (omega arith)
lowest f (suc zero) l = (0, omega arith, λ k h. let q : k ≡ 0 = omega arith in rw q (omega arith))
lowest f (suc (suc n)) l =
    let w = lowest f (suc n) (omega arith) in
    ⊎_elim
    (λ h. (suc n, omega arith, λ k i. ⊎_elim (λ q. rw q (omega arith)) (λ q. omega (arith, w.2 k (omega arith))) (eq_or_ne k (suc n))))
    (λ h. (w.0, omega (arith, w.1), λ k i. ⊎_elim (λ q. rw q h) (λ q. w.2 k (omega arith)) (eq_or_ne k (suc n))))
    (lt_or_ge (f (suc n)) (f w.0))

-- how long f stays below g
run : (f g : ℕ → ℕ) (n : ℕ) → (m : ℕ) × (m ≤ n) × ((k : ℕ) → k < m → f k < g k) × (m < n → g m ≤ f m)
run f g zero = (0, omega arith, λ k l. absurd (omega arith), λ l. absurd (omega arith))
run f g (suc n) =
    let w = run f g n in
    ⊎_elim
    (λ h. (w.0, omega (arith, w.1), w.2, λ _. w.3 h))
    (λ h. ⊎_elim
    (λ u. (suc n, omega arith, λ k l. ⊎_elim (λ q. rw q u) (λ q. w.2 k (omega arith)) (eq_or_ne k n), λ l. absurd (omega arith)))
    (λ u. (n, omega arith, λ k l. w.2 k (omega arith), λ _. u))
    (lt_or_ge (f n) (g n)))
    (lt_or_ge w.0 n)

prior_cases : (h i : ℕ) → ((i ≡ 0) × (prior_place h i ≡ h - 1)) ⊎ ((i ≢ 0) × (prior_place h i ≡ i - 1))
unfolding prior_place
prior_cases h i = ⊎_elim (λ q. inl (q, rw (eq-eqb i 0 q))) (λ q. inr (q, rw (ne_eqb i 0 q))) (eq_or_ne i 0)

-- up is y, and then x, on the grid's scale
abbrev O : Raised
O = raised_at 32768 0 0

abbrev Q : Raised
Q = raised_at 0 1 0

rises : (n : ℕ) (a b : Raised) → level_of a < level_of b → Pos (more O Q (move n a) (move n b))
rises n a b h = omega arith

falls : (n : ℕ) (a b : Raised) → level_of b < level_of a → Neg (more O Q (move n a) (move n b))
falls n a b h = omega arith

left_of_lem : (n : ℕ) (a b c : Raised) → (area_of c b a).plus ≤ (area_of c b a).minus → NonNeg (more (move n a) (move n b) (move n b) (move n c))
left_of_lem n a b c h = omega (arith, area_moved n a b c)

-- two places of the profile on one level are one place
pub one_place : (a b c : Raised) → a.x ≤ 16384 → b.x ≤ 16384 → level_of a ≡ level_of b → Pos (area_of a b c) → ⊥
one_place a b c h k q p =
    let y : a.y ≡ b.y = omega arith in
    let x : a.x ≡ b.x = omega arith in
    flat a.x a.y b.x b.y c x y p
  where
    flat : (ax ay bx by : ℕ) (c : Raised) → ax ≡ bx → ay ≡ by → Pos (area_of (raised_at ax ay 0) (raised_at bx by 0) c) → ⊥
    flat ax ay bx by c x y p = omega (arith, rw (x, y) at p)

module _ (grid : List ℤ) (hull : List ℕ) (some : 0 < length hull)
    (inside : (i : ℕ) → i < length hull → Inside (place_at grid (get_or hull i 0)))
    -- no two neighbouring places are on one level
    (apart : (i : ℕ) → i < length hull → level_of (raised_of (place_at grid (get_or hull i 0))) ≢ level_of (raised_of (place_at grid (get_or hull (next_place (length hull) i) 0))))
    (corners : (i : ℕ) → i < length hull → CornerAt grid hull i) (lone : (i : ℕ) → i < length hull → LoneAt grid hull i)
  where
    abbrev H : ℕ
    H = length hull

    abbrev at : ℕ → Raised
    at i = raised_of (place_at grid (get_or hull i 0))

    abbrev level : ℕ → ℕ
    level i = level_of (at i)

    up_at : (i j : ℕ) → i < H → j < H → ltb (level i) (level j) ≡ goes_up (place_at grid (get_or hull i 0)) (place_at grid (get_or hull j 0))
    up_at i j li lj = up_is_up _ _ (inside i li) (inside j lj)

    goes : (i j : ℕ) → i < H → j < H → level i < level j → goes_up (place_at grid (get_or hull i 0)) (place_at grid (get_or hull j 0)) ≡ true
    goes i j li lj h = sym (up_at i j li lj) ∙ lt-ltb (level i) (level j) h

    stays : (i j : ℕ) → i < H → j < H → level j ≤ level i → goes_up (place_at grid (get_or hull i 0)) (place_at grid (get_or hull j 0)) ≡ false
    stays i j li lj h = sym (up_at i j li lj) ∙ le-ltb (level i) (level j) h

    -- from a lowest place on
    module _ (r : ℕ) (lr : r < length hull) (least : (k : ℕ) → k < length hull → level r ≤ level k) (n : ℕ) where
      -- places from there on
      abbrev q : ℕ → ℕ
      q l = place H r l

      module _ (l : ℕ) (ll : l < H) where
        q_lt : q l < H
        q_lt = ⊎_elim (λ c. omega arith) (λ c. omega (arith, lr)) (place_cases H r l)

        q_next : next_place H (q l) ≡ q (suc l)
        q_next =
            ⊎_elim
            (λ c. ⊎_elim (λ d. ⊎_elim (λ n. omega (arith, lr)) (λ n. omega (arith, lr)) (after_cases H (q l)))
            (λ d. ⊎_elim (λ n. omega (arith, lr)) (λ n. omega (arith, lr)) (after_cases H (q l))) (place_cases H r (suc l)))
            (λ c. ⊎_elim (λ d. ⊎_elim (λ n. omega (arith, lr)) (λ n. omega (arith, lr)) (after_cases H (q l)))
            (λ d. ⊎_elim (λ n. omega (arith, lr)) (λ n. omega (arith, lr)) (after_cases H (q l))) (place_cases H r (suc l)))
            (place_cases H r l)

      q_prior : (l : ℕ) → suc l < H → prior_place H (q (suc l)) ≡ q l
      q_prior l ll =
          ⊎_elim
          (λ c. ⊎_elim (λ d. ⊎_elim (λ n. omega (arith, lr)) (λ n. omega (arith, lr)) (prior_cases H (q (suc l))))
          (λ d. ⊎_elim (λ n. omega (arith, lr)) (λ n. omega (arith, lr)) (prior_cases H (q (suc l)))) (place_cases H r (suc l)))
          (λ c. ⊎_elim (λ d. ⊎_elim (λ n. omega (arith, lr)) (λ n. omega (arith, lr)) (prior_cases H (q (suc l))))
          (λ d. ⊎_elim (λ n. omega (arith, lr)) (λ n. omega (arith, lr)) (prior_cases H (q (suc l)))) (place_cases H r (suc l)))
          (place_cases H r l)

      q_other : (l : ℕ) → suc l < H → q (suc l) ≢ r
      q_other l ll e = ⊎_elim (λ c. omega arith) (λ c. omega (arith, lr)) (place_cases H r (suc l))

      -- q (suc l) for a last l is r again
      q_in : (l : ℕ) → l < H → q (suc l) < H
      q_in l ll = ⊎_elim (λ c. omega arith) (λ c. omega (arith, lr)) (place_cases H r (suc l))

      q_apart : (l : ℕ) → l < H → level (q l) ≢ level (q (suc l))
      q_apart l ll e = apart (q l) (q_lt l ll) (e ∙ ap level (sym (q_next l ll)))

      -- the two edges at place q (suc l)
      module _ (l : ℕ) (ll : suc l < H) where
        before_is : up_before grid hull (q (suc l)) ≡ goes_up (place_at grid (get_or hull (q l) 0)) (place_at grid (get_or hull (q (suc l)) 0))
        before_is = ap (λ i. goes_up (place_at grid (get_or hull i 0)) (place_at grid (get_or hull (q (suc l)) 0))) (q_prior l ll)

        after_is : up_after grid hull (q (suc l)) ≡ goes_up (place_at grid (get_or hull (q (suc l)) 0)) (place_at grid (get_or hull (q (suc (suc l))) 0))
        after_is = ap (λ i. goes_up (place_at grid (get_or hull (q (suc l)) 0)) (place_at grid (get_or hull i 0))) (q_next (suc l) ll)

        ql : q l < H
        ql = q_lt l (omega arith)

        qs : q (suc l) < H
        qs = q_lt (suc l) ll

        qss : q (suc (suc l)) < H
        qss = q_in (suc l) ll

        left : up_before grid hull (q (suc l)) ≡ up_after grid hull (q (suc l))
            → (area_of (at (q (suc (suc l)))) (at (q (suc l))) (at (q l))).plus ≤ (area_of (at (q (suc (suc l)))) (at (q (suc l))) (at (q l))).minus
        left e =
            let h = corners (q (suc l)) qs e in
            let k = subst (λ i. turns_right (place_at grid (get_or hull i 0)) (place_at grid (get_or hull (q (suc l)) 0)) (place_at grid (get_or hull (next_place H (q (suc l))) 0)) ≡ false) (q_prior l ll) h in
            let j = subst (λ i. turns_right (place_at grid (get_or hull (q l) 0)) (place_at grid (get_or hull (q (suc l)) 0)) (place_at grid (get_or hull i 0)) ≡ false) (q_next (suc l) ll) k in
            ltb-false _ _ (turns_is _ _ _ (inside (q (suc (suc l))) qss) (inside (q (suc l)) qs) (inside (q l) ql) ∙ j)

      -- there a run of edges up begins, and nowhere else
      prior_lt : prior_place H r < H
      prior_lt = ⊎_elim (λ c. omega (arith, lr)) (λ c. omega (arith, lr)) (prior_cases H r)

      begins : StartAt grid hull r
      begins =
          let next = after_lt H r lr in
          (stays (prior_place H r) r prior_lt lr (least (prior_place H r) prior_lt), goes r (next_place H r) lr next (omega (arith, least (next_place H r) next, apart r lr)))

      only : (i : ℕ) → i < H → StartAt grid hull i → i ≡ r
      only i li s =
          ⊎_elim
          (λ h. absurd (lone r lr begins i h s))
          (λ h. ⊎_elim (λ k. absurd (lone i li s r k begins)) (λ k. omega arith) (lt_or_ge r i))
          (lt_or_ge i r)

      -- how many edges go up from there
      ups : (m : ℕ) × (m ≤ H) × ((k : ℕ) → k < m → level (q k) < level (q (suc k))) × (m < H → level (q (suc m)) ≤ level (q m))
      ups = run (λ l. level (q l)) (λ l. level (q (suc l))) H

      module _ (m : ℕ) (up : (k : ℕ) → k < m → level (q k) < level (q (suc k))) (stop : m < H → level (q (suc m)) ≤ level (q m)) (within : m ≤ H) where
        -- after the first edge down all go down: one that went up would begin a second run
        down : (d : ℕ) → m + d < H → level (q (suc (m + d))) < level (q (m + d))
        down zero l =
            let z : m + 0 ≡ m = omega arith in
            subst (λ j. level (q (suc j)) < level (q j)) (sym z) (omega (arith, stop (omega arith), q_apart m (omega arith)))
        down (suc d) l =
            let e : m + suc d ≡ suc (m + d) = omega arith in
            let j = m + d in
            let lj : suc j < H = omega arith in
            let h = down d (omega arith) in
            subst (λ j. level (q (suc j)) < level (q j)) (sym e) (⊎_elim
            (λ u. absurd (q_other j lj (only (q (suc j)) (qs j lj) (
              before_is j lj ∙ stays (q j) (q (suc j)) (ql j lj) (qs j lj) (omega arith),
              after_is j lj ∙ goes (q (suc j)) (q (suc (suc j))) (qs j lj) (qss j lj) u,
            ))))
            (λ u. omega (arith, u, q_apart (suc j) lj))
            (lt_or_ge (level (q (suc j))) (level (q (suc (suc j))))))

        downs : (l : ℕ) → m ≤ l → l < H → level (q (suc l)) < level (q l)
        downs l h k = let e : m + (l - m) ≡ l = omega arith in subst (λ j. level (q (suc j)) < level (q j)) e (down (l - m) (omega arith))

        pub runs : Runs hull (λ v. move n (raised_of (place_at grid v))) r m lr O Q
        runs = record {
          ups = λ l h. rises n (at (q l)) (at (q (suc l))) (up l h);
          downs = λ l h k. falls n (at (q l)) (at (q (suc l))) (downs l h k);
          turn_up = λ l h.
              let lj : suc l < H = omega (arith, within) in
              left_of_lem n (at (q l)) (at (q (suc l))) (at (q (suc (suc l)))) (left l lj (before_is l lj ∙ goes (q l) (q (suc l)) (ql l lj) (qs l lj) (up l (omega arith))
              ∙ sym (after_is l lj ∙ goes (q (suc l)) (q (suc (suc l))) (qs l lj) (qss l lj) (up (suc l) h))));
          turn_down = λ l h k.
              left_of_lem n (at (q l)) (at (q (suc l))) (at (q (suc (suc l)))) (left l k (before_is l k ∙ stays (q l) (q (suc l)) (ql l k) (qs l k) (omega (arith, downs l h (omega arith)))
              ∙ sym (after_is l k ∙ stays (q (suc l)) (q (suc (suc l))) (qs l k) (qss l k) (omega (arith, downs (suc l) (omega arith) k)))));
        }

    -- the theorem
    pub hull_convex : (n : ℕ) → Convex hull (λ v. move n (raised_of (place_at grid v)))
    hull_convex n =
        let low = lowest level H some in
        let u = ups low.0 low.1 low.2 n in
        by_runs hull (λ v. move n (raised_of (place_at grid v))) low.0 u.0 low.1 O Q (runs low.0 low.1 low.2 n u.0 u.2 u.3 u.1)
