-- The walk round an inner site, backwards: from its first half-edge one comes to the last of the walk, then to the one before it, and at the end back to the first. So the cell of
-- an early site is walked, a step back each. It has a step for each triangle of the site, and its region has room for as many, but for the owner of three corners or more.
use Rattle.std.specs.Prelude.{◌≡◌, refl, ◌≢◌, ℕ, zero, suc, ◌+◌, ◌-◌, ◌/◌, ◌≤◌, ◌<◌, eqb, length, get_or}
use Rattle.std.proofs.Common.{sym, ap, ◌∙◌, ⊎_elim, eq-eqb, ne_eqb}
use mathlib.Core.List.{List, [], ◌∷◌, map, reverse, reverse_aux}
use Prim.{tt}
use native.Mathlib.Omega.{arith}
use Rattle.std.proofs.Math.ListN.{length-reverse_aux}
use Rattle.base.specs.common.Count.{same, occ}
use Rattle.base.specs.common.laws.Count.{same_cases, weighed}
use Rattle.base.specs.common.laws.Decide.{lt_or_ge}
use Rattle.base.specs.numbers.Numbers.{EMPTY}
use Rattle.mesh.specs.Mesh.{next_of, end_of, pair_of, around, turn_of, walk_of, whole_of, leftmost_of, Paired}
use Rattle.mesh.specs.laws.Next.{next_sum, next_lt, next_thrice}
use Rattle.mesh.specs.laws.Closed.{ClosedAt}
use Rattle.mesh.specs.laws.Degree.{ends_counted, walk_degree}
use Rattle.mesh.specs.laws.Facts.{with_fans, paired, walk_each, walk_only}
use Rattle.mesh.specs.laws.WalkSteps.{walk_go, walk_done}
use Rattle.mesh.specs.laws.Walks.{mate, turn_cases, turn_there, turn_end, turn_start, walk_short, walk_whole}
use Rattle.definition.specs.Cell.{unmarked}
use Rattle.definition.specs.Build.{CellState}
use Rattle.clipping.specs.interior.laws.InsideWalk.{plains}
use Rattle.cell_builder.specs.declared.tried.Frame.{Frame}
use Rattle.cell_builder.specs.tried.SlicesInvariant.{plan, Ground, Fanned}
use Rattle.cell_builder.specs.tried.laws.Early.{early_cell}
use Rattle.cell_builder.specs.tried.laws.OneTry.{region_room_lem}
use Rattle.cell_builder.specs.turned.Marks.{MadeLast}
use Rattle.cell_builder.specs.turned.laws.Onward.{Onward}
use Rattle.cell_builder.specs.turned.laws.OneTurn.{leftmost, closed}
use Rattle.cell_builder.specs.placed.Placed.{previous_of, back_of, is_nil, Backs, back_triangles, Mutual, BackCell, EarlyWalk}
use Rattle.cell_builder.specs.placed.laws.BothEnds.{previous_sum}

previous_next : (e : ℕ) → previous_of (next_of e) ≡ e
previous_next e = omega (arith, previous_sum (next_of e), next_sum e)

-- ---- the walk reversed

module _ (tri he : List ℕ) (ok : Paired tri he) where
  back_around : (e : ℕ) → e < length he → around he e ≢ EMPTY → back_of he (around he e) ≡ e
  back_around e l n = ap previous_of (mate tri he ok e l n).back ∙ previous_next e

  pair_in : (e : ℕ) → e < length he → around he e ≢ EMPTY → pair_of he (around he e) < length he
  pair_in e l n = rw (mate tri he ok e l n).back (next_lt ok.threes l)

  module _ (site : ℕ) (shut : ClosedAt tri he site) where
    module _ (s : ℕ) (ls : s < length he) where
      comes_back : (e : ℕ) → e < length he → end_of tri e ≡ site → length he ≤ turn_of he s e → around he e ≡ s
      comes_back e l q t = ⊎_elim (λ w. w.0) (λ w. absurd (omega (arith, w.1, (mate tri he ok e l (shut e l q)).inside))) (turn_cases he s e)

      backs : (n e : ℕ) (rs : List ℕ) → e < length he → end_of tri e ≡ site → length (walk_of he s n e) < n → eqb e s ≡ is_nil rs → Backs he s e rs
          → Backs he s s (reverse_aux (walk_of he s n e) rs)
      backs zero e rs l q h z k = absurd (omega arith)
      backs (suc n) e rs l q h z k =
          rw (walk_go he s n e l) (⊎_elim
          (λ t. backs n (turn_of he s e) (e ∷ rs) t (turn_end tri he ok s e l t ∙ q) (omega (arith, ap length (walk_go he s n e l)))
          (ne_eqb (turn_of he s e) s (turn_start tri he ok s e ls))
          ((t, rw (turn_there tri he ok s e t) (pair_in e l (shut e l q))), rw (turn_there tri he ok s e t) (back_around e l (shut e l q)), z, k))
          (λ t. rw (walk_done he s n (turn_of he s e) t) ((ls, rw (comes_back e l q t) at (pair_in e l (shut e l q))), rw (comes_back e l q t) at (back_around e l (shut e l q)), z, k))
          (lt_or_ge (turn_of he s e) (length he)))

    -- the whole walk from e, reversed, is the walk back from e
    pub walk_backs : (e : ℕ) → e < length he → end_of tri e ≡ site → Backs he e e (reverse (whole_of he e))
    walk_backs e l q =
        rw (walk_whole tri he ok e l) at (backs e l (suc (length he)) e [] l q (omega (arith, walk_short tri he ok e l (suc (length he)))) (eq-eqb e e refl) tt)

-- ---- the cell

reverse_thirds : (l rs : List ℕ) → reverse_aux (map (λ f. f / 3) l) (map (λ f. f / 3) rs) ≡ map (λ f. f / 3) (reverse_aux l rs)
reverse_thirds [] rs = refl
reverse_thirds (x ∷ l) rs = reverse_thirds l (x ∷ rs)

plains_walked : (x : ℕ) (ys : List ℕ) → unmarked (plains (x / 3) (map (λ f. f / 3) ys)) ≡ back_triangles x ys
plains_walked x [] = refl
plains_walked x (y ∷ ys) = ap (λ (l : List ℕ). x / 3 ∷ l) (plains_walked y ys)

early_walked : (he : List ℕ) (e : ℕ) → unmarked (early_cell he e) ≡ back_triangles e (reverse (whole_of he e))
early_walked he e = ap (λ (l : List ℕ). unmarked (plains (e / 3) l)) (reverse_thirds (whole_of he e) []) ∙ plains_walked e (reverse (whole_of he e))

nowhere : (v : ℕ) (l : List ℕ) → ((i : ℕ) → i < length l → get_or l i 0 ≢ v) → occ v l ≡ 0
nowhere v [] h = refl
nowhere v (x ∷ l) h = ⊎_elim (λ w. absurd (h 0 (omega arith) (sym w.0))) (λ w. omega (arith, w.1, nowhere v l (λ i p. h (suc i) (omega arith)))) (same_cases v x)

module _ {tri he hull table : List ℕ} {f : Frame} {off : List ℕ} {g : Ground} {c : CellState} (a : Onward (plan tri he hull table f off) g c) where
  -- a step for each triangle, where rule 10 holds
  all_steps : Fanned (plan tri he hull table f off) g → (k : ℕ) → k < g.sites → length (whole_of he (get_or table k 0)) ≡ occ k tri
  all_steps fan k l =
      let top = with_fans a.on.mesh fan in
      let walk : List ℕ = whole_of he (get_or (leftmost_of tri he g.sites) k 0) in
      rw a.on.table_is (weighed (λ v. same k (end_of tri v)) (length tri) walk (λ v p. rw top.same at (walk_only top k l v p).0)
      (λ v p. ⊎_elim
      (λ w. walk_each top k l v (rw top.same p) (sym w.0) ∙ sym w.1)
      (λ w. ⊎_elim (λ h. absurd (w.0 (sym (walk_only top k l v h).1))) (λ h. omega (arith, w.1)) (lt_or_ge 0 (occ v walk)))
      (same_cases k (end_of tri v)))
      ∙ ends_counted tri top.threes k)

  -- an inner site is not on the hull
  off_hull : (k : ℕ) → ClosedAt tri he k → occ k hull ≡ 0
  off_hull k shut = nowhere k hull (λ i h q.
      let top = a.on.mesh in
      let o = top.border.edges i h in
      let e = o.0 in
      let threes = (paired top).threes in
      shut (next_of (next_of e)) (next_lt threes (next_lt threes o.1)) (ap (λ (j : ℕ). get_or tri j 0) (next_thrice e) ∙ o.3 ∙ q) (ap (pair_of he) (next_thrice e) ∙ o.2))

  pub pair_back : Mutual he
  pair_back e h = let ok = paired a.on.mesh in ⊎_elim (λ w. absurd (omega (arith, ok.small, h.1, w))) (λ w. w.back) (ok.pairs e h.0)

  module _ {m : List ℕ} where
    -- an early site's cell is a walk back for which its region has room
    pub early_back : (k : ℕ) → k < g.sites → MadeLast he table m k → BackCell he (get_or table k 0) ((get_or off (k + 1) 0 - get_or off k 0) / 3) (unmarked (early_cell he (get_or table k 0)))
    early_back k l x =
        let t = get_or table k 0 in
        let top = a.on.mesh in
        let ends : end_of tri t ≡ k = ((leftmost a k l).some (λ z. omega (arith, top.small, x.entry))).1 in
        let long : length (reverse (whole_of he t)) ≡ length (whole_of he t) = length-reverse_aux (whole_of he t) [] ∙ omega arith in
        let next : k + 1 ≡ suc k = omega arith in
        record {
          along = reverse (whole_of he t);
          backs = walk_backs tri he (paired top) k (closed a k l x.inner) t x.entry ends;
          some = omega (arith, long, ap length (sym (walk_whole tri he (paired top) t x.entry) ∙ walk_go he t (length he) t x.entry));
          short = rw next (omega (arith, long, rw ends at (walk_degree tri he (paired top) top.same t), region_room_lem a.on k l));
          is = early_walked he t;
        }

    back_long : (k : ℕ) (l : k < g.sites) (x : MadeLast he table m k) → length (early_back k l x).along ≡ length (whole_of he (get_or table k 0))
    unfolding early_back
    back_long k l x = length-reverse_aux (whole_of he (get_or table k 0)) [] ∙ omega arith

    pub early_walk : (k : ℕ) → k < g.sites → MadeLast he table m k → EarlyWalk he (get_or table k 0) ((get_or off (k + 1) 0 - get_or off k 0) / 3)
    early_walk k l x = record { cell = _; back = early_back k l x; long = back_long k l x }

    -- where rule 10 holds it takes all of its region's room
    pub early_full : Fanned (plan tri he hull table f off) g → (k : ℕ) (l : k < g.sites) (x : MadeLast he table m k) → occ k g.found ≤ 2
        → (get_or off (k + 1) 0 - get_or off k 0) / 3 ≤ length (early_back k l x).along
    early_full fan k l x few =
        let next : k + 1 ≡ suc k = omega arith in
        rw next (omega (arith, back_long k l x, all_steps fan k l, off_hull k (closed a k l x.inner), region_room_lem a.on k l))
