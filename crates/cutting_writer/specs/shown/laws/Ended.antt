-- Law: a piece that is closed has entries that stand for the ring as it is written: without the place at the end that is the first again, none where fewer than three are left, and the
-- other way round (`ended_stands`).
use Rattle.std.specs.Prelude.{◌≡◌, refl, Bool, true, false, Some, cond, List, [], ◌∷◌, ◌⊎◌, ℕ, zero, suc, ◌+◌, ◌-◌, ◌≤◌, ◌<◌, length, get_or}
use Rattle.std.proofs.Common.{sym, ap, ◌∙◌, inl, inr, ⊎_elim, arith, lt-ltb, le-ltb}
use Rattle.base.specs.common.Pick.{pick}
use Rattle.plane.specs.declared.points.Point.{Point}
use Rattle.cutting.specs.cuts.Written.{unrepeated, trimmed, three_or_none, backward, written_ring}
use Rattle.cutting.specs.declared.pen.Pen.{Pen}
use Rattle.cutting.specs.pen.Pen.{same_place, Page}
use Rattle.cutting.specs.pen.Room.{Roomy}
use Rattle.cutting_writer.specs.turn.Turned.{turned_round}
use Rattle.cutting_writer.specs.turn.laws.Turning.{length_backward, get_d_backward, in_part}
use Rattle.cutting_writer.specs.end.Ended.{closed_at, kept_at, ended}
use Rattle.cutting_writer.specs.join.laws.Equals.{place_back, place_both}
use Rattle.cutting_writer.specs.join.laws.Closing.{last_or, drop_last, trimmed_once}
use Rattle.cutting_writer.specs.join.laws.Shown.{Shown}
use Rattle.cutting_writer.specs.shown.laws.Inking.{origin, EntriesStand, Inking}

same_test : (p q : Point) → same_place p q ≡ same_place q p
same_test p q = go (same_place p q) refl (same_place q p) refl
  where
    go : (s : Bool) → same_place p q ≡ s → (t : Bool) → same_place q p ≡ t → s ≡ t
    go true e true f = refl
    go true e false f = sym (sym f ∙ place_back p q e)
    go false e true f = sym e ∙ place_back q p f
    go false e false f = refl

drop_length : (z : Point) (r : List Point) → length (drop_last (z ∷ r)) ≡ length r
drop_length z [] = refl
drop_length z (w ∷ r) = ap suc (drop_length w r)

drop_at : (l : List Point) (k : ℕ) → k < length (drop_last l) → get_or (drop_last l) k origin ≡ get_or l k origin
drop_at [] k h = refl
drop_at (z ∷ []) k h = absurd (omega arith)
drop_at (z ∷ w ∷ r) zero h = refl
drop_at (z ∷ w ∷ r) (suc k) h = drop_at (w ∷ r) k (omega arith)

-- the part that stays is the beginning of what was written
pub record FirstOnes (m l : List Point) : Type 0 where
  pub few : length m ≤ length l
  pub each : (k : ℕ) → k < length m → get_or m k origin ≡ get_or l k origin

begins_whole : (l : List Point) → FirstOnes l l
begins_whole l = record { few = omega arith; each = λ k h. refl }

closed_at_lem : (pen : Pen) (begin : ℕ) (q : Point) (rest u : List Point) → unrepeated same_place q rest ≡ u → pen.at ≡ begin + length (q ∷ u)
    → pen.ends ≡ Some (record { first = q; last = last_or q u })
    → (closed_at begin pen ≡ begin + length (q ∷ trimmed same_place q u)) × FirstOnes (q ∷ trimmed same_place q u) (q ∷ u)
unfolding closed_at
closed_at_lem pen begin q rest [] e at ends = (rw (lt-ltb (pen.at - begin) 2 (omega (arith, at))) at, begins_whole (q ∷ []))
closed_at_lem pen begin q rest (z ∷ r) e at ends =
    rw (le-ltb (pen.at - begin) 2 (omega (arith, at)), ends, same_test q (last_or z r), trimmed_once same_place place_both q z r rest e) (go (same_place (last_or z r) q))
  where
    go : (t : Bool) → (pick t (λ _. pen.at - 1) (λ _. pen.at) ≡ begin + length (q ∷ cond t (drop_last (z ∷ r)) (z ∷ r))) × FirstOnes (q ∷ cond t (drop_last (z ∷ r)) (z ∷ r)) (q ∷ z ∷ r)
    go true = (omega (arith, at, drop_length z r), record { few = omega (arith, drop_length z r); each = shorter })
      where
        shorter : (k : ℕ) → k < length (q ∷ drop_last (z ∷ r)) → get_or (q ∷ drop_last (z ∷ r)) k origin ≡ get_or (q ∷ z ∷ r) k origin
        shorter zero h = refl
        shorter (suc k) h = drop_at (z ∷ r) k (omega arith)
    go false = (at, begins_whole (q ∷ z ∷ r))

three_cases : (l : List Point) → ((length l < 3) × (three_or_none l ≡ [])) ⊎ ((3 ≤ length l) × (three_or_none l ≡ l))
three_cases [] = inl (omega arith, refl)
three_cases (p ∷ []) = inl (omega arith, refl)
three_cases (p ∷ q ∷ []) = inl (omega arith, refl)
three_cases (p ∷ q ∷ z ∷ r) = inr (omega arith, refl)

kept_at_lem : (begin at : ℕ) (l d : List Point) → at ≡ begin + length l → FirstOnes l d → (kept_at begin at ≡ begin + length (three_or_none l)) × FirstOnes (three_or_none l) d
unfolding kept_at
kept_at_lem begin at l d e s = ⊎_elim
    (λ w. rw (lt-ltb (at - begin) 3 (omega (arith, w.0)), w.1) (omega arith, record { few = omega arith; each = λ k h. absurd (omega arith) }))
    (λ w. rw (le-ltb (at - begin) 3 (omega (arith, w.0)), w.1) (e, s))
    (three_cases l)

-- the other way round
turned_stands : (begin to : ℕ) (g : Page) (d p : List Point) → EntriesStand begin d g → FirstOnes p d → to ≡ begin + length p → g.pen.at ≤ length g.indexes → (k : ℕ) → k < length (backward p)
    → (get_or (turned_round begin to g.indexes) (begin + k) 0 < g.pen.count) × Shown g.vertices (get_or (turned_round begin to g.indexes) (begin + k) 0) (get_or (backward p) k origin)
turned_stands begin to g d p s w e room k h =
    let l : k < length p = omega (arith, length_backward p) in
    let j : ℕ = length p - 1 - k in
    let there : begin + to - 1 - (begin + k) ≡ begin + j = omega arith in
    rw (in_part begin to g.indexes 0 (omega arith) (omega (arith, w.few, s.at)) (begin + k) (omega arith) (omega arith), there, get_d_backward p k origin l, w.each j (omega arith))
    (s.shown j (omega (arith, w.few)))

pub ended_stands : (g : Page) (begin : ℕ) (q : Point) (rest : List Point) → Inking begin q (unrepeated same_place q rest) g → Roomy g
    → EntriesStand begin (written_ring same_place (q ∷ rest)) (ended begin g)
ended_stands g begin q rest i room =
    let c = closed_at_lem g.pen begin q rest (unrepeated same_place q rest) refl i.stands.at i.ends in
    let t : List Point = q ∷ trimmed same_place q (unrepeated same_place q rest) in
    let k = kept_at_lem begin (closed_at begin g.pen) t (q ∷ unrepeated same_place q rest) c.0 c.1 in
    record {
      at = k.0 ∙ ap (λ (n : ℕ). begin + n) (sym (length_backward (three_or_none t)));
      shown = turned_stands begin (kept_at begin (closed_at begin g.pen)) g (q ∷ unrepeated same_place q rest) (three_or_none t) i.stands k.1 k.0 room.indexes;
    }
