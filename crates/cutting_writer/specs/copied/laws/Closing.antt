-- A walk laid in the stage from both ends: what comes from the other end closes any walk that leads there (`closing_start`, `closing_back`, `closing_ahead`), so where the two ends meet the
-- walk is round (`met_round`).
use Rattle.std.specs.Prelude.{◌≡◌, refl, List, ℕ, ◌+◌, ◌-◌, ◌/◌, ◌%◌, ◌≤◌, ◌<◌, Float, length, get_or, set}
use Rattle.std.proofs.Common.{sym, ap, ◌∙◌, ⊎_elim, arith, length-set, get_or-set_same, get_or-set_other}
use Rattle.base.specs.common.laws.Decide.{eq_or_ne}
use Rattle.plane.specs.points.Flat.{point_at}
use Rattle.plane.specs.declared.points.Point.{Point}
use Rattle.plane.specs.declared.boxes.BoundingBox.{BoundingBox}
use Rattle.mesh.specs.Mesh.{around}
use Rattle.cutting_writer.specs.copied.Copied.{LapCorner, JoinedTo, EndsMeet, Begun, LapLaid, BothStepped}
use Rattle.cutting_writer.specs.copied.laws.Lapping.{Lapping, lapping_start, lapping_step, lapping_ahead, lapping_end}

module _ (b : BoundingBox) (he : List ℕ) (centers : List Float) (t n : ℕ) (first : Point) where
  -- a walk of n that comes back to t
  pub record LapClosed (stage : List ℕ) : Type 0 where
    pub from : ℕ
    pub last : Point
    pub lap : Lapping b he centers t stage n from first last
    pub back : around he from ≡ t

  -- from place j on the stage has the end of a walk that begins with f there
  pub record Closing (stage : List ℕ) (j f : ℕ) (next : Point) : Type 0 where
    pub there : f < length he
    pub rest : (s : List ℕ) → ((k : ℕ) → j ≤ k → k < n → get_or s k 0 ≡ get_or stage k 0) → (e : ℕ) (last : Point) → Lapping b he centers t s j e first last
        → JoinedTo he e last f next → LapClosed s

  pub closing_start : (stage : List ℕ) → t < length he → Closing stage n t first
  closing_start stage there = record { there = there; rest = λ s same e last x y. record { from = e; last = last; lap = x; back = sym y.step } }

  module _ (stage : List ℕ) (j f : ℕ) (next : Point) (x : Closing stage j f next) where
    -- what is before it may change
    pub closing_ahead : (k q : ℕ) → k < j → Closing (set stage k q) j f next
    closing_ahead k q ahead = record {
      there = x.there;
      rest = λ s same. x.rest s (λ m h l. same m h l ∙ get_or-set_other stage k m q 0 (λ z. omega arith));
    }

    -- one more
    pub closing_back : (i : ℕ) → j ≡ i + 1 → j ≤ n → j ≤ length he → j ≤ length stage → (g : ℕ) (p : Point) → LapCorner b he centers t g p → JoinedTo he g p f next
        → Closing (set stage i (g / 3)) i g p
    closing_back i one low few room g p at to = record {
      there = at.there;
      rest = λ s same e last y z.
          let entry : get_or s i 0 ≡ g / 3 = same i (omega arith) (omega arith) ∙ get_or-set_same stage i (g / 3) 0 (omega arith) in
          x.rest s (λ m h l. same m (omega arith) l ∙ get_or-set_other stage i m (g / 3) 0 (λ r. omega arith)) g p
          (rw (sym one) at (lapping_step b he centers t s i e first last y (omega arith) g p at z entry)) to;
    }

  -- ---- both ends
  pub record EndsNearing (stage : List ℕ) (i e : ℕ) (last : Point) (j f : ℕ) (next : Point) : Type 0 where
    pub sum : i + j ≡ n + 1
    pub order : i ≤ j
    pub on : Lapping b he centers t stage i e first last
    pub back : Closing stage j f next

  pub nearing_start : (stage : List ℕ) → Begun b he centers t n first stage → EndsNearing (set stage 0 (t / 3)) 1 t first n t first
  nearing_start stage x = record {
    sum = omega arith;
    order = omega (arith, x.many);
    on = lapping_start b he centers t stage (omega (arith, x.many, x.room)) x.steps.small x.there x.begins first x.here x.inside;
    back = closing_start (set stage 0 (t / 3)) x.there;
  }

  module _ (stage : List ℕ) (i e : ℕ) (last : Point) (j f : ℕ) (next : Point) (x : EndsNearing stage i e last j f next) (few : n ≤ length he) (room : n ≤ length stage) where
    low : j ≤ n
    low = omega (arith, x.sum, x.on.some)

    pub nearing_step : i + 1 < j → (a : ℕ) (p : Point) (g : ℕ) (q : Point) → BothStepped b he centers t e last f next a p g q
        → EndsNearing (set (set stage i (a / 3)) (j - 1) (g / 3)) (i + 1) a p (j - 1) g q
    nearing_step more a p g q y =
        let one : j ≡ j - 1 + 1 = omega arith in
        let laid : List ℕ = set stage i (a / 3) in
        let long : length laid ≡ length stage = length-set stage i (a / 3) in
        let on : Lapping b he centers t laid (i + 1) a first p =
        lapping_step b he centers t laid i e first last (lapping_ahead b he centers t stage i e first last x.on i (a / 3) (omega arith)) (omega (arith, low)) a p y.on y.from
        (get_or-set_same stage i (a / 3) 0 (omega (arith, low))) in
        record {
          sum = omega (arith, x.sum);
          order = omega arith;
          on = lapping_ahead b he centers t laid (i + 1) a first p on (j - 1) (g / 3) (omega arith);
          back = closing_back laid j f next (closing_ahead stage j f next x.back i (a / 3) (omega arith)) (j - 1) one low (omega (arith, low)) (omega (arith, low, long)) g q y.back y.to;
        }

    module _ (over : j ≤ i + 1) (many : 3 ≤ n) (new : List ℕ) (m : EndsMeet b he centers t i j e last f next stage new) where
      all_round : LapClosed new
      all_round = ⊎_elim
          (λ z. let y = m.none z in
          rw (sym y.0) at (x.back.rest stage (λ k h l. refl) e last (rw z at x.on) y.1))
          (λ z. let y = m.one z in
          let next_is : j ≡ i + 1 = omega (arith, x.order) in
          let laid : List ℕ = set stage i (y.a / 3) in
          let on : Lapping b he centers t laid (i + 1) y.a first y.p =
          lapping_step b he centers t laid i e first last (lapping_ahead b he centers t stage i e first last x.on i (y.a / 3) (omega arith)) (omega (arith, low)) y.a y.p y.on
          y.from (get_or-set_same stage i (y.a / 3) 0 (omega (arith, low))) in
          rw (sym y.laid) at (x.back.rest laid (λ k h l. get_or-set_other stage i k (y.a / 3) 0 (λ r. omega arith)) y.a y.p (rw (sym next_is) at on) y.to))
          (eq_or_ne i j)

      pub met_round : length he % 3 ≡ 0 → LapLaid b he centers t n first new
      met_round thirds =
          let r = all_round in
          record {
            end = omega (arith, r.lap.entry, r.lap.scan.here);
            lap = λ last q apart.
                let same : r.last ≡ last = r.lap.here ∙ sym (q ∙ ap (point_at centers) r.lap.entry) in
                rw same at (lapping_end b he centers t new n r.from first r.last r.lap few r.back (rw same apart) many);
          }
