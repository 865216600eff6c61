-- The walk of a ring: the definition on what is left of the walk, from the present state, is the whole (`Walking-start`, `walking_step`, `walking_end`).
use Rattle.std.specs.Prelude.{◌≡◌, true, false, List, [], ◌∷◌, map, ℕ, zero, suc, ◌+◌, ◌-◌, ◌*◌, ◌/◌, ◌≤◌, ◌<◌, Float, length}
use Rattle.std.proofs.Math.Path.{refl}
use Rattle.std.proofs.Common.{sym, ap, subst, ◌∙◌, ⊎_elim, arith}
use Rattle.base.specs.numbers.Numbers.{EMPTY}
use Rattle.base.specs.common.laws.Decide.{lt_or_ge}
use Rattle.plane.specs.points.Plane.{at}
use Rattle.plane.specs.points.Flat.{point_at}
use Rattle.plane.specs.declared.boxes.BoundingBox.{BoundingBox}
use Rattle.mesh.specs.Mesh.{next_of, turn_of, walk_of, whole_of}
use Rattle.mesh.specs.laws.WalkSteps.{walk_go, walk_done}
use Rattle.cutting.specs.cuts.Rings.{At}
use Rattle.cutting.specs.cuts.Stream.{feed_all}
use Rattle.cutting.specs.rings.Names.{on_hull}
use Rattle.cutting.specs.border.Border.{hull_end}
use Rattle.cutting.specs.declared.corner.Corner.{Corner}
use Rattle.cutting.specs.declared.corner.Carrier.{Carrier}
use Rattle.cutting.specs.declared.corner.Carrier.TheVariants.{Infinity}
use Rattle.cutting.specs.pen.Pen.{Page}
use Rattle.cutting.specs.corner.Corner.{circle_center}
use Rattle.cutting.specs.whole.Whole.{bisector_of}
use Rattle.plane.specs.declared.points.Point.{Point}
use Rattle.cutting.specs.pen.Room.{Later, Ready, later_on}
use Rattle.cutting_writer.specs.stream.Stages.{Ring, Stages, left_of, feed_left}
use Rattle.cutting_writer.specs.stream.laws.Stages.{left_grows, ready_first, ready_then}
use Rattle.cutting_writer.specs.declared.site.Walk.{Walk}
use Rattle.cutting_writer.specs.site.Ring.{out_at, ray_of, far_of, last_or}
use Rattle.cutting_writer.specs.site.Walked.{page_of, OneMore, Walkable, WalkedAll}

-- a circumcenter is as it was
pub center_kept : {g h : Page} (centers : ℕ) → Later g h → centers + 4 ≤ g.pen.count → (q : ℕ) → q < centers → point_at h.vertices q ≡ point_at g.vertices q
center_kept centers l few q in-centers = λ i. at (l.kept (2 * q) (omega arith) i) (l.kept (2 * q + 1) (omega arith) i)

pub out_kept : {g h : Page} (tri : List ℕ) (centers : ℕ) → Later g h → centers + 4 ≤ g.pen.count → (e : ℕ) → e < 3 * centers → out_at tri h.vertices e ≡ out_at tri g.vertices e
out_kept tri centers l few e in-centers = ap (λ (p : Point). record { corner = circle_center p (e / 3); on = bisector_of tri (next_of e) }) (center_kept centers l few (e / 3) (omega arith))

pub no_walk : (he : List ℕ) (t e : ℕ) → walk_of he t zero e ≡ []
unfolding walk_of
no_walk he t e = refl

-- the last half-edge of a walk is one
pub last_in : (he : List ℕ) (t k e d : ℕ) → d < length he → last_or d (walk_of he t k e) < length he
last_in he t zero e d h = rw (no_walk he t e) h
last_in he t (suc k) e d h =
    ⊎_elim
    (λ l. rw (walk_go he t k e l) (last_in he t k (turn_of he t e) e l))
    (λ l. rw (walk_done he t (suc k) e l) h)
    (lt_or_ge e (length he))

module _ (b : BoundingBox) (sites : List Float) (tri he : List ℕ) (centers t : ℕ) (S : Stages) (v₀ : List Float) where
  pub record Walking (w : Walk) (v : List Float) (ix : List ℕ) (left : ℕ) : Type 0 where
    pub all : feed_all (feed_left b sites centers) (left_of w.stage v ix) (map (out_at tri v₀) (walk_of he t left w.e)) ≡ feed_all (feed_left b sites centers) S (map (out_at tri v₀) (whole_of he t))
    pub last : last_or w.last (walk_of he t left w.e) ≡ last_or t (whole_of he t)
    pub later : Later (page_of S) (page_of (left_of w.stage v ix))

  pub walking_end : {w : Walk} {v : List Float} {ix : List ℕ} {left : ℕ} → Walking w v ix left → walk_of he t left w.e ≡ [] → WalkedAll b sites tri he centers t S v₀ w v ix
  walking_end x q = record { stage = rw q at x.all; last = rw q at x.last }

  pub walking_over : {w : Walk} {v : List Float} {ix : List ℕ} (left : ℕ) → Walking w v ix left → length he ≤ w.e → WalkedAll b sites tri he centers t S v₀ w v ix
  walking_over {w} left x l = walking_end x (walk_done he t left w.e l)

  pub walking_out : {w : Walk} {v : List Float} {ix : List ℕ} (left : ℕ) → left ≡ 0 → Walking w v ix left → WalkedAll b sites tri he centers t S v₀ w v ix
  walking_out {w} left z x = walking_end x (rw z (no_walk he t w.e))

  module _ (ok : Walkable b sites tri he centers t S v₀) (same : (page_of S).vertices ≡ v₀) {w : Walk} {v : List Float} {ix : List ℕ} (k : ℕ) (x : Walking w v ix (suc k)) (l : w.e < length he) where
    abbrev here : Stages
    here = left_of w.stage v ix

    out_same : out_at tri v w.e ≡ out_at tri v₀ w.e
    out_same = out_kept tri centers x.later ok.ready.corners w.e (omega (arith, ok.thirds)) ∙ ap (λ (u : List Float). out_at tri u w.e) same

    gone : feed_all (feed_left b sites centers) here (out_at tri v₀ w.e ∷ map (out_at tri v₀) (walk_of he t k (turn_of he t w.e))) ≡ feed_all (feed_left b sites centers) S
        (map (out_at tri v₀) (whole_of he t))
    gone = rw (walk_go he t k w.e l) at x.all

    pub walking_asks : Ready centers (page_of here) (page_of (feed_left b sites centers here (out_at tri v w.e)))
    walking_asks =
        rw out_same
        (ready_first page_of (feed_left b sites centers) (left_grows b sites centers) centers here (out_at tri v₀ w.e) (map (out_at tri v₀) (walk_of he t k (turn_of he t w.e)))
        (ready_then x.later (rw (sym gone) at ok.ready)))

    pub walking_step : {r : Walk} {v₁ : List Float} {ix₁ : List ℕ} → OneMore b sites tri he centers t w v ix r v₁ ix₁ → Walking r v₁ ix₁ k
    walking_step {r} {v₁} {ix₁} m =
        let s : left_of r.stage v₁ ix₁ ≡ feed_left b sites centers here (out_at tri v₀ w.e) = m.stage ∙ ap (feed_left b sites centers here) out_same in
        record {
          all = ap (λ (u : Stages). feed_all (feed_left b sites centers) u (map (out_at tri v₀) (walk_of he t k r.e))) s ∙ rw m.next gone;
          last = rw (m.next, m.last) (rw (walk_go he t k w.e l) at x.last);
          later = subst (λ (u : Stages). Later (page_of S) (page_of u)) (sym s) (later_on x.later (left_grows b sites centers here (out_at tri v₀ w.e)));
        }

  -- with as many steps left as the code counts
  module _ (ok : Walkable b sites tri he centers t S v₀) (same : (page_of S).vertices ≡ v₀) {w : Walk} {v : List Float} {ix : List ℕ} (left : ℕ) (more : 0 < left) (x : Walking w v ix left)
      (l : w.e < length he)
    where
      one_less : Walking w v ix (suc (left - 1))
      one_less = let q : left ≡ suc (left - 1) = omega arith in subst (λ (n : ℕ). Walking w v ix n) q x

      pub counted_asks : (w.e < EMPTY) × Ready centers (page_of (left_of w.stage v ix)) (page_of (feed_left b sites centers (left_of w.stage v ix) (out_at tri v w.e)))
      counted_asks = (omega (arith, ok.small), walking_asks ok same (left - 1) one_less l)

      pub counted_step : {r : Walk} {v₁ : List Float} {ix₁ : List ℕ} → OneMore b sites tri he centers t w v ix r v₁ ix₁ → Walking r v₁ ix₁ (left - 1)
      counted_step m = walking_step ok same (left - 1) one_less l m

-- ---- the ends of the ring: none, or one corner at infinity
module _ (b : BoundingBox) (sites : List Float) (centers : ℕ) (X : Stages) {l : Ring} where
  pub none_made : l ≡ [] → X ≡ feed_all (feed_left b sites centers) X l
  none_made q = rw q refl

  module _ {w : At Corner Carrier} (v : At Corner Carrier) (q : l ≡ w ∷ []) (e : v ≡ w) where
    pub one_asks : Ready centers (page_of X) (page_of (feed_all (feed_left b sites centers) X l)) → Ready centers (page_of X) (page_of (feed_left b sites centers X v))
    one_asks r = rw e (rw q at r)

    pub one_made : {y : Stages} → y ≡ feed_left b sites centers X v → y ≡ feed_all (feed_left b sites centers) X l
    one_made d = rw q (d ∙ ap (feed_left b sites centers X) e)

module _ (sites : List Float) (tri he : List ℕ) (centers : List Float) (t : ℕ) where
  pub ray_there : on_hull he t ≡ true → ray_of sites tri he centers t ≡ record { corner = hull_end sites tri centers t; on = bisector_of tri t } ∷ []
  unfolding ray_of
  ray_there h = rw h refl

  pub ray_none : on_hull he t ≡ false → ray_of sites tri he centers t ≡ []
  unfolding ray_of
  ray_none h = rw h refl

  pub far_there : on_hull he (next_of t) ≡ true → far_of sites tri he centers t ≡ record { corner = hull_end sites tri centers (next_of t); on = Infinity } ∷ []
  unfolding far_of
  far_there h = rw h refl

  pub far_none : on_hull he (next_of t) ≡ false → far_of sites tri he centers t ≡ []
  unfolding far_of
  far_none h = rw h refl
