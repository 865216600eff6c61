-- Law: every corner of a site's ring, cut by the four sides, is a circumcenter's place with its number or has none (`ring_numbered`).
use Rattle.std.specs.Prelude.{◌≡◌, Bool, true, false, cond, List, [], ◌∷◌, ◌++◌, map, ℕ, zero, suc, ◌*◌, ◌/◌, ◌≤◌, ◌<◌, ltb, Float, length}
use Rattle.std.proofs.Math.Path.{refl}
use Rattle.std.proofs.Common.{sym, inl, inr, ⊎_elim, arith}
use Rattle.base.specs.common.Pick.{pick}
use Rattle.base.specs.common.laws.Decide.{lt_or_ge}
use Rattle.base.specs.numbers.Numbers.{EMPTY}
use Rattle.plane.specs.points.Flat.{point_at}
use Rattle.plane.specs.declared.boxes.BoundingBox.{BoundingBox}
use Rattle.mesh.specs.Mesh.{next_of, turn_of, walk_of, whole_of}
use Rattle.mesh.specs.laws.WalkSteps.{walk_go, walk_done}
use Rattle.cutting.specs.cuts.Rings.{At, head_or}
use Rattle.cutting.specs.cuts.Cut.{kept_by, kept, cut_to, cut_by}
use Rattle.cutting.specs.rings.Names.{on_hull}
use Rattle.cutting.specs.corner.Corner.{upper_end, line_end, Crossings, meet_of, side_of}
use Rattle.cutting.specs.declared.corner.SideName.{SideName}
use Rattle.cutting.specs.declared.corner.SideName.TheVariants.{Left, Top, Right, Bottom}
use Rattle.cutting.specs.declared.corner.Corner.{Corner}
use Rattle.cutting.specs.declared.corner.Carrier.{Carrier}
use Rattle.cutting.specs.declared.corner.Carrier.TheVariants.{Bisector, Along, Infinity}
use Rattle.cutting.specs.meet.Crossing.{crossings_of}
use Rattle.cutting.specs.whole.Whole.{bisector_of}
use Rattle.cutting.specs.border.Border.{hull_end}
use Rattle.cutting_writer.specs.stream.Stages.{Ring, cut_four}
use Rattle.cutting_writer.specs.site.Ring.{out_at, ray_of, far_of, last_or, site_ring}
use Rattle.cutting_writer.specs.join.laws.Shown.{Numbered}
use Rattle.cutting_writer.specs.shown.laws.Inking.{AllNumbered}

-- a crossing has none
meet_number : (b : BoundingBox) (x : Crossings) (s : SideName) (p q : Corner) (k : Carrier) → (meet_of b x s p q k).number ≡ EMPTY
meet_number b x s p q (Bisector i j) = refl
meet_number b x s p q (Along o) = refl
meet_number b x Left p q Infinity = go (x.upward p q)
  where
    go : (t : Bool) → (cond t (upper_end b) (line_end b Left)).number ≡ EMPTY
    go true = refl
    go false = refl
meet_number b x Top p q Infinity = refl
meet_number b x Right p q Infinity = refl
meet_number b x Bottom p q Infinity = refl

module _ (centers : ℕ) (v : List Float) where
  append_numbered : (l m : Ring) → AllNumbered centers v l → AllNumbered centers v m → AllNumbered centers v (l ++ m)
  append_numbered [] m a c = c
  append_numbered (p ∷ l) m a c = (a.0, append_numbered l m a.1 c)

  module _ (b : BoundingBox) (x : Crossings) (s : SideName) where
    kept_numbered : (p : At Corner Carrier) (q : Corner) → Numbered centers v p.corner.place p.corner.number → AllNumbered centers v (kept (side_of b x s) p q)
    kept_numbered p q h = go ((side_of b x s).within p.corner) ((side_of b x s).within q)
      where
        go : (y z : Bool) → AllNumbered centers v (kept_by y z (side_of b x s) p q)
        go true true = (h, tt)
        go true false = (h, (inl (meet_number b x s p.corner q p.on), tt))
        go false true = (inl (meet_number b x s p.corner q p.on), tt)
        go false false = tt

    to_numbered : (e : Corner) (l : Ring) → AllNumbered centers v l → AllNumbered centers v (cut_to (side_of b x s) e l)
    to_numbered e [] a = tt
    to_numbered e (p ∷ r) a =
        append_numbered (kept (side_of b x s) p (head_or e r)) (cut_to (side_of b x s) e r) (kept_numbered p (head_or e r) a.0) (to_numbered e r a.1)

    cut_numbered : (l : Ring) → AllNumbered centers v l → AllNumbered centers v (cut_by (side_of b x s) l)
    cut_numbered [] a = tt
    cut_numbered (p ∷ r) a = to_numbered p.corner (p ∷ r) a

  four_numbered : (b : BoundingBox) (sites : List Float) (l : Ring) → AllNumbered centers v l → AllNumbered centers v (cut_four b sites l)
  unfolding cut_four
  four_numbered b sites l a = cut_numbered b x Bottom r₃ (cut_numbered b x Right r₂ (cut_numbered b x Top r₁ (cut_numbered b x Left l a)))
    where
      x : Crossings
      x = crossings_of b sites

      r₁ : Ring
      r₁ = cut_by (side_of b x Left) l

      r₂ : Ring
      r₂ = cut_by (side_of b x Top) r₁

      r₃ : Ring
      r₃ = cut_by (side_of b x Right) r₂

  -- the ring of a walk, whose centers are read from w
  module _ (sites : List Float) (tri he : List ℕ) (w : List Float) (thirds : length he ≤ 3 * centers) (same : (n : ℕ) → n < centers → point_at w n ≡ point_at v n) (t : ℕ) where
    no_walk : (e : ℕ) → walk_of he t zero e ≡ []
    unfolding walk_of
    no_walk e = refl

    outs_numbered : (k e : ℕ) → AllNumbered centers v (map (out_at tri w) (walk_of he t k e))
    outs_numbered zero e = rw (no_walk e) tt
    outs_numbered (suc k) e = ⊎_elim
        (λ i. rw (walk_go he t k e i) (inr (omega arith, sym (same (e / 3) (omega arith))), outs_numbered k (turn_of he t e)))
        (λ i. rw (walk_done he t (suc k) e i) tt)
        (lt_or_ge e (length he))

    one_none : (h : Bool) (c : At Corner Carrier) → c.corner.number ≡ EMPTY → AllNumbered centers v (pick h (λ _. c ∷ []) (λ _. []))
    one_none true c e = (inl e, tt)
    one_none false c e = tt

    ray_numbered : AllNumbered centers v (ray_of sites tri he w t)
    unfolding ray_of
    ray_numbered = one_none (on_hull he t) (record { corner = hull_end sites tri w t; on = bisector_of tri t }) refl

    far_numbered : (e : ℕ) → AllNumbered centers v (far_of sites tri he w e)
    unfolding far_of
    far_numbered e = one_none (on_hull he (next_of e)) (record { corner = hull_end sites tri w (next_of e); on = Infinity }) refl

    site_numbered : AllNumbered centers v (site_ring sites tri he w t)
    unfolding site_ring
    site_numbered = go (ltb t (length he))
      where
        all : AllNumbered centers v (ray_of sites tri he w t ++ (map (out_at tri w) (whole_of he t) ++ far_of sites tri he w (last_or t (whole_of he t))))
        all = append_numbered (ray_of sites tri he w t) _ ray_numbered
            (append_numbered (map (out_at tri w) (whole_of he t)) (far_of sites tri he w (last_or t (whole_of he t))) (outs_numbered (length he) t) (far_numbered (last_or t (whole_of he t))))

        go : (h : Bool)
            → AllNumbered centers v (pick h (λ _. ray_of sites tri he w t ++ (map (out_at tri w) (whole_of he t) ++ far_of sites tri he w (last_or t (whole_of he t)))) (λ _. []))
        go true = all
        go false = tt

    pub ring_numbered : (b : BoundingBox) → AllNumbered centers v (cut_four b sites (site_ring sites tri he w t))
    ring_numbered b = four_numbered b sites (site_ring sites tri he w t) site_numbered
