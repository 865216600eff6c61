-- The whole ring in three parts, its beginning at infinity, the walk and its end at infinity: what each part asks of the room for all, and that together they come to the ring that is
-- cut (`ring_made`). Circumcenters are read from the vertices as they are by then, which are as they were.
use Rattle.std.specs.Prelude.{◌≡◌, List, [], ◌∷◌, ◌++◌, map, ℕ, zero, suc, ◌+◌, ◌*◌, ◌/◌, ◌≤◌, ◌<◌, Float, length}
use Rattle.std.proofs.Math.Path.{refl, ap}
use Rattle.std.proofs.Common.{sym, subst, ◌∙◌, ⊎_elim, arith, lt-ltb, le-ltb}
use Rattle.base.specs.numbers.Numbers.{EMPTY}
use Rattle.base.specs.common.laws.Decide.{lt_or_ge}
use Rattle.base.specs.common.Pick.{pick}
use Rattle.plane.specs.declared.points.Point.{Point}
use Rattle.plane.specs.declared.boxes.BoundingBox.{BoundingBox}
use Rattle.mesh.specs.Mesh.{next_of, turn_of, walk_of, whole_of}
use Rattle.mesh.specs.laws.WalkSteps.{walk_go, walk_done}
use Rattle.cutting.specs.cuts.Rings.{At}
use Rattle.cutting.specs.cuts.Stream.{feed_all, feed_append}
use Rattle.cutting.specs.rings.Names.{on_hull}
use Rattle.cutting.specs.rings.laws.Closing.{next_third}
use Rattle.cutting.specs.corner.Corner.{far_at}
use Rattle.cutting.specs.declared.corner.Corner.{Corner}
use Rattle.cutting.specs.declared.corner.Carrier.{Carrier}
use Rattle.cutting.specs.declared.corner.Carrier.TheVariants.{Infinity}
use Rattle.cutting.specs.border.Border.{toward_of}
use Rattle.cutting.specs.pen.Pen.{Page}
use Rattle.cutting.specs.pen.Room.{Later, Ready, later_on}
use Rattle.cutting_writer.specs.stream.Stages.{Ring, Stages, ink_at, feed_left, closed_all, cut_four}
use Rattle.cutting_writer.specs.stream.laws.Stages.{left_grows, all_grows, ready_half, ready_then, Fresh, stages_cut, close_all_grows}
use Rattle.cutting_writer.specs.site.Ring.{out_at, ray_of, far_of, last_or, site_ring}
use Rattle.cutting_writer.specs.site.Walked.{page_of, Walkable, Begun}
use Rattle.cutting_writer.specs.site.laws.Walk.{center_kept, out_kept, no_walk, last_in}

module _ {g h : Page} (tri he : List ℕ) (centers t : ℕ) (l : Later g h) (few : centers + 4 ≤ g.pen.count) (thirds : length he ≤ 3 * centers) where
  outs_kept : (k e : ℕ) → map (out_at tri h.vertices) (walk_of he t k e) ≡ map (out_at tri g.vertices) (walk_of he t k e)
  outs_kept zero e = rw (no_walk he t e) refl
  outs_kept (suc k) e =
      ⊎_elim
      (λ i. rw (walk_go he t k e i) (λ z. out_kept tri centers l few e (omega arith) z ∷ outs_kept k (turn_of he t e) z))
      (λ i. rw (walk_done he t (suc k) e i) refl)
      (lt_or_ge e (length he))

  far_kept : (sites : List Float) (e : ℕ) → e < length he → far_of sites tri he h.vertices e ≡ far_of sites tri he g.vertices e
  unfolding far_of
  far_kept sites e i =
      ap (λ (p : Point). pick {A = Ring} (on_hull he (next_of e)) (λ _. record { corner = far_at p (toward_of sites tri (next_of e)); on = Infinity } ∷ []) (λ _. []))
      (center_kept centers l few (next_of e / 3) (omega (arith, next_third e)))

module _ (b : BoundingBox) (sites : List Float) (tri he : List ℕ) (centers t : ℕ) (S : Stages) where
  abbrev F : Stages → At Corner Carrier → Stages
  F = feed_left b sites centers

  abbrev ray : Ring
  ray = ray_of sites tri he (page_of S).vertices t

  abbrev outs : Ring
  outs = map (out_at tri (page_of S).vertices) (whole_of he t)

  abbrev far : Ring
  far = far_of sites tri he (page_of S).vertices (last_or t (whole_of he t))

  grows : (X : Stages) (l : Ring) → Later (page_of X) (page_of (feed_all F X l))
  grows X l = all_grows page_of F (left_grows b sites centers) X l

  -- ---- up to the walk's end
  module _ (k : Begun b sites tri he centers t (page_of S) S) where
    both : Ready centers (page_of S) (page_of (feed_all F (feed_all F S ray) outs))
    both = subst (λ (u : Stages). Ready centers (page_of S) (page_of u)) (feed_append F S ray outs) k.ready

    pub begun_enter : Ready centers (page_of S) (page_of (feed_all F S ray))
    begun_enter = ready_half (grows (feed_all F S ray) outs) both

    module _ (X : Stages) (e : X ≡ feed_all F S ray) where
      later : Later (page_of S) (page_of X)
      later = subst (λ (u : Stages). Later (page_of S) (page_of u)) (sym e) (grows S ray)

      outs_same : map (out_at tri (page_of X).vertices) (whole_of he t) ≡ outs
      outs_same = outs_kept tri he centers t later k.ready.corners k.thirds (length he) t

      pub begun_walk : Walkable b sites tri he centers t X (page_of X).vertices
      begun_walk = record {
        thirds = k.thirds;
        small = k.small;
        ready = subst (λ (l : Ring). Ready centers (page_of X) (page_of (feed_all F X l))) (sym outs_same)
            (subst (λ (u : Stages). Ready centers (page_of u) (page_of (feed_all F u outs))) (sym e) (ready_then (grows S ray) both));
      }

      pub begun_walked : (Y : Stages) → Y ≡ feed_all F X (map (out_at tri (page_of X).vertices) (whole_of he t)) → Y ≡ feed_all F (feed_all F S ray) outs
      begun_walked Y d = d ∙ ap (feed_all F X) outs_same ∙ ap (λ (u : Stages). feed_all F u outs) e

  -- ---- all of it
  module _ (fresh : Fresh b sites centers S) (thirds : length he ≤ 3 * centers) (small : length he < EMPTY) (in_mesh : t < length he)
      (r : Ready centers (page_of S) (feed_all (ink_at b centers) (page_of S) (cut_four b sites (site_ring sites tri he (page_of S).vertices t))))
    where
      abbrev walked : Stages
      walked = feed_all F (feed_all F S ray) outs

      ring_is : site_ring sites tri he (page_of S).vertices t ≡ ray ++ (outs ++ far)
      unfolding site_ring
      ring_is = rw (lt-ltb t (length he) in_mesh) refl

      parts : feed_all F S (ray ++ (outs ++ far)) ≡ feed_all F walked far
      parts = feed_append F S ray (outs ++ far) ∙ feed_append F (feed_all F S ray) outs far

      total : closed_all b sites centers (feed_all F walked far) ≡ feed_all (ink_at b centers) (page_of S) (cut_four b sites (site_ring sites tri he (page_of S).vertices t))
      total =
          ap (closed_all b sites centers) (sym parts)
          ∙ stages_cut b sites centers S fresh (ray ++ (outs ++ far))
          ∙ ap (λ (l : Ring). feed_all (ink_at b centers) (page_of S) (cut_four b sites l)) (sym ring_is)

      all_ready : Ready centers (page_of S) (closed_all b sites centers (feed_all F walked far))
      all_ready = subst (λ (u : Page). Ready centers (page_of S) u) (sym total) r

      far_ready : Ready centers (page_of S) (page_of (feed_all F walked far))
      far_ready = ready_half (close_all_grows b sites centers (feed_all F walked far)) all_ready

      pub ring_begun : Begun b sites tri he centers t (page_of S) S
      ring_begun = record {
        thirds = thirds;
        small = small;
        ready = subst (λ (u : Stages). Ready centers (page_of S) (page_of u)) (sym (feed_append F S ray outs)) (ready_half (grows walked far) far_ready);
      }

      module _ (X : Stages) (e : X ≡ walked) (last : ℕ) (q : last ≡ last_or t (whole_of he t)) where
        later_walked : Later (page_of S) (page_of X)
        later_walked = subst (λ (u : Stages). Later (page_of S) (page_of u)) (sym e) (later_on (grows S ray) (grows (feed_all F S ray) outs))

        last_small : last < length he
        last_small = rw q (last_in he t (length he) t t in_mesh)

        far_same : far_of sites tri he (page_of X).vertices last ≡ far
        far_same = far_kept tri he centers t later_walked r.corners thirds sites last last_small ∙ ap (far_of sites tri he (page_of S).vertices) q

        pub ring_leaves : (last < EMPTY) × Ready centers (page_of X) (page_of (feed_all F X (far_of sites tri he (page_of X).vertices last)))
        ring_leaves = (
          omega (arith, last_small),
          subst (λ (l : Ring). Ready centers (page_of X) (page_of (feed_all F X l))) (sym far_same)
              (subst (λ (u : Stages). Ready centers (page_of u) (page_of (feed_all F u far))) (sym e) (ready_then (later_on (grows S ray) (grows (feed_all F S ray) outs)) far_ready)),
        )

        module _ (U : Stages) (d : U ≡ feed_all F X (far_of sites tri he (page_of X).vertices last)) where
          left : U ≡ feed_all F walked far
          left = d ∙ ap (feed_all F X) far_same ∙ ap (λ (u : Stages). feed_all F u far) e

          pub ring_closes : Ready centers (page_of U) (closed_all b sites centers U)
          ring_closes =
              subst (λ (u : Stages). Ready centers (page_of u) (closed_all b sites centers u)) (sym left)
              (ready_then (later_on (later_on (grows S ray) (grows (feed_all F S ray) outs)) (grows walked far)) all_ready)

          pub ring_made : (y : Page) → y ≡ closed_all b sites centers U
              → y ≡ feed_all (ink_at b centers) (page_of S) (cut_four b sites (site_ring sites tri he (page_of S).vertices t))
          ring_made y c = c ∙ ap (closed_all b sites centers) left ∙ total

-- no half-edge, no ring
pub ring_none : (b : BoundingBox) (sites : List Float) (tri he : List ℕ) (v : List Float) (centers t : ℕ) (g : Page) → length he ≤ t
    → g ≡ feed_all (ink_at b centers) g (cut_four b sites (site_ring sites tri he v t))
unfolding site_ring cut_four
ring_none b sites tri he v centers t g h = rw (le-ltb t (length he) h) refl
