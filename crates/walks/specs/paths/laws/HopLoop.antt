-- The loop that looks for the nearest neighbour: the running minimum over what it has seen, then over what is left, is the hop.
use Rattle.std.specs.Prelude.{◌≡◌, List, ◌∷◌, Bool, true, false, ℕ, ◌≤◌, ◌<◌, length, get_or, Float, Some, None}
use Rattle.std.proofs.Math.Path.{refl, ap}
use Rattle.std.proofs.Common.{sym, ◌∙◌, arith}
use Rattle.std.specs.Float.Ieee.{lt}
use Rattle.base.specs.common.Pick.{pick}
use Rattle.base.specs.numbers.Numbers.{EMPTY}
use Rattle.mesh.specs.Mesh.{whole_of}
use Rattle.plane.specs.declared.points.Point.{Point}
use Rattle.walks.specs.declared.neighbours.Cursor.{Cursor}
use Rattle.walks.specs.neighbours.Neighbours.{starts_of, neighbours_of}
use Rattle.mesh.specs.laws.Occurs.{occ_below}
use Rattle.walks.specs.neighbours.laws.Rest.{settled_start}
use Rattle.walks.specs.neighbours.laws.Cursor.{coming_used, neighbours_left, came_took, left_fresh}
use Rattle.walks.specs.neighbours.Cursor.{cursor_from, step_of, CursorSettled}
use Rattle.walks.specs.declared.paths.Best.{Best}
use Rattle.walks.specs.paths.Path.{dist_of, nearest_of, hop_of, nearer_of}
use Rattle.walks.specs.paths.PathNeeds.{Walkable}

pub record Nearing (sites : List Float) (tri he : List ℕ) (p : Point) (n goal : ℕ) (c : Cursor) (b : Best) : Type 0 where
  pub sound : CursorSettled he c
  pub dist : b.dist ≡ dist_of sites p b.site
  pub below : b.site < n
  pub same : nearest_of sites p (neighbours_left tri he c) b.site ≡ goal

module _ (sites : List Float) (tri he table : List ℕ) (p : Point) (n : ℕ) (m : Walkable tri he table n) where
  small : length he ≤ EMPTY
  small = omega (arith, m.paired.small)

  pub nearing_start : (s x : ℕ) (d : Float) → s < n → x ≡ get_or table s 0 → d ≡ dist_of sites p s
      → Nearing sites tri he p n (hop_of sites tri he table p s) (cursor_from x) (record { site = s; dist = d })
  unfolding hop_of neighbours_of
  nearing_start s x d l q e =
      let all : neighbours_left tri he (cursor_from x) ≡ starts_of tri he (whole_of he (get_or table s 0)) = left_fresh tri he small x ∙ ap (λ k. starts_of tri he (whole_of he k)) q in
      record {
        sound = settled_start tri he m.paired x;
        dist = e;
        below = l;
        same = ap (λ k. nearest_of sites p k s) all;
      }

  module _ {goal : ℕ} {c : Cursor} {b : Best} (g : Nearing sites tri he p n goal c b) where
    module _ (x : ℕ) (d : Cursor) (q : Some (x, d) ≡ step_of tri he c) where
      takes : neighbours_left tri he c ≡ x ∷ neighbours_left tri he d
      takes = (came_took tri he small c g.sound (Some (x, d)) q).0

      pub nearing_less : length (neighbours_left tri he d) < length (neighbours_left tri he c)
      nearing_less = omega (arith, ap length takes)

      pub nearing_below : x < n
      nearing_below = occ_below tri n x m.named (coming_used tri he m.paired.threes m.even small c d x g.sound q)

      pub nearing_site : (y : Float) → y ≡ dist_of sites p x → Nearing sites tri he p n goal d (nearer_of b x y)
      unfolding nearer_of nearest_of
      nearing_site y e = go (lt (dist_of sites p x) (dist_of sites p b.site)) refl
        where
          was : pick (lt (dist_of sites p x) (dist_of sites p b.site)) (λ _. nearest_of sites p (neighbours_left tri he d) x) (λ _. nearest_of sites p (neighbours_left tri he d) b.site) ≡ goal
          was = ap (λ k. nearest_of sites p k b.site) (sym takes) ∙ g.same

          go : (t : Bool) → lt (dist_of sites p x) (dist_of sites p b.site) ≡ t → Nearing sites tri he p n goal d (pick (lt y b.dist) (λ _. record { site = x; dist = y }) (λ _. b))
          go true h =
              rw (e, g.dist, h) (record { sound = (came_took tri he small c g.sound (Some (x, d)) q).1; dist = refl; below = nearing_below; same = rw h at was })
          go false h =
              rw (e, g.dist, h) (record { sound = (came_took tri he small c g.sound (Some (x, d)) q).1; dist = refl; below = g.below; same = rw h at was })

    pub nearing_end : None ≡ step_of tri he c → (b.site ≡ goal) × (b.site < n)
    unfolding nearest_of
    nearing_end q = (ap (λ k. nearest_of sites p k b.site) (sym (came_took tri he small c g.sound None q)) ∙ g.same, g.below)
