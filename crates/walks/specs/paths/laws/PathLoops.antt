-- The loops that follow a path: what is left of it is the whole path from the present site.
use Rattle.std.specs.Prelude.{◌≡◌, refl, List, [], ◌∷◌, ◌≢◌, true, false, ℕ, suc, ◌+◌, ◌/◌, ◌≤◌, ◌<◌, length, set, Float}
use Rattle.std.proofs.Common.{sym, ap, ◌∙◌, ⊎_elim, arith}
use Rattle.base.specs.common.laws.Decide.{eq_or_ne}
use Rattle.plane.specs.declared.points.Point.{Point}
use Rattle.walks.specs.neighbours.Fills.{Fills}
use Rattle.walks.specs.neighbours.laws.Fills.{Filling, filling_start, filling_step, filling_done, filling_more}
use Rattle.walks.specs.paths.Path.{hop_of, path_of, whole_path, last_of, EndsAt}
use Rattle.walks.specs.paths.laws.Used.{used_sum}
use Rattle.walks.specs.paths.PathNeeds.{Walkable, Towards}
use Rattle.walks.specs.paths.laws.WholePath.{last_cons, path_stop, path_go, whole_same, whole_end}

-- n entries are written, and the path goes on at v
pub record Writing (sites : List Float) (tri he table : List ℕ) (p : Point) (s : ℕ) (old new : List ℕ) (v n : ℕ) : Type 0 where
  pub filling : Filling (whole_path sites tri he table p s) (whole_path sites tri he table p v) old new n
  pub below : v < length sites / 2

-- the path from s goes on at v
pub record Following (sites : List Float) (tri he table : List ℕ) (p : Point) (s v : ℕ) : Type 0 where
  pub same : last_of (whole_path sites tri he table p v) ≡ last_of (whole_path sites tri he table p s)
  pub below : v < length sites / 2

module _ (sites : List Float) (tri he table : List ℕ) (p : Point) (m : Walkable tri he table (length sites / 2)) (t : Towards sites p (length sites / 2)) where
  more_fuel : (s : ℕ) → s < length sites / 2 → whole_path sites tri he table p s ≡ path_of sites tri he table p (suc (length sites)) s
  more_fuel s l = sym (whole_same sites tri he table p (length sites / 2) m t (suc (length sites)) s l (omega arith) (omega (arith, used_sum tri (length sites / 2))))

  -- the whole path, opened at its first site
  whole_stop : (s : ℕ) → s < length sites / 2 → hop_of sites tri he table p s ≡ s → whole_path sites tri he table p s ≡ s ∷ []
  whole_stop s l q = more_fuel s l ∙ path_stop sites tri he table p (length sites) s q

  whole_go : (s : ℕ) → s < length sites / 2 → hop_of sites tri he table p s ≢ s → whole_path sites tri he table p s ≡ s ∷ whole_path sites tri he table p (hop_of sites tri he table p s)
  whole_go s l q = more_fuel s l ∙ path_go sites tri he table p (length sites) s q

  whole_head : (s : ℕ) → s < length sites / 2 → (r : List ℕ) × (whole_path sites tri he table p s ≡ s ∷ r)
  whole_head s l =
      ⊎_elim
      (λ q. ([], whole_stop s l q))
      (λ q. (whole_path sites tri he table p (hop_of sites tri he table p s), whole_go s l q))
      (eq_or_ne (hop_of sites tri he table p s) s)

  some : (s : ℕ) → s < length sites / 2 → 0 < length (whole_path sites tri he table p s)
  some s l = let h = whole_head s l in omega (arith, ap length h.1)

  module _ (s : ℕ) (old : List ℕ) where
    pub writing_start : s < length sites / 2 → Writing sites tri he table p s old old s 0
    writing_start l = record { filling = filling_start _ old; below = l }

    module _ {new : List ℕ} {v n : ℕ} (g : Writing sites tri he table p s old new v n) (w : ℕ) (hop : w ≡ hop_of sites tri he table p v) where
      pub writing_stop : n < length old → w ≡ v → Fills (whole_path sites tri he table p s) old (set new n v) (n + 1) true
      writing_stop l q = filling_done (filling_step g.filling v [] l (whole_stop v g.below (sym hop ∙ q))) refl

      pub writing_go : n < length old → w ≢ v → w < length sites / 2 → Writing sites tri he table p s old (set new n v) w (n + 1)
      writing_go l q b =
          record {
            filling = filling_step g.filling v (whole_path sites tri he table p w) l (whole_go v g.below (λ e. q (hop ∙ e)) ∙ ap (λ x. v ∷ whole_path sites tri he table p x) (sym hop));
            below = b;
          }

    pub writing_full : {new : List ℕ} {v n : ℕ} → Writing sites tri he table p s old new v n → length old ≤ n → Fills (whole_path sites tri he table p s) old new n false
    writing_full {v = v} g l = let h = whole_head v g.below in filling_more g.filling v h.0 l h.1

  pub following_start : (s : ℕ) → s < length sites / 2 → Following sites tri he table p s s
  following_start s l = record { same = refl; below = l }

  module _ {s v : ℕ} (g : Following sites tri he table p s v) (w : ℕ) (hop : w ≡ hop_of sites tri he table p v) where
    pub following_stop : s < length sites / 2 → w ≡ v → EndsAt sites tri he table p s v
    following_stop l q =
        let e : v ≡ last_of (whole_path sites tri he table p s) = sym (ap last_of (whole_stop v g.below (sym hop ∙ q))) ∙ g.same in
        record {
          last = e;
          end = e ∙ sym (whole_end sites tri he table p (length sites / 2) m t (length sites / 2) s l (omega (arith, used_sum tri (length sites / 2))));
          below = g.below;
        }

    onward : w ≢ v → whole_path sites tri he table p v ≡ v ∷ whole_path sites tri he table p w
    onward q = whole_go v g.below (λ e. q (hop ∙ e)) ∙ ap (λ x. v ∷ whole_path sites tri he table p x) (sym hop)

    pub following_less : w ≢ v → length (whole_path sites tri he table p w) < length (whole_path sites tri he table p v)
    following_less q = omega (arith, ap length (onward q))

    pub following_go : w ≢ v → w < length sites / 2 → Following sites tri he table p s w
    following_go q b = record { same = sym (ap last_of (onward q) ∙ last_cons v (whole_path sites tri he table p w) (some w b)) ∙ g.same; below = b }
