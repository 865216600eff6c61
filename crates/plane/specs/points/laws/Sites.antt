-- Rule 6 over a list of sites: whether all keep it, from the lowest one that does not.
use Rattle.std.specs.Prelude.{◌≡◌, refl, Bool, true, false, not, List, ℕ, zero, suc, ◌≤◌, ◌<◌, Float}
use Rattle.std.proofs.Common.{sym, ◌∙◌, ⊎_elim, arith}
use Rattle.std.proofs.lemmas.Bool.{false≢true, not-true, not-false}
use Rattle.base.specs.common.Decide.{First}
use Rattle.base.specs.common.laws.Decide.{first_all, eq_or_ne}
use Rattle.base.specs.common.laws.And.{and_left, and_right, and_both}
use Rattle.plane.specs.points.Flat.{point_at}
use Rattle.plane.specs.points.Rules.{ok_site}
use Rattle.plane.specs.points.Sites.{KeptAt, ok_sites}
use Rattle.plane.specs.declared.points.Point.{Point}

-- ---- what a test of the point that was read tells
module _ {p q : Point} {b : Bool} (e : p ≡ q) (t : b ≡ ok_site p) where
  told : ok_site q ≡ b
  told = cc

  pub kept_if : not b ≡ false → ok_site q ≡ true
  kept_if h = told ∙ not-false b h

  pub broken_if : not b ≡ true → ok_site q ≡ true → ⊥
  broken_if h k = false≢true (sym (told ∙ not-true b h) ∙ k)

-- ---- all, and each
pub all_kept : (n : ℕ) (l : List Float) → ok_sites n l ≡ true → (k : ℕ) → k < n → KeptAt l k
unfolding ok_sites
all_kept zero l h k b = absurd (omega arith)
all_kept (suc n) l h k b =
    ⊎_elim (λ e. rw e (and_right (ok_sites n l) (ok_site (point_at l n)) h)) (λ e. all_kept n l (and_left (ok_sites n l) (ok_site (point_at l n)) h) k (omega arith)) (eq_or_ne k n)

pub kept_all : (n : ℕ) (l : List Float) → ((k : ℕ) → k < n → KeptAt l k) → ok_sites n l ≡ true
unfolding ok_sites
kept_all zero l h = refl
kept_all (suc n) l h = and_both (ok_sites n l) (ok_site (point_at l n)) (kept_all n l (λ k b. h k (omega arith))) (h n (omega arith))

-- ---- from the lowest offender
module _ (l : List Float) {n r : ℕ} (f : First (KeptAt l) n r) where
  pub sites_kept : n ≤ r → ok_sites n l ≡ true
  sites_kept h = kept_all n l (first_all f h)

  pub site_broken : r < n → ok_sites n l ≡ false
  site_broken h = go (ok_sites n l) refl
    where
      go : (b : Bool) → ok_sites n l ≡ b → b ≡ false
      go true e = absurd (f.at h (all_kept n l e r h))
      go false e = refl
