-- Theorem: the names of all rings without those at infinity, the `pairs`, have each name as often as its opposite (`pairs_paired`).
use Rattle.std.specs.Prelude.{◌≡◌, refl, Bool, true, false, cond, List, [], ◌∷◌, ℕ, ◌≤◌, ◌<◌, length}
use Rattle.std.proofs.Common.{sym, ap, ◌∙◌, ⊎_elim, arith, le-ltb}
use Rattle.std.proofs.lemmas.Bool.{false≢true}
use Rattle.base.specs.common.Count.{occ}
use Rattle.base.specs.common.laws.Decide.{lt_or_ge}
use Rattle.mesh.specs.Mesh.{start_of, end_of, pair_of}
use Rattle.mesh.specs.Accepted.{Topology}
use Rattle.mesh.specs.laws.Facts.{paired, start_site, end_site}
use Rattle.cutting.specs.cuts.Pairs.{often}
use Rattle.cutting.specs.cuts.Named.{EdgeName, out, ray, far, same_name, by_name}
use Rattle.cutting.specs.rings.Names.{on_hull}
use Rattle.cutting.specs.rings.Opposed.{pair_at, hull_at, opposite_name, pair_in, hull_in, mates}
use Rattle.cutting.specs.rings.Counts.{all_names, out_once, ray_once}

-- the names that are not at infinity
abbrev pub near_names : List EdgeName → List EdgeName
near_names [] = []
near_names (out o ∷ l) = out o ∷ near_names l
near_names (ray o ∷ l) = ray o ∷ near_names l
near_names (far o ∷ l) = near_names l

pub near_kept : (n : EdgeName) → ((o : ℕ) → same_name n (far o) ≡ false) → (l : List EdgeName) → often by_name n (near_names l) ≡ often by_name n l
near_kept n apart [] = refl
near_kept n apart (out a ∷ l) = omega (arith, near_kept n apart l)
near_kept n apart (ray a ∷ l) = omega (arith, near_kept n apart l)
near_kept n apart (far a ∷ l) = rw (apart a) (omega (arith, near_kept n apart l))

pub near_far : (o : ℕ) (l : List EdgeName) → often by_name (far o) (near_names l) ≡ 0
near_far o [] = refl
near_far o (out a ∷ l) = omega (arith, near_far o l)
near_far o (ray a ∷ l) = omega (arith, near_far o l)
near_far o (far a ∷ l) = near_far o l

module _ {tri he hull : List ℕ} {sites : ℕ} (ok : Topology tri he hull sites) (order : List ℕ) (once : (s : ℕ) → s < sites → occ s order ≡ 1)
    (below : (s : ℕ) → 0 < occ s order → s < sites)
  where
    abbrev pub pairs : List EdgeName
    pairs = near_names (all_names ok order)

    out_one : (o : ℕ) → o < length he → often by_name (out o) pairs ≡ 1
    out_one o l = near_kept (out o) (λ _. refl) (all_names ok order) ∙ out_once ok o l order below ∙ once (start_of tri o) (start_site ok o l)

    ray_one : (o : ℕ) → o < length he → on_hull he o ≡ true → often by_name (ray o) pairs ≡ 1
    ray_one o l h = near_kept (ray o) (λ _. refl) (all_names ok order) ∙ ray_once ok o l h order below ∙ once (end_of tri o) (end_site ok o l)

    -- past the half-edges nothing is on the hull
    hull_past : (o : ℕ) → length he ≤ o → (hull_at he o ≡ false) × (pair_at he o ≡ o)
    hull_past o l = (
      ap (λ (b : Bool). cond b (on_hull he o) false) (le-ltb o (length he) l),
      ap (λ (b : Bool). cond b (pair_of he o) o) (le-ltb o (length he) l),
    )

    pub pairs_paired : (n : EdgeName) → often by_name (opposite_name he n) pairs ≡ often by_name n pairs
    pairs_paired (out o) = go (hull_at he o) refl
      where
        go : (b : Bool) → hull_at he o ≡ b → often by_name (cond b (ray o) (out (pair_at he o))) pairs ≡ often by_name (out o) pairs
        go true q = ⊎_elim
            (λ l. ray_one o l (sym (hull_in tri he (paired ok) o l) ∙ q) ∙ sym (out_one o l))
            (λ l. absurd (false≢true (sym (hull_past o l).0 ∙ q)))
            (lt_or_ge o (length he))
        go false q = ⊎_elim
            (λ l. (let m = mates tri he (paired ok) o l (sym (hull_in tri he (paired ok) o l) ∙ q) in
            ap (λ (p : ℕ). often by_name (out p) pairs) (pair_in tri he (paired ok) o l) ∙ out_one (pair_of he o) m.inside ∙ sym (out_one o l)))
            (λ l. ap (λ (p : ℕ). often by_name (out p) pairs) (hull_past o l).1)
            (lt_or_ge o (length he))
    pairs_paired (ray o) = go (hull_at he o) refl
      where
        go : (b : Bool) → hull_at he o ≡ b → often by_name (cond b (out o) (ray o)) pairs ≡ often by_name (ray o) pairs
        go true q = ⊎_elim
            (λ l. out_one o l ∙ sym (ray_one o l (sym (hull_in tri he (paired ok) o l) ∙ q)))
            (λ l. absurd (false≢true (sym (hull_past o l).0 ∙ q)))
            (lt_or_ge o (length he))
        go false q = refl
    pairs_paired (far s) = refl
