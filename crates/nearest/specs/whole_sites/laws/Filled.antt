-- The entries of the slice that is filled.
use Rattle.std.specs.Prelude.{◌≡◌, ℕ, zero, suc, ◌+◌, ◌<◌, ◌≤◌, List, [], ◌∷◌, length, take, ℤ, pos, slice_index_or, slice_set, refl, Float}
use Rattle.std.proofs.Common.{sym, ◌∙◌, ⊎_elim, le_of_suc-le-suc, not-suc-le-zero, arith, get_or-set_same, get_or-set_other, get_or-take, length-take-le, ext_get_or}
use Rattle.std.specs.Float.{nan}
use Rattle.std.proofs.lemmas.List.{length-map}
use Rattle.base.specs.common.laws.Decide.{eq_or_ne}
use Rattle.nearest.specs.whole_sites.Whole.{whole_number, wholes_of}

pub whole_at : (sites : List Float) (i : ℕ) → i < length sites → whole_number (slice_index_or sites i nan) ≡ slice_index_or (wholes_of sites) i (pos 0)
whole_at [] i h = absurd (not-suc-le-zero h)
whole_at (x ∷ sites) zero h = refl
whole_at (x ∷ sites) (suc i) h = whole_at sites i (le_of_suc-le-suc h)

-- one more entry of the list t is there
pub one_more : (l t : List ℤ) (i : ℕ) (v : ℤ) → i < length l → v ≡ slice_index_or t i (pos 0) → ((k : ℕ) → k < i → slice_index_or l k (pos 0) ≡ slice_index_or t k (pos 0))
    → (k : ℕ) → k < i + 1 → slice_index_or (slice_set l i v) k (pos 0) ≡ slice_index_or t k (pos 0)
one_more l t i v h q all k g =
    ⊎_elim
    (λ e. rw e (get_or-set_same l i v (pos 0) h ∙ q))
    (λ n. get_or-set_other l i k v (pos 0) n ∙ all k (omega arith))
    (eq_or_ne k i)

pub filled : (sites : List Float) (l : List ℤ) → length sites ≤ length l → ((k : ℕ) → k < length sites → slice_index_or l k (pos 0) ≡ slice_index_or (wholes_of sites) k (pos 0))
    → take (length sites) l ≡ wholes_of sites
filled sites l h all =
    let q = length-take-le (length sites) l h in
    ext_get_or (pos 0) _ _ (q ∙ sym (length-map sites whole_number)) (λ k i. let g : k < length sites = rw q at i in get_or-take (length sites) l k (pos 0) g ∙ all k g)
