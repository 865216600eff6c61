-- The entries of the slice that is made: the floats, and +0 past them.
use Rattle.std.specs.Prelude.{◌≡◌, refl, List, [], ◌∷◌, ◌++◌, ℕ, zero, suc, ◌+◌, ◌-◌, ◌≤◌, ◌<◌, Float, ℤ, pos, length, get_or, set, replicate}
use Rattle.std.proofs.Common.{◌∙◌, le_of_suc-le-suc, not-suc-le-zero, arith, ⊎_elim, get_or-set_same, get_or-set_other, length-append}
use Rattle.base.specs.common.laws.Decide.{eq_or_ne}
use Rattle.std.proofs.lemmas.List.{length-map, length-replicate}
use Rattle.base.specs.common.Binary64 as B
use Rattle.grid.specs.floats.Sites.{as_float, floats_of, sites_made}

-- past its end a list of numbers has the default
past_zeros : (n i : ℕ) → get_or (replicate n B.zero) i B.zero ≡ B.zero
past_zeros zero i = refl
past_zeros (suc n) zero = refl
past_zeros (suc n) (suc i) = past_zeros n i

with_zeros : (l : List Float) (n i : ℕ) → get_or (l ++ replicate n B.zero) i B.zero ≡ get_or l i B.zero
with_zeros [] n i = past_zeros n i
with_zeros (x ∷ l) n zero = refl
with_zeros (x ∷ l) n (suc i) = with_zeros l n i

pub made_at : (grid : List ℤ) (w i : ℕ) → get_or (sites_made grid w) i B.zero ≡ get_or (floats_of grid) i B.zero
made_at grid w i = with_zeros (floats_of grid) (w - length grid) i

pub made_length : (grid : List ℤ) (w : ℕ) → length grid ≤ w → length (sites_made grid w) ≡ w
made_length grid w l =
    length-append (floats_of grid) (replicate (w - length grid) B.zero) ∙ omega (arith, length-map grid as_float, length-replicate (w - length grid) B.zero)

pub float_at : (grid : List ℤ) (i : ℕ) → i < length grid → as_float (get_or grid i (pos 0)) ≡ get_or (floats_of grid) i B.zero
float_at [] i h = absurd (not-suc-le-zero h)
float_at (x ∷ grid) zero h = refl
float_at (x ∷ grid) (suc i) h = float_at grid i (le_of_suc-le-suc h)

pub none_at : (grid : List ℤ) (i : ℕ) → length grid ≤ i → B.zero ≡ get_or (floats_of grid) i B.zero
none_at [] i h = refl
none_at (x ∷ grid) zero h = absurd (not-suc-le-zero h)
none_at (x ∷ grid) (suc i) h = none_at grid i (le_of_suc-le-suc h)

-- one more entry of the list t is there
pub one_more : (l t : List Float) (i : ℕ) (v : Float) → i < length l → v ≡ get_or t i B.zero → ((k : ℕ) → k < i → get_or l k B.zero ≡ get_or t k B.zero)
    → (k : ℕ) → k < i + 1 → get_or (set l i v) k B.zero ≡ get_or t k B.zero
one_more l t i v h q all k g =
    ⊎_elim
    (λ e. rw e (get_or-set_same l i v B.zero h ∙ q))
    (λ n. get_or-set_other l i k v B.zero n ∙ all k (omega arith))
    (eq_or_ne k i)
