-- How rule 10 is tested by counting: each site's walk counted down by the half-edges that end there. The lengths of the walks together are mesh's `total_to`.
use Rattle.std.specs.Prelude.{◌≡◌, List, ℕ, zero, suc, ◌-◌, ◌<◌, eqb, length, get_or, set}
use Rattle.mesh.specs.Mesh.{end_of, whole_of}
use Rattle.base.specs.numbers.Numbers.{EMPTY}
use Rattle.base.specs.common.Pick.{pick}
use Rattle.base.specs.common.Count.{same, sum_to}

-- each entry is the length of the walk that started at the old one
pub record WalkLengths (he old new : List ℕ) : Type 0 where
  pub long : length new ≡ length old
  pub at : (s : ℕ) → s < length old → get_or new s 0 ≡ length (whole_of he (get_or old s 0))

-- one less, and EMPTY, the debt, below 0
unfoldable pub less_of : ℕ → ℕ
less_of m = pick (eqb m 0) (λ _. EMPTY) (λ _. pick (eqb m EMPTY) (λ _. EMPTY) (λ _. m - 1))

-- the list t, counted down by the half-edges below n
unfoldable pub owed_to : List ℕ → List ℕ → ℕ → List ℕ
owed_to tri t zero = t
owed_to tri t (suc e) =
    let u : List ℕ = owed_to tri t e in
    set u (end_of tri e) (less_of (get_or u (end_of tri e) 0))

-- what is left of the table where a fan is broken: the length of each entry's walk, counted down by the half-edges that end at the site
abbrev pub CountedDown : List ℕ → List ℕ → List ℕ → List ℕ → Type 0
CountedDown tri he table new = (lens : List ℕ) × WalkLengths he table lens × (new ≡ owed_to tri lens (length tri))

-- how many of the half-edges below n end at site s
abbrev pub ends_to : List ℕ → ℕ → ℕ → ℕ
ends_to tri s n = sum_to (λ e. same (end_of tri e) s) n
