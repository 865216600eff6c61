-- No list that a query hands out is longer than a count can say: each is bounded by the half-edges or the coordinates.
use Rattle.std.proofs.Common.{ap, ⊎_elim, arith, length-take, length-append}
use Rattle.std.specs.Prelude.{Bool, true, false, List, [], ◌∷◌, ℕ, zero, suc, ◌+◌, ◌≤◌, eqb, Float, length}
use Rattle.base.specs.common.Pick.{pick}
use Rattle.base.specs.common.laws.Decide.{eq_or_ne}
use Rattle.base.specs.numbers.Numbers.{EMPTY}
use Rattle.plane.specs.declared.points.Point.{Point}
use Rattle.mesh.specs.Mesh.{start_of, pair_of, end_of, next_of, around}
use Rattle.walks.specs.neighbours.Neighbours.{last_end, starts_of}
use Rattle.walks.specs.neighbours.laws.Neighbours.{sites_from, starts_cons}
use Rattle.walks.specs.paths.Path.{hop_of, path_of}
use Rattle.walks.specs.paths.laws.WholePath.{path_stop, path_go}
use Rattle.walks.specs.neighbours.Fills.{Fills}
use Rattle.queries.specs.clipped.Clipped.{kept_of, clipped_from, clipped_first, clipped_of}

end_length : (tri he : List ℕ) (l : ℕ) → length (last_end tri he l) ≤ 1
unfolding last_end
end_length tri he l = go (eqb (around he l) EMPTY)
  where
    go : (b : Bool) → length (pick {A = List ℕ} b (λ _. end_of tri (next_of l) ∷ []) (λ _. [])) ≤ 1
    go true = omega arith
    go false = omega arith

sites_length : (tri he : List ℕ) (l : ℕ) (es : List ℕ) → length (sites_from tri he l es) ≤ length es + 1
unfolding sites_from
sites_length tri he l [] = omega (arith, end_length tri he l)
sites_length tri he l (e ∷ es) = omega (arith, sites_length tri he e es)

pub starts_length : (tri he es : List ℕ) → length (starts_of tri he es) ≤ length es + 1
unfolding starts_of
starts_length tri he [] = omega arith
starts_length tri he (e ∷ es) = omega (arith, ap length (starts_cons tri he e es), sites_length tri he e es)

pub path_length : (sites : List Float) (tri he tab : List ℕ) (p : Point) (k s : ℕ) → length (path_of sites tri he tab p k s) ≤ k
unfolding path_of
path_length sites tri he tab p zero s = omega arith
path_length sites tri he tab p (suc k) s =
    let n = hop_of sites tri he tab p s in
    ⊎_elim
    (λ q. omega (arith, ap length (path_stop sites tri he tab p k s q)))
    (λ q. omega (arith, ap length (path_go sites tri he tab p k s q), path_length sites tri he tab p k n))
    (eq_or_ne n s)

-- a count that a slice and a list allow
pub few : {whole old new : List ℕ} {n : ℕ} {b : Bool} → Fills whole old new n b → (m : ℕ) → length whole ≤ m → n ≤ m
few {whole} {old} f m l = omega (arith, f.counted, length-take (length old) whole)

kept_length : (keeps : ℕ → Bool) (l : List ℕ) → length (kept_of keeps l) ≤ length l
unfolding kept_of
kept_length keeps [] = omega arith
kept_length keeps (x ∷ l) = go (keeps x) (kept_length keeps l)
  where
    go : (b : Bool) → length (kept_of keeps l) ≤ length l → length (pick b (λ _. x ∷ kept_of keeps l) (λ _. kept_of keeps l)) ≤ suc (length l)
    go true h = omega arith
    go false h = omega arith

from_length : (tri he : List ℕ) (keeps : ℕ → Bool) (l : ℕ) (es : List ℕ) → length (clipped_from tri he keeps l es) ≤ length es + 1
unfolding clipped_from
from_length tri he keeps l [] = omega (arith, kept_length keeps (last_end tri he l), end_length tri he l)
from_length tri he keeps l (e ∷ es) = omega (arith, from_length tri he keeps e es)

first_length_lem : (tri he : List ℕ) (keeps : ℕ → Bool) (e : ℕ) → length (clipped_first tri he keeps e) ≤ 1
unfolding clipped_first
first_length_lem tri he keeps e = go (eqb (pair_of he e) EMPTY)
  where
    go : (b : Bool) → length (pick b (λ _. kept_of keeps (start_of tri e ∷ [])) (λ _. start_of tri e ∷ [])) ≤ 1
    go true = kept_length keeps (start_of tri e ∷ [])
    go false = omega arith

pub clipped_length : (tri he : List ℕ) (keeps : ℕ → Bool) (es : List ℕ) → length (clipped_of tri he keeps es) ≤ length es + 2
unfolding clipped_of
clipped_length tri he keeps [] = omega arith
clipped_length tri he keeps (e ∷ es) = omega (arith, length-append (clipped_first tri he keeps e) (clipped_from tri he keeps e es), first_length_lem tri he keeps e, from_length tri he keeps e es)
