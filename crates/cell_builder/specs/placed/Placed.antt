-- Cells put in their places, one after the other: one that stands in its region is moved down, an early one is walked there, a step back round its site each.
use Rattle.std.specs.Prelude.{◌≡◌, Bool, true, false, List, [], ◌∷◌, ◌≢◌, ℕ, ◌+◌, ◌-◌, ◌/◌, ◌%◌, ◌≤◌, ◌<◌, eqb, length, get_or}
use Rattle.base.specs.common.Count.{occ}
use Rattle.base.specs.common.Decide.{Says}
use Rattle.base.specs.common.Pick.{pick}
use Rattle.base.specs.numbers.Numbers.{EMPTY}
use Rattle.mesh.specs.Mesh.{pair_of, whole_of}
use Rattle.cell_memory.specs.layout.Regions.{Region, StartsRise}
use Rattle.cell_memory.specs.staging.Staging.{Staged}
use Rattle.cell_builder.specs.turned.Marks.{MadeLast}

-- ---- steps back

-- the half-edge before e in its triangle
unfoldable pub previous_of : ℕ → ℕ
previous_of e = pick (eqb (e % 3) 0) (λ _. e + 2) (λ _. e - 1)

-- one step back round a site: its pair, then the one before that
abbrev pub back_of : List ℕ → ℕ → ℕ
back_of he e = previous_of (pair_of he e)

-- a half-edge with a pair
abbrev pub InPair : List ℕ → ℕ → Type 0
InPair he e = (e < length he) × (pair_of he e < length he)

abbrev pub is_nil : List ℕ → Bool
is_nil [] = true
is_nil (x ∷ l) = false

-- from x along ys, a step back each; s is the last of them, and none before
abbrev pub Backs : List ℕ → ℕ → ℕ → List ℕ → Type 0
Backs he s x [] = Unit {0}
Backs he s x (y ∷ ys) = InPair he x × (back_of he x ≡ y) × (eqb y s ≡ is_nil ys) × Backs he s y ys

-- the triangles of x and ys but for the last
abbrev pub back_triangles : ℕ → List ℕ → List ℕ
back_triangles x [] = []
back_triangles x (y ∷ ys) = x / 3 ∷ back_triangles y ys

-- c is the triangles of a walk back from t to t, of at most n steps
pub record BackCell (he : List ℕ) (t n : ℕ) (c : List ℕ) : Type 0 where
  pub along : List ℕ
  pub backs : Backs he t t along
  pub some : 0 < length along
  pub short : length along ≤ n
  pub is : c ≡ back_triangles t along

-- pairs are mutual
abbrev pub Mutual : List ℕ → Type 0
Mutual he = (e : ℕ) → InPair he e → pair_of he (pair_of he e) ≡ e

-- ---- from both ends

-- whether a walk back that is at e and a walk on that is at f have come together, or are one step apart
unfoldable pub meets_of : List ℕ → ℕ → ℕ → Bool → Bool
meets_of he e f apart = pick apart (λ _. eqb (back_of he e) f) (λ _. eqb e f)

-- what walking from both ends tells of a walk of so many steps: whether they are as many as the places; then all of them are written
pub record WalkedRound (at end : ℕ) (old new : List ℕ) (c : List ℕ) (steps : ℕ) (r : Bool) : Type 0 where
  pub says : Says r (end - at ≤ steps)
  pub written : end - at ≤ steps → Staged c at old new end

-- the place after the cell, and the steps that were counted; a crowd's walk may be shorter than its room
pub record WalkedCell (at end : ℕ) (old new : List ℕ) (c : List ℕ) (steps : ℕ) (crowded : Bool) (last counted : ℕ) : Type 0 where
  pub low : at ≤ last
  pub high : last ≤ end
  pub counts : counted ≤ steps
  pub written : (crowded ≡ false → end - at ≤ steps) → Staged c at old new last

-- ---- one cell

-- a walk back from t to t of at most n steps, which has as many as the walk on
pub record EarlyWalk (he : List ℕ) (t n : ℕ) : Type 0 where
  pub cell : List ℕ
  pub back : BackCell he t n cell
  pub long : length back.along ≡ length (whole_of he t)

-- site s with the region from..to of ix; an early site has a walk that the region has room for
pub record CellReady (he table m ix : List ℕ) (at from to s : ℕ) : Type 0 where
  pub site : s < length table
  pub threes : length he % 3 ≡ 0
  pub few : length he ≤ 393216
  pub pairs : Mutual he
  pub low : at ≤ from
  pub rise : from ≤ to
  pub within : to ≤ length ix
  pub walk : MadeLast he table m s → EarlyWalk he (get_or table s 0) ((to - from) / 3)

-- its cell c, in its region or to be walked; but for the crowd's the walk takes all of the region's room
pub record CellOf (he table m ix : List ℕ) (from to s crowd : ℕ) (c : List ℕ) : Type 0 where
  pub late : (MadeLast he table m s → ⊥) → Region ix from to c
  pub early : MadeLast he table m s → BackCell he (get_or table s 0) ((to - from) / 3) c
  pub full : (x : MadeLast he table m s) → s ≢ crowd → (to - from) / 3 ≤ length (early x).along

-- ---- all cells

-- n regions in ix, and a walk for each early site
pub record Placeable (he table m ix off : List ℕ) (n : ℕ) : Type 0 where
  pub rising : StartsRise off n (length ix)
  pub small : get_or off n 0 < EMPTY
  pub sites : n ≤ length table
  pub few_sites : n ≤ 65536
  pub threes : length he % 3 ≡ 0
  pub few : length he ≤ 393216
  pub pairs : Mutual he
  pub walks : (s : ℕ) → s < n → MadeLast he table m s → EarlyWalk he (get_or table s 0) ((get_or off (s + 1) 0 - get_or off s 0) / 3)

-- the cells, in their regions or to be walked, whichever site it is that alone may own three corners or more
abbrev pub CellsReady : List ℕ → List ℕ → List ℕ → List ℕ → List ℕ → List ℕ → List (List ℕ) → Type 0
CellsReady he table m ix off owners cells =
    (crowd : ℕ) → ((k : ℕ) → k ≢ crowd → occ k owners ≤ 2) → (s : ℕ) → s < length cells → CellOf he table m ix (get_or off s 0) (get_or off (s + 1) 0) s crowd (get_or cells s [])
