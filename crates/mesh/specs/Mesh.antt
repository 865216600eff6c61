-- The mesh: triangles and half-edges as lists of numbers, the leftmost table, walks.
use Rattle.std.specs.Prelude.{◌≡◌, List, [], ◌∷◌, ◌++◌, Bool, ◌⊎◌, ◌≢◌, ℕ, zero, suc, ◌+◌, ◌-◌, ◌*◌, ◌/◌, ◌%◌, ◌≤◌, ◌<◌, leb, ltb, eqb, length, get_or, set, replicate, drop}
use Rattle.base.specs.common.Pick.{pick}
use Rattle.base.specs.numbers.Numbers.{EMPTY}

-- the next half-edge of the same triangle: e + 1, or e - 2 where e mod 3 = 2
unfoldable pub next_of : ℕ → ℕ
next_of e = pick (eqb (e % 3) 2) (λ _. e - 2) (λ _. e + 1)

-- the site that a half-edge starts at, the one that it ends at, and its pair
abbrev pub start_of : List ℕ → ℕ → ℕ
start_of tri e = get_or tri e 0

abbrev pub end_of : List ℕ → ℕ → ℕ
end_of tri e = get_or tri (next_of e) 0

abbrev pub pair_of : List ℕ → ℕ → ℕ
pair_of he e = get_or he e 0

-- what the table holds of a site after half-edge e, which ends there and has the pair p: e where it held none or e is unpaired
unfoldable pub chosen : ℕ → ℕ → ℕ → ℕ
chosen old p e = pick (eqb old EMPTY) (λ _. e) (λ _. pick (eqb p EMPTY) (λ _. e) (λ _. old))

-- the leftmost table, of w entries, after the half-edges below n
unfoldable pub table_to : List ℕ → List ℕ → ℕ → ℕ → List ℕ
table_to tri he w zero = replicate w EMPTY
table_to tri he w (suc e) =
    let t : List ℕ = table_to tri he w e in
    set t (end_of tri e) (chosen (get_or t (end_of tri e) 0) (pair_of he e) e)

-- the leftmost half-edge of each site
abbrev pub leftmost_of : List ℕ → List ℕ → ℕ → List ℕ
leftmost_of tri he sites = table_to tri he sites (length tri)

-- a work slice of w entries after an accepted call: the leftmost table, then EMPTY
abbrev pub leftmost_in : List ℕ → List ℕ → ℕ → ℕ → List ℕ
leftmost_in tri he sites w = leftmost_of tri he sites ++ replicate (w - sites) EMPTY

-- of the half-edges below n that end at site s, r is the last unpaired one if there is one, else the lowest; and EMPTY if there is none at all
pub record Leftmost (tri he : List ℕ) (n s r : ℕ) : Type 0 where
  pub none : r ≡ EMPTY → (e : ℕ) → e < n → end_of tri e ≢ s
  pub some : r ≢ EMPTY → (r < n) × (end_of tri r ≡ s)
  pub last : (e : ℕ) → e < n → end_of tri e ≡ s → pair_of he e ≡ EMPTY → (e ≤ r) × (pair_of he r ≡ EMPTY)
  pub lowest : pair_of he r ≢ EMPTY → (e : ℕ) → e < n → end_of tri e ≡ s → r ≤ e

-- a triangle of three different sites
pub record Sound (n a b c : ℕ) : Type 0 where
  pub a_site : a < n
  pub b_site : b < n
  pub c_site : c < n
  pub ab : a ≢ b
  pub bc : b ≢ c
  pub ca : c ≢ a

abbrev pub SoundAt : List ℕ → ℕ → ℕ → Type 0
SoundAt tri n t = Sound n (get_or tri (3 * t) 0) (get_or tri (3 * t + 1) 0) (get_or tri (3 * t + 2) 0)

-- a site in use stands in a triangle
abbrev pub Used : List ℕ → ℕ → Type 0
Used tri s = (k : ℕ) × (k < length tri) × (get_or tri k 0 ≡ s)

-- half-edge e is unpaired, or names one that names it back and runs the other way between the same sites
pub record Mates (tri he : List ℕ) (e p : ℕ) : Type 0 where
  pub inside : p < length he
  pub back : pair_of he p ≡ e
  pub from : start_of tri p ≡ end_of tri e
  pub to : end_of tri p ≡ start_of tri e

abbrev pub PairedAt : List ℕ → List ℕ → ℕ → Type 0
PairedAt tri he e = (pair_of he e ≡ EMPTY) ⊎ Mates tri he e (pair_of he e)

-- one step round a site: next, then its pair
abbrev pub around : List ℕ → ℕ → ℕ
around he e = pair_of he (next_of e)

-- the same, and `EMPTY` where it comes back to the start
unfoldable pub turn_of : List ℕ → ℕ → ℕ → ℕ
turn_of he s e = pick (eqb (around he e) s) (λ _. EMPTY) (λ _. around he e)

-- at most k entries of the walk that started at s and is at e
unfoldable pub walk_of : List ℕ → ℕ → ℕ → ℕ → List ℕ
walk_of he s zero e = []
walk_of he s (suc k) e = pick (ltb e (length he)) (λ _. e ∷ walk_of he s k (turn_of he s e)) (λ _. [])

-- e is reached from s by "next, then its pair"
pub data Reached (he : List ℕ) (s : ℕ) : ℕ → Type 0 where
  here : Reached he s s
  onward : {e : ℕ} → e < length he → Reached he s e → Reached he s (around he e)

-- the half-edges that end at site s are all reached from what the table holds of it
abbrev pub FanAt : List ℕ → List ℕ → List ℕ → ℕ → Type 0
FanAt tri he table s = (e : ℕ) → e < length he → end_of tri e ≡ s → Reached he (get_or table s 0) e

-- every half-edge is reached from what the table holds of the site where it ends
abbrev pub Fan : List ℕ → List ℕ → List ℕ → Type 0
Fan tri he table = (e : ℕ) → e < length he → Reached he (get_or table (end_of tri e) 0) e

-- the whole walk from s
abbrev pub whole_of : List ℕ → ℕ → List ℕ
whole_of he s = walk_of he s (length he) s

-- the lengths of the walks from the table's first n entries, together
unfoldable pub total_to : List ℕ → List ℕ → ℕ → ℕ
total_to he table zero = 0
total_to he table (suc n) = total_to he table n + length (whole_of he (get_or table n 0))

-- what a walk from s leaves in a lent list: its beginning, up to the list's length, then what was there; and whether that is all of it
pub record Walks (he : List ℕ) (s : ℕ) (old new : List ℕ) (count : ℕ) (ended : Bool) : Type 0 where
  pub counted : count ≡ length (walk_of he s (length old) s)
  pub entries : new ≡ walk_of he s (length old) s ++ drop count old
  pub over : ended ≡ leb (length (walk_of he s (length old + 1) s)) (length old)

abbrev pub AllSound : List ℕ → ℕ → Type 0
AllSound tri sites = (t : ℕ) → t < length tri / 3 → SoundAt tri sites t

abbrev pub AllPaired : List ℕ → List ℕ → Type 0
AllPaired tri he = (e : ℕ) → e < length tri → PairedAt tri he e

-- a mesh whose pairing is right
pub record Paired (tri he : List ℕ) : Type 0 where
  pub threes : length he % 3 ≡ 0
  pub small : length he < EMPTY
  pub pairs : (e : ℕ) → e < length he → PairedAt tri he e
