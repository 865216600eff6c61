-- How the pairs are found with three slices to work in: chains of the half-edges by the site where they start, and marks at the sites where those
-- of one site end; and what is answered.
use Rattle.std.specs.Prelude.{◌≡◌, List, Bool, true, false, ◌≢◌, ℕ, ◌+◌, ◌%◌, ◌≤◌, ◌<◌, length, get_or}
use Rattle.std.proofs.lemmas.List.Edits.{sets}
use Rattle.base.specs.common.Decide.{Says}
use Rattle.base.specs.numbers.Numbers.{EMPTY}
use Rattle.mesh.specs.Mesh.{start_of, end_of}
use Rattle.mending.specs.pairs.Pairs.{mate_of, pairs_of, AllSingle}

-- whole triangles, not too many, that name sites below n
pub record NamesSites (tri : List ℕ) (n : ℕ) : Type 0 where
  pub threes : length tri % 3 ≡ 0
  pub small : length tri < EMPTY
  pub named : (k : ℕ) → k < length tri → get_or tri k 0 < n

-- x is the last half-edge below n that starts at site a, or EMPTY
pub record Before (tri : List ℕ) (a n x : ℕ) : Type 0 where
  pub none : x ≡ EMPTY → (e : ℕ) → e < n → start_of tri e ≢ a
  pub some : x ≢ EMPTY → (x < n) × (start_of tri x ≡ a)
  pub last : x ≢ EMPTY → (e : ℕ) → x < e → e < n → start_of tri e ≢ a

-- the chains: the last half-edge of each site, and of each half-edge the one before it that starts at the same site
pub record Chained (tri heads links : List ℕ) : Type 0 where
  pub firsts : (s : ℕ) → s < length heads → Before tri s (length tri) (get_or heads s 0)
  pub nexts : (e : ℕ) → e < length tri → Before tri (start_of tri e) e (get_or links e 0)

-- m is a half-edge that starts at site a
abbrev pub FromSite : List ℕ → ℕ → ℕ → Type 0
FromSite tri a m = (m < length tri) × (start_of tri m ≡ a)

-- no mark names a half-edge of site a or of a later one
abbrev pub Stale : List ℕ → ℕ → List ℕ → Type 0
Stale tri a marks = (b s : ℕ) → b < length marks → a ≤ s → FromSite tri s (get_or marks b 0) → ⊥

-- each half-edge that starts at site a is marked at its end, and a mark that names one stands at its end
pub record Marked (tri : List ℕ) (a : ℕ) (marks : List ℕ) : Type 0 where
  pub there : (e : ℕ) → e < length tri → start_of tri e ≡ a → get_or marks (end_of tri e) 0 ≡ e
  pub ends : (b : ℕ) → b < length marks → FromSite tri a (get_or marks b 0) → end_of tri (get_or marks b 0) ≡ b

-- the marks after site a; the answer is no where two of its half-edges end at one site
pub record MarkAnswer (tri : List ℕ) (a : ℕ) (marks : List ℕ) (r : Bool) : Type 0 where
  pub marked : r ≡ true → Marked tri a marks
  pub twice : r ≡ false → AllSingle tri → ⊥
  pub stale : Stale tri (a + 1) marks

-- the half-edges that end at site a have their pairs, and nothing else has changed
pub record SitePaired (tri : List ℕ) (a : ℕ) (old new : List ℕ) : Type 0 where
  pub here : (d : ℕ) → d < length tri → end_of tri d ≡ a → get_or new d 0 ≡ mate_of tri d
  pub there : (d : ℕ) → (d < length tri → end_of tri d ≢ a) → get_or new d 0 ≡ get_or old d 0

-- rule 19; where it holds the pairs are written
pub record PairAnswer (tri old new : List ℕ) (r : Bool) : Type 0 where
  pub single : Says r (AllSingle tri)
  pub pairs : r ≡ true → new ≡ sets old 0 (pairs_of tri)
