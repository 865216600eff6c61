-- A record from its bytes to its verdict, and the tally of all verdicts.
use Rattle.std.specs.Prelude.{◌≡◌, Bool, ◌&&◌, List, [], ◌∷◌, ◌⊎◌, ℕ, ◌+◌, ◌*◌, ◌/◌, ◌<◌, eqb, leb, length, get_or, replicate}
use Rattle.std.specs.Float.{nan, binary64}
use Rattle.std.specs.Float.Ieee.{of_bits}
use Rattle.base.specs.common.Pick.{pick}
use Rattle.mesh.specs.Accepted.{Mesh}
use Rattle.admission.specs.Slices.{Slices, slices}
use Rattle.test_replay.specs.words.Words.{word_of, after_of, pattern_of, float_of, place_of}
use Rattle.test_replay.specs.declared.Tally.{Tally}
use Rattle.test_replay.specs.Judged.{BuildReplayed}

-- slices of 7 with exactly the room of a mesh of n sites, t triangles and h hull sites
unfoldable pub sevens : ℕ → ℕ → ℕ → Slices
sevens n t h =
    slices (replicate n 7) (replicate (2 * (7 * t + 5 * h + 4)) (of_bits binary64 0x401C_0000_0000_0000)) (replicate (12 * t + 8 * h + 4) 7)
    (replicate (n + 1) 7) (replicate 9 7)

abbrev pub sevens_of : Mesh → Slices
sevens_of m = sevens (length m.sites / 2) (length m.triangles / 3) (length m.hull)

-- l has n values, these
pub record ListRead {A : Type 0} (d : A) (value : ℕ → A) (n : ℕ) (l : List A) : Type 0 where
  pub long : length l ≡ n
  pub each : (i : ℕ) → i < n → get_or l i d ≡ value i

-- where the lists of a mesh stand, of these lengths, the sites' from word 13 on; the answers follow
abbrev pub triangles_place : ℕ → ℕ
triangles_place s = after_of 13 (2 * s)

abbrev pub halfedges_place : ℕ → ℕ → ℕ
halfedges_place s t = after_of (triangles_place s) t

abbrev pub hull_place : ℕ → ℕ → ℕ → ℕ
hull_place s t e = after_of (halfedges_place s t) e

abbrev pub answers_place : ℕ → ℕ → ℕ → ℕ → ℕ
answers_place s t e h = after_of (hull_place s t e) h

module _ (b : List ℕ) (s t e h : ℕ) where
  pub record Stored (m : Mesh) : Type 0 where
    pub sites : ListRead nan (λ i. float_of (pattern_of b (place_of 13 i))) s m.sites
    pub triangles : ListRead 0 (λ i. word_of b (after_of (triangles_place s) i)) t m.triangles
    pub halfedges : ListRead 0 (λ i. word_of b (after_of (halfedges_place s t) i)) e m.halfedges
    pub hull : ListRead 0 (λ i. word_of b (after_of (hull_place s t e) i)) h m.hull

  pub record Replayed (r : ℕ) : Type 0 where
    pub mesh : Mesh
    pub stored : Stored mesh
    pub answered : BuildReplayed mesh b (answers_place s t e h) (sevens_of mesh) r

-- the verdict on a record of these bytes; one whose lists are too long differs
abbrev pub short : List ℕ → Bool
short b = leb (word_of b 1) 128 && leb (word_of b 2) 128 && leb (word_of b 3) 128 && leb (word_of b 4) 64

unfoldable pub RecordVerdict : List ℕ → ℕ → Type 0
RecordVerdict b r = pick (short b) (λ _. Replayed b (word_of b 1) (word_of b 2) (word_of b 3) (word_of b 4) r) (λ _. r ≡ 2)

-- the verdict on the bytes that come next, or 2 where they end too early or are too many
abbrev pub NextRead : ℕ → Type 0
NextRead r = ((b : List ℕ) × RecordVerdict b r) ⊎ (r ≡ 2)

-- how many verdicts are 0, 1 and anything else
abbrev pub three_counts : ℕ → ℕ → ℕ → Tally
three_counts b r d = record { built = b; refused = r; different = d }

unfoldable pub tally_with : Tally → ℕ → Tally
tally_with t r =
    pick (eqb r 0) (λ _. three_counts (t.built + 1) t.refused t.different)
    (λ _. pick (eqb r 1) (λ _. three_counts t.built (t.refused + 1) t.different) (λ _. three_counts t.built t.refused (t.different + 1)))

abbrev pub tally_of : List ℕ → Tally
tally_of [] = three_counts 0 0 0
tally_of (r ∷ rs) = tally_with (tally_of rs) r

abbrev pub AllNextRead : List ℕ → Type 0
AllNextRead [] = Unit {0}
AllNextRead (r ∷ rs) = NextRead r × AllNextRead rs

-- t counts n verdicts, the last one first, each on what was read
pub record RecordsTallied (n : ℕ) (t : Tally) : Type 0 where
  pub verdicts : List ℕ
  pub many : length verdicts ≡ n
  pub read : AllNextRead verdicts
  pub counts : t ≡ tally_of verdicts
