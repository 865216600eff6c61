-- A reader of a Polygon of at most one ring in Well-Known Binary, little-endian, from the OGC text alone: the points of its ring without the repetition
-- of the first at the end, or nothing: a wrong mark, type or count, an early end, bytes left over, a ring of fewer than four points or not closed. Definitions only.
use Rattle.std.specs.Prelude.{Bool, false, ◌&&◌, List, [], ◌∷◌, ℕ, zero, suc, leb, ltb, eqb, length, take, drop}
use Rattle.base.specs.common.Pick.{pick}
use Rattle.octets.specs.Bytes.{word}
use Rattle.wkb.specs.Polygon.{Pt, pt}

-- what was read, and the bytes after it
pub data Read (A : Type 0) : Type 0 where
  got : A → List ℕ → Read A
  bad : Read A

abbrev pub next : {A B : Type 0} → Read A → (A → List ℕ → Read B) → Read B
next (got a s) k = k a s
next bad k = bad

-- a number of n bytes
unfoldable pub read_word : ℕ → List ℕ → Read ℕ
read_word n s = pick (leb n (length s)) (λ _. got (word (take n s)) (drop n s)) (λ _. bad)

unfoldable pub read_points : ℕ → List ℕ → Read (List Pt)
read_points zero s = got [] s
read_points (suc k) s = next (read_word 8 s) λ x r. next (read_word 8 r) λ y q. next (read_points k q) λ ps t. got (pt x y ∷ ps) t

-- all but the last point, and whether the last is p
abbrev pub but_last : List Pt → List Pt
but_last [] = []
but_last (p ∷ []) = []
but_last (p ∷ q ∷ ps) = p ∷ but_last (q ∷ ps)

abbrev pub ends_in : Pt → List Pt → Bool
ends_in p [] = false
ends_in p (q ∷ []) = eqb p.x q.x && eqb p.y q.y
ends_in p (q ∷ r ∷ ps) = ends_in p (r ∷ ps)

-- the first point is repeated at the end
abbrev pub is_closed : List Pt → Bool
is_closed [] = false
is_closed (p ∷ ps) = ends_in p ps

-- a ring has four points or more, of which the last is the first again; nothing may be left over
abbrev pub closed_ring : List Pt → List ℕ → Read (List Pt)
closed_ring ps [] = pick (ltb (length ps) 4) (λ _. bad) (λ _. pick (is_closed ps) (λ _. got (but_last ps) []) (λ _. bad))
closed_ring ps (b ∷ s) = bad

abbrev pub no_ring : List ℕ → Read (List Pt)
no_ring [] = got [] []
no_ring (b ∷ s) = bad

unfoldable pub read_ring : List ℕ → Read (List Pt)
read_ring s = next (read_word 4 s) λ n r. next (read_points n r) λ ps t. closed_ring ps t

unfoldable pub read_polygon : List ℕ → Read (List Pt)
read_polygon s =
    next (read_word 1 s) λ order r. next (read_word 4 r) λ kind q. next (read_word 4 q) λ rings t.
    pick (eqb order 1 && eqb kind 3)
    (λ _. pick (eqb rings 0) (λ _. no_ring t) (λ _. pick (eqb rings 1) (λ _. read_ring t) (λ _. bad)))
    (λ _. bad)
