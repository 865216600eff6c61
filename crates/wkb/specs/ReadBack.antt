-- Theorems: the image of three points or more, and fewer than 2^32 - 1, is read back as these points; no two such lists have one image; how long an image is.
-- All lists of fewer than three points have the nine bytes of a polygon without rings, which is read back as no points (`read_none`).
use Rattle.std.specs.Prelude.{◌≡◌, refl, false, List, [], ◌∷◌, ◌++◌, ◌+◌, ◌*◌, ◌^◌, ◌≤◌, ◌<◌, ltb, length}
use Rattle.std.proofs.Common.{sym, ap, ◌∙◌, arith, ⊎_elim, length-append, le-ltb, lt-ltb}
use Rattle.base.specs.common.laws.Decide.{lt_or_ge}
use Rattle.octets.specs.Bytes.{le, each, All}
use Rattle.octets.specs.laws.Bytes.{length_le}
use Rattle.wkb.specs.Polygon.{Pt, PtFits, point_bytes, ring_bytes, closed, head_bytes, polygon, size}
use Rattle.wkb.specs.Read.{Read, got, read_word, read_polygon}
use Rattle.wkb.specs.laws.Points.{points_length, closed_length}
use Rattle.wkb.specs.laws.Read.{read_word_lem, read_ring_lem, fits_append}

length_ring : (ps : List Pt) → 3 ≤ length ps → length (head_bytes 1 ++ ring_bytes (closed ps)) ≡ 29 + 16 * length ps
unfolding head_bytes
length_ring ps h = omega (
  arith,
  length-append (head_bytes 1) (ring_bytes (closed ps)),
  length-append (le 4 (length (closed ps))) (each point_bytes (closed ps)),
  length_le 4 (length (closed ps)),
  points_length (closed ps),
  closed_length ps (omega arith),
)

-- nine bytes, or 29 and 16 for each point
pub length_polygon : (ps : List Pt) → length (polygon ps) ≡ size (length ps)
unfolding polygon size head_bytes
length_polygon ps =
    ⊎_elim
    (λ h. rw (lt-ltb (length ps) 3 h) refl)
    (λ h. rw (le-ltb (length ps) 3 h) (length_ring ps h))
    (lt_or_ge (length ps) 3)

-- three points or more come back as they were
pub read_back : (ps : List Pt) → 3 ≤ length ps → length ps + 1 < 2 ^ 32 → All PtFits ps → read_polygon (polygon ps) ≡ got ps []
unfolding polygon read_polygon head_bytes
read_back [] three few h = absurd (omega arith)
read_back (p ∷ ps) three few h =
    let ring = ring_bytes (p ∷ ps ++ p ∷ []) in
    let long : ltb (length (p ∷ ps)) 3 ≡ false = le-ltb (length (p ∷ ps)) 3 three in
    let first : read_word 1 (head_bytes 1 ++ ring) ≡ got 1 (le 4 3 ++ le 4 1 ++ ring) = read_word_lem 1 1 (le 4 3 ++ le 4 1 ++ ring) (omega arith) in
    let kind : read_word 4 (le 4 3 ++ le 4 1 ++ ring) ≡ got 3 (le 4 1 ++ ring) = read_word_lem 4 3 (le 4 1 ++ ring) (omega arith) in
    let rings : read_word 4 (le 4 1 ++ ring) ≡ got 1 ring = read_word_lem 4 1 ring (omega arith) in
    let all : All PtFits (p ∷ ps ++ p ∷ []) = fits_append (p ∷ ps) (p ∷ []) h (h.0, tt) in
    let small : length (p ∷ ps ++ p ∷ []) < 256 ^ 4 = omega (arith, length-append (p ∷ ps) (p ∷ [])) in
    rw (long, first, kind, rings, read_ring_lem p ps all (omega arith) small) refl

pub read_none : (ps : List Pt) → length ps < 3 → read_polygon (polygon ps) ≡ got [] []
unfolding polygon read_polygon read_word head_bytes
read_none ps h = rw (lt-ltb (length ps) 3 h) refl

-- no two lists of three points or more share an image
pub one_image :
    (ps qs : List Pt)
    → 3 ≤ length ps
    → 3 ≤ length qs
    → length ps + 1 < 2 ^ 32
    → length qs + 1 < 2 ^ 32
    → All PtFits ps
    → All PtFits qs
    → polygon ps ≡ polygon qs
    → ps ≡ qs
one_image ps qs a b c d f g e =
    let same : ◌≡◌ {A = Read (List Pt)} (got ps []) (got qs []) = sym (read_back ps a c f) ∙ ap read_polygon e ∙ read_back qs b d g in
    cc
