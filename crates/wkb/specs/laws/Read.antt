-- Reading back what was written: a number, points, a closed ring.
use Rattle.std.specs.Prelude.{◌≡◌, refl, true, false, List, [], ◌∷◌, ◌++◌, ℕ, ◌^◌, ◌≤◌, ◌<◌, leb, ltb, length, take, drop}
use Rattle.std.proofs.Common.{sym, ap, ◌∙◌, append_assoc, append-nil, arith, length-append, le-leb, eq-eqb, le-ltb}
use Rattle.std.proofs.Math.Seq.{take-append_seam, drop-append_seam}
use Rattle.octets.specs.Bytes.{le, each, All}
use Rattle.octets.specs.laws.Bytes.{length_le, word_le}
use Rattle.wkb.specs.Polygon.{Pt, PtFits, point_bytes, ring_bytes}
use Rattle.wkb.specs.Read.{got, read_word, read_points, read_ring, but_last, ends_in}

pub read_word_lem : (n x : ℕ) (s : List ℕ) → x < 256 ^ n → read_word n (le n x ++ s) ≡ got x s
unfolding read_word
read_word_lem n x s h =
    let l : length (le n x) ≡ n = length_le n x in
    let long : leb n (length (le n x ++ s)) ≡ true = le-leb n _ (omega (arith, length-append (le n x) s, l)) in
    let t : take n (le n x ++ s) ≡ le n x = ap (λ (k : ℕ). take k (le n x ++ s)) (sym l) ∙ take-append_seam (le n x) s in
    let d : drop n (le n x ++ s) ≡ s = ap (λ (k : ℕ). drop k (le n x ++ s)) (sym l) ∙ drop-append_seam (le n x) s in
    rw (long, t, d, word_le n x h) refl

read_points_lem : (ps : List Pt) (s : List ℕ) → All PtFits ps → read_points (length ps) (each point_bytes ps ++ s) ≡ got ps s
unfolding read_points point_bytes
read_points_lem [] s h = refl
read_points_lem (p ∷ ps) s h =
    let e : (point_bytes p ++ each point_bytes ps) ++ s ≡ le 8 p.x ++ (le 8 p.y ++ (each point_bytes ps ++ s)) =
    append_assoc (point_bytes p) (each point_bytes ps) s ∙ append_assoc (le 8 p.x) (le 8 p.y) (each point_bytes ps ++ s) in
    let x = read_word_lem 8 p.x (le 8 p.y ++ (each point_bytes ps ++ s)) h.0.0 in
    let y = read_word_lem 8 p.y (each point_bytes ps ++ s) h.0.1 in
    rw (e, x, y, read_points_lem ps s h.1) refl

pub fits_append : (ps qs : List Pt) → All PtFits ps → All PtFits qs → All PtFits (ps ++ qs)
fits_append [] qs h g = g
fits_append (p ∷ ps) qs h g = (h.0, fits_append ps qs h.1 g)

but_last_lem : (ps : List Pt) (p : Pt) → but_last (ps ++ p ∷ []) ≡ ps
but_last_lem [] p = refl
but_last_lem (q ∷ []) p = refl
but_last_lem (q ∷ r ∷ ps) p = ap (λ (l : List Pt). q ∷ l) (but_last_lem (r ∷ ps) p)

ends_in_lem : (ps : List Pt) (p : Pt) → ends_in p (ps ++ p ∷ []) ≡ true
ends_in_lem [] p = rw (eq-eqb p.x p.x refl, eq-eqb p.y p.y refl) refl
ends_in_lem (q ∷ []) p = ends_in_lem [] p
ends_in_lem (q ∷ r ∷ ps) p = ends_in_lem (r ∷ ps) p

-- a closed ring of four points or more
pub read_ring_lem : (p : Pt) (ps : List Pt) → All PtFits (p ∷ ps ++ p ∷ []) → 2 ≤ length ps → length (p ∷ ps ++ p ∷ []) < 256 ^ 4
    → read_ring (ring_bytes (p ∷ ps ++ p ∷ [])) ≡ got (p ∷ ps) []
unfolding read_ring
read_ring_lem p ps h many few =
    let l = p ∷ ps ++ p ∷ [] in
    let r : read_points (length l) (each point_bytes l) ≡ got l [] =
    ap (read_points (length l)) (sym (append-nil (each point_bytes l))) ∙ read_points_lem l [] h in
    let four : ltb (length l) 4 ≡ false = le-ltb (length l) 4 (omega (arith, length-append ps (p ∷ []))) in
    rw (read_word_lem 4 (length l) (each point_bytes l) few, r, four, ends_in_lem ps p, but_last_lem (p ∷ ps) p) refl
