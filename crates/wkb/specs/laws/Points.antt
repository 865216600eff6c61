-- The numbers of two lists, floats and then patterns; the points of entries written one after the other, and the ring that they close.
use Rattle.std.specs.Prelude.{◌≡◌, refl, List, [], ◌∷◌, ◌++◌, ℕ, zero, suc, ◌+◌, ◌-◌, ◌*◌, ◌≤◌, ◌<◌, Float, length, get_or, take}
use Rattle.std.proofs.Common.{sym, ap, ◌∙◌, append-nil, append_assoc, arith, add-one, length-append}
use Rattle.std.specs.Float.{nan, binary64}
use Rattle.std.specs.Float.Ieee.{to_bits}
use Rattle.std.proofs.lemmas.List.{length-map}
use Rattle.octets.specs.Bytes.{le, each}
use Rattle.octets.specs.laws.Bytes.{each_append}
use Rattle.octets.specs.Wrote.{Wrote}
use Rattle.octets.specs.laws.Wrote.{wrote_then, wrote_as}
use Rattle.wkb.specs.Polygon.{Pt, point_bytes, ring_bytes, closed, pattern_at, patterns_of, patterns}

-- ---- number k of the two lists

pub of_floats : (fs : List Float) (bs : List ℕ) (k : ℕ) → k < length fs → to_bits binary64 (get_or fs k nan) ≡ get_or (patterns fs ++ bs) k 0
of_floats [] bs k h = absurd (omega arith)
of_floats (x ∷ fs) bs zero h = refl
of_floats (x ∷ fs) bs (suc k) h = of_floats fs bs k (omega arith)

pub of_bits : (fs : List Float) (bs : List ℕ) (k : ℕ) → length fs ≤ k → get_or bs (k - length fs) 0 ≡ get_or (patterns fs ++ bs) k 0
of_bits [] bs k h =
    let e : k - 0 ≡ k = omega arith in
    ap (λ (j : ℕ). get_or bs j 0) e
of_bits (x ∷ fs) bs zero h = absurd (omega arith)
of_bits (x ∷ fs) bs (suc k) h =
    let e : suc k - suc (length fs) ≡ k - length fs = omega arith in
    rw e (of_bits fs bs k (omega arith))

pub length_both : (fs : List Float) (bs : List ℕ) → length (patterns fs ++ bs) ≡ length fs + length bs
length_both fs bs = omega (arith, length-append (patterns fs) bs, length-map fs (to_bits binary64))

-- ---- points

pub point_wrote : {l m n : List ℕ} {a b c x y : ℕ} (v : List ℕ) (e k : ℕ) → k ≡ 2 * e → x ≡ get_or v k 0 → y ≡ get_or v (k + 1) 0 → Wrote l m a b (le 8 x) → Wrote m n b c (le 8 y)
    → Wrote l n a c (point_bytes (pattern_at v e))
unfolding pattern_at point_bytes
point_wrote v e k p q r x y = wrote_as (wrote_then x y) (rw (q, r, p) refl)

abbrev pub points_to : List ℕ → List ℕ → ℕ → List ℕ
points_to v l i = each point_bytes (patterns_of v (take i l))

points_suc : (v l : List ℕ) (i : ℕ) → i < length l → points_to v l (suc i) ≡ points_to v l i ++ point_bytes (pattern_at v (get_or l i 0))
points_suc v [] i h = absurd (omega arith)
points_suc v (e ∷ l) zero h = append-nil (point_bytes (pattern_at v e))
points_suc v (e ∷ l) (suc i) h =
    ap (λ (s : List ℕ). point_bytes (pattern_at v e) ++ s) (points_suc v l i (omega arith))
    ∙ sym (append_assoc (point_bytes (pattern_at v e)) (points_to v l i) (point_bytes (pattern_at v (get_or l i 0))))

pub points_more : (v l : List ℕ) (i : ℕ) → i < length l → points_to v l (i + 1) ≡ points_to v l i ++ point_bytes (pattern_at v (get_or l i 0))
points_more v l i h = rw (add-one i) (points_suc v l i h)

pub points_length : (ps : List Pt) → length (each point_bytes ps) ≡ 16 * length ps
unfolding point_bytes
points_length [] = refl
points_length (p ∷ ps) = omega (arith, length-append (point_bytes p) (each point_bytes ps), points_length ps)

pub closed_length : (ps : List Pt) → 0 < length ps → length (closed ps) ≡ length ps + 1
closed_length [] h = absurd (omega arith)
closed_length (p ∷ ps) h = omega (arith, length-append (p ∷ ps) (p ∷ []))

closed_bytes : (v l : List ℕ) → 0 < length l → each point_bytes (closed (patterns_of v l)) ≡ each point_bytes (patterns_of v l) ++ points_to v l 1
closed_bytes v [] h = absurd (omega arith)
closed_bytes v (e ∷ l) h = each_append point_bytes (patterns_of v (e ∷ l)) (pattern_at v e ∷ [])

-- the count, the points, the first again
pub ring_wrote : {l m n o : List ℕ} {a b c d k : ℕ} (v cell : List ℕ) → 0 < length cell → k ≡ length cell + 1 → Wrote l m a b (le 4 k)
    → Wrote m n b c (each point_bytes (patterns_of v cell)) → Wrote n o c d (points_to v cell 1) → Wrote l o a d (ring_bytes (closed (patterns_of v cell)))
ring_wrote {k = k} v cell h e p q r =
    let many : k ≡ length (closed (patterns_of v cell)) = omega (arith, closed_length (patterns_of v cell) (omega (arith, length-map cell (pattern_at v))), length-map cell (pattern_at v)) in
    let first = le 4 k in
    let points = each point_bytes (patterns_of v cell) in
    wrote_as (wrote_then (wrote_then p q) r)
    (append_assoc first points (points_to v cell 1)
    ∙ ap (λ (s : List ℕ). first ++ s) (sym (closed_bytes v cell h))
    ∙ ap (λ (j : ℕ). le 4 j ++ each point_bytes (closed (patterns_of v cell))) many)
