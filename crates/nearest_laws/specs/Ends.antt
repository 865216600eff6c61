-- Theorem: a path ends at a site of least distance over all sites in use, on an accepted mesh of whole coordinates that passes the exact checks, if the
-- destination is a multiple of a power of two near enough.
use Rattle.std.specs.Prelude.{◌≡◌, refl, List, [], ◌∷◌, Bool, true, false, ◌||◌, T, length, get_or, Float, pos}
use Rattle.std.proofs.Common.{sym, ◌∙◌, inl, inr, mul-one, mul-le-mul_left, mul-le-mul_right, mul-lt-mul_of_pos_right, le_trans, le_of_eq, lt_of_lt_of_le, lt_of_le_of_lt, lit≤, pow_pos, eq-eqb, lt-ltb}
use Rattle.std.proofs.Math.Path.{ap, subst}
use Rattle.std.proofs.Math.Logic.{⊎_elim}
use Prim.Native.Nat.{ℕ, zero, suc, ◌+◌, ◌-◌, ◌*◌, ◌^◌, ◌≤◌, ◌<◌}
use native.Mathlib.Omega.{arith}
use Rattle.std.specs.Float.{nan, inf, fin}
use Rattle.std.specs.Float.Ieee.{up, down, le, lt, eq, of_bits}
use Rattle.std.specs.Float.Ieee.Exact.{HasValue}
use Rattle.std.specs.Float.Ieee.Fits.{down_pos}
use Rattle.std.specs.Float.Ieee.Order.{le_of_values}
use Rattle.base.specs.common.Count.{occ}
use Rattle.base.specs.common.laws.Count.{same_cases}
use Rattle.base.specs.common.Binary64.{◌⊟◌}
use Rattle.plane.specs.points.Flat.{point_at}
use Rattle.plane.specs.points.Plane.{dist2_of}
use Rattle.plane.specs.points.Rules.{ok_site, ok_coord}
use Rattle.plane.specs.declared.points.Point.{Point}
use Rattle.base.specs.numbers.Numbers.{EMPTY}
use Rattle.mesh.specs.Mesh.{next_of, start_of, end_of, pair_of, around, turn_of, walk_of, whole_of, Used, leftmost_of, Paired}
use Rattle.mesh.specs.laws.Next.{next_lt, next_thrice}
use Rattle.mesh.specs.laws.WalkSteps.{walk_go, walk_done}
use Rattle.mesh.specs.laws.Walks.{turn_cases, walk_in}
use Rattle.mesh.specs.Accepted.{mesh, Accepted, site_count}
use Rattle.mesh.specs.laws.Facts.{topology, paired, entry_site, end_site, walk_each}
use Rattle.walks.specs.neighbours.Neighbours.{starts_of, last_end, neighbours_of}
use Rattle.walks.specs.neighbours.laws.Neighbours.{sites_from, starts_cons}
use Rattle.walks.specs.paths.Path.{dist_of, path_end, whole_path, last_of}
use Rattle.walks.specs.paths.PathRule.{NoneNearer, PathFrom, stops, hops}
use Rattle.walks.specs.neighbours.laws.Used.{neighbours_used}
use Rattle.walks.specs.paths.laws.WholePath.{last_cons, whole_end}
use Rattle.walks.specs.paths.laws.Used.{used_sum}
use Rattle.walks.specs.paths.laws.PathNeeds.{ready, towards}
use Rattle.walks.specs.paths.PathTheorem.{path_holds}
use Rattle.nearest_laws.specs.laws.Exactly.{Lies, sub_at, plus_at, square_at, le_at}
use Rattle.nearest_laws.specs.Nearest.{gap, far_from, Checked, nearest}

-- the computed distance has the exact one's value
-- x is the multiple n - K of 2^-k
abbrev pub Multiple : ℕ → ℕ → Float → ℕ → Type 0
Multiple k K x n = (n < 2 ^ 51) × Lies k K x n

module _ (k K : ℕ) (two : k + k ≤ 1074) (lK : K < 2 ^ 51) where
  pub dist_at : (a b : Point) (n m p q : ℕ) → Multiple k K a.x n → Multiple k K a.y m → Multiple k K b.x p → Multiple k K b.y q → gap n p + gap m q < 2 ^ 53
      → HasValue (dist2_of a b) false (gap n p + gap m q) (2 ^ (k + k))
  unfolding dist2_of
  dist_at a b n m p q hn hm hp hq l =
      let one : k ≤ 1074 = omega arith in
      let x = sub_at k one K n p a.x b.x lK hn.0 hp.0 hn.1 hp.1 in
      let y = sub_at k one K m q a.y b.y lK hm.0 hq.0 hm.1 hq.1 in
      plus_at (k + k) two _ _ (gap n p) (gap m q) (square_at k two (a.x ⊟ b.x) x.0 (n - p + (p - n)) x.1 (part (gap n p) (gap m q) l))
      (square_at k two (a.y ⊟ b.y) y.0 (m - q + (q - m)) y.1 (part' (gap n p) (gap m q) l)) l
    where
      part : (u w : ℕ) → u + w < 2 ^ 53 → u < 2 ^ 53
      part u w h = omega arith

      part' : (u w : ℕ) → u + w < 2 ^ 53 → w < 2 ^ 53
      part' u w h = omega arith

-- it keeps rule 6
pub low : (x : Float) (s : Bool) (n k : ℕ) → n < 2 ^ 51 → HasValue x s n (2 ^ k) → ok_coord x ≡ true
unfolding ok_coord le lt eq of_bits
low nan s n k l h = absurd h
low (inf t) s n k l h = absurd h
low (fin t m e) s n k l h =
    let under : n * down e < 2 ^ 100 * down e = mul-lt-mul_of_pos_right (lt_of_lt_of_le l (lit≤ tt)) (down_pos e) in
    let A = m * up e * down (pos 100) in
    let B = 1 * up (pos 100) * down e in
    let scaled : m * up e * 2 ^ k < 2 ^ 100 * down e = lt_of_le_of_lt (le_of_eq h.1) under in
    let below : A < B = lt_of_le_of_lt (le_trans (le_of_eq (mul-one (m * up e))) (le_times (m * up e) (2 ^ k) (pow_pos k))) scaled in
    ap (λ b. b || eq (fin false m e) (fin false 1 (pos 100))) (lt-ltb A B below)
  where
    le_times : (a b : ℕ) → 0 < b → a ≤ a * b
    le_times a b h = le_trans (le_of_eq (sym (mul-one a))) (mul-le-mul_left a h)

pub low_at : (k K : ℕ) (x : Float) (n : ℕ) → K < 2 ^ 51 → Multiple k K x n → ok_coord x ≡ true
low_at k K x n lK (l, inl h) = low x false (n - K) k (omega arith) h.1
low_at k K x n lK (l, inr h) = low x true (K - n) k (omega arith) h.1

-- v stands in l
abbrev In : ℕ → List ℕ → Type 0
In v l = (k : ℕ) × (k < length l) × (get_or l k 0 ≡ v)

later : (v x : ℕ) (l : List ℕ) → In v l → In v (x ∷ l)
later v x l (k, h, q) = (suc k, omega arith, q)

occ_in : (v : ℕ) (l : List ℕ) → 0 < occ v l → In v l
occ_in v [] h = absurd (omega arith)
occ_in v (x ∷ l) h = ⊎_elim (λ s. (0, omega arith, sym s.0)) (λ s. later v x l (occ_in v l (omega arith))) (same_cases v x)

-- the start of each half-edge of the walk is a neighbour
starts_in : (tri he : List ℕ) (e l : ℕ) (es : List ℕ) → 0 < occ e es → In (start_of tri e) (sites_from tri he l es)
unfolding sites_from
starts_in tri he e l [] h = absurd (omega arith)
starts_in tri he e l (x ∷ es) h =
    ⊎_elim
    (λ s. (0, omega arith, ap (start_of tri) (sym s.0)))
    (λ s. later (start_of tri e) (start_of tri x) (sites_from tri he x es) (starts_in tri he e x es (omega arith)))
    (same_cases e x)

all_starts : (tri he : List ℕ) (e : ℕ) (es : List ℕ) → 0 < occ e es → In (start_of tri e) (starts_of tri he es)
all_starts tri he e [] h = absurd (omega arith)
all_starts tri he e (x ∷ es) h =
    rw (starts_cons tri he x es) (⊎_elim
    (λ s. (0, omega arith, ap (start_of tri) (sym s.0)))
    (λ s. later (start_of tri e) (start_of tri x) (sites_from tri he x es) (starts_in tri he e x es (omega arith)))
    (same_cases e x))

-- so is the last end
module _ (tri he : List ℕ) (ok : Paired tri he) (s : ℕ) (ls : s < length he) where
  end_here : (e : ℕ) → around he e ≡ EMPTY → In (end_of tri (next_of e)) (last_end tri he e)
  unfolding last_end
  end_here e q = rw (eq-eqb (around he e) EMPTY q) (0, omega arith, refl)

  last_walk : (k e : ℕ) → around he e ≡ EMPTY → walk_of he s k (turn_of he s e) ≡ []
  last_walk k e q =
      ⊎_elim
      (λ w. absurd (omega (arith, ok.small, w.0)))
      (λ w. walk_done he s k (turn_of he s e) (omega (arith, ok.small, w.1)))
      (turn_cases he s e)

  ends_in_lem : (k e₀ e : ℕ) → 0 < occ e (walk_of he s k e₀) → around he e ≡ EMPTY → In (end_of tri (next_of e)) (starts_of tri he (walk_of he s k e₀))
  unfolding walk_of starts_of
  ends_in_lem zero e₀ e h q = absurd (omega arith)
  ends_in_lem (suc k) e₀ e h q =
      let l = walk_in tri he ok s (suc k) e₀ e h in
      rw (walk_go he s k e₀ l) (⊎_elim
      (λ w.
      let z : around he e₀ ≡ EMPTY = ap (around he) (sym w.0) ∙ q in
      rw (w.0, last_walk k e₀ z) (single e₀ z))
      (λ w. more e₀ (walk_of he s k (turn_of he s e₀)) (ends_in_lem k (turn_of he s e₀) e (omega (arith, ap (occ e) (walk_go he s k e₀ l))) q))
      (same_cases e e₀))
    where
      single : (e : ℕ) → around he e ≡ EMPTY → In (end_of tri (next_of e)) (starts_of tri he (e ∷ []))
      single e z = later (end_of tri (next_of e)) (start_of tri e) (last_end tri he e) (end_here e z)

      more : (x : ℕ) (es : List ℕ) {v : ℕ} → In v (starts_of tri he es) → In v (starts_of tri he (x ∷ es))
      more x [] (i, h, g) = absurd (omega arith)
      more x (f ∷ es) {v} g = later v (start_of tri x) (starts_of tri he (f ∷ es)) g

-- the last site of a path has no neighbour strictly nearer, and is in use if the first is
module _ (d : ℕ → Float) (nb : ℕ → List ℕ) (U : ℕ → Type 0) (used : (s k : ℕ) → k < length (nb s) → U (get_or (nb s) k 0)) where
  some : {s : ℕ} {l : List ℕ} → PathFrom d nb s l → 0 < length l
  some (stops none) = omega arith
  some (hops g h r) = omega arith

  last_none : {s : ℕ} {l : List ℕ} → U s → PathFrom d nb s l → U (last_of l) × NoneNearer d (nb (last_of l)) (last_of l)
  last_none u (stops none) = (u, none)
  last_none u (hops {s = s} {n = n} {l = l} g h r) =
      let v = last_none (subst U g.there (used s g.place g.within)) r in
      subst (λ z. U z × NoneNearer d (nb z) z) (sym (last_cons s l (some r))) v

-- whatever the point is, as long as it keeps rule 6: from a site in use a path ends at one, and the builder's ends there too
module _ {sites : List Float} {tri he hull : List ℕ} (a : Accepted (mesh sites tri he hull)) (p : Point) (to : ok_site p ≡ true) (s : ℕ) (us : Used tri s) where
  abbrev table : List ℕ
  table = leftmost_of tri he (site_count sites)

  in_use : (v : ℕ) → Used tri v → v < site_count sites
  in_use v (i, l, q) = subst (λ z. z < site_count sites) q (entry_site (topology a) i l)

  pub path_stops : let end = last_of (whole_path sites tri he table p s) in Used tri end × NoneNearer (dist_of sites p) (neighbours_of tri he table end) end
  path_stops =
      last_none (dist_of sites p) (neighbours_of tri he table) (Used tri) (λ u i h. occ_in _ tri (neighbours_used tri he (paired (topology a)).threes (topology a).same table u i h)) us
      (path_holds a p to s us).rule

  pub end_whole : path_end sites tri he table p (site_count sites) s ≡ last_of (whole_path sites tri he table p s)
  end_whole =
      whole_end sites tri he table p (site_count sites) (ready (topology a)) (towards sites p a.coordinates to) (site_count sites) s (in_use s us)
      (omega (arith, used_sum tri (site_count sites)))

  pub end_used : Used tri (path_end sites tri he table p (site_count sites) s)
  end_used = subst (Used tri) (sym end_whole) path_stops.0

module _ {sites : List Float} {tri he hull : List ℕ} (a : Accepted (mesh sites tri he hull)) (X Y : ℕ → ℕ) (good : Checked (topology a) X Y)
    (k K : ℕ) (two : k + k ≤ 1074) (lK : K < 2 ^ 51)
    -- each site is the whole number (X, Y) less K / 2^k
    (whole : (v : ℕ) → v < site_count sites → Multiple k K (point_at sites v).x (2 ^ k * X v) × Multiple k K (point_at sites v).y (2 ^ k * Y v))
    -- the destination is (px - K) / 2^k, (py - K) / 2^k
    (p : Point) (px py : ℕ) (at_x : Multiple k K p.x px) (at_y : Multiple k K p.y py)
    -- and no site is too far from it
    (near : (v : ℕ) → v < site_count sites → far_from (2 ^ k) px py (X v) (Y v) < 2 ^ 53)
  where
    abbrev n : ℕ
    n = site_count sites

    abbrev tab : List ℕ
    tab = leftmost_of tri he n

    abbrev F : ℕ → ℕ
    F v = far_from (2 ^ k) px py (X v) (Y v)

    -- such a destination keeps rule 6
    to : ok_site p ≡ true
    unfolding ok_site
    to = rw (low_at k K p.x px lK at_x, low_at k K p.y py lK at_y)

    exact : (v : ℕ) → v < n → HasValue (dist_of sites p v) false (F v) (2 ^ (k + k))
    unfolding dist_of
    exact v l =
        let w = whole v l in
        dist_at k K two lK (point_at sites v) p (2 ^ k * X v) (2 ^ k * Y v) px py w.0 w.1 at_x at_y (near v l)

    order : (u v : ℕ) → u < n → v < n → T (le (dist_of sites p u) (dist_of sites p v)) → F u ≤ F v
    order u v lu lv h = le_at (dist_of sites p u) (dist_of sites p v) (F u) (F v) (2 ^ (k + k)) (pow_pos (k + k)) (exact u lu) (exact v lv) h

    used_below : (v : ℕ) → Used tri v → v < n
    used_below v (i, l, q) = subst (λ z. z < n) q (entry_site (topology a) i l)

    -- from the computed rule at a site to the exact one
    module _ (s : ℕ) (us : Used tri s) (none : NoneNearer (dist_of sites p) (neighbours_of tri he tab s) s) where
      neighbour : (v : ℕ) → v < n → In v (neighbours_of tri he tab s) → F s ≤ F v
      neighbour v l (i, h, q) = order s v (used_below s us) l (subst (λ z. T (le (dist_of sites p s) (dist_of sites p z))) q (none i h))

      ls : s < n
      ls = used_below s us

      listed : (e : ℕ) → e < length he → end_of tri e ≡ s → 0 < occ e (whole_of he (get_or tab s 0))
      listed e l q = omega (arith, walk_each (topology a) s ls e l q)

      ins : (e : ℕ) → e < length he → end_of tri e ≡ s → F s ≤ F (start_of tri e)
      unfolding neighbours_of
      ins e l q =
          neighbour (start_of tri e) (entry_site (topology a) e (subst (λ z. e < z) (topology a).same l)) (all_starts tri he e (whole_of he (get_or tab s 0)) (listed e l q))

      outs : (e : ℕ) → e < length he → start_of tri e ≡ s → F s ≤ F (end_of tri e)
      unfolding neighbours_of
      outs e l q =
          let ok = paired (topology a) in
          ⊎_elim
          (λ u.
          let f = next_of (next_of e) in
          let lf = next_lt ok.threes (next_lt ok.threes l) in
          let back : next_of f ≡ e = next_thrice e in
          let qf : end_of tri f ≡ s = ap (start_of tri) back ∙ q in
          let r = ends_in_lem tri he ok (get_or tab s 0) (walk_in tri he ok (get_or tab s 0) (length he) (get_or tab s 0) f (listed f lf qf)) (length he) (get_or tab s 0) f (listed f lf qf)
          (ap (pair_of he) back ∙ u) in
          neighbour (end_of tri e) (end_site (topology a) e l) (subst (λ z. In (end_of tri z) (neighbours_of tri he tab s)) back r))
          (λ m. subst (λ z. F s ≤ F z) m.from (ins (pair_of he e) m.inside (m.to ∙ q)))
          (ok.pairs e l)

      pub nearest_of_all : (t : ℕ) → Used tri t → F s ≤ F t
      nearest_of_all t ut = nearest (topology a) X Y good (2 ^ k) px py s t us ut ins outs

    -- a site in use that no site in use is strictly nearer than, exactly and as computed
    pub record Closest (end : ℕ) : Type 0 where
      pub used : Used tri end
      pub exactly : (t : ℕ) → Used tri t → F end ≤ F t
      pub computed : (t : ℕ) → Used tri t → T (le (dist_of sites p end) (dist_of sites p t))

    -- the theorem: there the path from any site in use ends
    pub path_nearest : (s : ℕ) → Used tri s → Closest (last_of (whole_path sites tri he tab p s))
    path_nearest s us =
        let v = path_stops a p to s us in
        let end = last_of (whole_path sites tri he tab p s) in
        let least = nearest_of_all end v.0 v.1 in
        record {
          used = v.0;
          exactly = least;
          computed = λ t ut.
              le_of_values (dist_of sites p end) (dist_of sites p t) (F end) (2 ^ (k + k)) (F t) (2 ^ (k + k)) (pow_pos (k + k)) (pow_pos (k + k)) (exact end (used_below end v.0))
              (exact t (used_below t ut)) (mul-le-mul_right (2 ^ (k + k)) (least t ut));
        }

    -- so does the path that the builder follows
    pub end_is : (s : ℕ) → Used tri s → path_end sites tri he tab p n s ≡ last_of (whole_path sites tri he tab p s)
    end_is s u = end_whole a p to s u
