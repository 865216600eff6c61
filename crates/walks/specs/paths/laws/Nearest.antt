-- What a hop is: of a list of sites the first of those nearest, where it is strictly nearer than the present one. The running minimum finds it,
-- because the order of computed distances that are no NaN is total.
use Rattle.std.specs.Prelude.{◌≡◌, refl, ◌≢◌, not, ℕ, zero, suc, ◌<◌, get_or, Float}
use Rattle.std.proofs.Common.{sym, ap, ◌∙◌, subst, arith}
use mathlib.Core.List.{List, [], ◌∷◌}
use Rattle.std.proofs.Math.Logic.{⊎_elim}
use Rattle.std.proofs.Math.Dec.{T, not_T}
use Rattle.std.proofs.Math.ListN.{length}
use Rattle.std.specs.Float.Ieee.{lt, le, is_nan}
use Rattle.base.specs.common.laws.Decide.{lt_or_ge}
use Rattle.root.specs.laws.Order.{lt_never, lt_trans, lt_past, not_lt, le_not_lt, lt_or_not}
use Rattle.plane.specs.declared.points.Point.{Point}
use Rattle.walks.specs.paths.Path.{dist_of, nearest_of}
use Rattle.walks.specs.paths.PathRule.{NoneNearer, FirstNearest}

-- from s: stay where none of ns is strictly nearer, else go to the first of the nearest
pub data Hop (d : ℕ → Float) (ns : List ℕ) (s : ℕ) : ℕ → Type 0 where
  stays : NoneNearer d ns s → Hop d ns s s
  moves : {n : ℕ} → FirstNearest d ns n → T (lt (d n) (d s)) → Hop d ns s n

-- `<` gives `<=`
below_le : (x y : Float) → T (not (is_nan x)) → T (not (is_nan y)) → T (lt x y) → T (le x y)
below_le x y p q h = not_lt y x q p (not_T (lt y x) (λ z. lt_never x (lt_trans x y x h z)))

self_le : (x : Float) → T (not (is_nan x)) → T (le x x)
self_le x p = not_lt x x p p (not_T (lt x x) (lt_never x))

-- what holds of the head and of the tail holds of each
each : (P : ℕ → Type 0) (n : ℕ) (ns : List ℕ) → P n → ((k : ℕ) → k < length ns → P (get_or ns k 0)) → (k : ℕ) → k < suc (length ns) → P (get_or (n ∷ ns) k 0)
each P n ns h t zero l = h
each P n ns h t (suc k) l = t k (omega arith)

each_before : (P : ℕ → Type 0) (n : ℕ) (ns : List ℕ) (j : ℕ) → P n → ((k : ℕ) → k < j → P (get_or ns k 0)) → (k : ℕ) → k < suc j → P (get_or (n ∷ ns) k 0)
each_before P n ns j h t zero l = h
each_before P n ns j h t (suc k) l = t k (omega arith)

module _ (d : ℕ → Float) (n : ℕ) (ns : List ℕ) (s : ℕ) (ok-n : T (not (is_nan (d n)))) (ok : (k : ℕ) → k < length ns → T (not (is_nan (d (get_or ns k 0))))) where
  placed_later : {r : ℕ} → FirstNearest d ns r → T (lt (d r) (d n)) → T (not (is_nan (d r))) → FirstNearest d (n ∷ ns) r
  placed_later {r} g h ok-r = record {
    place = suc g.place;
    within = omega (arith, g.within);
    there = g.there;
    least = each (λ x. T (le (d r) (d x))) n ns (below_le (d r) (d n) ok-r ok-n h) g.least;
    first = each_before (λ x. T (lt (d r) (d x))) n ns g.place h g.first;
  }

  its_number : {r : ℕ} → FirstNearest d ns r → T (not (is_nan (d r)))
  its_number g = subst (λ x. T (not (is_nan (d x)))) g.there (ok g.place g.within)

  -- the first of the list is strictly nearer than s, and the rest is judged from it
  hop_on : {r : ℕ} → T (lt (d n) (d s)) → Hop d ns n r → Hop d (n ∷ ns) s r
  hop_on h (stays none) =
      moves (record {
        place = 0;
        within = omega arith;
        there = refl;
        least = each (λ x. T (le (d n) (d x))) n ns (self_le (d n) ok-n) none;
        first = λ k l. absurd (omega arith);
      }) h
  hop_on h (moves {n = r} g l) = moves (placed_later g l (its_number g)) (lt_trans (d r) (d n) (d s) l h)

  -- it is not, and the rest is judged from s
  hop_past : {r : ℕ} → T (not (is_nan (d s))) → T (not (lt (d n) (d s))) → Hop d ns s r → Hop d (n ∷ ns) s r
  hop_past ok-s h (stays none) = stays (each (λ x. T (le (d s) (d x))) n ns (not_lt (d n) (d s) ok-n ok-s h) none)
  hop_past ok-s h (moves {n = r} g l) = moves (placed_later g (lt_past (d r) (d s) (d n) ok-n l h) (its_number g)) l

module _ (sites : List Float) (p : Point) where
  pub nearest_hop : (ns : List ℕ) (s : ℕ) → T (not (is_nan (dist_of sites p s)))
      → ((k : ℕ) → k < length ns → T (not (is_nan (dist_of sites p (get_or ns k 0))))) → Hop (dist_of sites p) ns s (nearest_of sites p ns s)
  unfolding nearest_of
  nearest_hop [] s ok-s ok = stays (λ k l. absurd (omega arith))
  nearest_hop (n ∷ ns) s ok-s ok =
      let d = dist_of sites p in
      let ok-n = ok 0 (omega arith) in
      let ok-ns : (k : ℕ) → k < length ns → T (not (is_nan (d (get_or ns k 0)))) = λ k l. ok (suc k) (omega arith) in
      ⊎_elim
      (λ h. rw h.1 (hop_on d n ns s ok-n ok-ns h.0 (nearest_hop ns n ok-n ok-ns)))
      (λ h. rw h.1 (hop_past d n ns s ok-n ok-ns ok-s h.0 (nearest_hop ns s ok-s ok-ns)))
      (lt_or_not (d n) (d s))

-- a hop that goes nowhere, and one that goes on
pub hop_stays : {d : ℕ → Float} {ns : List ℕ} {s r : ℕ} → Hop d ns s r → r ≡ s → NoneNearer d ns s
hop_stays (stays none) q = none
hop_stays {d = d} {s = s} (moves g l) q = absurd (lt_never (d s) (rw q at l))

pub hop_moves : {d : ℕ → Float} {ns : List ℕ} {s r : ℕ} → Hop d ns s r → r ≢ s → FirstNearest d ns r × T (lt (d r) (d s))
hop_moves (stays none) q = absurd (q refl)
hop_moves (moves g l) q = (g, l)

-- there is one nearest, so any two hops agree
pub nearest_one : (d : ℕ → Float) (ns : List ℕ) (a b : ℕ) → FirstNearest d ns a → FirstNearest d ns b → a ≡ b
nearest_one d ns a b g h =
    ⊎_elim
    (λ l. absurd (before g h l))
    (λ l. ⊎_elim (λ m. absurd (before h g m)) (λ m. let q : g.place ≡ h.place = omega arith in sym g.there ∙ ap (λ k. get_or ns k 0) q ∙ h.there) (lt_or_ge h.place g.place))
    (lt_or_ge g.place h.place)
  where
    before : {x y : ℕ} (u : FirstNearest d ns x) (w : FirstNearest d ns y) → u.place < w.place → ⊥
    before {x} {y} u w l = le_not_lt (d x) (d y) (rw w.there at (u.least w.place w.within)) (rw u.there at (w.first u.place l))

pub stays_one : (d : ℕ → Float) (ns : List ℕ) (s n : ℕ) → NoneNearer d ns s → FirstNearest d ns n → T (lt (d n) (d s)) → ⊥
stays_one d ns s n none g l = le_not_lt (d s) (d n) (rw g.there at (none g.place g.within)) l
