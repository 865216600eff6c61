-- Theorem: pieces whose sides cancel, and of which no corner is nearer to another site by more than a bound, are the true ones: a place of the box that is nearer to one site
-- than to every other by more than the bound lies in the piece of that site, exactly once, and in no other piece.
use Rattle.std.specs.Prelude.{◌≡◌, Bool, true, length, get_or}
use Rattle.std.proofs.Math.Path.{refl}
use mathlib.Core.List.{List, [], ◌∷◌}
use Rattle.std.proofs.Common.{⊎_elim}
use Prim.Native.Nat.{ℕ, zero, suc, ◌+◌, ◌*◌, ◌≤◌, ◌<◌}
use native.Mathlib.Omega.{arith}
use Rattle.std.proofs.Math.ListN.{get_or-eq_default}
use Rattle.base.specs.common.laws.Decide.{lt_or_ge, eq_or_ne}
use Rattle.certifying.specs.cover.Sums.{WholePlace, OfSide, sum_ring, sum_all, EveryCorner}
use Rattle.certifying.specs.cover.Cover.{comes_up, BothOnEdge, leaves, off, covered}
use Rattle.certifying.specs.cover.Owner.{within}

-- ---- all rings but one have equal sums
module _ (f g : OfSide) where
  abbrev Even : List (List WholePlace) → ℕ → Type 0
  Even rs k = sum_ring f (get_or rs k []) ≡ sum_ring g (get_or rs k [])

  all_even : (rs : List (List WholePlace)) → ((k : ℕ) → Even rs k) → sum_all f rs ≡ sum_all g rs
  unfolding sum_all
  all_even [] h = refl
  all_even (r ∷ rs) h = go _ _ _ _ (h 0) (all_even rs (λ k. h (suc k)))
    where
      go : (a b c d : ℕ) → a ≡ b → c ≡ d → a + c ≡ b + d
      go a b c d e k = omega arith

  but_one : (rs : List (List WholePlace)) (s : ℕ) → ((k : ℕ) → (k ≡ s → ⊥) → Even rs k) → sum_all f rs + sum_ring g (get_or rs s []) ≡ sum_all g rs + sum_ring f (get_or rs s [])
  unfolding sum_all sum_ring
  but_one [] s h = refl
  but_one (r ∷ rs) zero h = go _ _ _ _ (all_even rs (λ k. h (suc k) (later k)))
    where
      later : (k : ℕ) → suc k ≡ 0 → ⊥
      later k e = omega arith

      go : (a b c d : ℕ) → c ≡ d → a + c + b ≡ b + d + a
      go a b c d e = omega arith
  but_one (r ∷ rs) (suc s) h = go _ _ _ _ _ _ (h 0 first) (but_one rs s (λ k n. h (suc k) (λ e. n (down k s e))))
    where
      first : 0 ≡ suc s → ⊥
      first e = omega arith

      down : (k s : ℕ) → suc k ≡ suc s → k ≡ s
      down k s e = omega arith

      go : (a b c d m n : ℕ) → a ≡ b → c + m ≡ d + n → a + c + m ≡ b + d + n
      go a b c d m n e k = omega arith

-- ---- |q - s|^2 is at most |q - o|^2 and B: on whole numbers, without the squares of q, which are on both sides
abbrev pub Near : WholePlace → WholePlace → ℕ → WholePlace → Type 0
Near s o B q = 2 * o.x * q.x + 2 * o.y * q.y + (s.x * s.x + s.y * s.y) ≤ 2 * s.x * q.x + 2 * s.y * q.y + (o.x * o.x + o.y * o.y + B)

module _ (l t r b X Y : ℕ) (across : l < r) (down : t < b) (hl : l ≤ X) (hr : X < r) (ht : t ≤ Y) (hb : Y < b)
    (along_edge : WholePlace → WholePlace → Bool) (sure : (p q : WholePlace) → along_edge p q ≡ true → BothOnEdge l t r b p q)
    (site : ℕ → WholePlace) (bound : ℕ → ℕ → ℕ) (rings : List (List WholePlace)) where
  abbrev ups : ℕ → ℕ
  ups k = sum_ring (comes_up X Y) (get_or rings k [])

  abbrev downs : ℕ → ℕ
  downs k = sum_ring (λ p q. comes_up X Y q p) (get_or rings k [])

  abbrev here : WholePlace
  here = record { x = X; y = Y }

  -- kinds 2, 3 and 4
  pub record SoundRings : Type 0 where
    pub cancelled : (f : OfSide)
        → sum_all (off l t r b X Y across down hl hr ht hb along_edge sure rings f) rings ≡ sum_all (off l t r b X Y across down hl hr ht hb along_edge sure rings (λ p q. f q p)) rings
    pub corner : sum_all (leaves l t r b) rings ≡ sum_all (λ p q. leaves l t r b q p) rings + 1
    pub near : (s o : ℕ) → o < length rings → EveryCorner (Near (site s) (site o) (bound s o)) (get_or rings s [])

  -- a piece that is passed more often one way than the other: its site is nearest, but for the bound
  pub owner : SoundRings → (s o : ℕ) → o < length rings → (ups s ≡ downs s → ⊥) → Near (site s) (site o) (bound s o) here
  owner ok s o here-too h =
      within X Y (get_or rings s []) (2 * (site o).x) (2 * (site s).x) (2 * (site o).y) (2 * (site s).y) ((site s).x * (site s).x + (site s).y * (site s).y)
      ((site o).x * (site o).x + (site o).y * (site o).y + bound s o) (ok.near s o here-too) h

  -- no other site is as near, but for the bound
  abbrev pub ClearHere : ℕ → Type 0
  ClearHere s = (o : ℕ) → o < length rings → (o ≡ s → ⊥) → Near (site o) (site s) (bound o s) here → ⊥

  -- a number that is no site's has no ring
  no_ring_lem : (o : ℕ) → length rings ≤ o → ups o ≡ downs o
  unfolding sum_ring
  no_ring_lem o m = rw (get_or-eq_default rings [] {n = o} m) refl

  pub other_pieces : SoundRings → (s : ℕ) → s < length rings → ClearHere s → (o : ℕ) → (o ≡ s → ⊥) → ups o ≡ downs o
  other_pieces ok s m clear o n =
      ⊎_elim (λ k. ⊎_elim (λ e. e) (λ h. absurd (clear o k n (owner ok o s m h))) (eq_or_ne (ups o) (downs o))) (λ k. no_ring_lem o k) (lt_or_ge o (length rings))

  pub certified : SoundRings → (s : ℕ) → s < length rings → ClearHere s → ups s ≡ downs s + 1
  certified ok s m clear =
      go _ _ _ _ (covered l t r b X Y across down hl hr ht hb along_edge sure rings ok.cancelled ok.corner) (but_one (comes_up X Y) (λ p q. comes_up X Y q p) rings s (other_pieces ok s m clear))
    where
      go : (a b c d : ℕ) → a ≡ b + 1 → a + d ≡ b + c → c ≡ d + 1
      go a b c d e h = omega arith
