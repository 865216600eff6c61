-- Laws of the wrapping and of an edge along the box.
use Prim.Native.Nat.{ℕ, zero, suc, ◌+◌, ◌-◌, ◌%◌, ◌≤◌, ◌<◌}
use Rattle.std.specs.Prelude.{◌≡◌, true, false, List, [], ◌∷◌, eqb, length, get_or, set}
use Rattle.std.proofs.Math.Path.{refl}
use Rattle.std.proofs.Common.{sym, ap, ◌∙◌, add-one, eq-eqb, ne_eqb}
use native.Mathlib.Omega.{arith}
use Rattle.std.proofs.lemmas.List.Edits.{sets}
use Rattle.base.specs.common.Count.{occ}
use Rattle.base.specs.numbers.Numbers.{EMPTY}
use Rattle.definition.specs.Cell.{Entry, entry, wrapped, crossing, Ins, last_or, goes, wraps, with_corners, led, vertex_at, insert_edge, unmarked}
use Rattle.plane.specs.declared.points.Point.{Point}
use Rattle.plane.specs.sides.Sides.{which_of}
use Rattle.plane.specs.declared.boxes.BoundingBox.{BoundingBox}
use Rattle.clipping.specs.corners.CellEntries.{EntriesPut, places}
use Rattle.definition.specs.Short.{ins, before}
use Rattle.clipping.specs.declared.corners.CellSoFar.{CellSoFar}
use Rattle.clipping.specs.corners.laws.CellEntries.{puts_then}

-- ---- owners

-- of a corner that there is, whatever stands for none
pub owner_same : (os : List ℕ) (c d e : ℕ) → c < length os → get_or os c d ≡ get_or os c e
owner_same [] c d e h = absurd (omega arith)
owner_same (o ∷ os) zero d e h = refl
owner_same (o ∷ os) (suc c) d e h = owner_same os c d e (omega arith)

-- ---- whether a corner is next

module _ (site stop c : ℕ) (os : List ℕ) where
  pub goes_stop : c ≡ stop → goes site stop c os ≡ false
  goes_stop h = rw (eq-eqb c stop h)

  pub goes_on : (c ≡ stop → ⊥) → goes site stop c os ≡ eqb (get_or os c 0) site
  goes_on h = rw (ne_eqb c stop h)

-- ---- the wrap, corner by corner

module _ (nc site stop c : ℕ) (os : List ℕ) where
  pub wraps_go :
      (k : ℕ)
      → 0 < k
      → goes site stop c os ≡ true
      → wraps k nc site stop c os ≡ before (entry wrapped (nc + c)) (wraps (k - 1) nc site stop ((c + 1) % 4) (set os c EMPTY))
  unfolding wraps
  wraps_go zero h g = absurd (omega arith)
  wraps_go (suc k) h g =
      let e : suc k - 1 ≡ k = omega arith in
      rw (g, e)

  pub wraps_stop : (k : ℕ) → goes site stop c os ≡ false → wraps k nc site stop c os ≡ ins os []
  unfolding wraps
  wraps_stop zero g = refl
  wraps_stop (suc k) g = rw g

-- what is still to be put at place n, after the entry x, gives the whole that was to be put at first
pub record WrapLeft (ix₀ : List ℕ) (n₀ x₀ : ℕ) (W : Ins) (ix : List ℕ) (n x : ℕ) (w : Ins) : Type 0 where
  pub owners : W.owners ≡ w.owners
  pub slice : sets ix₀ n₀ (unmarked W.new) ≡ sets ix n (unmarked w.new)
  pub place : n₀ + length W.new ≡ n + length w.new
  pub last : last_or x₀ W.new ≡ last_or x w.new

pub going_start : (ix : List ℕ) (n x : ℕ) (W : Ins) → WrapLeft ix n x W ix n x W
going_start ix n x W = record { owners = refl; slice = refl; place = refl; last = refl }

module _ {ix₀ : List ℕ} {n₀ x₀ : ℕ} {W : Ins} {ix : List ℕ} {n x : ℕ} {w : Ins} (g : WrapLeft ix₀ n₀ x₀ W ix n x w) where
  pub going_on : (e : Entry) (w₁ : Ins) → w ≡ before e w₁ → WrapLeft ix₀ n₀ x₀ W (set ix n e.at) (n + 1) e.at w₁
  going_on e w₁ h =
      record {
        owners = g.owners ∙ ap (λ (i : Ins). i.owners) h;
        slice = rw (add-one n) (g.slice ∙ ap (λ (i : Ins). sets ix n (unmarked i.new)) h);
        place =
            (let a = g.place in
            let b : length w.new ≡ suc (length w₁.new) = ap (λ (i : Ins). length i.new) h in
            omega arith);
        last = g.last ∙ ap (λ (i : Ins). last_or x i.new) h;
      }

  pub going_end :
      (site : ℕ) (os : List ℕ)
      → w ≡ ins os []
      → (a b : CellSoFar)
      → a.end ≡ n₀ → a.last ≡ x₀ → b.owners ≡ os → b.end ≡ n → b.last ≡ x
      → length os ≡ 4
      → n + occ site os ≤ n₀ + occ site a.owners
      → EntriesPut site 0 W a ix₀ b ix
  going_end site os h a b e₀ e₁ e₂ e₃ e₄ l f =
      record {
        slice = sym (rw e₀ (g.slice ∙ ap (λ (i : Ins). sets ix n (unmarked i.new)) h));
        owners = e₂ ∙ sym (g.owners ∙ ap (λ (i : Ins). i.owners) h);
        place =
            (let p = g.place in
            let q : length w.new ≡ 0 = ap (λ (i : Ins). length i.new) h in
            omega arith);
        last = e₄ ∙ sym (rw e₁ (g.last ∙ ap (λ (i : Ins). last_or x i.new) h));
        four = rw e₂ l;
        fit = rw (e₀, e₂, e₃) (omega arith);
      }

-- ---- the second clipped vertex and the corners

module _ (nc site f s second : ℕ) (a b c : CellSoFar) (l l₁ l₂ : List ℕ) where
  pub corners_first :
      eqb (get_or a.owners f EMPTY) site ≡ true
      → EntriesPut site 0 (wraps 4 nc site s f a.owners) a l b l₁
      → EntriesPut site 1 (ins b.owners (entry crossing second ∷ [])) b l₁ c l₂
      → EntriesPut site 1 (with_corners nc site f s second a.owners) a l c l₂
  unfolding with_corners
  corners_first h p q = rw h (rw p.owners at (puts_then p q))

  pub corners_after :
      eqb (get_or a.owners f EMPTY) site ≡ false
      → eqb (get_or a.owners s EMPTY) site ≡ true
      → EntriesPut site 1 (ins a.owners (entry crossing second ∷ [])) a l b l₁
      → EntriesPut site 0 (wraps 4 nc site f s b.owners) b l₁ c l₂
      → EntriesPut site 1 (with_corners nc site f s second a.owners) a l c l₂
  unfolding with_corners
  corners_after h k p q = rw (h, k) (rw p.owners at (puts_then p q))

module _ (nc site f s second : ℕ) (a b : CellSoFar) (l l₁ : List ℕ) where
  pub corners_none :
      eqb (get_or a.owners f EMPTY) site ≡ false
      → eqb (get_or a.owners s EMPTY) site ≡ false
      → EntriesPut site 1 (ins a.owners (entry crossing second ∷ [])) a l b l₁
      → EntriesPut site 1 (with_corners nc site f s second a.owners) a l b l₁
  unfolding with_corners
  corners_none h k p = rw (h, k) p

-- ---- the first clipped vertex

module _ (nc site f s first second : ℕ) (a b c : CellSoFar) (l l₁ l₂ : List ℕ) where
  pub led_not :
      (a.last ≡ first → ⊥)
      → EntriesPut site 1 (ins a.owners (entry crossing first ∷ [])) a l b l₁
      → EntriesPut site 1 (with_corners nc site f s second b.owners) b l₁ c l₂
      → EntriesPut site (places (eqb a.last first)) (led (eqb a.last first) first (with_corners nc site f s second a.owners)) a l c l₂
  led_not h p q = rw (ne_eqb a.last first h) (rw p.owners at (puts_then p q))

module _ (nc site f s first second : ℕ) (a b : CellSoFar) (l l₁ : List ℕ) where
  pub led_yes :
      a.last ≡ first
      → EntriesPut site 1 (with_corners nc site f s second a.owners) a l b l₁
      → EntriesPut site (places (eqb a.last first)) (led (eqb a.last first) first (with_corners nc site f s second a.owners)) a l b l₁
  led_yes h p = rw (eq-eqb a.last first h) p

-- ---- an edge along the box

module _ (b : BoundingBox) (nc site : ℕ) (vs : List Point) (os : List ℕ) (last first second f s : ℕ) (e : f ≡ which_of b (vertex_at vs first)) (g : s ≡ which_of b (vertex_at vs second)) where
  pub insert_on : insert_edge b nc site vs os last first second ≡ led (eqb last first) first (with_corners nc site f s second os)
  unfolding insert_edge
  insert_on = rw (← e, ← g)
