-- One side over a ring in slots: what is left of each edge goes on in the other half (`edge_one`, `edge_two`), and at the end that is the ring by the side (`passing_end`).
-- The sides one after the other (`cut_all_lem`).
use Rattle.std.specs.Prelude.{◌≡◌, refl, true, List, [], ◌∷◌, ◌++◌, Float, length}
use Rattle.std.proofs.lemmas.List.FromFn.{length-range_with_len, get_or-range_with_len}
use Rattle.std.specs.List.{AllWithin, range_with_len}
use Rattle.std.proofs.Common.{subst, sym, ap, ◌∙◌, append-nil, append_assoc, add-zero, lt-ltb, le-ltb}
use Rattle.std.proofs.Math.Logic.{⊎_elim}
use Prim.Native.Nat.{ℕ, zero, suc, ◌+◌, ◌-◌, ◌≤◌, ◌<◌}
use native.Mathlib.Omega.{arith}
use Rattle.base.specs.common.laws.Decide.{lt_or_ge}
use Rattle.plane.specs.declared.boxes.BoundingBox.{BoundingBox}
use Rattle.cutting.specs.cuts.Rings.{At, head_or}
use Rattle.cutting.specs.cuts.Cut.{Side, kept, cut_to, cut_by}
use Rattle.cutting.specs.cuts.Corners.{AllCorners, IsWithin, cut_untouched}
use Rattle.cutting.specs.corner.Corner.{within_of}
use Rattle.cutting.specs.declared.corner.SideName.{SideName}
use Rattle.cutting.specs.declared.corner.SideName.TheVariants.{Left, Top, Right, Bottom}
use Rattle.cutting.specs.declared.corner.Corner.{Corner}
use Rattle.cutting.specs.declared.corner.Carrier.{Carrier}
use Rattle.cutting_writer.specs.declared.stream.Spot.{Spot}
use Rattle.cutting_writer.specs.stream.Stages.{Ring, side_at, cut_four}
use Rattle.cutting_writer.specs.slots.Slots.{corner_in, spot_in, PutSlot, ring_in}
use Rattle.cutting_writer.specs.slots.laws.Putting.{slots_put}
use Rattle.cutting_writer.specs.declared.short.Lying.{Lying}
use Rattle.cutting_writer.specs.short.Short.{AtHalf, next_slot, Edged, PassedSide, laid, Cuts}

-- ---- what is left of an edge
out_of : (to j n : ℕ) → n < 16 → (to ≤ j → j < to + 16 → ⊥) → j ≡ to + n → ⊥
out_of to j n h out e = out (omega arith) (omega arith)

module _ {part : Ring} (to k : ℕ) {f : List Spot} where
  module _ (room : k + 2 ≤ 16) {v : At Corner Carrier} {f₁ : List Spot} (p : PutSlot f (to + k) v f₁) where
    pub edge_one : part ≡ v ∷ [] → Edged part to k f (k + 1) f₁
    edge_one q = record {
      made = let s : k + 1 ≡ suc k = omega arith in rw (s, q) (slots_put to k p);
      others = λ j n. p.others j (out_of to j k (omega arith) n);
      most = omega arith;
    }

    pub edge_two : {w : At Corner Carrier} {f₂ : List Spot} → PutSlot f₁ (to + k + 1) w f₂ → part ≡ v ∷ w ∷ [] → Edged part to k f (k + 2) f₂
    edge_two {w} {f₂} p₂ q =
        let at : to + k + 1 ≡ to + suc k = omega arith in
        let s : k + 2 ≡ suc (suc k) = omega arith in
        let second : PutSlot f₁ (to + suc k) w f₂ = rw at at p₂ in
        record {
          made = rw (s, q) (slots_put to (suc k) second ∙ ap (λ (l : Ring). l ++ (w ∷ [])) (slots_put to k p) ∙ append_assoc (ring_in f to k) (v ∷ []) (w ∷ []));
          others = λ j n. second.others j (out_of to j (suc k) (omega arith) n) ∙ p.others j (out_of to j k (omega arith) n);
          most = omega arith;
        }

-- ---- the whole ring
pub half_low : (a : ℕ) → AtHalf a → a ≤ 16
half_low a = ⊎_elim (λ e. omega arith) (λ e. omega arith)

-- the slots that are read are none of those that are written
read_slot : (from : ℕ) → AtHalf from → (j : ℕ) → from ≤ j → j < from + 16 → 16 - from ≤ j → j < 16 - from + 16 → ⊥
read_slot from half j a z u v = ⊎_elim (λ e. omega arith) (λ e. omega arith) half

module _ (s : Side Corner Carrier) (from count : ℕ) (f₀ : List Spot) where
  abbrev end : Corner
  end = corner_in f₀ from

  -- what is left of the edges that come, behind what is written, is the whole
  pub record Passing (i k : ℕ) (f : List Spot) : Type 0 where
    pub all : ring_in f (16 - from) k ++ cut_to s end (ring_in f₀ (from + i) (count - i)) ≡ cut_to s end (ring_in f₀ from count)
    pub same : (j : ℕ) → from ≤ j → j < from + 16 → spot_in f j ≡ spot_in f₀ j
    pub done : i ≤ count
    pub few : k ≤ 16
    pub slots : length f ≡ length f₀

  whole_by : (n : ℕ) → cut_to s end (ring_in f₀ from n) ≡ cut_by s (ring_in f₀ from n)
  whole_by zero = refl
  whole_by (suc n) = refl

  pub passing_end : (i k : ℕ) (f : List Spot) → Passing i k f → count ≤ i → PassedSide s from count f₀ k f
  passing_end i k f x l =
      let none : count - i ≡ 0 = omega arith in
      record { made = λ _. sym (append-nil (ring_in f (16 - from) k)) ∙ rw none at x.all ∙ whole_by count }

  module _ (half : AtHalf from) (short : count ≤ 16) (i k : ℕ) (f : List Spot) (x : Passing i k f) (more : i < count) where
    next_is : head_or end (ring_in f₀ (from + suc i) (count - suc i)) ≡ corner_in f₀ (next_slot from count i)
    unfolding next_slot
    next_is =
        ⊎_elim
        (λ l.
        let one : count - suc i ≡ suc (count - suc (suc i)) = omega arith in
        let slot : from + suc i ≡ from + i + 1 = omega arith in
        rw (lt-ltb (i + 1) count (omega arith), one, slot) refl)
        (λ l. let none : count - suc i ≡ 0 = omega arith in rw (le-ltb (i + 1) count (omega arith), none) refl)
        (lt_or_ge (suc i) count)

    next_near : (from ≤ next_slot from count i) × (next_slot from count i < from + 16)
    unfolding next_slot
    next_near =
        ⊎_elim
        (λ l. rw (lt-ltb (i + 1) count (omega arith)) (omega arith, omega arith))
        (λ l. rw (le-ltb (i + 1) count (omega arith)) (omega arith, omega arith))
        (lt_or_ge (suc i) count)

    pub next_low : (n : ℕ) → n ≡ next_slot from count i → n < 32
    next_low n e = let near = next_near.1 in let low = half_low from half in omega (arith, near, low, e)

    pub passing_step : {p : At Corner Carrier} {q : Corner} {n r : ℕ} {f₁ : List Spot} → p ≡ spot_in f (from + i) → n ≡ next_slot from count i → q ≡ corner_in f n
        → k + 2 ≤ 16 → Edged (kept s p q) (16 - from) k f r f₁ → length f₁ ≡ length f → Passing (i + 1) r f₁
    passing_step {p} {q} {n} {r} {f₁} pe ne qe room e fl =
        let here : p ≡ spot_in f₀ (from + i) = pe ∙ x.same (from + i) (omega arith) (omega arith) in
        let next : q ≡ head_or end (ring_in f₀ (from + suc i) (count - suc i)) = qe ∙ ap (corner_in f) ne
        ∙ ap (λ (v : At Corner Carrier). v.corner) (x.same (next_slot from count i) next_near.0 next_near.1) ∙ sym next_is in
        let one : count - i ≡ suc (count - suc i) = omega arith in
        let up : suc (from + i) ≡ from + suc i = omega arith in
        let rest : Ring = cut_to s end (ring_in f₀ (from + suc i) (count - suc i)) in
        let taken : cut_to s end (ring_in f₀ (from + i) (count - i)) ≡ kept s p q ++ rest = rw (one, up, here, next) refl in
        let step : i + 1 ≡ suc i = omega arith in
        record {
          all = rw (step, e.made) (append_assoc (ring_in f (16 - from) k) (kept s p q) rest ∙ ap (λ (l : Ring). ring_in f (16 - from) k ++ l) (sym taken) ∙ x.all);
          same = λ j a z. e.others j (read_slot from half j a z) ∙ x.same j a z;
          done = omega arith;
          few = omega (arith, e.most);
          slots = fl ∙ x.slots;
        }

-- ---- all corners within a side, from the last on
module _ (b : BoundingBox) (s : SideName) (from count : ℕ) (f : List Spot) where
  pub record AllFrom (i : ℕ) : Type 0 where
    pub low : i ≤ count
    pub rest : (sites : List Float) → AllCorners (IsWithin (side_at b sites s)) (ring_in f (from + i) (count - i))

  pub all_start : AllFrom count
  all_start = let none : count - count ≡ 0 = omega arith in record { low = omega arith; rest = λ sites. rw none tt }

  pub all_step : (i : ℕ) → AllFrom i → 0 < i → within_of b s (corner_in f (from + (i - 1))) ≡ true → AllFrom (i - 1)
  all_step i x more w =
      let one : count - (i - 1) ≡ suc (count - i) = omega (arith, x.low) in
      let up : suc (from + (i - 1)) ≡ from + i = omega arith in
      record { low = omega (arith, x.low); rest = λ sites. rw (one, up) (w, x.rest sites) }

  pub all_end : (i : ℕ) → AllFrom i → i ≡ 0 → (sites : List Float) → AllCorners (IsWithin (side_at b sites s)) (ring_in f from count)
  all_end i x z sites = let whole : count - 0 ≡ count = omega arith in rw (z, add-zero from, whole) at (x.rest sites)

  all_to : ((i : ℕ) → i < count → within_of b s (corner_in f (from + i)) ≡ true) → (left i : ℕ) → left + i ≡ count → AllFrom i
  all_to each zero i e = let z : count ≡ i = omega arith in subst AllFrom z all_start
  all_to each (suc left) i e =
      let one : i + 1 - 1 ≡ i = omega arith in
      rw one at (all_step (i + 1) (all_to each left (i + 1) (omega arith)) (omega arith) (rw (sym one) at (each i (omega arith))))

  -- by what `all` says of a range
  pub all_each : AllWithin (λ i. within_of b s (corner_in f (from + i)) ≡ true) (range_with_len 0 count) 0 (length (range_with_len 0 count))
      → (sites : List Float) → AllCorners (IsWithin (side_at b sites s)) (ring_in f from count)
  all_each h = all_end 0 (all_to
      (λ i l. subst (λ (k : ℕ). within_of b s (corner_in f (from + k)) ≡ true) (get_or-range_with_len 0 count i 0 l ∙ omega arith)
      (h i 0 (omega arith) (omega (arith, length-range_with_len 0 count)))) count 0 (omega arith)) refl

-- ---- a side that leaves the ring alone, and one that does not
module _ (s : Side Corner Carrier) (l : Lying) (half : AtHalf l.from) (f : List Spot) where
  pub cut_none : AllCorners (IsWithin s) (laid f l) → Cuts (cut_by s) l f l f
  cut_none a = record { half = half; fits = λ h. h; made = λ h. sym (cut_untouched s (laid f l) a) }

pub cuts_then : {g h : Ring → Ring} {l r u : Lying} {f f₁ f₂ : List Spot} → Cuts g l f r f₁ → Cuts h r f₁ u f₂ → Cuts (λ ring. h (g ring)) l f u f₂
cuts_then {g} {h} x y = record { half = y.half; fits = λ n. x.fits (y.fits n); made = λ n. y.made n ∙ ap h (x.made (y.fits n)) }

module _ (b : BoundingBox) (sites : List Float) where
  pub cut_all_lem : {l t u v r : Lying} {f f₁ f₂ f₃ f₄ : List Spot} → Cuts (cut_by (side_at b sites Left)) l f t f₁
      → Cuts (cut_by (side_at b sites Top)) t f₁ u f₂ → Cuts (cut_by (side_at b sites Right)) u f₂ v f₃ → Cuts (cut_by (side_at b sites Bottom)) v f₃ r f₄
      → Cuts (cut_four b sites) l f r f₄
  unfolding cut_four
  cut_all_lem w x y z = cuts_then (cuts_then (cuts_then w x) y) z
