-- The cell of a ring, entry by entry, and the loop that copies it: the entries behind the cell are the ring's still.
use Rattle.std.specs.Prelude.{◌≡◌, refl, List, ◌∷◌, ℕ, zero, suc, ◌+◌, ◌-◌, ◌≤◌, ◌<◌, length, get_or, set, take}
use Rattle.std.proofs.Common.{sym, ap, ◌∙◌, arith, add-one, length-set, get_or-take, length-take-le, take_all}
use Rattle.std.proofs.lemmas.List.Edits.{sets}
use Rattle.base.specs.common.laws.Stores.{sets_more, sets_behind}
use Rattle.definition.specs.Cell.{turned}
use Rattle.clipping.specs.RingWalk.{ring_of}
use Rattle.clipping.specs.laws.RingWalk.{length_ring, get_d_ring}
use Rattle.clipping.specs.laws.ReversedRing.{length_turned, turned_back}
use Rattle.clipping.specs.interior.Interior.{inside_cell}

module _ (ring : List ℕ) where
  pub cell_length : length (inside_cell ring) ≡ length ring
  cell_length = length-take-le (length ring) _ (omega (arith, length_turned 0 ring (omega arith)))

  pub cell_first : 0 < length ring → get_or (inside_cell ring) 0 0 ≡ get_or ring 0 0
  cell_first h = get_or-take (length ring) _ 0 0 h

  pub cell_later : (k : ℕ) → 0 < k → k < length ring → get_or (inside_cell ring) k 0 ≡ get_or ring (length ring - k) 0
  cell_later zero h l = absurd (omega arith)
  cell_later (suc k) h l =
      let q : length ring - 1 - (k - 0) ≡ length ring - suc k = omega arith in
      get_or-take (length ring) (get_or ring 0 0 ∷ turned 0 ring) (suc k) 0 l
      ∙ turned_back 0 ring (omega arith) k (omega arith) (omega arith)
      ∙ ap (λ (j : ℕ). get_or ring j 0) q

-- ---- the loop: k entries are copied, and entry k stands at place `at` of the ring
pub record Copied (old : List ℕ) (base ring len : ℕ) (new : List ℕ) (k at : ℕ) : Type 0 where
  pub few : k ≤ len
  pub written : new ≡ sets old base (take k (inside_cell (ring_of old ring len)))
  pub long : length new ≡ length old
  pub next : k < len → (at < len) × (get_or (inside_cell (ring_of old ring len)) k 0 ≡ get_or (ring_of old ring len) at 0)

module _ (old : List ℕ) (base ring len : ℕ) (apart : base + len ≤ ring) (within : ring + len ≤ length old) where
  abbrev cell : List ℕ
  cell = inside_cell (ring_of old ring len)

  size : length (ring_of old ring len) ≡ len
  size = length_ring old ring len within

  cell_size : length cell ≡ len
  cell_size = cell_length (ring_of old ring len) ∙ size

  -- the ring is past the cell
  kept : (new : List ℕ) (k at j : ℕ) → Copied old base ring len new k at → j < len → get_or new (ring + j) 0 ≡ get_or (ring_of old ring len) j 0
  kept new k at j c h =
      let t : length (take k cell) ≡ k = length-take-le k cell (omega (arith, cell_size, c.few)) in
      rw c.written (sets_behind (take k cell) old base (ring + j) 0 (omega (arith, t, c.few))) ∙ sym (get_d_ring old ring len j h)

  pub copied_none : Copied old base ring len old 0 0
  copied_none = record {
    few = omega arith;
    written = refl;
    long = refl;
    next = λ h. (h, cell_first (ring_of old ring len) (rw size h));
  }

  pub copied_more : (new : List ℕ) (k at x : ℕ) → k < len → Copied old base ring len new k at → x ≡ get_or new (ring + at) 0
      → Copied old base ring len (set new (base + k) x) (k + 1) (len - (k + 1))
  copied_more new k at x h c q =
      let r : get_or cell k 0 ≡ x = (c.next h).1 ∙ sym (kept new k at at c (c.next h).0) ∙ sym q in
      record {
        few = omega arith;
        written = rw (← r, c.written, add-one k) (sets_more cell old base k 0 (rw cell_size h));
        long = length-set new (base + k) x ∙ c.long;
        next = λ l. (omega arith, cell_later (ring_of old ring len) (k + 1) (omega arith) (rw size l) ∙ ap (λ (m : ℕ). get_or (ring_of old ring len) (m - (k + 1)) 0) size);
      }

  pub copied_all : (new : List ℕ) (k at : ℕ) → len ≤ k → Copied old base ring len new k at → new ≡ sets old base cell
  copied_all new k at h c =
      c.written ∙ ap (sets old base) (take_all k cell (omega (arith, cell_size, c.few)))
