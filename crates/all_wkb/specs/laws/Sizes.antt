-- How long the images are together, by the lengths of their cells; the loop that counts them down from a room.
use Rattle.std.specs.Prelude.{◌≡◌, refl, List, ℕ, zero, suc, ◌+◌, ◌-◌, ◌≤◌, ◌<◌, Float, length, get_or, drop}
use Rattle.std.proofs.Common.{ap, ◌∙◌, add-one, arith, length-take, length-drop}
use Rattle.std.proofs.lemmas.List.{length-map}
use Rattle.base.specs.common.Count.{sum_to}
use Rattle.base.specs.common.laws.Count.{sum_mono}
use Rattle.walks.specs.shared.Cells.{cell_of}
use Rattle.queries.specs.all_neighbours.laws.Lists.{end_of_lists, end_sum}
use Rattle.wkb.specs.Polygon.{pattern_at, patterns_of, patterns, size}
use Rattle.wkb.specs.Promise.{ImageFits}
use Rattle.wkb.specs.ReadBack.{length_polygon}
use Rattle.all_wkb.specs.Promise.{image_at}
use Rattle.all_wkb.specs.Steps.{FewEntries, size_at}

-- a cell has no more entries than the list
pub cell_short : (off ix : List ℕ) (s : ℕ) → length (cell_of off ix s) ≤ length ix
unfolding cell_of
cell_short off ix s = omega (arith, length-take (get_or off (s + 1) 0 - get_or off s 0) (drop (get_or off s 0) ix), length-drop (get_or off s 0) ix)

module _ (v : List Float) (off ix : List ℕ) where
  pub image_long : (s : ℕ) → length (image_at v off ix s) ≡ size_at off ix s
  image_long s = length_polygon (patterns_of (patterns v) (cell_of off ix s)) ∙ ap size (length-map (cell_of off ix s) (pattern_at (patterns v)))

  sums : (n : ℕ) → sum_to (λ s. length (image_at v off ix s)) n ≡ sum_to (size_at off ix) n
  sums zero = refl
  sums (suc n) = omega (arith, sums n, image_long n)

  pub images_long : (n : ℕ) → end_of_lists (image_at v off ix) n ≡ sum_to (size_at off ix) n
  images_long n = end_sum (image_at v off ix) n ∙ sums n

  -- the image fits where as many bytes are left
  pub image_fits : (s room : ℕ) → FewEntries (length ix) → length (image_at v off ix s) ≤ room → ImageFits (length (cell_of off ix s)) room
  image_fits s room few h = record { counted = omega (arith, cell_short off ix s); long = omega (arith, image_long s) }

-- ---- counting down: of a room so many bytes are left after s of n
module _ (f : ℕ → ℕ) (n : ℕ) where
  pub record Counting (room left s : ℕ) : Type 0 where
    pub low : s ≤ n
    pub rest : left + sum_to f s ≡ room

  pub counting_start : (room : ℕ) → Counting room room 0
  counting_start room = record { low = omega arith; rest = omega arith }

  module _ {room left s : ℕ} (c : Counting room left s) where
    -- k is what the next takes
    pub counting_next : {k : ℕ} → s < n → k ≡ f s → k ≤ left → Counting room (left - k) (s + 1)
    counting_next h e g = rw (add-one s) (record { low = h; rest = omega (arith, c.rest) })

    pub counting_over : {k : ℕ} → s < n → k ≡ f s → left < k → sum_to f n ≤ room → ⊥
    counting_over h e g all = omega (arith, c.rest, sum_mono f (suc s) n h)

    pub counting_end : n ≤ s → sum_to f n ≤ room
    counting_end h =
        let q : s ≡ n = omega (arith, c.low) in
        omega (arith, rw q at c.rest)
