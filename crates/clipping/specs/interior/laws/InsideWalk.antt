-- A walk that stays inside: each edge puts its first vertex into the cell, adds no vertex and takes no corner. So a ring wholly inside, copied, is the cell that clipping gives.
use Rattle.std.specs.Prelude.{◌≡◌, ℕ, suc, ◌+◌, ◌-◌, ◌≤◌, ◌<◌, Float, get_or, take, drop}
use Rattle.std.proofs.Math.Path.{refl}
use Rattle.std.proofs.Common.{sym, ap, ◌∙◌, arith}
use Rattle.std.proofs.Math.Bool.{true, false}
use mathlib.Core.List.{List, [], ◌∷◌}
use Rattle.std.proofs.Math.ListN.{length}
use Rattle.std.proofs.lemmas.List.{length-map}
use Rattle.std.proofs.lemmas.List.Edits.{sets}
use Rattle.base.specs.common.laws.Stores.{take_sets, drop_sets}
use Rattle.base.specs.numbers.Numbers.{EMPTY}
use Rattle.plane.specs.declared.points.Point.{Point}
use Rattle.plane.specs.points.Flat.{points}
use Rattle.plane.specs.declared.boxes.BoundingBox.{BoundingBox}
use Rattle.vertices.specs.laws.Store.{poured_none}
use Rattle.definition.specs.Fault.{ok, and_then, at_edge}
use Rattle.definition.specs.Cell.{Entry, entry, plain, last_or, in_box, first_inside, step_to, steps_to, turned, clip_cell, unmarked}
use Rattle.definition.specs.Short.{fault, part, tip}
use Rattle.definition.specs.Reused.{reused}
use Rattle.clipping.specs.RingWalk.{Steps, ring_of, empty_at, RingRoom}
use Rattle.clipping.specs.declared.edges.Env.{Env}
use Rattle.clipping.specs.declared.RingStepped.{RingStepped}
use Rattle.clipping.specs.laws.EdgeCases.{step_stay}
use Rattle.clipping.specs.laws.RingWalk.{length_ring, get_d_ring, cell_inside}
use Rattle.clipping.specs.laws.ReversedRing.{length_turned, turned_back}
use Rattle.clipping.specs.interior.Interior.{AllInside, inside_cell}

-- the entries of a walk from p along qs, and where it ends
abbrev pub plains : ℕ → List ℕ → List Entry
plains p [] = []
plains p (q ∷ qs) = entry plain p ∷ plains q qs

abbrev pub ends_at : ℕ → List ℕ → ℕ
ends_at p [] = p
ends_at p (q ∷ qs) = ends_at q qs

plains_off : (p : ℕ) (qs : List ℕ) → unmarked (plains p qs) ≡ take (length qs) (p ∷ qs)
plains_off p [] = refl
plains_off p (q ∷ qs) = ap (λ (l : List ℕ). p ∷ l) (plains_off q qs)

plains_length : (p : ℕ) (qs : List ℕ) → length (plains p qs) ≡ length qs
plains_length p [] = refl
plains_length p (q ∷ qs) = ap suc (plains_length q qs)

module _ (b : BoundingBox) (nc site : ℕ) (vs : List Point) (os : List ℕ) where
  stay_one : (l p q : ℕ) → in_box b nc vs q ≡ true → step_to b nc site (tip vs os l p true false) q ≡ ok (part (tip vs os p q true false) (entry plain p ∷ []) [])
  unfolding step_to and_then at_edge
  stay_one l p q h = rw (h, step_stay b nc site p true q true vs os false l refl refl)

  stay_all : (qs : List ℕ) (l p : ℕ) → ((j : ℕ) → j < length qs → in_box b nc vs (get_or qs j 0) ≡ true)
      → steps_to b nc site qs (tip vs os l p true false) ≡ ok (part (tip vs os (last_or l (plains p qs)) (ends_at p qs) true false) (plains p qs) [])
  unfolding steps_to and_then
  stay_all [] l p h = refl
  stay_all (q ∷ qs) l p h = rw (stay_one l p q (h 0 (omega arith)), stay_all qs p q (λ j k. h (suc j) (omega arith)))

-- ---- the whole ring

module _ (env : Env) (count : ℕ) (owners : List ℕ) (base ring len : ℕ) (v : List Float) (ix : List ℕ)
    (m : RingRoom env count (empty_at owners base) ring len len v ix) (some : 0 < len) (inside : AllInside env.bounds env.centers (points count v) ix ring len) where
  abbrev around : List ℕ
  around = ring_of ix ring len

  abbrev first : ℕ
  first = get_or around 0 0

  abbrev entries : List Entry
  entries = plains first (turned 0 around)

  size : length around ≡ len
  size = length_ring ix ring len (omega (arith, m.ends, m.list))

  turned_size : length (turned 0 around) ≡ len
  turned_size = length_turned 0 around (omega arith) ∙ size

  around_inside : (j : ℕ) → j < length around → in_box env.bounds env.centers (points count v) (get_or around j 0) ≡ true
  around_inside j h = let l : j < len = rw size at h in ap (in_box env.bounds env.centers (points count v)) (get_d_ring ix ring len j l) ∙ inside j l

  turned_inside : (j : ℕ) → j < length (turned 0 around) → in_box env.bounds env.centers (points count v) (get_or (turned 0 around) j 0) ≡ true
  turned_inside j h =
      ap (in_box env.bounds env.centers (points count v)) (turned_back 0 around (omega arith) j (omega arith) (omega (arith, turned_size, size)))
      ∙ around_inside (length around - 1 - (j - 0)) (omega (arith, turned_size, size))

  -- the first vertex is the first inside
  first_place : first_inside env.bounds env.centers (points count v) around ≡ 0
  unfolding first_inside
  first_place = go around size around_inside
    where
      go : (l : List ℕ) → length l ≡ len → ((j : ℕ) → j < length l → in_box env.bounds env.centers (points count v) (get_or l j 0) ≡ true)
          → first_inside env.bounds env.centers (points count v) l ≡ 0
      go [] q h = refl
      go (x ∷ l) q h = rw (h 0 (omega arith))

  outcome : clip_cell env.bounds env.centers env.site around (points count v) owners ≡ ok
      (part (tip (points count v) owners (last_or EMPTY entries) (ends_at first (turned 0 around)) true false) entries [])
  outcome =
      cell_inside env.bounds env.centers env.site around (points count v) owners 0 (sym first_place) (omega (arith, size))
      ∙ stay_all env.bounds env.centers env.site (points count v) owners (turned 0 around) EMPTY first turned_inside

  written_off : unmarked entries ≡ inside_cell around
  written_off = plains_off first (turned 0 around) ∙ rw (length_turned 0 around (omega arith))

  off_size : length (unmarked entries) ≡ len
  off_size = length-map entries (λ (e : Entry). e.at) ∙ plains_length first (turned 0 around) ∙ turned_size

  -- what the code answers
  abbrev pub copied_answer : RingStepped
  copied_answer = record {
    fault = fault 0 0 0 0;
    tip = record {
      cell = record { owners = owners; end = base + len; last = last_or EMPTY entries };
      count = count;
      vertex = ends_at first (turned 0 around);
      inside = true;
      opened = false;
    };
    reused = reused 0 0 0;
  }

  module _ (ix₁ : List ℕ) (q : ix₁ ≡ sets ix base (inside_cell around)) where
    fits : base + length (unmarked entries) ≤ env.limit
    fits = omega (arith, off_size, m.fits.room, m.ends)

    copied : ix₁ ≡ sets ix base (unmarked entries)
    copied = rw written_off q

    -- before the store's part, and there
    body : take env.limit ix₁ ≡ sets (take env.limit ix) base (unmarked entries)
    body = ap (take env.limit) copied ∙ take_sets env.limit (unmarked entries) ix base

    tail : drop env.limit ix₁ ≡ drop env.limit ix
    tail = ap (drop env.limit) copied ∙ drop_sets env.limit (unmarked entries) ix base fits

    pub stays : Steps env len (clip_cell env.bounds env.centers env.site around (points count v) owners) count (empty_at owners base) v ix copied_answer v ix₁
    stays = rw outcome (
      refl,
      refl,
      record { low = omega arith; high = omega arith; kept = refl },
      record {
        verts = poured_none count v m.holds.room;
        holds = rw tail m.holds;
        puts = record {
          slice = body;
          owners = refl;
          place = omega (arith, plains_length first (turned 0 around), turned_size);
          last = refl;
          four = m.fits.four;
          fit = omega arith;
        };
      },
      record { is = refl; few = omega arith },
    )
