-- Theorem: after 0 the first image begins at 0, and what stands between the start of a cell and the next start is the cell's image; the call for one cell, on the same vertices and cells and
-- with room for it, answers 0 and writes the same bytes.
use Rattle.std.specs.Prelude.{◌≡◌, refl, List, ◌++◌, ℕ, suc, ◌-◌, ◌≤◌, ◌<◌, Float, length, get_or, take, drop, replicate}
use Rattle.std.proofs.Common.{sym, ap, ◌∙◌, arith, length-drop, rules}
use Rattle.std.specs.Float.{binary64}
use Rattle.std.specs.Float.Ieee.{to_bits}
use Rattle.std.proofs.lemmas.List.{length-map, take-append-le, drop-append-le}
use Rattle.std.proofs.Math.ListN.{get_or-append}
use Rattle.base.specs.common.Refusals.{Finds}
use Rattle.base.specs.common.laws.Refusals.{finds_one, finds_none, finds_keep}
use Rattle.base.specs.common.laws.Stores.{sets_all}
use Rattle.octets.specs.laws.Wrote.{wrote_all}
use Rattle.cell_memory.specs.layout.Regions.{joined, offsets_from}
use Rattle.queries.specs.all_neighbours.Lists.{lists_to}
use Rattle.queries.specs.all_neighbours.laws.Lists.{end_of_lists, end_next, end_mono, cuts_length, cut_at, part_at}
use Rattle.areas.specs.laws.Entries.{cell_named}
use Rattle.wkb.specs.Polygon.{patterns}
use Rattle.wkb.specs.Promise.{wkb_rules, FloatAnswer}
use Rattle.all_wkb.specs.Promise.{image_at, images_of, no_start, starts_after, images_after, AllWkbAnswer}
use Rattle.all_wkb.specs.Steps.{ImagesFit}
use Rattle.all_wkb.specs.laws.Sizes.{image_fits}
use Rattle.all_wkb.specs.laws.Answers.{admitted}

module _ {v : List Float} {off ix st st' o o' : List ℕ} {w : ℕ} (a : AllWkbAnswer v off ix st st' o o' w 0) where
  pub all_given : ImagesFit v off ix (length st) (length o)
  all_given = admitted a.number refl

  abbrev n : ℕ
  n = length off - 1

  starts_are : st' ≡ offsets_from 0 (images_of v off ix) ++ replicate (length st - length (offsets_from 0 (images_of v off ix))) no_start
  unfolding starts_after
  starts_are = a.starts

  out_is : o' ≡ joined (images_of v off ix) ++ drop (length (joined (images_of v off ix))) o
  unfolding images_after
  out_is = a.output.list ∙ sets_all (joined (images_of v off ix)) o all_given.room

  -- where an image begins, and where the last one ends
  pub start_at : (s : ℕ) → s ≤ length off - 1 → get_or st' s 0 ≡ length (joined (lists_to (image_at v off ix) s))
  start_at s h =
      let cuts = offsets_from 0 (images_of v off ix) in
      ap (λ (l : List ℕ). get_or l s 0) starts_are
      ∙ get_or-append cuts (replicate (length st - length cuts) no_start) 0 s (omega (arith, cuts_length (image_at v off ix) n))
      ∙ cut_at (image_at v off ix) n s h

  pub image_is : (s : ℕ) → s < length off - 1 → take (get_or st' (suc s) 0 - get_or st' s 0) (drop (get_or st' s 0) o') ≡ image_at v off ix s
  image_is s h =
      let f = image_at v off ix in
      let all = joined (lists_to f n) in
      let rest = drop (length all) o in
      let from = end_of_lists f s in
      let at : get_or st' s 0 ≡ from = start_at s (omega arith) in
      let next : get_or st' (suc s) 0 ≡ end_of_lists f (suc s) = start_at (suc s) h in
      let long : get_or st' (suc s) 0 - get_or st' s 0 ≡ length (f s) = omega (arith, at, next, end_next f s) in
      let low : from ≤ length all = end_mono f s n (omega arith) in
      let fits : length (f s) ≤ length (drop from all) = omega (arith, length-drop from all, end_next f s, end_mono f (suc s) n h) in
      rw (long, at) (ap (λ (l : List ℕ). take (length (f s)) (drop from l)) out_is
      ∙ ap (take (length (f s))) (drop-append-le from all rest low)
      ∙ take-append-le (length (f s)) (drop from all) rest fits
      ∙ part_at f n s h)

  -- the call for one cell refuses nothing where it has room
  single_number : (s room : ℕ) → s < length off - 1 → length (image_at v off ix s) ≤ room → Finds (wkb_rules (patterns v) off ix s room) 0 0
  single_number s room h g =
      let k = finds_keep (λ r. r ≡ 0) (search rules) refl a.number.found in
      let long : length (patterns v) ≡ length v = length-map v (to_bits binary64) in
      let named = cell_named off ix k.1.1.0.cut s (omega arith) k.1.1.1.0 in
      finds_none (rw long k.0, (h, (k.1.1.0, (rw long named, (image_fits v off ix s room k.1.0 g, tt)))))

  -- and writes these bytes
  pub image_single : (s : ℕ) → s < length off - 1 → {x x' : List ℕ} {k r : ℕ} → length (image_at v off ix s) ≤ length x → FloatAnswer v off ix s x x' k r
      → (r ≡ 0) × (take k x' ≡ take (get_or st' (suc s) 0 - get_or st' s 0) (drop (get_or st' s 0) o'))
  image_single s h {x} {r = r} fits b =
      let z : r ≡ 0 = finds_one b.number (single_number s (length x) h fits) in
      (z, wrote_all (rw z at b).output fits ∙ sym (image_is s h))
