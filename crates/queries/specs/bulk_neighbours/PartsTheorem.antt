-- Theorem: after 0 the mesh is accepted and cells that are lent are sound; the first list begins at 0, and what stands between the start of a site and the next start is the site's list.
use Rattle.std.specs.Prelude.{◌≡◌, refl, false, true, List, [], ◌++◌, ℕ, suc, ◌-◌, ◌≤◌, ◌<◌, length, get_or, take, drop, replicate}
use Rattle.std.proofs.Common.{ap, ◌∙◌, ⊎_elim, arith, length-drop, rules}
use Rattle.std.proofs.Math.ListN.{get_or-append}
use Rattle.std.proofs.lemmas.List.{take-append-le, drop-append-le}
use Rattle.base.specs.common.Refusals.{Keep}
use Rattle.base.specs.common.laws.Refusals.{finds_split, finds_keep}
use Rattle.base.specs.numbers.Numbers.{EMPTY}
use Rattle.mesh.specs.Rules.{call_rules}
use Rattle.mesh.specs.Accepted.{Mesh, Accepted, table_of, site_count}
use Rattle.mesh.specs.laws.Verdicts.{keep_accepted}
use Rattle.mesh_check.specs.whole.AtExit.{at_exit}
use Rattle.walks.specs.neighbours.Neighbours.{neighbours_of}
use Rattle.queries.specs.clipped.Clipped.{clipped_neighbours_of}
use Rattle.cell_memory.specs.layout.Regions.{joined, offsets_from}
use Rattle.admission.specs.laws.Admits.{call_answers}
use Rattle.queries.specs.all_neighbours.Lists.{nothing_lent, list_from, list_of, lists_to}
use Rattle.queries.specs.all_neighbours.laws.Lists.{end_of_lists, end_next, end_mono, cuts_length, cut_at, part_at}
use Rattle.queries.specs.bulk_neighbours.Promise.{RoomFor, CellsLent, lent_rules, made_after, AllNeighboursAnswer}

-- the part of the output that the starts cut out for site s
abbrev pub part_of : List ℕ → List ℕ → ℕ → List ℕ
part_of st o s = take (get_or st (suc s) 0 - get_or st s 0) (drop (get_or st s 0) o)

-- ---- the list of a site is the definition's
module _ (tri he table off ix : List ℕ) (s : ℕ) where
  pub plain_is : nothing_lent (length off) (length ix) ≡ true → list_of tri he table off ix s ≡ neighbours_of tri he table s
  unfolding list_from neighbours_of
  plain_is q = rw q

  pub clipped_is : nothing_lent (length off) (length ix) ≡ false → list_of tri he table off ix s ≡ clipped_neighbours_of tri he table off ix s
  unfolding list_from clipped_neighbours_of
  clipped_is q = rw q

module _ {m : Mesh} {off ix w w' st st' o o' : List ℕ} (a : AllNeighboursAnswer m off ix w w' st st' o o' 0) where
  abbrev n : ℕ
  n = site_count m.sites

  abbrev list : ℕ → List ℕ
  list = list_of m.triangles m.halfedges (table_of m) off ix

  pub all_given : Accepted m × CellsLent off ix (site_count m.sites)
  all_given =
      let room = RoomFor m (length w) (length st) (length o) in
      ⊎_elim
      (λ p. absurd (p.1 refl))
      (λ p. let k : Keep (lent_rules off ix (site_count m.sites)) = finds_keep (λ r. r ≡ 0) (search rules) refl p.1 in (keep_accepted m room p.0, k.0))
      (finds_split (call_rules m room []) (lent_rules off ix (site_count m.sites)) (call_answers m room [] tt) a.number)

  starts_are : st' ≡ offsets_from 0 (lists_to list n) ++ replicate (length st - length (offsets_from 0 (lists_to list n))) EMPTY
  unfolding made_after at_exit
  starts_are = a.starts

  out_is : o' ≡ joined (lists_to list n) ++ replicate (length o - length (joined (lists_to list n))) EMPTY
  unfolding made_after at_exit
  out_is = a.out

  -- where a list begins, and where the last one ends
  pub start_at : (s : ℕ) → s ≤ site_count m.sites → get_or st' s 0 ≡ length (joined (lists_to (list_of m.triangles m.halfedges (table_of m) off ix) s))
  start_at s h =
      let cuts = offsets_from 0 (lists_to list n) in
      ap (λ (l : List ℕ). get_or l s 0) starts_are
      ∙ get_or-append cuts (replicate (length st - length cuts) EMPTY) 0 s (omega (arith, cuts_length list n))
      ∙ cut_at list n s h

  pub part_is : (s : ℕ) → s < site_count m.sites → part_of st' o' s ≡ list_of m.triangles m.halfedges (table_of m) off ix s
  part_is s h =
      let all = joined (lists_to list n) in
      let pad = replicate (length o - length all) EMPTY in
      let from = end_of_lists list s in
      let at : get_or st' s 0 ≡ from = start_at s (omega arith) in
      let next : get_or st' (suc s) 0 ≡ end_of_lists list (suc s) = start_at (suc s) h in
      let long : get_or st' (suc s) 0 - get_or st' s 0 ≡ length (list s) = omega (arith, at, next, end_next list s) in
      let low : from ≤ length all = end_mono list s n (omega arith) in
      let fits : length (list s) ≤ length (drop from all) = omega (arith, length-drop from all, end_next list s, end_mono list (suc s) n h) in
      rw (long, at) (ap (λ (l : List ℕ). take (length (list s)) (drop from l)) out_is
      ∙ ap (take (length (list s))) (drop-append-le from all pad low)
      ∙ take-append-le (length (list s)) (drop from all) pad fits
      ∙ part_at list n s h)
