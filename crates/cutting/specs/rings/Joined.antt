-- Theorem: on every accepted mesh the edges of all rings are pairs and those of one border at infinity: what `NamedRings` of cutting::cuts asks of them (`all_named`, `rest_named`, `parted`,
-- `opposed`, `bordered`; `pairs_paired` and `twice_opposite` are above).
use Rattle.std.specs.Prelude.{◌≡◌, refl, List, [], ◌∷◌, map, ℕ, zero, suc, ◌+◌, ◌<◌, length}
use Rattle.std.proofs.Common.{sym, ◌∙◌, ⊎_elim, arith}
use mathlib.Core.Bool.{Bool, true, false}
use Rattle.base.specs.common.Count.{same, occ}
use Rattle.base.specs.common.laws.Count.{same_cases}
use Rattle.base.specs.common.laws.Decide.{lt_or_ge}
use Rattle.base.specs.numbers.Numbers.{EMPTY}
use Rattle.mesh.specs.Mesh.{start_of, pair_of}
use Rattle.mesh.specs.Accepted.{Topology}
use Rattle.mesh.specs.laws.Facts.{paired, start_site, tab_cases}
use Rattle.mesh.specs.laws.WalkSteps.{walk_done}
use Rattle.cutting.specs.cuts.Rings.{At, RingEdge, ring_edges, edges_of_all}
use Rattle.cutting.specs.cuts.Pairs.{often}
use Rattle.cutting.specs.cuts.Turns.{AllOn}
use Rattle.cutting.specs.cuts.Whole.{Reversed}
use Rattle.cutting.specs.cuts.Named.{EdgeName, out, ray, far, same_name, by_name, named_ring, ClosedEdges, AllClosed}
use Rattle.cutting.specs.cuts.laws.Naming.{named_ring_lem, named_rings}
use Rattle.cutting.specs.rings.Names.{on_hull, edge_of}
use Rattle.cutting.specs.rings.Rings.{starts_at, site_closed}
use Rattle.cutting.specs.rings.Opposed.{opposite_name, out_reversed, ray_reversed}
use Rattle.cutting.specs.rings.Counts.{site_names, all_names, far_once, unpaired}
use Rattle.cutting.specs.rings.Border.{arrives, border_names, border_closed}
use Rattle.cutting.specs.rings.BorderCounts.{border_once}
use Rattle.cutting.specs.rings.Parted.{near_kept, near_far, pairs}
use Rattle.cutting.specs.rings.Absent.{everywhere, out_absent, ray_none_in, far_none_in, border_absent}

module _ {tri he hull : List ℕ} {sites : ℕ} (ok : Topology tri he hull sites) (order : List ℕ) (once : (s : ℕ) → s < sites → occ s order ≡ 1)
    (below : (s : ℕ) → 0 < occ s order → s < sites)
  where
    border_no_near : (n : EdgeName) → ((o : ℕ) → same_name n (far o) ≡ false) → (k : ℕ) → often by_name n (border_names ok k) ≡ 0
    border_no_near n apart zero = refl
    border_no_near n apart (suc k) = rw (apart (arrives ok k)) (omega (arith, border_no_near n apart k))

    -- an edge at infinity is in the rings as often as in the border
    far_same : (o : ℕ) → often by_name (far o) (all_names ok order) ≡ often by_name (far o) (border_names ok (length hull))
    far_same o = ⊎_elim (λ l. go (on_hull he o) refl l) (λ l. none (λ i _. omega arith)) (lt_or_ge o (length he))
      where
        none : (o < length he → on_hull he o ≡ true → ⊥) → often by_name (far o) (all_names ok order) ≡ often by_name (far o) (border_names ok (length hull))
        none n = everywhere ok (far o) (far_none_in ok o n) order below ∙ sym (border_absent ok o n (length hull) (omega arith))

        go : (b : Bool) → on_hull he o ≡ b → o < length he → often by_name (far o) (all_names ok order) ≡ often by_name (far o) (border_names ok (length hull))
        go true h l = far_once ok o l h order below ∙ once (start_of tri o) (start_site ok o l) ∙ sym (border_once ok o l (unpaired ok o l h))
        go false h l = none (λ _ k. mathlib.Core.Bool.false≢true (sym h ∙ k))

    pub parted : (n : EdgeName) → often by_name n (all_names ok order) ≡ often by_name n (pairs ok order once below) + often by_name n (border_names ok (length hull))
    parted (out o) = omega (arith, near_kept (out o) (λ _. refl) (all_names ok order), border_no_near (out o) (λ _. refl) (length hull))
    parted (ray o) = omega (arith, near_kept (ray o) (λ _. refl) (all_names ok order), border_no_near (ray o) (λ _. refl) (length hull))
    parted (far o) = omega (arith, near_far o (all_names ok order), far_same o)

    module _ {C K : Type 0} (center end : ℕ → C) (on : ℕ → K) (line : K) where
      abbrev pub edges : EdgeName → RingEdge C K
      edges = edge_of tri he (starts_at ok) center end on line

      -- the rings of the sites in their order, and the border
      abbrev pub rings : List (List (At C K))
      rings = map (named_ring edges) (map (site_names ok) order)

      abbrev pub border : List (At C K)
      border = named_ring edges (border_names ok (length hull))

      pub one_closed : (s : ℕ) → s < sites → ClosedEdges edges (site_names ok s)
      one_closed s l = ⊎_elim
          (λ (q : starts_at ok s ≡ EMPTY). rw (walk_done he (starts_at ok s) (length he) (starts_at ok s) (omega (arith, (paired ok).small, q))) tt)
          (λ w. site_closed ok center end on line s l w.0 w.1)
          (tab_cases ok s l)

      all_closed : (order : List ℕ) → ((s : ℕ) → 0 < occ s order → s < sites) → AllClosed edges (map (site_names ok) order)
      all_closed [] b = tt
      all_closed (s ∷ r) b = (one_closed s (b s here), all_closed r (λ z p. b z (omega arith)))
        where
          here : 0 < same s s + occ s r
          here = ⊎_elim (λ v. omega (arith, v.1)) (λ v. absurd (v.0 refl)) (same_cases s s)

      pub all_named : map edges (all_names ok order) ≡ edges_of_all rings
      all_named = named_rings edges (map (site_names ok) order) (all_closed order below)

      pub rest_named : map edges (border_names ok (length hull)) ≡ ring_edges border
      rest_named = named_ring_lem edges (border_names ok (length hull)) (border_closed ok center end on line)

      pub bordered : (k : ℕ) → AllOn line (λ _. Unit {0}) (named_ring edges (border_names ok k))
      bordered zero = tt
      bordered (suc k) = (tt, refl, bordered k)

      pub opposed : ((o : ℕ) → o < length he → on_hull he o ≡ false → on (pair_of he o) ≡ on o)
          → (n : EdgeName) → 0 < often by_name n (pairs ok order once below) → Reversed (edges n) (edges (opposite_name he n))
      opposed same (out o) p = ⊎_elim
          (λ l. out_reversed tri he (paired ok) (starts_at ok) center end on line same o l)
          (λ l. absurd (omega (arith, near_kept (out o) (λ _. refl) (all_names ok order), out_absent ok o l order below)))
          (lt_or_ge o (length he))
      opposed same (ray o) p = ⊎_elim (λ l. go (on_hull he o) refl l) (λ l. absurd (none (λ i _. omega arith))) (lt_or_ge o (length he))
        where
          none : (o < length he → on_hull he o ≡ true → ⊥) → ⊥
          none n = omega (arith, near_kept (ray o) (λ _. refl) (all_names ok order), everywhere ok (ray o) (ray_none_in ok o n) order below)

          go : (b : Bool) → on_hull he o ≡ b → o < length he → Reversed (edges (ray o)) (edges (opposite_name he (ray o)))
          go true h l = ray_reversed tri he (paired ok) (starts_at ok) center end on line same o l h
          go false h l = absurd (none (λ _ k. mathlib.Core.Bool.false≢true (sym h ∙ k)))
      opposed same (far o) p = absurd (omega (arith, near_far o (all_names ok order)))
