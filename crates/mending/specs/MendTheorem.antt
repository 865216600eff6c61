-- Theorem: a mended mesh is accepted by rules 1, 6 and 7 to 10. An accepted mesh comes through with an empty list if each ordered pair of sites has at
-- most one half-edge; then every half-edge whose reverse is in the mesh is paired. What was mended is mended again with an empty list.
use Rattle.std.specs.Prelude.{◌≡◌, refl, List, [], ◌≢◌, ℕ, ◌≤◌, ◌<◌, length, get_or}
use Rattle.std.proofs.Common.{sym, ap, ◌∙◌, ⊎_elim, arith, ext_get_or, rules as by_rules}
use Rattle.base.specs.common.Refusals.{Keep}
use Rattle.base.specs.common.laws.Refusals.{finds_one, finds_none, finds_keep}
use Rattle.base.specs.numbers.Numbers.{EMPTY}
use Rattle.mesh.specs.Mesh.{next_of, pair_of, end_of}
use Rattle.mesh.specs.Hull.{next_place}
use Rattle.mesh.specs.Accepted.{Mesh, Accepted, site_count}
use Rattle.mesh.specs.laws.Next.{next_lt}
use Rattle.mesh.specs.laws.Facts.{few_entries, sound_site}
use Rattle.mesh.specs.laws.Border.{after_cases, after_lt, hull_border}
use Rattle.mending.specs.pairs.Pairs.{Reverse, pairs_of, AllSingle}
use Rattle.mending.specs.pairs.Chains.{NamesSites}
use Rattle.mending.specs.pairs.laws.Mates.{mate_is, mate_none, single_one, pairs_length, pairs_at}
use Rattle.mending.specs.pairs.PairTheorem.{pairs_right}
use Rattle.mending.specs.border.Loop.{hull_of}
use Rattle.mending.specs.border.Answer.{IsHull, HasHull}
use Rattle.mending.specs.border.HullTheorem.{Starts, hull_alone, there_is}
use Rattle.mending.specs.border.laws.Round.{hull_one}
use Rattle.mending.specs.changes.Changes.{changes_of}
use Rattle.mending.specs.changes.laws.Listing.{no_changes}
use Rattle.mending.specs.slices.Lent.{Lent}
use Rattle.mending.specs.Mending.{mended_mesh, mend_room_of, mend_rules, new_hull, pair_changes, hull_changes, Mends}
use Rattle.mending.specs.laws.Outcomes.{made}
use Rattle.mending.specs.laws.Working.{hull_fits}

-- every half-edge whose reverse is in the mesh is paired
abbrev pub ReversePaired : List ℕ → List ℕ → Type 0
ReversePaired tri he = (e d : ℕ) → e < length tri → d < length tri → Reverse tri e d → pair_of he e ≢ EMPTY

-- nothing is refused, and no entry has changed
abbrev pub Unchanged : ℕ → ℕ → ℕ → Type 0
Unchanged r p q = (r ≡ 0) × (p ≡ 0) × (q ≡ 0)

-- ---- a mended mesh
module _ (m : Mesh) (old : Lent) where
  abbrev n : ℕ
  n = site_count m.sites

  abbrev rules : Type 0
  rules = Keep (mend_rules m (mend_room_of m.sites m.triangles old))

  module _ {new : Lent} {k p q : ℕ} (x : Mends m old new 0 k p q) where
    keep : rules
    keep = finds_keep (λ r. r ≡ 0) (search by_rules) refl x.number

    pub mended_single : AllSingle m.triangles
    mended_single = keep.1.1.1.1.0

    named : NamesSites m.triangles n
    named =
        let c = keep.0 in
        record { threes = c.threes; small = few_entries c; named = sound_site m.triangles n c.threes keep.1.1.1.0 }

    is_hull : IsHull m.triangles (pairs_of m.triangles) n (new_hull m.triangles m.hull n)
    is_hull = there_is m.triangles (pairs_of m.triangles) n named (pairs_length m.triangles (length m.triangles)) (omega (arith, keep.0.few_sites))
        (get_or m.hull 0 0) keep.1.1.1.1.1.0

    pub mended_accepted : Accepted (mended_mesh m)
    mended_accepted =
        let c = keep.0 in
        let long = pairs_length m.triangles (length m.triangles) in
        record {
          counts = record {
            even = c.even;
            three_sites = c.three_sites;
            few_sites = c.few_sites;
            threes = c.threes;
            one_triangle = c.one_triangle;
            few_triangles = c.few_triangles;
            same = long;
            three_on_hull = is_hull.three;
            hull_of_sites = hull_fits m.triangles (pairs_of m.triangles) (get_or m.hull 0 0) n;
          };
          coordinates = keep.1.1.0;
          topology = record {
            threes = c.threes;
            same = long;
            small = few_entries c;
            sound = keep.1.1.1.0;
            pairs = pairs_right m.triangles mended_single;
            border = is_hull.hull;
            fan = λ e l. keep.1.1.1.1.1.1.0 (end_of m.triangles e) (named.named (next_of e) (next_lt c.threes (rw long at l))) e l refl;
          };
        }

-- ---- an accepted mesh
module _ (m : Mesh) (a : Accepted m) (all : AllSingle m.triangles) where
  abbrev count : ℕ
  count = site_count m.sites

  -- on an accepted mesh the second condition follows from the first
  pub single_paired : ReversePaired m.triangles m.halfedges
  single_paired e d le ld r u =
      let t = a.topology in
      let same : length m.halfedges ≡ length m.triangles = t.same in
      ⊎_elim
      (λ v.
      let i = (hull_border m.triangles m.halfedges m.hull count t.border e (omega arith) u).0 in
      let j = (hull_border m.triangles m.halfedges m.hull count t.border d (omega arith) v).0 in
      let x = hull_one m.triangles m.halfedges m.hull count t.border j.0 (next_place (length m.hull) i.0) j.1 (after_lt (length m.hull)
      i.0 i.1) (sym j.2 ∙ r.0 ∙ i.3) in
      let y = hull_one m.triangles m.halfedges m.hull count t.border (next_place (length m.hull) j.0) i.0 (after_lt (length m.hull) j.0
      j.1) i.1 (sym j.3 ∙ r.1 ∙ i.2) in
      round (length m.hull) i.0 j.0 a.counts.three_on_hull i.1 j.1 x y)
      (λ v.
      let z = single_one m.triangles all (pair_of m.halfedges d) e (omega (arith, v.inside)) le (v.from ∙ r.1) (v.to ∙ r.0) in
      let b : pair_of m.halfedges e ≡ d = ap (pair_of m.halfedges) (sym z) ∙ v.back in
      omega (arith, t.small))
      (t.pairs d ld)
    where
      -- two steps round a hull of three do not come back
      round : (h i j : ℕ) → 3 ≤ h → i < h → j < h → j ≡ next_place h i → next_place h j ≡ i → ⊥
      round h i j l li lj x y =
          ⊎_elim
          (λ v. ⊎_elim (λ w. omega arith) (λ w. omega arith) (after_cases h j))
          (λ v. ⊎_elim (λ w. omega arith) (λ w. omega arith) (after_cases h j))
          (after_cases h i)

  module _ (paired : ReversePaired m.triangles m.halfedges) where
    -- the pairs come out as they are
    pub same_pairs : pairs_of m.triangles ≡ m.halfedges
    same_pairs =
        let t = a.topology in
        let long = pairs_length m.triangles (length m.triangles) in
        ext_get_or 0 (pairs_of m.triangles) m.halfedges (long ∙ sym t.same)
        (λ e l.
        let k : e < length m.triangles = rw long at l in
        pairs_at m.triangles (length m.triangles) e k ∙ ⊎_elim
        (λ u. mate_none m.triangles e (λ d h r. paired e d k h r u) ∙ sym u)
        (λ v. mate_is m.triangles e (pair_of m.halfedges e) (omega (arith, v.inside, t.same)) (v.from, v.to)
        (λ d h r. single_one m.triangles all d (pair_of m.halfedges e) h (omega (arith, v.inside, t.same)) (r.0 ∙ sym v.from) (r.1 ∙ sym v.to)))
        (t.pairs e k))

    is : IsHull m.triangles m.halfedges count m.hull
    is = record { three = a.counts.three_on_hull; hull = a.topology.border }

    sites_named : NamesSites m.triangles count
    sites_named =
        let t = a.topology in
        record { threes = t.threes; small = t.small; named = sound_site m.triangles count t.threes t.sound }

    begins_there : Starts m.triangles m.halfedges (get_or m.hull 0 0)
    begins_there =
        let o = a.topology.border.edges 0 (omega (arith, a.counts.three_on_hull)) in
        (o.0, omega (arith, o.1, a.topology.same), o.2, o.3)

    -- and so does the hull
    pub same_hull : new_hull m.triangles m.hull count ≡ m.hull
    same_hull =
        ap (λ p. hull_of m.triangles p (get_or m.hull 0 0) count) same_pairs
        ∙ sym (hull_alone m.triangles m.halfedges count sites_named a.topology.same (omega (arith, a.counts.few_sites)) (get_or m.hull 0 0) m.hull is
        (record { kept = λ _. refl; lowest = λ no. absurd (no begins_there) }))

    module _ (old : Lent) (room : mend_room_of m.sites m.triangles old) where
      all_keep : Keep (mend_rules m (mend_room_of m.sites m.triangles old))
      all_keep =
          let t = a.topology in
          let has : HasHull m.triangles (pairs_of m.triangles) count = (m.hull, rw same_pairs is) in
          (a.counts, (room, (a.coordinates, (t.sound, (all, (has, (rw same_pairs (λ s _ e l q. rw (← q) (t.fan e l)), tt)))))))

      -- it comes through with an empty list
      pub accepted_through : {new : Lent} {r k p q : ℕ} → Mends m old new r k p q → Unchanged r p q
      accepted_through {r = r} x =
          let z : r ≡ 0 = finds_one x.number (finds_none all_keep) in
          let e : pair_changes m.triangles m.halfedges ≡ [] = ap (changes_of m.halfedges) same_pairs ∙ no_changes m.halfedges in
          let f : hull_changes m.triangles m.hull count ≡ [] = ap (changes_of m.hull) same_hull ∙ no_changes m.hull in (
            z,
            x.outcome.pair_changes_lem ∙ made r (length (pair_changes m.triangles m.halfedges)) z ∙ ap length e,
            x.outcome.hull_changes_lem ∙ made r (length (hull_changes m.triangles m.hull count)) z ∙ ap length f,
          )

-- ---- what was mended is mended again with an empty list
pub mended_again : (m : Mesh) (old old' : Lent) {new new' : Lent} {k p q r k' p' q' : ℕ} → Mends m old new 0 k p q
    → mend_room_of m.sites m.triangles old' → Mends (mended_mesh m) old' new' r k' p' q' → Unchanged r p' q'
mended_again m old old' first room x =
    let a = mended_accepted m old first in
    let s = mended_single m old first in
    accepted_through (mended_mesh m) a s (single_paired (mended_mesh m) a s) old' room x
