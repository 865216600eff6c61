-- Theorem: what a flip that answers 0 leaves. Rules 7 to 10 accept it, the table begins with the one worked out afresh, and what does not belong to the two
-- triangles, their outer pairs or their four sites is unchanged; a mesh that was accepted with its sites is accepted with them again. A flip at the pair
-- is the same flip.
use Rattle.std.specs.Prelude.{◌≡◌, refl, List, ◌++◌, ◌≢◌, ℕ, length, drop}
use Rattle.std.proofs.Common.{sym, ap, ◌∙◌, rules as by_rules, ne_eqb}
use Rattle.base.specs.common.Refusals.{Keep}
use Rattle.base.specs.common.laws.Refusals.{finds_keep, finds_none}
use Rattle.base.specs.numbers.Numbers.{EMPTY}
use Rattle.mesh.specs.Mesh.{pair_of, leftmost_of, leftmost_in}
use Rattle.mesh.specs.Accepted.{Mesh, mesh, site_count, Topology, Accepted}
use Rattle.mesh.specs.laws.Facts.{few_entries}
use Rattle.mesh.specs.laws.Verdicts.{keep_topology}
use Rattle.mesh_check.specs.whole.AtExit.{at_exit}
use Rattle.mesh_check.specs.whole.laws.AtExit.{exit_made}
use Rattle.flipping.specs.Flip.{Flippable}
use Rattle.flipping.specs.FlipTheorem.{Untouched, topology_again, untouched, accepted_again, flippable_pair, triangles_pair, pairs_pair}
use Rattle.flipping.specs.call.Flips.{FlipLists, flip_rules, when_flipped, new_triangles, new_pairs, new_table, Flips}

whole : (made was : List ℕ) → when_flipped made was 0 ≡ made
unfolding when_flipped
whole made was = refl

-- a refused flip changes nothing in triangles, half-edges and table
kept : (made was : List ℕ) (r : ℕ) → r ≢ 0 → when_flipped made was r ≡ was
unfolding when_flipped
kept made was r n = rw (ne_eqb r 0 n)

pub flip_refused : (sites : ℕ) (hull : List ℕ) (a : ℕ) (old new : FlipLists) (r : ℕ) → Flips sites hull a old new r → r ≢ 0
    → (new.triangles ≡ old.triangles) × (new.halfedges ≡ old.halfedges) × (new.table ≡ old.table)
flip_refused sites hull a old new r x n = (
  x.triangles ∙ kept (new_triangles old a) old.triangles r n,
  x.halfedges ∙ kept (new_pairs old a) old.halfedges r n,
  x.table ∙ kept (new_table sites a old ++ drop sites old.table) old.table r n,
)

-- the mesh that a flip leaves, with sites
abbrev pub mesh_in : FlipLists → Mesh → Mesh
mesh_in l m = mesh m.sites l.triangles l.halfedges m.hull

module _ (sites : ℕ) (hull : List ℕ) (a : ℕ) (old new : FlipLists) (x : Flips sites hull a old new 0) where
  rules : Keep (flip_rules sites hull a old)
  rules = finds_keep (λ r. r ≡ 0) (search by_rules) refl x.number

  pub was_accepted : Topology old.triangles old.halfedges hull sites
  was_accepted =
      let k = rules.1.1 in
      keep_topology old.triangles old.halfedges hull sites rules.0.threes rules.0.same (few_entries rules.0)
      (k.0, (k.1.0, (k.1.1.0, (k.1.1.1.0, (k.1.1.1.1.0, tt)))))

  pub was_flippable : Flippable old.triangles old.halfedges sites old.table a
  was_flippable = rules.1.1.1.1.1.1.1.0

  new_triangles_lem : new.triangles ≡ new_triangles old a
  new_triangles_lem = x.triangles ∙ whole (new_triangles old a) old.triangles

  new_pairs_lem : new.halfedges ≡ new_pairs old a
  new_pairs_lem = x.halfedges ∙ whole (new_pairs old a) old.halfedges

  -- rules 7 to 10 accept
  pub flipped_accepted : Topology new.triangles new.halfedges hull sites
  flipped_accepted = rw (new_triangles_lem, new_pairs_lem) (topology_again was_accepted old.table a was_flippable)

  -- the table is the one worked out afresh, and its tail is as it was; the work slice has it too
  pub flipped_table : new.table ≡ leftmost_of new.triangles new.halfedges sites ++ drop sites old.table
  flipped_table = rw (new_triangles_lem, new_pairs_lem) (x.table ∙ whole (new_table sites a old ++ drop sites old.table) old.table)

  pub flipped_work : new.work ≡ leftmost_in new.triangles new.halfedges sites (length old.work)
  flipped_work =
      rw (new_triangles_lem, new_pairs_lem) (x.work ∙ exit_made EMPTY (leftmost_in (new_triangles old a) (new_pairs old a) sites (length old.work)) old.work 0 refl)

  -- what stays
  pub flipped_rest : Untouched old.triangles old.halfedges sites a
  flipped_rest = untouched was_accepted old.table a was_flippable

  -- the same flip at the pair of a
  pub flip_pair : Flips sites hull (pair_of old.halfedges a) old new 0
  flip_pair =
      let b = pair_of old.halfedges a in
      let k = rules.1.1 in
      let t : new_triangles old b ≡ new_triangles old a = triangles_pair was_accepted old.table a was_flippable in
      let p : new_pairs old b ≡ new_pairs old a = pairs_pair was_accepted old.table a was_flippable in
      record {
        number = finds_none (rules.0, (rules.1.0, (k.0, (k.1.0, (k.1.1.0, (k.1.1.1.0, (k.1.1.1.1.0, (flippable_pair was_accepted old.table a was_flippable, tt))))))));
        triangles = x.triangles ∙ ap (λ l. when_flipped l old.triangles 0) (sym t);
        halfedges = x.halfedges ∙ ap (λ l. when_flipped l old.halfedges 0) (sym p);
        table = x.table ∙ ap (λ l. when_flipped (leftmost_of l (new_pairs old a) sites ++ drop sites old.table) old.table 0) (sym t)
            ∙ ap (λ l. when_flipped (leftmost_of (new_triangles old b) l sites ++ drop sites old.table) old.table 0) (sym p);
        work = x.work ∙ ap (λ l. at_exit EMPTY (leftmost_in l (new_pairs old a) sites (length old.work)) old.work 0) (sym t)
            ∙ ap (λ l. at_exit EMPTY (leftmost_in (new_triangles old b) l sites (length old.work)) old.work 0) (sym p);
      }

-- with the sites
pub flip_accepted : (m : Mesh) (a : ℕ) (old new : FlipLists) → Accepted (mesh_in old m) → Flips (site_count m.sites) m.hull a old new 0 → Accepted (mesh_in new m)
flip_accepted m a old new ok x =
    let n = site_count m.sites in
    rw (new_triangles_lem n m.hull a old new x, new_pairs_lem n m.hull a old new x) (accepted_again (mesh_in old m) old.table a ok (was_flippable n m.hull a old new x))
