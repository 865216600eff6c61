-- Theorem: a mesh with an edge flipped is accepted again, with its sites too; what does not belong to the two triangles, their outer pairs or their four
-- sites is unchanged; and flipping at the pair is the same.
use Rattle.std.specs.Prelude.{◌≡◌, List, ◌≢◌, ℕ, get_or, set}
use Rattle.std.proofs.Common.{sym, ap, ◌∙◌, inl, inr, ⊎_elim, arith}
use Rattle.mesh.specs.Mesh.{start_of, pair_of, leftmost_of}
use Rattle.mesh.specs.Accepted.{Mesh, mesh, site_count, Topology, Accepted}
use Rattle.mesh.specs.laws.Facts.{paired}
use Rattle.flipping.specs.Flip.{before_of, opposite_of, relinked, flipped_triangles, flipped_pairs, Flippable}
use Rattle.flipping.specs.Entries.{flip_corners, entries_of}
use Rattle.flipping.specs.laws.Quad.{Quad, flippable_quad}
use Rattle.flipping.specs.laws.Sites.{turned_length, turned_turn, start_kept, sound_again}
use Rattle.flipping.specs.laws.Pairs.{relinked_length, relinked_turn, pair_kept}
use Rattle.flipping.specs.laws.Rule8.{pairs_again}
use Rattle.flipping.specs.laws.Rule9.{hull_again}
use Rattle.flipping.specs.laws.Rule10.{fan_again}
use Rattle.flipping.specs.laws.NewTable.{table_again, at_none}

-- the mesh with half-edge a flipped; sites and hull stay
abbrev pub flipped_mesh : Mesh → ℕ → Mesh
flipped_mesh m a = mesh m.sites (flipped_triangles m.triangles m.halfedges a) (flipped_pairs m.halfedges a) m.hull

-- what stays: entries of other half-edges, and the table's at other sites
pub record Untouched (tri he : List ℕ) (sites a : ℕ) : Type 0 where
  pub starts : (k : ℕ) → k ≢ a → k ≢ pair_of he a → get_or (flipped_triangles tri he a) k 0 ≡ get_or tri k 0
  pub pairs : (k : ℕ) → k ≢ a → k ≢ pair_of he a → k ≢ before_of a → k ≢ before_of (pair_of he a) → k ≢ pair_of he (before_of (pair_of he a))
      → k ≢ pair_of he (before_of a) → get_or (flipped_pairs he a) k 0 ≡ get_or he k 0
  pub table : (s : ℕ) → s ≢ start_of tri a → s ≢ start_of tri (pair_of he a) → s ≢ opposite_of tri a → s ≢ opposite_of tri (pair_of he a)
      → get_or (leftmost_of (flipped_triangles tri he a) (flipped_pairs he a) sites) s 0 ≡ get_or (leftmost_of tri he sites) s 0

module _ {tri he hull : List ℕ} {sites : ℕ} (ok : Topology tri he hull sites) (table : List ℕ) (a : ℕ) (f : Flippable tri he sites table a) where
  abbrev b : ℕ
  b = pair_of he a

  q : Quad tri he a b (before_of a) (before_of b)
  q = flippable_quad ok table a f

  -- rules 7 to 10 accept
  pub topology_again : Topology (flipped_triangles tri he a) (flipped_pairs he a) hull sites
  topology_again =
      let lt = turned_length tri a b (before_of a) (before_of b) in
      let lh = relinked_length he a b (before_of a) (before_of b) in
      record {
        threes = rw lt ok.threes;
        same = lh ∙ ok.same ∙ sym lt;
        small = rw lt ok.small;
        sound = sound_again sites ok.same ok.threes ok.sound q;
        pairs = λ e h. pairs_again ok.same (paired ok) q e (omega (arith, ok.same));
        border = hull_again ok.same (paired ok) q hull sites ok.border;
        fan = fan_again ok q;
      }

  pub untouched : Untouched tri he sites a
  untouched = record {
    starts = λ k na nb. start_kept tri a b (before_of a) (before_of b) na nb;
    pairs = λ k na nb nr nl ol or. pair_kept he a b (before_of a) (before_of b) na nb nr nl ol or;
    table = λ s np nq nx ny.
        ap (λ t. get_or t s 0) (sym (table_again ok q))
        ∙ at_none (leftmost_of tri he sites) (flip_corners tri a b (before_of a) (before_of b))
        (entries_of he (leftmost_of tri he sites) (flip_corners tri a b (before_of a) (before_of b)) a b (before_of a) (before_of b)) s ny nx nq np;
  }

  -- ---- flipping at the pair
  back : pair_of he b ≡ a
  back = q.ba

  pub flippable_pair : Flippable tri he sites table b
  flippable_pair = record {
    in_range = q.b_in;
    paired = λ z. omega (arith, back, f.in_range, ok.small, ok.same);
    apart = λ z. f.apart (sym (z ∙ ap (opposite_of tri) back));
    unjoined = λ j. f.unjoined (
      j.0,
      j.1,
      ⊎_elim
          (λ w. inr (w.0, w.1 ∙ ap (opposite_of tri) back))
          (λ w. inl (w.0 ∙ ap (opposite_of tri) back, w.1)) j.2,
    );
    right_table = f.right_table;
  }

  pub triangles_pair : flipped_triangles tri he b ≡ flipped_triangles tri he a
  triangles_pair = ap (λ k. flip_at k) back ∙ sym (turned_turn ok.same q)
    where
      flip_at : ℕ → List ℕ
      flip_at k = set (set tri b (start_of tri (before_of k))) k (start_of tri (before_of b))

  pub pairs_pair : flipped_pairs he b ≡ flipped_pairs he a
  pairs_pair = ap (λ k. relinked he b k (before_of b) (before_of k)) back ∙ sym (relinked_turn (paired ok) q)

-- with the sites: demands 2 and 3 speak of every accepted mesh
pub accepted_again : (m : Mesh) (table : List ℕ) (a : ℕ) → Accepted m → Flippable m.triangles m.halfedges (site_count m.sites) table a → Accepted (flipped_mesh m a)
accepted_again m table a ok f =
    let t = ok.topology in
    let b = pair_of m.halfedges a in
    let lt = turned_length m.triangles a b (before_of a) (before_of b) in
    let lh = relinked_length m.halfedges a b (before_of a) (before_of b) in
    let c = ok.counts in
    record {
      counts = record {
        even = c.even;
        three_sites = c.three_sites;
        few_sites = c.few_sites;
        threes = rw lt c.threes;
        one_triangle = rw lt c.one_triangle;
        few_triangles = rw lt c.few_triangles;
        same = lh ∙ c.same ∙ sym lt;
        three_on_hull = c.three_on_hull;
        hull_of_sites = c.hull_of_sites;
      };
      coordinates = ok.coordinates;
      topology = topology_again t table a f;
    }
