-- How the stores come together.
use Rattle.std.specs.Prelude.{◌≡◌, List, ℕ}
use Rattle.std.proofs.Common.{ap, ◌∙◌}
use Rattle.mesh.specs.Mesh.{pair_of}
use Rattle.flipping.specs.Flip.{before_of, turned_sites, relinked}
use Rattle.flipping.specs.Entries.{Four, flip_corners, entries_of, stored_four}
use Rattle.flipping.specs.stores.Ready.{FlipReady, Retabled, FlipChanged}

-- four numbers that are the same one by one
abbrev four : ℕ → ℕ → ℕ → ℕ → Four
four p q x y = (p, q, x, y)

pub same_four : (s t : Four) → s.0 ≡ t.0 → s.1 ≡ t.1 → s.2 ≡ t.2 → s.3 ≡ t.3 → s ≡ t
same_four s t q₁ q₂ q₃ q₄ =
    let e : four s.0 s.1 s.2 s.3 ≡ four t.0 t.1 t.2 t.3 = rw (q₁, q₂, q₃, q₄) in
    e

pub retabled : (tri he work old new : List ℕ) (a b r l : ℕ) (s v : Four) → s ≡ flip_corners tri a b r l → v ≡ entries_of he work s a b r l
    → new ≡ stored_four old s v → Retabled tri he work old new a b r l
retabled tri he work old new a b r l s v p q z =
    z
    ∙ ap (stored_four old s) (q ∙ ap (λ k. entries_of he work k a b r l) p)
    ∙ ap (λ k. stored_four old k (entries_of he work (flip_corners tri a b r l) a b r l)) p

module _ (tri he table work : List ℕ) (a b r l : ℕ) (is_b : b ≡ pair_of he a) (is-r : r ≡ before_of a) (is-l : l ≡ before_of b) where
  pub ready_at : FlipReady tri he table work a (pair_of he a) (before_of a) (before_of (pair_of he a)) → FlipReady tri he table work a b r l
  ready_at g = rw (is-l, is-r, is_b) g

  pub changed : (tri' he' table' work' : List ℕ) → tri' ≡ turned_sites tri a b r l → he' ≡ relinked he a b r l → Retabled tri he work table table' a b r l
      → Retabled tri he work work work' a b r l → FlipChanged tri he table work a tri' he' table' work'
  changed tri' he' table' work' p q t w = record {
    triangles = rw (is-l, is-r, is_b) at p;
    pairs = rw (is-l, is-r, is_b) at q;
    in_table = rw (is-l, is-r, is_b) at t;
    in_work = rw (is-l, is-r, is_b) at w;
  }
