-- The lists that a form is read into have its mesh at their beginnings; how long a mesh's bytes and numbers are.
use Rattle.std.specs.Prelude.{◌≡◌, refl, List, [], ◌∷◌, ℕ, suc, ◌*◌, ◌≤◌, ◌<◌, Float, length, get_or, take, drop}
use Rattle.std.proofs.Common.{arith, length-append}
use Rattle.std.proofs.lemmas.List.Edits.{sets}
use Rattle.std.proofs.Math.Seq.{take-append_seam}
use Rattle.base.specs.common.laws.Stores.{sets_all}
use Rattle.octets.specs.Bytes.{Bytes, each}
use Rattle.form.specs.Form.{FormMesh, MeshFits, outline_floats, site_floats, triangle_sites, triangle_pairs}
use Rattle.form.specs.step.Holds.{ListRoom}

-- bytes, each below 256
pub bytes : (s : List ℕ) → ((i : ℕ) → get_or s i 0 < 256) → Bytes s
bytes [] h = tt
bytes (b ∷ s) h = (h 0, bytes s (λ i. h (suc i)))

-- k numbers of each
pub each_length : {A B : Type 0} (f : A → List B) (k : ℕ) → ((a : A) → length (f a) ≡ k) → (l : List A) → length (each f l) ≡ k * length l
each_length f k h [] = omega arith
each_length f k h (a ∷ l) = omega (arith, length-append (f a) (each f l), h a, each_length f k h l)

-- a list put at the beginning
put : {A : Type 0} (l old : List A) (n : ℕ) → length l ≡ n → n ≤ length old → take n (sets old 0 l) ≡ l
put l old n e h = rw (← e, sets_all l old (omega arith)) (take-append_seam l (drop (length l) old))

-- lists that were bs to hs, after the mesh m was read into them
pub record Put (m : FormMesh) (bs ss : List Float) (ts es hs : List ℕ) (bs' ss' : List Float) (ts' es' hs' : List ℕ) : Type 0 where
  pub bounds : bs' ≡ sets bs 0 (outline_floats m.clip)
  pub sites : ss' ≡ sets ss 0 (each site_floats m.sites)
  pub triangles : ts' ≡ sets ts 0 (each triangle_sites m.triangles)
  pub halfedges : es' ≡ sets es 0 (each triangle_pairs m.triangles)
  pub hull : hs' ≡ sets hs 0 m.hull

module _ {m : FormMesh} (f : MeshFits m) {bs ss : List Float} {ts es hs : List ℕ} (room : ListRoom bs ss ts es hs) {bs' ss' : List Float} {ts' es' hs' : List ℕ}
    (p : Put m bs ss ts es hs bs' ss' ts' es' hs') where
  pub sites_are : take (2 * length m.sites) ss' ≡ each site_floats m.sites
  sites_are = rw p.sites (put _ ss _ (each_length site_floats 2 (λ _. refl) m.sites) (omega (arith, f.few_sites, room.sites)))

  pub tri_is : take (3 * length m.triangles) ts' ≡ each triangle_sites m.triangles
  tri_is = rw p.triangles (put _ ts _ (each_length triangle_sites 3 (λ _. refl) m.triangles) (omega (arith, f.few_triangles, room.triangles)))

  pub he_is : take (3 * length m.triangles) es' ≡ each triangle_pairs m.triangles
  he_is = rw p.halfedges (put _ es _ (each_length triangle_pairs 3 (λ _. refl) m.triangles) (omega (arith, f.few_triangles, room.halfedges)))

  pub hull_is : take (length m.hull) hs' ≡ m.hull
  hull_is = rw p.hull (put m.hull hs _ refl (omega (arith, f.few_hull, room.hull)))
