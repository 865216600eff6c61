-- Theorem: no form has more than 6,946 bytes.
use Rattle.std.specs.Prelude.{refl, Bool, List, [], ◌∷◌, ◌++◌, ℕ, ◌≤◌, ◌<◌, length}
use Rattle.std.proofs.Common.{ap, arith, length-append}
use Rattle.octets.specs.Bytes.{each}
use Rattle.form.specs.Limits.{longest_form}
use Rattle.form.specs.Form.{Outline, box, unclipped, edges, FormMesh, MeshFits, IsForm, form_of, outline_bytes, site_bytes, triangle_bytes, hull_bytes}
use Rattle.form.specs.laws.Lists.{each_length}

clip_short : (c : Outline) → length (outline_bytes c) ≤ 33
clip_short (box x y w h) = omega arith
clip_short unclipped = omega arith
clip_short (edges l t r b) = omega arith

pub form_short : (m : FormMesh) → MeshFits m → length (form_of m) ≤ longest_form
unfolding form_of
form_short m f =
    let a = outline_bytes m.clip in
    let b = each site_bytes m.sites in
    let c = each triangle_bytes m.triangles in
    let d = each hull_bytes m.hull in
    omega (
      arith,
      length-append (a ++ b ++ c ++ d) (5 ∷ []),
      length-append (a ++ b ++ c) d,
      length-append (a ++ b) c,
      length-append a b,
      clip_short m.clip,
      each_length site_bytes 17 (λ _. refl) m.sites,
      each_length triangle_bytes 25 (λ _. refl) m.triangles,
      each_length hull_bytes 5 (λ _. refl) m.hull,
      f.few_sites,
      f.few_triangles,
      f.few_hull,
    )

pub no_form : (old : Bool) (s : List ℕ) → longest_form < length s → IsForm old s → ⊥
no_form old s h i = omega (arith, form_short i.mesh i.fits, ap length i.bytes)
