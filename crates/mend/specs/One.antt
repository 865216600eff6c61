-- Theorem: no two texts may be printed for one input and one option.
use Rattle.std.specs.Prelude.{◌≡◌, refl, Bool, List, ℕ, Float, length, get_or}
use Rattle.std.proofs.Common.{sym, ap, ◌∙◌, arith}
use Rattle.base.specs.common.laws.Refusals.{finds_one}
use Rattle.printing.specs.parts.Labelled.{refusal}
use Rattle.form.specs.Form.{FormMesh, MayBegin, form_of, kind_of, site_floats}
use Rattle.form.specs.laws.Lists.{each_length}
use Rattle.form.specs.laws.Longer.{same_number, place_refuses}
use Rattle.form.specs.mesh.One.{SameMesh, same_mesh}
use Rattle.mend.specs.boxes.Option.{IsOption, outline_of, gives}
use Rattle.mend.specs.Printed.{MendPrints, sound, broken}
use Rattle.mend.specs.Steps.{OfLists, refused, mended}
use Rattle.mend.specs.laws.Heads.{form_kind}
use Rattle.mend.specs.laws.ReadForm.{ByLists, from_mesh}

module _ (form : Bool) (option : List ℕ) (o : IsOption option) where
  lists_one : {first records : List ℕ} {sites : List Float} {tri he hull a b : List ℕ}
      → OfLists form first records sites tri he hull a → OfLists form first records sites tri he hull b → a ≡ b
  lists_one (refused p q) (refused r s) = ap refusal (finds_one p r)
  lists_one (refused p q) (mended r) = absurd (q (finds_one p r))
  lists_one (mended p) (refused r s) = absurd (s (finds_one r p))
  lists_one (mended p) (mended r) = refl

  -- two meshes with one form, by their lists
  as_lists : (m n : FormMesh) (i : MayBegin (gives (outline_of option)) m.clip) (j : MayBegin (gives (outline_of option)) n.clip) → form_of m ≡ form_of n → SameMesh m n
      → {text : List ℕ} → ByLists option o m i form text → ByLists option o n j form text
  as_lists m n i j e s q =
      let kind : kind_of m.clip ≡ kind_of n.clip = sym (form_kind m) ∙ ap (λ (l : List ℕ). get_or l 0 0) e ∙ form_kind n in
      let count : length m.sites ≡ length n.sites =
      omega (arith, ap length s.sites, each_length site_floats 2 (λ _. refl) m.sites, each_length site_floats 2 (λ _. refl) n.sites) in
      rw (kind, e, count, s.sites, s.triangles, s.halfedges, s.hull) at q

  pub prints_one : {s a b : List ℕ} → MendPrints form (outline_of option) s a → MendPrints form (outline_of option) s b → a ≡ b
  prints_one (sound m f i e p) (sound n g j d q) =
      lists_one (as_lists m n i j (sym e ∙ d) (same_mesh _ m n f g i j e d) (from_mesh option o m i form p)) (from_mesh option o n j form q)
  prints_one (sound m f i e p) (broken q n) = absurd (place_refuses q (record { mesh = m; fits = f; admits = i; bytes = e }))
  prints_one (broken q n) (sound m f i e p) = absurd (place_refuses q (record { mesh = m; fits = f; admits = i; bytes = e }))
  prints_one (broken p a) (broken q b) = ap refusal (same_number p a q b)
