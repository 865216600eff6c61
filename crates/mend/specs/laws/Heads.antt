-- The first records of a form: what is put in and what is kept of them, by its bytes and by its mesh.
use Rattle.std.specs.Prelude.{◌≡◌, Bool, ℕ, ◌+◌, ◌-◌, ◌*◌, ◌≤◌, eqb, get_or, take, drop}
use Rattle.std.proofs.Math.Path.{refl, sym, ap, ap₂}
use Rattle.std.proofs.Common.{◌∙◌, inr, ⊎_elim, length-append, length-take, take_at}
use Rattle.std.proofs.Math.Bool.{true, false}
use mathlib.Core.List.{List, [], ◌∷◌, ◌++◌, append_assoc}
use Rattle.std.proofs.Math.Logic.{inl}
use native.Mathlib.Omega.{arith}
use Rattle.std.proofs.Math.ListN.{length}
use Rattle.std.proofs.Math.Seq.{take-length}
use Rattle.base.specs.common.Pick.{pick}
use Rattle.octets.specs.Bytes.{each}
use Rattle.form.specs.Limits.{most_sites}
use Rattle.form.specs.Form.{Outline, box, unclipped, edges, FormMesh, MayBegin, form_of, outline_bytes, site_bytes, triangle_bytes, hull_bytes, kind_of, site_floats}
use Rattle.form.specs.laws.Lists.{each_length}
use Rattle.mend.specs.writer.Written.{lists, written_form}
use Rattle.mend.specs.writer.FormOf.{writes_form}
use Rattle.mending.specs.changes.Changes.{Difference}
use Rattle.mending.specs.pairs.Pairs.{pairs_of}
use Rattle.mending.specs.Mending.{new_hull, pair_changes, hull_changes}
use Rattle.mend.specs.boxes.Option.{IsOption, outline_of, gives, in_place, first_after, put_length, kept_from}
use Rattle.mend.specs.boxes.Record.{holds}
use Rattle.mend.specs.box_line.BoxLine.{box_line}
use Rattle.mend.specs.box_line.laws.BoxLine.{box_none}
use Rattle.mend.specs.Printed.{changes_text, tri_of, he_of, count, text_of}
use Rattle.mend.specs.Steps.{first_length, head_room, lists_text, put_bytes, kept_bytes}

clip_length : (c : Outline) → length (outline_bytes c) ≡ first_length (kind_of c)
clip_length (box x y w h) = refl
clip_length unclipped = refl
clip_length (edges x y u v) = refl

module _ (m : FormMesh) where
  abbrev rest : List ℕ
  rest = each triangle_bytes m.triangles ++ each hull_bytes m.hull ++ 5 ∷ []

  split : form_of m ≡ outline_bytes m.clip ++ (each site_bytes m.sites ++ rest)
  unfolding form_of
  split = simp append_assoc

  sites_length : length (each site_bytes m.sites) ≡ 17 * length m.sites
  sites_length = each_length site_bytes 17 (λ _. refl) m.sites

  pub headed : first_length (kind_of m.clip) + 17 * length m.sites ≤ length (form_of m)
  headed =
      rw split
      (omega (
        arith,
        length-append (outline_bytes m.clip) (each site_bytes m.sites ++ rest),
        length-append (each site_bytes m.sites) rest,
        sites_length,
        clip_length m.clip,
      ))

-- a form begins with the kind of its first record
first_kind : (c : Outline) (t : List ℕ) → get_or (outline_bytes c ++ t) 0 0 ≡ kind_of c
first_kind (box x y w h) t = refl
first_kind unclipped t = refl
first_kind (edges x y u v) t = refl

pub form_kind : (m : FormMesh) → get_or (form_of m) 0 0 ≡ kind_of m.clip
form_kind m = ap (λ (l : List ℕ). get_or l 0 0) (split m) ∙ first_kind m.clip _

-- ---- what is put in

pub none_gives : gives (outline_of []) ≡ true → ⊥
unfolding outline_of
none_gives z = let y : ◌≡◌ {A = ℕ} 0 1 = cc in omega arith

module _ (option : List ℕ) where
  all_put : put_bytes option 6 ≡ option
  unfolding put_length
  all_put = take-length option

  pub put_is : (c : Outline) → outline_of (put_bytes option (kind_of c)) ≡ in_place (outline_of option) c
  unfolding put_length outline_of
  put_is (box x y w h) = refl
  put_is unclipped = ap outline_of all_put
  put_is (edges x y u v) = refl

  pub put_option : (u : ℕ) → IsOption option → IsOption (put_bytes option u)
  unfolding put_length
  put_option u i = go (eqb u 6)
    where
      go : (b : Bool) → IsOption (take (pick b (λ _. length option) (λ _. 0)) option)
      go true = rw (take-length option) i
      go false = inl refl

  put_within : (u : ℕ) → put_length u (length option) ≤ length option
  unfolding put_length
  put_within u = go (eqb u 6)
    where
      go : (b : Bool) → pick b (λ _. length option) (λ _. 0) ≤ length option
      go true = omega arith
      go false = omega arith

  pub put_bounded : (put u : ℕ) → put ≡ put_length u (length option) → put ≤ length option
  put_bounded put u e = omega (arith, e, put_within u)

  option_short : IsOption option → length option ≤ 33
  option_short = ⊎_elim (λ e. omega (arith, ap length e)) (λ r. omega (arith, r.long))

  -- the first records of a mended form
  pub head_short : (u n : ℕ) → IsOption option → n ≤ most_sites → put_length u (length option) + (first_length u + 17 * n - kept_from u) ≤ head_room
  unfolding put_length kept_from
  head_short u n i h = go (eqb u 6)
    where
      go : (b : Bool) → pick b (λ _. length option) (λ _. 0) + (pick b (λ _. 1) (λ _. 33) + 17 * n - pick b (λ _. 1) (λ _. 0)) ≤ head_room
      go true = omega (arith, option_short i)
      go false = omega arith

  -- the same by what the functions answer
  pub heads_short : (s : List ℕ) (u n put from first : ℕ) → IsOption option → n ≤ most_sites → put ≡ put_length u (length option) → from ≡ kept_from u → first ≡ first_length u
      → length (take put option) + length (take (first + 17 * n - from) (drop from s)) ≤ head_room
  heads_short s u n put from first i h p q r = simp length-take (omega (arith, head_short u n i h, p, q, r))

  -- a form of old is read only where a box is given
  back : IsOption option → MayBegin (gives (outline_of option)) unclipped → outline_bytes (outline_of option) ≡ option
  back (inr r) b = (holds option r).back
  back (inl e) b = absurd (none_gives (rw e at b))

-- ---- what is kept

module _ (m : FormMesh) where
  abbrev N : ℕ
  N = length m.sites

  kept_old : m.clip ≡ unclipped → kept_bytes (form_of m) 6 N ≡ each site_bytes m.sites
  unfolding kept_from
  kept_old e =
      let s = split m ∙ ap (λ (c : Outline). outline_bytes c ++ (each site_bytes m.sites ++ rest m)) e in
      rw s (take_at (each site_bytes m.sites) (rest m) (1 + 17 * N - 1) (omega (arith, sites_length m)))

  -- with a box: the first record too
  kept_box : (c : Outline) → m.clip ≡ c → length (outline_bytes c) ≡ 33 → (n : ℕ) → n ≡ 33 + 17 * N → take n (form_of m) ≡ outline_bytes c ++ each site_bytes m.sites
  kept_box c e l n q =
      let s = split m ∙ ap (λ (d : Outline). outline_bytes d ++ (each site_bytes m.sites ++ rest m)) e in
      ap (take n) (s ∙ sym (append_assoc (outline_bytes c) (each site_bytes m.sites) (rest m)))
      ∙ take_at (outline_bytes c ++ each site_bytes m.sites) (rest m) n (omega (arith, length-append (outline_bytes c) (each site_bytes m.sites), sites_length m))

module _ (option : List ℕ) (i : IsOption option) (m : FormMesh) where
  abbrev o : Outline
  o = outline_of option

  heads : (c : Outline) → m.clip ≡ c → MayBegin (gives o) c
      → put_bytes option (kind_of c) ++ kept_bytes (form_of m) (kind_of c) (length m.sites) ≡ outline_bytes (first_after o c) ++ each site_bytes m.sites
  unfolding put_length kept_from
  heads (box x y w h) e b = kept_box m (box x y w h) e refl (33 + 17 * length m.sites - 0) (omega arith)
  heads unclipped e b =
      ap₂ (λ (x y : List ℕ). x ++ y) (all_put option) (kept_old m e) ∙ ap (λ (x : List ℕ). x ++ each site_bytes m.sites) (sym (back option i b))
  heads (edges x y u v) e b = kept_box m (edges x y u v) e refl (33 + 17 * length m.sites - 0) (omega arith)

  line_same : (c : Outline) → MayBegin (gives o) c → box_line (put_bytes option (kind_of c)) ≡ box_line (outline_bytes (in_place o c))
  unfolding put_length
  line_same (box x y w h) b = box_none [] (λ z. omega arith) ∙ sym (box_none (6 ∷ []) (λ z. omega arith))
  line_same unclipped b = ap box_line (all_put option ∙ sym (back option i b))
  line_same (edges x y u v) b = box_none [] (λ z. omega arith) ∙ sym (box_none (6 ∷ []) (λ z. omega arith))

  written_same : (a b c d tri he hull : List ℕ) → a ++ b ≡ c ++ d → written_form a b tri he hull ≡ written_form c d tri he hull
  unfolding written_form
  written_same a b c d tri he hull e = ap (λ (z : List ℕ). z ++ lists tri he hull) e

  changes_same : (a b : List ℕ) (ps hs : List Difference) → box_line a ≡ box_line b → changes_text a ps hs ≡ changes_text b ps hs
  unfolding changes_text
  changes_same a b ps hs e = rw e

  -- the text by lists is the text by the mesh
  pub text_same : MayBegin (gives o) m.clip → (form : Bool)
      → lists_text form (put_bytes option (kind_of m.clip)) (kept_bytes (form_of m) (kind_of m.clip) (length m.sites)) (each site_floats m.sites)
      (tri_of o m) (he_of o m) m.hull ≡ text_of o m form
  text_same b true =
      written_same _ _ (outline_bytes (first_after o m.clip)) (each site_bytes m.sites) (tri_of o m) (pairs_of (tri_of o m)) (new_hull (tri_of o m) m.hull (count o m))
      (heads m.clip refl b)
      ∙ writes_form (first_after o m.clip) m.sites (tri_of o m) (pairs_of (tri_of o m)) (new_hull (tri_of o m) m.hull (count o m))
  text_same b false =
      changes_same _ (outline_bytes (in_place o m.clip)) (pair_changes (tri_of o m) (he_of o m)) (hull_changes (tri_of o m) m.hull (count o m)) (line_same m.clip b)
