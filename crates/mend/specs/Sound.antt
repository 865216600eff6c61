-- Theorem: the mended mesh of a form that is not refused is accepted by rules 1, 6 and 7 to 10 and has a form: what is printed with the word `form` is a
-- sound form, also where the option's box was put in, or the line of a refusal.
use Rattle.std.specs.Prelude.{◌≡◌, refl, true, false, List, [], ◌∷◌, ◌++◌, ◌⊎◌, ◌≢◌, ℕ, suc, ◌+◌, ◌*◌, ◌/◌, ◌^◌, ◌<◌, Float, length, get_or, replicate}
use Rattle.std.proofs.Common.{⊎_elim, inl, inr, arith}
use Rattle.std.proofs.lemmas.List.{length-replicate}
use Rattle.std.proofs.Math.ListN.{get_or-eq_default}
use Rattle.base.specs.common.laws.Decide.{lt_or_ge}
use Rattle.base.specs.numbers.Numbers.{EMPTY}
use Rattle.octets.specs.Bytes.{All, each}
use Rattle.printing.specs.parts.Labelled.{refusal}
use Rattle.mesh.specs.Mesh.{leftmost_in}
use Rattle.mesh.specs.Accepted.{mesh, Accepted, site_count}
use Rattle.mesh.specs.laws.Facts.{sound_site}
use Rattle.mending.specs.pairs.Pairs.{pairs_of}
use Rattle.mending.specs.changes.Changes.{flat_changes}
use Rattle.mesh_check.specs.whole.AtExit.{at_exit}
use Rattle.mending.specs.slices.Lent.{Lent, lent, filled}
use Rattle.mending.specs.Mending.{mend_room_of, new_hull, pair_changes, hull_changes, when_made, Mends}
use Rattle.mending.specs.MendTheorem.{mended_accepted}
use Rattle.form.specs.Form.{Outline, box, unclipped, edges, FormMesh, MeshFits, OutlineFits, HullFits, MayBegin, IsForm, site_floats, triangle_sites}
use Rattle.form.specs.laws.Lists.{each_length}
use Rattle.mend.specs.writer.laws.Records.{triangles_count, triangles_fit}
use Rattle.mend.specs.boxes.Option.{IsOption, outline_of, gives, in_place, first_after}
use Rattle.mend.specs.boxes.Record.{holds}
use Rattle.mend.specs.Printed.{MendNumber, NumberOf, PrintsMesh, refused, mended, mended_form, tri_of, he_of, count}
use Rattle.mend.specs.laws.Room.{without_box}
use Rattle.mend.specs.laws.Heads.{none_gives}

-- ---- what mending promises, with slices just long enough

module _ (sites : List Float) (tri he hull : List ℕ) where
  abbrev n : ℕ
  n = site_count sites

  abbrev before : Lent
  before = lent (replicate n 0) (replicate (length tri) 0) (replicate n 0) (replicate (3 * (length tri + n)) 0)

  room : mend_room_of sites tri before
  room =
      record {
        for_work = omega (arith, length-replicate {A = ℕ} n 0);
        for_pairs = omega (arith, length-replicate {A = ℕ} (length tri) 0);
        for_hull = omega (arith, length-replicate {A = ℕ} n 0);
        for_changes = omega (arith, length-replicate {A = ℕ} (3 * (length tri + n)) 0);
      }

  number_accepted : (put : Outline) → MendNumber put sites tri he hull 0 → Accepted (mesh sites tri (pairs_of tri) (new_hull tri hull n))
  number_accepted put z =
      let all = flat_changes (pair_changes tri he ++ hull_changes tri hull n) in
      let after = lent (at_exit EMPTY (leftmost_in tri (pairs_of tri) n (length before.work)) before.work 0)
      (at_exit EMPTY (filled (length before.pairs) (pairs_of tri)) before.pairs 0)
      (at_exit EMPTY (filled (length before.mended) (new_hull tri hull n)) before.mended 0)
      (at_exit EMPTY (filled (length before.changes) all) before.changes 0) in
      let m : Mends (mesh sites tri he hull) before after 0 (when_made 0 (length (new_hull tri hull n))) (when_made 0 (length (pair_changes tri he)))
      (when_made 0 (length (hull_changes tri hull n))) = record {
        number = without_box sites tri he hull put (mend_room_of sites tri before) room z;
        outcome = record { work = refl; pairs = refl; mended = refl; changes = refl; hull_length = refl; pair_changes_lem = refl; hull_changes_lem = refl };
      } in
      mended_accepted (mesh sites tri he hull) before m

-- ---- numbers of four bytes

small : (l : List ℕ) → ((k : ℕ) → k < length l → get_or l k 0 < 2 ^ 32) → (k : ℕ) → get_or l k 0 < 2 ^ 32
small l h k = ⊎_elim (λ q. h k q) (λ q. omega (arith, get_or-eq_default l 0 q)) (lt_or_ge k (length l))

all_fit : (l : List ℕ) → ((k : ℕ) → k < length l → get_or l k 0 < 2 ^ 32) → All HullFits l
all_fit [] h = tt
all_fit (x ∷ l) h = (h 0 (omega arith), all_fit l (λ k q. h (suc k) (omega arith)))

-- the first record of the mended form
module _ (option : List ℕ) (i : IsOption option) where
  begins : (c : Outline) → MayBegin (gives (outline_of option)) c → OutlineFits c → MayBegin false (first_after (outline_of option) c) × OutlineFits (first_after (outline_of option) c)
  begins (box x y w h) b f = (tt, f)
  begins unclipped b f = ⊎_elim (λ e. absurd (none_gives (rw e at b))) (λ r. ((holds option r).begins, (holds option r).fits)) i
  begins (edges x y u v) b f = (tt, f)

  module _ (m : FormMesh) (b : MayBegin (gives (outline_of option)) m.clip) where
    abbrev o : Outline
    o = outline_of option

    abbrev sites : List Float
    sites = each site_floats m.sites

    abbrev border : List ℕ
    border = new_hull (tri_of o m) m.hull (count o m)

    pub accepted : NumberOf o m 0 → Accepted (mesh sites (tri_of o m) (pairs_of (tri_of o m)) border)
    accepted z = number_accepted sites (tri_of o m) (he_of o m) m.hull (in_place o m.clip) z

    pub mended_fits : MeshFits m → NumberOf o m 0 → MeshFits (mended_form o m)
    mended_fits f z =
        let a = accepted z in
        let t = a.topology in
        let tri = tri_of o m in
        let entries : length tri ≡ 3 * length m.triangles = each_length triangle_sites 3 (λ _. refl) m.triangles in
        let coordinates : length sites ≡ 2 * length m.sites = each_length site_floats 2 (λ _. refl) m.sites in
        let site = sound_site tri (count o m) t.threes t.sound in
        let pair : (k : ℕ) → k < length (pairs_of tri) → get_or (pairs_of tri) k 0 < 2 ^ 32 = λ k l.
        ⊎_elim (λ e. omega arith) (λ x. omega (arith, x.inside, t.small, t.same)) (t.pairs k (omega (arith, t.same))) in
        record {
          clip = (begins m.clip b f.clip).1;
          sites = f.sites;
          triangles = triangles_fit tri (pairs_of tri) (small tri (λ k l. omega (arith, site k l, a.counts.few_sites))) (small (pairs_of tri) pair) (length tri / 3) 0;
          hull = all_fit border (λ k l. omega (arith, (t.border.fresh k l).0, a.counts.few_sites));
          few_sites = f.few_sites;
          few_triangles = omega (arith, triangles_count tri (pairs_of tri) (length tri / 3) 0, f.few_triangles);
          few_hull = omega (arith, a.counts.hull_of_sites, f.few_sites);
        }

    -- what is printed with the word `form`
    pub prints_form : {text : List ℕ} → MeshFits m → PrintsMesh o m true text → IsForm false text ⊎ ((r : ℕ) × (r ≢ 0) × (text ≡ refusal r))
    prints_form f (refused {r} x z) = inr (r, z, refl)
    prints_form f (mended z) = inl (record { mesh = mended_form o m; fits = mended_fits f z; admits = (begins m.clip b f.clip).0; bytes = refl })
