-- The steps of `mend`: a mending's answer as text, by its number and its lent slices; a mesh that was read, by its lists; and the sizes within which
-- everything has room. Definitions only.
use Rattle.std.specs.Prelude.{◌≡◌, Bool, List, ◌≢◌, ℕ, ◌+◌, ◌-◌, ◌*◌, ◌≤◌, eqb, Float, length, take, drop}
use Rattle.base.specs.common.Pick.{pick}
use Rattle.printing.specs.parts.Labelled.{refusal}
use Rattle.mesh.specs.Accepted.{site_count}
use Rattle.mending.specs.pairs.Pairs.{pairs_of}
use Rattle.mending.specs.Mending.{new_hull, pair_changes, hull_changes}
use Rattle.form.specs.Limits.{most_sites, most_hull, most_coordinates, most_links}
use Rattle.mend.specs.writer.Written.{written_form}
use Rattle.mend.specs.boxes.Option.{outline_of, put_length, kept_from}
use Rattle.mend.specs.text.MendText.{mend_text}
use Rattle.mend.specs.Printed.{MendNumber, changes_text}

-- ---- sizes

-- the length of the first record, by its kind
abbrev pub first_length : ℕ → ℕ
first_length kind = pick (eqb kind 6) (λ _. 1) (λ _. 33)

-- the most bytes of a form's first records: its box and its sites
abbrev pub head_room : ℕ
head_room = 33 + 17 * most_sites

-- the first records of a form, its lists, and room for its text
pub record MendSized (bytes coordinates entries hull space : ℕ) : Type 0 where
  pub head : bytes ≤ head_room
  pub few_sites : coordinates ≤ most_coordinates
  pub few_triangles : entries ≤ most_links
  pub few_on_hull : hull ≤ most_hull
  pub room : 32768 ≤ space

-- p and h changes that stand in a list; a form that can be written
pub record CanShow (first records tri he hull list : List ℕ) (p h space : ℕ) : Type 0 where
  pub head : length first + length records ≤ head_room
  pub same : length he ≡ length tri
  pub few_triangles : length tri ≤ most_links
  pub few_on_hull : length hull ≤ most_hull
  pub few_changes : p + h ≤ most_links + most_hull
  pub changes : 3 * (p + h) ≤ length list
  pub room : 32768 ≤ space

-- ---- texts

-- by the number of a mending, what is asked for, and what its slices hold
abbrev pub shown_text : ℕ → Bool → List ℕ → List ℕ → List ℕ → List ℕ → List ℕ → List ℕ → ℕ → ℕ → List ℕ
shown_text number form first records tri he hull changes p h =
    pick (eqb number 0)
    (λ _. pick form (λ _. written_form first records tri he hull) (λ _. mend_text first changes p h))
    (λ _. refusal number)

-- of a mesh in lists, with the bytes of the record that is put in and of the first records that are kept
module _ (form : Bool) (first records : List ℕ) (sites : List Float) (tri he hull : List ℕ) where
  abbrev pub lists_text : List ℕ
  lists_text =
      pick form
      (λ _. written_form first records tri (pairs_of tri) (new_hull tri hull (site_count sites)))
      (λ _. changes_text first (pair_changes tri he) (hull_changes tri hull (site_count sites)))

  abbrev pub ListsNumber : ℕ → Type 0
  ListsNumber = MendNumber (outline_of first) sites tri he hull

  pub data OfLists : List ℕ → Type 0 where
    refused : {r : ℕ} → ListsNumber r → r ≢ 0 → OfLists (refusal r)
    mended : ListsNumber 0 → OfLists lists_text

-- the bytes that are put in, of the option's record, and those that are kept, of a form with n sites: by the kind of its first record
abbrev pub put_bytes : List ℕ → ℕ → List ℕ
put_bytes option kind = take (put_length kind (length option)) option

abbrev pub kept_bytes : List ℕ → ℕ → ℕ → List ℕ
kept_bytes s kind n = take (first_length kind + 17 * n - kept_from kind) (drop (kept_from kind) s)
