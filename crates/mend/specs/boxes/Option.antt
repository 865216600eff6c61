-- The option of `mend`: a box, by the record that it would be in a form. Definitions only.
use Rattle.std.specs.Prelude.{◌≡◌, Bool, true, false, ◌&&◌, ◌||◌, List, [], ◌∷◌, ◌⊎◌, ℕ, eqb, length, get_or, take, drop}
use Rattle.base.specs.common.Pick.{pick}
use Rattle.base.specs.numbers.Numbers.{refused_count, refused_box}
use Rattle.plane.specs.points.Plane.{at}
use Rattle.plane.specs.given.Given.{by_size, by_edges}
use Rattle.octets.specs.Bytes.{Bytes, word}
use Rattle.octets.specs.hex.Hex.{all_hex, byte_of, unhex}
use Rattle.form.specs.Form.{Outline, box, unclipped, edges, float}

-- ---- its digits

-- by its center and size, or by its edges
abbrev pub box_kind : ℕ → Bool
box_kind kind = eqb kind 1 || eqb kind 7

-- the digits of a record
unfoldable pub is_box : List ℕ → Bool
is_box digits = eqb (length digits) 66 && all_hex digits && box_kind (byte_of (get_or digits 0 0) (get_or digits 1 0))

-- the record that is given, none where the option is not given
unfoldable pub option_record : Bool → List ℕ → List ℕ
option_record given digits = pick given (λ _. pick (is_box digits) (λ _. unhex digits) (λ _. [])) (λ _. [])

-- ---- its record

-- bytes of a box
pub record IsRecord (s : List ℕ) : Type 0 where
  pub long : length s ≡ 33
  pub kind : box_kind (get_or s 0 0) ≡ true
  pub bytes : Bytes s

abbrev pub IsOption : List ℕ → Type 0
IsOption s = (s ≡ []) ⊎ IsRecord s

-- the number of the eight bytes from a place on
abbrev pub word_at : List ℕ → ℕ → ℕ
word_at s i = word (take 8 (drop i s))

-- the box of a record; none where there is none
unfoldable pub outline_of : List ℕ → Outline
outline_of [] = unclipped
outline_of (kind ∷ body) =
    pick (eqb kind 7)
    (λ _. edges (word_at body 0) (word_at body 8) (word_at body 16) (word_at body 24))
    (λ _. box (word_at body 0) (word_at body 8) (word_at body 16) (word_at body 24))

-- whether a box is given
abbrev pub gives : Outline → Bool
gives unclipped = false
gives (box x y width height) = true
gives (edges left top right bottom) = true

-- ---- rule 3

abbrev pub keeps_box : Outline → Bool
keeps_box unclipped = true
keeps_box (box x y width height) = (by_size (at (float x) (float y)) (float width) (float height)).sound
keeps_box (edges left top right bottom) = (by_edges (float left) (float top) (float right) (float bottom)).sound

-- the number of a mending with this record put in: 3 comes after 1 and before all others
unfoldable pub number_with : List ℕ → ℕ → ℕ
number_with first number =
    pick (eqb (length first) 33)
    (λ _. pick (keeps_box (outline_of first)) (λ _. number) (λ _. pick (eqb number refused_count) (λ _. number) (λ _. refused_box)))
    (λ _. number)

-- ---- where it goes

-- the box that is put in, by the option's and the form's; none where the form has one
abbrev pub in_place : Outline → Outline → Outline
in_place o unclipped = o
in_place o (box x y width height) = unclipped
in_place o (edges left top right bottom) = unclipped

-- the first record after that
abbrev pub first_after : Outline → Outline → Outline
first_after o unclipped = o
first_after o (box x y width height) = box x y width height
first_after o (edges left top right bottom) = edges left top right bottom

-- by bytes: in the place of kind 6, and nowhere else, so many of the option's go in
unfoldable pub put_length : ℕ → ℕ → ℕ
put_length clip given = pick (eqb clip 6) (λ _. given) (λ _. 0)

-- the form is kept from this byte on
unfoldable pub kept_from : ℕ → ℕ
kept_from clip = pick (eqb clip 6) (λ _. 1) (λ _. 0)
