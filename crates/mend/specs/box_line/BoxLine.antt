-- The line of a box that was put in. Definitions only.
use Rattle.std.specs.Prelude.{List, [], ◌∷◌, ◌++◌, reverse, ℕ, eqb, length, get_or, take, drop}
use Rattle.base.specs.common.Pick.{pick}
use Rattle.octets.specs.hex.Hex.{hex}
use Rattle.printing.specs.parts.Text.{ascii}
use Rattle.printing.specs.parts.Labelled.{entries}

-- a pattern, its eight bytes the lowest first, as its digits are written, after a blank
abbrev pub pattern_text : List ℕ → List ℕ
pattern_text s = ascii " " ++ hex (reverse s)

-- four of them
unfoldable pub pattern_texts : List ℕ → List ℕ
pattern_texts s = pattern_text (take 8 s) ++ pattern_text (take 8 (drop 8 s)) ++ pattern_text (take 8 (drop 16 s)) ++ pattern_text (take 8 (drop 24 s))

-- by the 33 bytes of its record, the kind and four patterns: it stands in the place of the form's first record, of kind 6; nothing where there is no record
unfoldable pub box_line : List ℕ → List ℕ
box_line first =
    pick (eqb (length first) 33)
    (λ _. ascii "box 0: 6" ++ entries (get_or first 0 0 ∷ []) ++ pattern_texts (take 32 (drop 1 first)) ++ ascii "\n")
    (λ _. [])
