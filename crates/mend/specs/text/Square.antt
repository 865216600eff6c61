-- Rows: the texts of "square" (docs/use/RULES.md) with its pairs left out, with the hull 1 2 0, with the hull 9 1 2 3, and unchanged; of the old "square" with the box 0 0 2 2. By computation.
use Rattle.std.specs.Prelude.{◌≡◌, refl, [], ◌∷◌, ◌++◌}
use Rattle.base.specs.numbers.Numbers.{EMPTY}
use Rattle.octets.specs.Bytes.{le}
use Rattle.octets.specs.hex.Hex.{hex}
use Rattle.printing.specs.parts.Text.{ascii, digits, decimal}
use Rattle.printing.specs.parts.Labelled.{entries, labelled}
use Rattle.mend.specs.change_lines.ChangeLines.{or_none, change_line, change_lines, counts_line}
use Rattle.mend.specs.box_line.BoxLine.{pattern_texts, box_line}
use Rattle.mend.specs.text.MendText.{mend_text}

pub rows :
    (mend_text [] (2 ∷ EMPTY ∷ 3 ∷ 3 ∷ EMPTY ∷ 2 ∷ []) 2 0 ≡ ascii "pair 2: none 3\npair 3: none 2\npairs 2 hull 0\n")
    × (mend_text [] (2 ∷ 0 ∷ 3 ∷ 3 ∷ EMPTY ∷ 0 ∷ []) 0 2 ≡ ascii "hull 2: 0 3\nhull 3: none 0\npairs 0 hull 2\n")
    × (mend_text [] (0 ∷ 9 ∷ 0 ∷ EMPTY ∷ []) 0 1 ≡ ascii "hull 0: 9 0\npairs 0 hull 1\n")
    × (mend_text [] [] 0 0 ≡ ascii "pairs 0 hull 0\n")
    × (mend_text [] (3 ∷ EMPTY ∷ EMPTY ∷ []) 0 1 ≡ ascii "hull 3: none none\npairs 0 hull 1\n")
    × (mend_text (1 ∷ le 8 0 ++ le 8 0 ++ le 8 4611686018427387904 ++ le 8 4611686018427387904) [] 0 0
    ≡ ascii "box 0: 6 1 0000000000000000 0000000000000000 4000000000000000 4000000000000000\npairs 0 hull 0\n")
    × (mend_text (7 ∷ le 8 1 ++ le 8 2 ++ le 8 255 ++ le 8 81985529216486895) [] 0 0
    ≡ ascii "box 0: 6 7 0000000000000001 0000000000000002 00000000000000ff 0123456789abcdef\npairs 0 hull 0\n")
unfolding digits decimal entries labelled or_none change_line change_lines counts_line hex pattern_texts box_line mend_text
rows = (refl, refl, refl, refl, refl, refl, refl)
