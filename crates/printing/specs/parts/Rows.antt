-- Rows: the line of a refusal, and the least and the largest number. By computation.
use Rattle.std.specs.Prelude.{◌≡◌, refl}
use Rattle.printing.specs.parts.Text.{ascii, digits, decimal}
use Rattle.printing.specs.parts.Labelled.{entries, labelled, refusal}

pub rows :
    (refusal 17 ≡ ascii "refused 17\n")
    × (decimal 0 ≡ ascii "0")
    × (decimal 4294967295 ≡ ascii "4294967295")
unfolding digits decimal entries labelled refusal
rows = (refl, refl, refl)
