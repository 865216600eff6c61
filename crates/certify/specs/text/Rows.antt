-- Rows: a line of each kind, and of a refusal by either call. By computation.
use Rattle.std.specs.Prelude.{◌≡◌, refl}
use Rattle.base.specs.numbers.Numbers.{EMPTY}
use Rattle.printing.specs.parts.Text.{ascii, digits, decimal}
use Rattle.printing.specs.parts.Labelled.{entries, labelled, refusal}
use Rattle.certify.specs.text.CertifyLine.{last_text, pair_text, nearer_text, kind_text, certify_text}

pub rows :
    (certify_text 0 0 0 EMPTY EMPTY EMPTY ≡ ascii "certified\n")
    × (certify_text 0 0 1 4 61 EMPTY ≡ ascii "outside 4 61\n")
    × (certify_text 0 0 2 4 61 EMPTY ≡ ascii "side 4 61\n")
    × (certify_text 0 0 3 EMPTY EMPTY EMPTY ≡ ascii "border\n")
    × (certify_text 0 0 4 4 61 29 ≡ ascii "nearer 4 61 29\n")
    × (certify_text 0 0 5 12 EMPTY 3 ≡ ascii "twin 12 3\n")
    × (certify_text 0 24 EMPTY EMPTY EMPTY EMPTY ≡ ascii "refused 24\n")
    × (certify_text 25 16 EMPTY EMPTY EMPTY EMPTY ≡ ascii "refused 25\n")
unfolding digits decimal entries labelled refusal last_text pair_text nearer_text kind_text certify_text
rows = (refl, refl, refl, refl, refl, refl, refl, refl)
