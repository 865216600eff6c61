-- A line for each change, and how many there are. Definitions only.
use Rattle.std.specs.Prelude.{List, [], ◌∷◌, ◌++◌, ℕ, zero, suc, ◌+◌, ◌*◌, eqb, get_or}
use Rattle.base.specs.common.Pick.{pick}
use Rattle.base.specs.numbers.Numbers.{EMPTY}
use Rattle.printing.specs.parts.Text.{ascii}
use Rattle.printing.specs.parts.Labelled.{entries, labelled}

-- a value after a blank, or the word that there is none
unfoldable pub or_none : ℕ → List ℕ
or_none v = pick (eqb v EMPTY) (λ _. ascii " none") (λ _. entries (v ∷ []))

-- the label is `pair` or `hull`
unfoldable pub change_line : List ℕ → ℕ → ℕ → ℕ → List ℕ
change_line label place old new = label ++ entries (place ∷ []) ++ ascii ":" ++ (or_none old ++ or_none new) ++ ascii "\n"

-- change i of the list: three numbers
abbrev pub line_at : List ℕ → List ℕ → ℕ → List ℕ
line_at label changes i = change_line label (get_or changes (3 * i) 0) (get_or changes (3 * i + 1) 0) (get_or changes (3 * i + 2) 0)

-- the lines of n changes from change i on
unfoldable pub change_lines : List ℕ → List ℕ → ℕ → ℕ → List ℕ
change_lines label changes i zero = []
change_lines label changes i (suc n) = line_at label changes i ++ change_lines label changes (suc i) n

unfoldable pub counts_line : ℕ → ℕ → List ℕ
counts_line pairs hull = labelled "pairs" pairs ++ labelled " hull" hull ++ ascii "\n"
