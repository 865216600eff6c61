-- Numbers as the texts have them, each after a blank or after a label, and the line of a refusal. Definitions only.
use Rattle.std.specs.Prelude.{List, [], ◌∷◌, ◌++◌, ℕ}
use Prim.Native.String.{String}
use Rattle.printing.specs.parts.Text.{ascii, decimal}

-- each number after a blank
unfoldable pub entries : List ℕ → List ℕ
entries [] = []
entries (v ∷ l) = 32 ∷ decimal v ++ entries l

unfoldable pub labelled : String → ℕ → List ℕ
labelled label n = ascii label ++ entries (n ∷ [])

unfoldable pub refusal : ℕ → List ℕ
refusal number = labelled "refused" number ++ ascii "\n"
