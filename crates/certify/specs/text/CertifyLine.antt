-- The line of `certify`: by the number of the cutting, then by that of the certificate, then by its kind with the numbers that it names. Definitions only.
use Rattle.std.specs.Prelude.{List, [], ◌∷◌, ◌++◌, ℕ, eqb}
use Rattle.base.specs.common.Pick.{pick}
use Rattle.printing.specs.parts.Text.{ascii}
use Rattle.printing.specs.parts.Labelled.{entries, refusal}

unfoldable pub last_text : ℕ → List ℕ
last_text n = entries (n ∷ []) ++ ascii "\n"

unfoldable pub pair_text : List ℕ → ℕ → ℕ → List ℕ
pair_text label m n = (label ++ entries (m ∷ [])) ++ last_text n

unfoldable pub nearer_text : ℕ → ℕ → ℕ → List ℕ
nearer_text site vertex other = (ascii "nearer" ++ entries (site ∷ [])) ++ (entries (vertex ∷ []) ++ last_text other)

-- kinds 0 to 5 (certifyKind of certifying/specs/call/Verdict)
unfoldable pub kind_text : ℕ → ℕ → ℕ → ℕ → List ℕ
kind_text kind site vertex other =
    pick (eqb kind 0) (λ _. ascii "certified\n") (λ _. pick (eqb kind 1) (λ _. pair_text (ascii "outside") site vertex)
    (λ _. pick (eqb kind 2) (λ _. pair_text (ascii "side") site vertex) (λ _. pick (eqb kind 3) (λ _. ascii "border\n")
    (λ _. pick (eqb kind 4) (λ _. nearer_text site vertex other) (λ _. pair_text (ascii "twin") site other)))))

-- a refusal of the cutting first, then one of the certificate
unfoldable pub certify_text : ℕ → ℕ → ℕ → ℕ → ℕ → ℕ → List ℕ
certify_text cut number kind site vertex other =
    pick (eqb cut 0) (λ _. pick (eqb number 0) (λ _. kind_text kind site vertex other) (λ _. refusal number)) (λ _. refusal cut)
