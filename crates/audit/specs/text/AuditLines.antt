-- The lines of `audit`: of triangles that are turned, where there are any, and of the verdict. Definitions only.
use Rattle.std.specs.Prelude.{ℕ, List, [], ◌∷◌, ◌++◌, ◌==◌, Float, Ok, Err}
use Rattle.base.specs.common.Pick.{pick}
use Rattle.printing.specs.parts.Text.{ascii}
use Rattle.printing.specs.parts.Labelled.{entries}
use Rattle.auditing.specs.Verdict.{AuditVerdict}
use Rattle.auditing.specs.declared.AuditFault.TheVariants.{Ring, Outside, Nearer, Uncovered, Twin}
use Rattle.audit.specs.text.Share.{share_text}

-- one, two and three numbers, each behind its label
unfoldable pub labelled_line : List ℕ → ℕ → List ℕ → List ℕ
labelled_line label n end = (label ++ entries (n ∷ [])) ++ end

unfoldable pub pair_line : List ℕ → ℕ → List ℕ → ℕ → List ℕ → List ℕ
pair_line first m second n end = (first ++ entries (m ∷ [])) ++ labelled_line second n end

unfoldable pub triple_line : List ℕ → ℕ → List ℕ → ℕ → List ℕ → ℕ → List ℕ
triple_line first l second m third n = (first ++ entries (l ∷ [])) ++ pair_line second m third n (ascii "\n")

unfoldable pub missing_line : Float → List ℕ
missing_line missing = ascii "missing " ++ share_text missing ++ ascii "\n"

abbrev pub verdict_line : AuditVerdict → Float → List ℕ
verdict_line (Ok _) missing = ascii "sound\n"
verdict_line (Err (Ring s)) missing = labelled_line (ascii "site") s (ascii ": its piece does not run once round, the right way\n")
verdict_line (Err (Outside s e)) missing = pair_line (ascii "site") s (ascii ": vertex") e (ascii " is outside the box\n")
verdict_line (Err (Nearer s e o)) missing = triple_line (ascii "site") s (ascii ": vertex") e (ascii " is nearer to site") o
verdict_line (Err Uncovered) missing = missing_line missing
verdict_line (Err (Twin s o)) missing = pair_line (ascii "sites") o (ascii " and") s (ascii " stand at one place\n")

-- how many triangles are turned, of how many, and the lowest
unfoldable pub turned_line : ℕ → ℕ → ℕ → List ℕ
turned_line count total lowest = pick (count == 0) (λ _. []) (λ _. triple_line (ascii "turned") count (ascii " of") total (ascii " triangles, lowest") lowest)

unfoldable pub audit_lines : ℕ → ℕ → ℕ → AuditVerdict → Float → List ℕ
audit_lines count total lowest verdict missing = turned_line count total lowest ++ verdict_line verdict missing
