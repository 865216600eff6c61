-- The promise of the audit: the number, the kind, what it names, and the missing share. The verdict: Verdict of crate auditing; the rules: Rules of auditing::rules.
use Rattle.std.specs.Prelude.{List, ℕ, Float}
use Rattle.plane.specs.declared.given.Given.{Given}
use Rattle.auditing.specs.Promise.{AuditAnswer}

-- 1, 3, 6, 16, 18, 24
abbrev pub Audit : Given → List Float → List Float → List ℕ → List ℕ → List ℕ → List ℕ → ℕ → ℕ → ℕ → ℕ → ℕ → ℕ → Float → Type 0
Audit = AuditAnswer
