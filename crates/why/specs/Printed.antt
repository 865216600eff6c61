-- What `why` prints, said of what is asked and of the bytes of its input: the line of the one reason for the mesh whose form they are, or of the reader's refusal. What its arguments ask
-- is `command_of` (why/specs/site_words/Words). Definitions only.
use Rattle.std.specs.Prelude.{◌≡◌, List, ◌++◌, ℕ}
use Rattle.plane.specs.declared.given.Given.{Given}
use Rattle.mesh.specs.Accepted.{Mesh, site_count}
use Rattle.definition.specs.Build.{build}
use Rattle.arguments.specs.asking.Asks.{box_rules}
use Rattle.reasons.specs.declared.Question.{Question}
use Rattle.reasons.specs.declared.Reason.{Reason}
use Rattle.reasons.specs.declared.Reason.TheVariants.{Number}
use Rattle.reasons.specs.Rules.{question_rules, ReasonFor}
use Rattle.printing.specs.OfForm.{OfForm}
use Rattle.why.specs.line.ReasonLine.{reason_line}

-- there is room for every form
abbrev pub WhyOfMesh : Question → Mesh → Given → Reason → Type 0
WhyOfMesh q m g = ReasonFor m (Unit {0}) (box_rules g.sound ++ question_rules (site_count m.sites) q) q (build m g.bounds)

-- the reason for the bytes of a form
abbrev pub FormReason : Question → List ℕ → Reason → Type 0
FormReason q = OfForm (WhyOfMesh q) Number

pub record WhyPrints (q : Question) (s text : List ℕ) : Type 0 where
  pub reason : Reason
  pub true : FormReason q s reason
  pub line : text ≡ reason_line reason
