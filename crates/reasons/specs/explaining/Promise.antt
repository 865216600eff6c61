-- What asking for the reason promises: the reason that the rules give, of the first one that is broken and of the first thing that breaks it, and where all hold the
-- answer to what was asked; the five slices are as a build leaves them.
use Rattle.std.specs.Prelude.{◌≡◌, true, List, ◌++◌, ℕ}
use Rattle.base.specs.common.Refusals.{Rule}
use Rattle.plane.specs.declared.given.Given.{Given}
use Rattle.mesh.specs.Accepted.{Mesh, table_of, site_count}
use Rattle.definition.specs.declared.Fault.{Fault}
use Rattle.definition.specs.Fault.{Outcome}
use Rattle.definition.specs.Build.{Built, build}
use Rattle.arguments.specs.asking.Asks.{box_rules}
use Rattle.admission.specs.Slices.{Slices, room_of}
use Rattle.building.specs.answers.Promise.{BuildAnswer}
use Rattle.reasons.specs.declared.Question.{Question}
use Rattle.reasons.specs.declared.Reason.{Reason}
use Rattle.reasons.specs.Reason.{told_by}
use Rattle.reasons.specs.Rules.{question_rules, ReasonFor}

pub record WhyAnswer (m : Mesh) (own : List (Rule ℕ)) (q : Question) (o : Outcome Fault Built) (old new : Slices) (r : Reason) : Type 0 where
  pub reason : ReasonFor m (room_of m old ≡ true) own q o r
  pub slices : BuildAnswer (λ n. n ≡ (told_by r).number) (table_of m) o old new (told_by r).number

module _ (m : Mesh) where
  -- in the given box
  abbrev pub Explained : Given → Question → Slices → Slices → Reason → Type 0
  Explained g q = WhyAnswer m (box_rules g.sound ++ question_rules (site_count m.sites) q) q (build m g.bounds)
