-- The rules in their order, each with the reason that it answers; then what the builder met, then what was asked. Definitions only.
use Rattle.std.specs.Prelude.{List, [], ◌∷◌, ◌++◌, ℕ, ◌<◌, length, get_or}
use Rattle.base.specs.common.Refusals.{Rule, once, reads, Finds}
use Rattle.base.specs.numbers.Numbers.{refused_site}
use Rattle.mesh.specs.Accepted.{Mesh, table_of, site_count}
use Rattle.mesh.specs.Faults.{start_rules, coordinate_rules, topology_rules}
use Rattle.definition.specs.declared.Fault.{Fault}
use Rattle.definition.specs.Fault.{Outcome, ok, refused}
use Rattle.definition.specs.Cell.{unmarked}
use Rattle.definition.specs.Build.{Built}
use Rattle.reasons.specs.declared.Question.{Question}
use Rattle.reasons.specs.declared.Question.TheVariants.{Nothing, About, Between}
use Rattle.reasons.specs.declared.Reason.{Reason}
use Rattle.reasons.specs.declared.Reason.TheVariants.{NoFault, Number}
use Rattle.reasons.specs.Reason.{of_mesh, of_fault}
use Rattle.reasons.specs.Answer.{answer_to}

-- ---- what a call asks about its question: 4 on each site
abbrev pub question_rules : ℕ → Question → List (Rule ℕ)
question_rules n Nothing = []
question_rules n (About s) = once refused_site (s < n) ∷ []
question_rules n (Between s t) = once refused_site (s < n) ∷ once refused_site (t < n) ∷ []

-- ---- the rules with their reasons

-- 1 and 2, the call's own, 6, 7 to 10
abbrev pub reason_rules : Mesh → Type 0 → List (Rule ℕ) → List (Rule Reason)
reason_rules m room own =
    reads of_mesh (start_rules (length m.sites) (length m.triangles) (length m.halfedges) (length m.hull) room) ++ reads Number own
    ++ reads of_mesh (coordinate_rules m.sites ++ topology_rules m.triangles m.halfedges m.hull (site_count m.sites))

-- then what the builder met
abbrev pub build_rules : Outcome Fault Built → List (Rule Reason)
build_rules (ok b) = []
build_rules (refused f) = once (of_fault f) ⊥ ∷ []

-- then what was asked, by the definition's cells
abbrev pub built_answer : Mesh → Question → Built → Reason
built_answer m q b = answer_to m.triangles m.halfedges (table_of m) (λ s. unmarked (get_or b.cells s [])) q

abbrev pub answered : Mesh → Question → Outcome Fault Built → Reason
answered m q (ok b) = built_answer m q b
answered m q (refused f) = NoFault

-- ---- the reason
abbrev pub ReasonFor : Mesh → Type 0 → List (Rule ℕ) → Question → Outcome Fault Built → Reason → Type 0
ReasonFor m room own q o = Finds (reason_rules m room own ++ build_rules o) (answered m q o)
