-- The place that a fault of the builder names, for 11, for 12, and for an edge.
use Rattle.std.specs.Prelude.{◌≡◌, refl, ℕ, ◌≤◌}
use Rattle.std.proofs.Common.{arith, ne_eqb}
use Rattle.base.specs.numbers.Numbers.{refused_circumcenter, refused_extension, refused_no_crossing}
use Rattle.definition.specs.declared.Fault.{Fault}
use Rattle.definition.specs.Short.{fault}
use Rattle.reasons.specs.declared.Reason.TheVariants.{AtTriangle, AtHullPlace, AtEdge}
use Rattle.reasons.specs.Reason.{of_fault}

pub center_named : (t : ℕ) → of_fault (fault refused_circumcenter t 0 0) ≡ AtTriangle refused_circumcenter t
unfolding of_fault
center_named t = refl

pub extension_named : (i : ℕ) → of_fault (fault refused_extension i 0 0) ≡ AtHullPlace refused_extension i
unfolding of_fault
extension_named i = refl

pub edge_named : (f : Fault) → refused_no_crossing ≤ f.number → of_fault f ≡ AtEdge f.number f.place f.from f.to
unfolding of_fault
edge_named f l =
    rw (ne_eqb f.number 0 (λ e. omega arith), ne_eqb f.number refused_circumcenter (λ e. omega arith), ne_eqb f.number refused_extension (λ e. omega arith))
