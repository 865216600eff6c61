-- Theorem: the two lists of rules are one: by number those of the check, Faults, are those of a call that asks nothing of its own, Rules.
use Rattle.std.specs.Prelude.{◌≡◌, refl, []}
use Rattle.base.specs.common.Refusals.{reads}
use Rattle.mesh.specs.Accepted.{Mesh}
use Rattle.mesh.specs.Rules.{call_rules}
use Rattle.mesh.specs.Faults.{number_of, mesh_rules}

pub by_number : (m : Mesh) (room : Type 0) → reads number_of (mesh_rules m room) ≡ call_rules m room []
by_number m room = refl
