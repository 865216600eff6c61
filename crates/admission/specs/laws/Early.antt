-- How the tests before rule 7 lead to their number, and how what rules 7 to 10, or 7 to 9, find follows them.
use Rattle.std.specs.Prelude.{◌≡◌, Bool, List, ◌≢◌, ℕ, ◌<◌, Float, length, ⊤, Result, Err}
use Rattle.std.proofs.Common.{refl, sym, ap, ◌∙◌, arith, rules}
use Rattle.base.specs.common.Refusals.{reads, Keep}
use Rattle.base.specs.common.laws.Refusals.{finds_keep, finds_answers, finds_first, finds_after, finds_reads}
use Rattle.base.specs.refusal.Number.{number_of as refusal_number}
use Rattle.mesh.specs.declared.MeshFault.{MeshFault}
use Rattle.mesh.specs.declared.MeshFault.TheVariants.{Counts, Room, Coordinate, Triangle, Pairing, HullPlace, HullEdge, BrokenFan}
use Rattle.mesh.specs.Faults.{refusal_of, number_of, topology_rules}
use Rattle.mesh.specs.Accepted.{Mesh, site_count}
use Rattle.mesh.specs.Mesh.{leftmost_in}
use Rattle.mesh_check.specs.whole.Answers.{TopologyAnswer, OutlineAnswer, work_after}
use Rattle.mesh_check.specs.whole.laws.AtExit.{exit_held}
use Rattle.base.specs.numbers.Numbers.{EMPTY, refused_triangle}
use Rattle.admission.specs.Admits.{early_rules, Early, late_outline, Outlines}
use Rattle.admission.specs.Admission.{Admission}

-- the refusal of a fault has its number
pub fault_number : (f : MeshFault) → refusal_number (refusal_of f) ≡ number_of (Err f)
fault_number Counts = refl
fault_number Room = refl
fault_number (Coordinate s) = refl
fault_number (Triangle t) = refl
fault_number (Pairing e) = refl
fault_number (HullPlace i) = refl
fault_number (HullEdge e) = refl
fault_number (BrokenFan s) = refl

-- what the rules after them are told
pub passed : {sites : List Float} {entries halfedges hull : ℕ} {roomy : Bool} {asked r : ℕ} → Early sites entries halfedges hull roomy asked r
    → r ≡ 0 → Keep (early_rules sites entries halfedges hull roomy asked)
passed e z = finds_keep (λ r. r ≡ 0) (search rules) z e.found

module _ (m : Mesh) (roomy : Bool) (asked : ℕ) {r : ℕ} (e : Early m.sites (length m.triangles) (length m.halfedges) (length m.hull) roomy asked r) where
  -- an early refusal leaves the work slice as it was
  pub refused_early : (old : List ℕ) → asked < refused_triangle → r ≢ 0 → Admission m roomy asked old old r
  refused_early old l n =
      let small : r < refused_triangle = finds_answers (λ r. r < refused_triangle) (omega arith) (search rules) e.found in
      record {
        number = record { found = finds_first (reads number_of (topology_rules m.triangles m.halfedges m.hull (site_count m.sites))) n e.found };
        work = sym (exit_held EMPTY (leftmost_in m.triangles m.halfedges (site_count m.sites) (length old)) old r n small);
      }

  -- else rules 7 to 10 answer
  pub judged_late : r ≡ 0 → {s : ℕ} {f : Result ⊤ MeshFault} {old new : List ℕ} → TopologyAnswer m.triangles m.halfedges m.hull (site_count m.sites) old new f
      → s ≡ number_of f → Admission m roomy asked old new s
  judged_late z {old = old} a q = record {
    number = rw q (record {
      found = finds_after (early_rules m.sites (length m.triangles) (length m.halfedges) (length m.hull) roomy asked)
          (passed e z) (finds_reads number_of a.verdict);
    });
    work = a.work ∙ ap (work_after m old) (sym q);
  }

  -- up to rule 9 alone
  pub outline_early : {old : List ℕ} → asked < refused_triangle → r ≢ 0 → Outlines m roomy asked r × (old ≡ work_after m old r)
  outline_early {old} l n = (record { found = finds_first (late_outline m) n e.found }, (refused_early old l n).work)

  pub outline_late : r ≡ 0 → {s : ℕ} {f : Result ⊤ MeshFault} {old new : List ℕ} → OutlineAnswer m.triangles m.halfedges m.hull (site_count m.sites) old new f
      → s ≡ number_of f → Outlines m roomy asked s × (new ≡ work_after m old s)
  outline_late z {old = old} a q = (
    rw q (record {
      found = finds_after (early_rules m.sites (length m.triangles) (length m.halfedges) (length m.hull) roomy asked)
          (passed e z) (finds_reads number_of a.verdict);
    }),
    a.work ∙ ap (work_after m old) (sym q),
  )
