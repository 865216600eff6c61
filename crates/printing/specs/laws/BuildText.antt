-- A build's answer gives the text that is promised: a refusal's line by its number, or the text of what was built.
use Rattle.std.specs.Prelude.{◌≡◌, refl, Bool, true, List, ◌≢◌, ℕ, ◌+◌, ◌*◌, ◌/◌}
use Rattle.std.proofs.Common.{◌∙◌, ⊎_elim, arith}
use Rattle.std.proofs.Math.ListN.{length}
use borrow.Author.Tests.{ne_eqb, le-leb, lt-ltb}
use Rattle.base.specs.common.Refusals.{Rule}
use Rattle.plane.specs.declared.given.Given.{Given}
use Rattle.mesh.specs.Accepted.{Mesh, site_count}
use Rattle.admission.specs.Admits.{Admits}
use Rattle.admission.specs.Slices.{Slices, room_for, room_of}
use Rattle.arguments.specs.asking.laws.Asks.{NoneZero, box_answers}
use Rattle.definition.specs.declared.Fault.{Fault}
use Rattle.definition.specs.Fault.{Outcome, ok, refused}
use Rattle.definition.specs.Build.{Built, build}
use Rattle.definition.specs.laws.Gives.{gives_ok}
use Rattle.build_laws.specs.Late.{Refuses, Numbered}
use Rattle.build_laws.specs.LateRefusals.{build_late}
use Rattle.cell_memory.specs.outputs.Outputs.{fault_of}
use Rattle.building.specs.answers.Promise.{Builds, Build}
use Rattle.building.specs.answers.laws.Promise.{builds_cases}
use Rattle.form.specs.Limits.{most_sites}
use Rattle.form.specs.mesh.Read.{MeshSized}
use Rattle.printing.specs.Printed.{Shows, shown, OfMesh, Text}
use Rattle.printing.specs.Printed as printed
use Rattle.printing.specs.Rooms.{vertex_room, index_room, offset_room}
use Rattle.printing.specs.laws.WholeBuild.{Whole, whole_of_mesh}

-- slices as long as a program's
pub record ProgramSlices (s : Slices) : Type 0 where
  pub work : length s.work ≡ most_sites
  pub vertices : length s.vertices ≡ vertex_room
  pub indexes : length s.indexes ≡ index_room
  pub offsets : length s.offsets ≡ offset_room
  pub counts : length s.counts ≡ 9

-- the text by the number, where the listing is that of what was built
module _ (Rules : ℕ → Type 0) (text : Built → List ℕ) where
  shows_built : {o : Outcome Fault Built} (t : List ℕ) → Rules 0 → Refuses Numbered o
      → ((b : Built) → o ≡ ok b → (fault_of o).number ≡ 0 → t ≡ text b) → Shows Rules text o (shown t (fault_of o).number)
  shows_built {o = ok b} t p late f = rw (f b refl refl) (printed.built p)
  shows_built {o = refused e} t p late f =
      let q : e.number ≢ 0 = λ z. omega (arith, late.least) in
      rw (ne_eqb e.number 0 q) (printed.late p)

pub shows : {m : Mesh} {roomy : Bool} {own : List (Rule ℕ)} {o : Outcome Fault Built} {r : ℕ} (text : Built → List ℕ) (t : List ℕ)
    → NoneZero own → Builds m roomy own o r → Refuses Numbered o → ((b : Built) → o ≡ ok b → r ≡ 0 → t ≡ text b)
    → Shows (Admits m roomy own) text o (shown t r)
shows text t some x late f =
    ⊎_elim
    (λ y. rw (ne_eqb _ 0 y.1) (printed.early y.0 y.1))
    (λ y. rw y.1 (shows_built _ text t y.0 late (λ b e z. f b e (y.1 ∙ z))))
    (builds_cases some x)

-- ---- a build on lists within the form's limits, with slices of these lengths
module _ (m : Mesh) (sized : MeshSized (length m.sites) (length m.triangles) (length m.hull)) (old : Slices) (long : ProgramSlices old) where
  pub roomy : room_of m old ≡ true
  unfolding room_for
  roomy =
      rw (long.work, long.vertices, long.indexes, long.offsets, long.counts)
      (rw (
        le-leb (site_count m.sites) most_sites (omega (arith, sized.few_sites)),
        le-leb (7 * (length m.triangles / 3) + 5 * length m.hull + 4) (vertex_room / 2) (omega (arith, sized.few_triangles, sized.few_on_hull)),
        le-leb (12 * (length m.triangles / 3) + 8 * length m.hull + 4) index_room (omega (arith, sized.few_triangles, sized.few_on_hull)),
        lt-ltb (site_count m.sites) offset_room (omega (arith, sized.few_sites)),
      ))

  module _ (g : Given) {new : Slices} {r : ℕ} (a : Build m g old new r) where
    pub whole : (b : Built) → build m g.bounds ≡ ok b → Whole (site_count m.sites) b
    whole b e = gives_ok (Whole (site_count m.sites)) (whole_of_mesh m g.bounds) e

    pub text_of_mesh : (t : Text) (text : List ℕ) → ((b : Built) → build m g.bounds ≡ ok b → r ≡ 0 → text ≡ t m g b) → OfMesh t m g (shown text r)
    text_of_mesh t text f = shows (t m g) text (box_answers g.sound) (rw roomy at a.number) (build_late m g.bounds) f
