-- Theorem: the reason for a mesh in a box is the true one, said whole (`whole_truth`): what it names has the fault, and nothing that stands earlier in the order of the
-- rules has one. And where nothing is wrong, of the mesh, of the call's arguments, of the build and of what was asked, no fault is said (`no_fault`).
use Rattle.std.specs.Prelude.{◌≡◌, refl, List, [], ◌++◌, ◌⊎◌, ◌≢◌, ℕ, ◌<◌, length, get_or, ⊤, Result}
use Rattle.std.proofs.Common.{ap, inl, inr, arith}
use Rattle.base.specs.common.Count.{occ}
use Rattle.base.specs.common.Refusals.{Rule, Keep}
use Rattle.base.specs.numbers.Numbers.{refused_count, refused_room}
use Rattle.plane.specs.declared.boxes.BoundingBox.{BoundingBox}
use Rattle.mesh.specs.declared.MeshFault.{MeshFault}
use Rattle.mesh.specs.Accepted.{Mesh, table_of, Counted, Accepted, site_count}
use Rattle.mesh.specs.Faults.{coordinate_rules, topology_rules}
use Rattle.mesh.specs.laws.Verdicts.{topology_keep}
use Rattle.definition.specs.Fault.{ok}
use Rattle.definition.specs.Cell.{unmarked}
use Rattle.definition.specs.Build.{Built, build}
use Rattle.build_laws.specs.Tries.{TriedInVain}
use Rattle.walks.specs.neighbours.Neighbours.{neighbours_of}
use Rattle.reasons.specs.declared.Question.{Question}
use Rattle.reasons.specs.declared.Question.TheVariants.{Nothing, About, Between}
use Rattle.reasons.specs.declared.Reason.{Reason}
use Rattle.reasons.specs.declared.Reason.TheVariants.{NoFault, Number, AtSite, AtTriangle, AtHalfEdge, AtHullPlace, AtEdge, Unused, TriesEmpty, Dropped}
use Rattle.reasons.specs.Answer.{staying}
use Rattle.reasons.specs.Reason.{of_mesh}
use Rattle.reasons.specs.Rules.{ReasonFor}
use Rattle.reason_truth.specs.Answers.{AnswerTrue, nothing_asked, cell_there, in_no_triangle, in_use, no_neighbour, still_listed, gone}
use Rattle.reason_truth.specs.Builder.{BuilderTrue, builder_true, vain_true}
use Rattle.reason_truth.specs.Whole.{Broken, WhyTrue, bad_counts, no_room, bad_argument, bad_mesh, met, sound, why_true}
use Rattle.reason_truth.specs.laws.Unbroken.{unbroken, no_entry, built_or_not, same_built}

module _ (m : Mesh) where
  -- the cell of site s
  abbrev pub cell_in : Built → ℕ → List ℕ
  cell_in k s = unmarked (get_or k.cells s [])

  -- nothing is wrong with what was asked: nothing was, the cell is not empty, the second site is no neighbour of the first, or it still is one
  abbrev pub Faultless : Built → Question → Type 0
  Faultless k Nothing = Unit {0}
  Faultless k (About s) = cell_in k s ≢ []
  Faultless k (Between s t) =
      (occ t (neighbours_of m.triangles m.halfedges (table_of m) s) ≡ 0) ⊎ (0 < occ t (staying m.triangles m.halfedges (table_of m) (cell_in k) s))

  -- 6, then 7 to 10
  abbrev pub late_faults : List (Rule (Result ⊤ MeshFault))
  late_faults = coordinate_rules m.sites ++ topology_rules m.triangles m.halfedges m.hull (site_count m.sites)

  -- where a cell is said to be empty although its site is in use, every try of it gave nothing
  abbrev pub InVain : BoundingBox → Reason → Type 0
  InVain b NoFault = Unit {0}
  InVain b (Number n) = Unit {0}
  InVain b (AtSite n s) = Unit {0}
  InVain b (AtTriangle n t) = Unit {0}
  InVain b (AtHalfEdge n e) = Unit {0}
  InVain b (AtHullPlace n i) = Unit {0}
  InVain b (AtEdge n s v w) = Unit {0}
  InVain b (Unused s) = Unit {0}
  InVain b (TriesEmpty s) = TriedInVain m b s
  InVain b (Dropped s t k) = Unit {0}

-- `room` is what the call asks of the lent slices, `own` what it asks of its own arguments
module _ (m : Mesh) (room : Type 0) (own : List (Rule ℕ)) (q : Question) (b : BoundingBox) where
  abbrev Many : Type 0
  Many = Counted (length m.sites) (length m.triangles) (length m.halfedges) (length m.hull)

  -- what each reason says; the cases stand in the order of the rules, and each says that those before it do not hold
  pub data Truth : Reason → Type 0 where
    counts : (Many → ⊥) → Truth (Number refused_count)
    short : Many → (room → ⊥) → Truth (Number refused_room)
    argument : Many → room → {n : ℕ} → Broken own n → Truth (Number n)
    lent : Many → room → Keep own → {f : Result ⊤ MeshFault} → Broken (late_faults m) f → Truth (of_mesh f)
    builder : Accepted m → room → Keep own → {r : Reason} → BuilderTrue m b r → Truth r
    built : Accepted m → room → Keep own → {k : Built} {r : Reason} → build m b ≡ ok k
        → AnswerTrue m.triangles m.halfedges (table_of m) (cell_in m k) q r → InVain m b r → Truth r

  tried : Accepted m → {k : Built} {r : Reason} (p : Question) → build m b ≡ ok k
      → AnswerTrue m.triangles m.halfedges (table_of m) (cell_in m k) p r → InVain m b r
  tried a p e nothing_asked = tt
  tried a p e (cell_there n) = tt
  tried a p e (in_no_triangle z n) = tt
  tried a {k} p e (in_use {s} z u) = vain_true a e u (no_entry (get_or k.cells s []) (ap length z))
  tried a p e (no_neighbour z) = tt
  tried a p e (still_listed n l) = tt
  tried a p e (gone n z f) = tt

  -- the theorem
  pub whole_truth : {r : Reason} → ReasonFor m room own q (build m b) r → Truth r
  whole_truth x = go (why_true m room own q (build m b) x)
    where
      go : {r : Reason} → WhyTrue m room own q (build m b) r → Truth r
      go (bad_counts n) = counts n
      go (no_room c n) = short c n
      go (bad_argument c k br) = argument c k br
      go (bad_mesh c k fit br) = lent c k fit br
      go (met a k fit e) = builder a k fit (builder_true a e)
      go (sound a k fit e t) = built a k fit e t (tried a q e t)

  module _ (a : Accepted m) (l : room) (fit : Keep own) {k : Built} (is : build m b ≡ ok k) where
    none_said : (p : Question) {r : Reason} → Faultless m k p → AnswerTrue m.triangles m.halfedges (table_of m) (cell_in m k) p r → r ≡ NoFault
    none_said p f nothing_asked = refl
    none_said p f (cell_there n) = refl
    none_said p f (in_no_triangle z n) = absurd (f z)
    none_said p f (in_use z u) = absurd (f z)
    none_said p f (no_neighbour z) = refl
    none_said p f (still_listed n l) = refl
    none_said p (inl z) (gone n y f) = absurd (omega (arith, z, n))
    none_said p (inr l) (gone n y f) = absurd (omega (arith, y, l))

    -- and where nothing is wrong
    pub no_fault : Faultless m k q → {r : Reason} → ReasonFor m room own q (build m b) r → r ≡ NoFault
    no_fault f x = go (why_true m room own q (build m b) x)
      where
        go : {r : Reason} → WhyTrue m room own q (build m b) r → r ≡ NoFault
        go (bad_counts n) = absurd (n a.counts)
        go (no_room c n) = absurd (n l)
        go (bad_argument c _ br) = absurd (unbroken _ own fit br)
        go (bad_mesh c _ _ br) =
            absurd (unbroken _ (late_faults m) (a.coordinates, topology_keep m.triangles m.halfedges m.hull (site_count m.sites) a.topology) br)
        go (met _ _ _ e) = absurd (built_or_not (build m b) is e)
        go {r} (sound _ _ _ e t) = none_said q f (same_built (λ (i : Built). AnswerTrue m.triangles m.halfedges (table_of m) (cell_in m i) q r) is e t)
