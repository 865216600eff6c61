-- How the answers of single rules come together.
use Rattle.std.specs.Prelude.{◌≡◌, List, ◌++◌, ◌≢◌, ℕ, ◌%◌, ◌≤◌, ◌<◌, length, get_or, replicate, ⊤, Result, Ok, Err}
use Rattle.std.proofs.Common.{sym, ap, ◌∙◌, lt_of_lt_of_le, arith, rules}
use Rattle.base.specs.common.laws.Decide.{first_all}
use Rattle.base.specs.common.Decide.{First}
use Rattle.base.specs.common.Refusals.{Keep, Finds}
use Rattle.base.specs.common.laws.Refusals.{breaks, offends, keeps, all_keep, nothing, finds_keep, finds_first, finds_after}
use Rattle.base.specs.numbers.Numbers.{EMPTY, refused_triangle}
use Rattle.plane.specs.points.Sites.{KeptAt}
use Rattle.mesh.specs.declared.MeshFault.{MeshFault}
use Rattle.mesh.specs.declared.MeshFault.TheVariants.{Counts, Room, Coordinate, BrokenFan}
use Rattle.mesh.specs.Mesh.{next_of, table_to, leftmost_in, AllSound, AllPaired, Paired}
use Rattle.mesh.specs.Faults.{number_of, shape_rules, hull_rules, fan_rules, topology_rules}
use Rattle.mesh.specs.Accepted.{Mesh, Counted, site_count}
use Rattle.mesh.specs.laws.Next.{next_lt}
use Rattle.mesh.specs.laws.Table.{table_longer}
use Rattle.mesh.specs.laws.Facts.{sound_site}
use Rattle.mesh.specs.laws.Verdicts.{topology_late}
use Rattle.mesh_check.specs.border.Answer.{HullAnswer}
use Rattle.mesh_check.specs.fan.Answer.{FanAnswer}
use Rattle.mesh_check.specs.whole.laws.AtExit.{exit_made, exit_held, exit_blank}
use Rattle.mesh_check.specs.whole.Answers.{ShapeAnswer, BorderAnswer, TopologyAnswer, OutlineAnswer, Finding, MeshAnswer}

-- the number 0: the rules hold
pub shape_keep : (tri he : List ℕ) (sites : ℕ) {f : Result ⊤ MeshFault} → ShapeAnswer tri he sites f → number_of f ≡ 0 → Keep (shape_rules tri he sites)
shape_keep tri he sites a z = finds_keep (λ f. number_of f ≡ 0) (search rules) z a

hull_keep : (tri he hull : List ℕ) (sites : ℕ) {f : Result ⊤ MeshFault} → HullAnswer tri he hull sites f → number_of f ≡ 0 → Keep (hull_rules tri he hull sites)
hull_keep tri he hull sites a z = finds_keep (λ f. number_of f ≡ 0) (search rules) z a

pub named : (tri he : List ℕ) (sites : ℕ) → length tri % 3 ≡ 0 → AllSound tri sites → AllPaired tri he → (k : ℕ) → k < length tri → get_or tri k 0 < sites
named tri he sites threes sound pairs = sound_site tri sites threes sound

-- where rules 7 and 8 hold, each entry names an entry of a slice with room for the sites
pub shape_named : (tri he : List ℕ) (sites w : ℕ) {f : Result ⊤ MeshFault} → ShapeAnswer tri he sites f → number_of f ≡ 0 → length tri % 3 ≡ 0 → sites ≤ w
    → (k : ℕ) → k < length tri → get_or tri k 0 < w
shape_named tri he sites w a z threes room k l = lt_of_lt_of_le (sound_site tri sites threes (shape_keep tri he sites a z).0 k l) room

pub paired : (tri he : List ℕ) → length tri % 3 ≡ 0 → length he ≡ length tri → length tri < EMPTY → AllPaired tri he → Paired tri he
paired tri he threes same small pairs = record { threes = rw same threes; small = rw same small; pairs = λ e l. pairs e (rw (← same) l) }

module _ (tri he hull : List ℕ) (sites : ℕ) (old : List ℕ) where
  -- rules 9 and 10
  module _ (f : Result ⊤ MeshFault) (k : ℕ) (a : HullAnswer tri he hull sites f) (q : k ≡ number_of f) where
    pub border_hull : (new : List ℕ) → k ≢ 0 → BorderAnswer tri he hull sites old new f
    border_hull new n = record { found = finds_first (fan_rules tri he sites) (λ e. n (q ∙ ap number_of e)) a; table = λ z. absurd (n (q ∙ z)) }

    module _ (z : k ≡ 0) (mid new : List ℕ) (s : ℕ) (b : FanAnswer tri he sites mid new s) where
      pub border_fan : s < sites → BorderAnswer tri he hull sites old new (Err (BrokenFan s))
      border_fan l = record { found = finds_after (hull_rules tri he hull sites) (hull_keep tri he hull sites a (sym q ∙ z)) (offends b.first l); table = λ y. absurd (omega arith) }

      pub border_whole : sites ≤ s → length mid ≡ length old → BorderAnswer tri he hull sites old new (Ok tt)
      border_whole l long = record {
        found = finds_after (hull_rules tri he hull sites) (hull_keep tri he hull sites a (sym q ∙ z)) (all_keep (first_all b.first l) nothing);
        table = λ _. rw (← long) (b.table l);
      }

  -- rules 7 to 10
  topology_cleared : (new : List ℕ) (f : Result ⊤ MeshFault) → Finds (topology_rules tri he hull sites) (Ok tt) f → number_of f ≢ 0
      → new ≡ replicate (length old) EMPTY → TopologyAnswer tri he hull sites old new f
  topology_cleared new f v n e = record { verdict = v; work = e ∙ sym (exit_blank EMPTY (leftmost_in tri he sites (length old)) old (number_of f) (topology_late tri he hull sites v n)) }

  module _ (f : Result ⊤ MeshFault) (k : ℕ) (a : ShapeAnswer tri he sites f) (q : k ≡ number_of f) where
    pub topology_shape : (new : List ℕ) → k ≢ 0 → new ≡ replicate (length old) EMPTY → TopologyAnswer tri he hull sites old new f
    topology_shape new n = topology_cleared new f (finds_first (hull_rules tri he hull sites ++ fan_rules tri he sites) (λ e. n (q ∙ ap number_of e)) a) (rw (← q) n)

    module _ (z : k ≡ 0) (mid : List ℕ) (g : Result ⊤ MeshFault) (m : ℕ) (b : BorderAnswer tri he hull sites old mid g) (p : m ≡ number_of g) where
      whole : Finds (topology_rules tri he hull sites) (Ok tt) g
      whole = finds_after (shape_rules tri he sites) (shape_keep tri he sites a (sym q ∙ z)) b.found

      pub topology_border : (new : List ℕ) → m ≢ 0 → length mid ≡ length old → new ≡ replicate (length mid) EMPTY → TopologyAnswer tri he hull sites old new g
      topology_border new n long e = topology_cleared new g whole (rw (← p) n) (e ∙ ap (λ w. replicate w EMPTY) long)

      pub topology_whole : m ≡ 0 → TopologyAnswer tri he hull sites old mid g
      topology_whole y = record { verdict = whole; work = b.table (sym p ∙ y) ∙ sym (exit_made EMPTY (leftmost_in tri he sites (length old)) old (number_of g) (sym p ∙ y)) }

  -- rules 7 to 9 alone: a refusal by them is one by rules 7 to 10
  outline_cleared : (new : List ℕ) (f : Result ⊤ MeshFault) → Finds (shape_rules tri he sites ++ hull_rules tri he hull sites) (Ok tt) f → number_of f ≢ 0
      → new ≡ replicate (length old) EMPTY → OutlineAnswer tri he hull sites old new f
  outline_cleared new f v n e =
      let t = topology_cleared new f (finds_first (fan_rules tri he sites) (λ q. n (ap number_of q)) v) n e in
      record { verdict = v; work = t.work }

  module _ (f : Result ⊤ MeshFault) (k : ℕ) (a : ShapeAnswer tri he sites f) (q : k ≡ number_of f) where
    pub outline_shape : (new : List ℕ) → k ≢ 0 → new ≡ replicate (length old) EMPTY → OutlineAnswer tri he hull sites old new f
    outline_shape new n = outline_cleared new f (finds_first (hull_rules tri he hull sites) (λ e. n (q ∙ ap number_of e)) a) (rw (← q) n)

    module _ (z : k ≡ 0) (w : ℕ) (long : w ≡ length old) (g : Result ⊤ MeshFault) (m : ℕ) (b : HullAnswer tri he hull sites g) (p : m ≡ number_of g) where
      outlined : Finds (shape_rules tri he sites ++ hull_rules tri he hull sites) (Ok tt) g
      outlined = finds_after (shape_rules tri he sites) (shape_keep tri he sites a (sym q ∙ z)) b

      pub outline_hull : (new : List ℕ) → m ≢ 0 → new ≡ replicate w EMPTY → OutlineAnswer tri he hull sites old new g
      outline_hull new n e = outline_cleared new g outlined (rw (← p) n) (e ∙ ap (λ v. replicate v EMPTY) long)

      pub outline_whole : (new : List ℕ) → m ≡ 0 → length tri % 3 ≡ 0 → sites ≤ length old → new ≡ table_to tri he w (length tri)
          → OutlineAnswer tri he hull sites old new g
      outline_whole new y threes room e =
          let sound = (shape_keep tri he sites a (sym q ∙ z)).0 in
          let table = table_longer tri he sites (length old) room (λ d l. sound_site tri sites threes sound (next_of d) (next_lt threes l)) in
          record {
            verdict = outlined;
            work = e ∙ ap (λ v. table_to tri he v (length tri)) long ∙ table ∙ sym (exit_made EMPTY (leftmost_in tri he sites (length old)) old (number_of g) (sym p ∙ y));
          }

-- the whole check: a rule that stands before rule 7 leaves the slice as it was
module _ (m : Mesh) (old : List ℕ) where
  mesh_held : (f : Result ⊤ MeshFault) → Finding m (length old) f → number_of f ≢ 0 → number_of f < refused_triangle → MeshAnswer m old old f
  mesh_held f g n l = record { finding = g; work = sym (exit_held EMPTY (leftmost_in m.triangles m.halfedges (site_count m.sites) (length old)) old (number_of f) n l) }

  pub mesh_counts : (Counted (length m.sites) (length m.triangles) (length m.halfedges) (length m.hull) → ⊥) → MeshAnswer m old old (Err Counts)
  mesh_counts n = mesh_held (Err Counts) (breaks n) (omega arith) (omega arith)

  module _ (c : Counted (length m.sites) (length m.triangles) (length m.halfedges) (length m.hull)) where
    pub mesh_room : length old < site_count m.sites → MeshAnswer m old old (Err Room)
    mesh_room l = mesh_held (Err Room) (keeps c (breaks (λ h. omega arith))) (omega arith) (omega arith)

    module _ (l : site_count m.sites ≤ length old) (s : ℕ) (g : First (KeptAt m.sites) (site_count m.sites) s) where
      pub mesh_coordinate : s < site_count m.sites → MeshAnswer m old old (Err (Coordinate s))
      mesh_coordinate h = mesh_held (Err (Coordinate s)) (keeps c (keeps l (offends g h))) (omega arith) (omega arith)

      pub mesh_topology : site_count m.sites ≤ s → (new : List ℕ) (f : Result ⊤ MeshFault) → TopologyAnswer m.triangles m.halfedges m.hull (site_count m.sites) old new f → MeshAnswer m old new f
      mesh_topology h new f t = record { finding = keeps c (keeps l (all_keep (first_all g h) t.verdict)); work = t.work }
