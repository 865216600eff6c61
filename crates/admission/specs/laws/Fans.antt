-- Rule 10 apart: how its number comes about, and how it follows the rules up to 9.
use Rattle.std.specs.Prelude.{◌≡◌, List, [], ◌++◌, ◌≢◌, ℕ, ◌≤◌, ◌<◌, Float, length}
use Rattle.std.proofs.Math.Path.{refl, sym, ap}
use Rattle.std.proofs.Common.{◌∙◌, subst, ⊎_elim, arith, lt-ltb, le-ltb}
use Rattle.std.proofs.Math.Nat.{sub-zero}
use Rattle.std.proofs.Math.ListN.{replicate}
use Rattle.base.specs.common.laws.Decide.{eq_or_ne, first_all}
use Rattle.base.specs.common.Refusals.{reads}
use Rattle.base.specs.common.laws.Refusals.{offends, all_keep, nothing, finds_answers, finds_first, finds_after}
use Rattle.base.specs.common.Binary64.{zero}
use Rattle.base.specs.numbers.Numbers.{EMPTY, refused_triangle, refused_fan}
use Rattle.mesh.specs.Mesh.{leftmost_of, Fan}
use Rattle.mesh.specs.Faults.{number_of, fan_rules}
use Rattle.mesh.specs.Accepted.{Mesh, site_count}
use Rattle.mesh_check.specs.fan.Answer.{FanAnswer}
use Rattle.mesh_check.specs.whole.AtExit.{at_exit, when_refused}
use Rattle.mesh_check.specs.whole.laws.AtExit.{exit_made, exit_blank}
use Rattle.cell_memory.specs.layout.Cleared.{padded}
use Rattle.admission.specs.Admits.{asked_rules, early_rules, late_outline, Admits}
use Rattle.admission.specs.Slices.{Slices, slices, room_of}
use Rattle.admission.specs.Admission.{SlicesAdmission, table_in, TryableFans, FanAdmission, OutlineAdmission, BuildAdmission}
use Rattle.admission.specs.laws.Outlined.{outline_keep, long_of, same_vertices, same_indexes, same_offsets, same_counts}

-- ---- how the number comes about
module _ {tri he : List ℕ} {sites : ℕ} {w : List ℕ} (t : TryableFans tri he sites w) {v : List Float} {ix off c : List ℕ} where
  -- it is known to hold
  pub fans_known : Fan tri he (leftmost_of tri he sites) → FanAdmission tri he sites (slices w v ix off c) (slices w v ix off c) 0
  unfolding at_exit
  fans_known f = record { number = all_keep (λ s l e h q. rw (← q) (f e h)) nothing; work = refl; vertices = refl; indexes = refl; offsets = refl; counts = refl }

  module _ {w' : List ℕ} {r : ℕ} (a : FanAnswer tri he sites w w' r) where
    pub fans_hold : sites ≤ r → FanAdmission tri he sites (slices w v ix off c) (slices w' v ix off c) 0
    unfolding at_exit
    fans_hold l = record {
      number = all_keep (first_all a.first l) nothing;
      work = a.table l ∙ sym t.table;
      vertices = refl;
      indexes = refl;
      offsets = refl;
      counts = refl;
    }

    pub fans_broken : r < sites → {v' : List Float} {w'' ix' off' c' : List ℕ} → length w' ≡ length w → w'' ≡ replicate (length w') EMPTY → v' ≡ padded (length v) zero []
        → ix' ≡ padded (length ix) EMPTY [] → off' ≡ padded (length off) EMPTY [] → c' ≡ replicate (length c) EMPTY
        → FanAdmission tri he sites (slices w v ix off c) (slices w'' v' ix' off' c') refused_fan
    unfolding at_exit
    fans_broken l long qw qv qi qo qc = record {
      number = offends a.first l;
      work = qw ∙ ap (λ k. replicate k EMPTY) long;
      vertices = qv ∙ rw sub-zero;
      indexes = qi ∙ rw sub-zero;
      offsets = qo ∙ rw sub-zero;
      counts = qc;
    }

-- where it holds the slices are as they were
pub fans_kept : {Number : ℕ → Type 0} {old new : Slices} {k : ℕ} → SlicesAdmission Number old.work old new k → k ≡ 0 → new ≡ old
fans_kept {old = old} {k = k} f y =
    let l = lt-ltb k refused_triangle (omega arith) in
    let w = f.work ∙ exit_made EMPTY old.work old.work k y in
    let v = rw l at f.vertices in
    let x = rw l at f.indexes in
    let o = rw l at f.offsets in
    let c = rw l at f.counts in
    λ i. slices (w i) (v i) (x i) (o i) (c i)

-- ---- after the rules up to 9
module _ {m : Mesh} {asked : ℕ} {old mid : Slices} {r : ℕ} (a : OutlineAdmission m asked old mid r) where
  -- what they refuse is refused
  pub outline_refused : r ≢ 0 → BuildAdmission m asked old mid r
  outline_refused n = record {
    number = record { found = finds_first (reads number_of (fan_rules m.triangles m.halfedges (site_count m.sites))) n a.number.found };
    work = a.work;
    vertices = a.vertices;
    indexes = a.indexes;
    offsets = a.offsets;
    counts = a.counts;
  }

  module _ (z : r ≡ 0) {told new : Slices} {k : ℕ} (f : FanAdmission m.triangles m.halfedges (site_count m.sites) told new k) where
    number : Admits m (room_of m old) (asked_rules asked) k
    number = record {
      found = finds_after (early_rules m.sites (length m.triangles) (length m.halfedges) (length m.hull) (room_of m old) asked ++ late_outline m)
          (outline_keep a.number z) f.number;
    }

    -- it holds: the slices are those that the rules up to 9 left, whatever has come into them since
    pub fans_whole : k ≡ 0 → BuildAdmission m asked old mid k
    fans_whole y =
        let q : k ≡ r = y ∙ sym z in
        record { number = number; work = rw q a.work; vertices = rw q a.vertices; indexes = rw q a.indexes; offsets = rw q a.offsets; counts = rw q a.counts }

    module _ (n : k ≢ 0) where
      late : refused_triangle ≤ k
      late = finds_answers (λ j. j ≢ 0 → refused_triangle ≤ j) (λ d. absurd (d refl)) ((λ s d. omega arith), tt) f.number n

      cleared : {A : Type 0} (blank : A) {l : List A} (t o : List A) → l ≡ when_refused blank t k → length t ≡ length o → l ≡ when_refused blank o k
      cleared blank t o p e = rw (le-ltb k refused_triangle late) ((rw (le-ltb k refused_triangle late) at p) ∙ ap (λ j. replicate j blank) e)

      -- it is broken: each slice is cleared, as long as it was lent
      pub fans_refused : length told.work ≡ length old.work → length told.vertices ≡ length old.vertices → length told.indexes ≡ length old.indexes
          → length told.offsets ≡ length old.offsets → length told.counts ≡ length old.counts → BuildAdmission m asked old new k
      fans_refused lw lv li lo lc = record {
        number = number;
        work = f.work ∙ exit_blank EMPTY told.work told.work k late ∙ ap (λ j. replicate j EMPTY) lw ∙ sym (exit_blank EMPTY (table_in m old) old.work k late);
        vertices = cleared zero told.vertices old.vertices f.vertices lv;
        indexes = cleared EMPTY told.indexes old.indexes f.indexes li;
        offsets = cleared EMPTY told.offsets old.offsets f.offsets lo;
        counts = cleared EMPTY told.counts old.counts f.counts lc;
      }

-- tried at once
pub fans_after : {m : Mesh} {asked : ℕ} {old mid new : Slices} {r k : ℕ} → OutlineAdmission m asked old mid r → r ≡ 0
    → FanAdmission m.triangles m.halfedges (site_count m.sites) mid new k → BuildAdmission m asked old new k
fans_after {m} {asked} {old} {new = new} {k = k} a z f =
    ⊎_elim
    (λ y. subst (λ (s : Slices). BuildAdmission m asked old s k) (sym (fans_kept f y)) (fans_whole a z f y))
    (λ n. fans_refused a z f n (long_of a z) (ap length (same_vertices a z)) (ap length (same_indexes a z)) (ap length (same_offsets a z)) (ap length (same_counts a z)))
    (eq_or_ne k 0)
