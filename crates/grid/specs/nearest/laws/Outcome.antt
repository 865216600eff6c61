-- The whole check's answer with the work slice, and how it comes about: the hull is judged where the check on the grid says yes; the leftmost table tells
-- which sites are in use.
use Rattle.std.specs.Prelude.{◌≡◌, refl, List, [], ◌∷◌, ◌≢◌, ℕ, ◌-◌, ◌≤◌, ◌<◌, length, get_or, replicate, Ok, Err}
use Rattle.std.proofs.Common.{sym, ◌∙◌, subst, inl, inr, ⊎_elim, arith, length-append}
use Rattle.std.proofs.Math.Path.{ap}
use Rattle.base.specs.common.Refusals.{Keep, Judged, Finds, each, reads}
use Rattle.base.specs.common.laws.Refusals.{finds_first, finds_after, finds_reads, finds_answers, finds_split}
use Rattle.base.specs.numbers.Numbers.{EMPTY}
use Rattle.mesh.specs.Mesh.{Used, leftmost_of, leftmost_in}
use Rattle.mesh.specs.Accepted.{Topology}
use Rattle.mesh.specs.laws.Facts.{few_entries, few_on_hull, end_site, end_used, tab_cases, tab_used, tab_length}
use Rattle.mesh.specs.laws.Table.{longer_at}
use Rattle.mesh.specs.laws.Verdicts.{keep_topology}
use Rattle.mesh_check.specs.whole.AtExit.{at_exit}
use Rattle.base.specs.declared.refusal.Refusal.{Refusal}
use Rattle.grid.specs.declared.scan.GridFault.{GridFault}
use Rattle.grid.specs.declared.scan.GridFault.TheVariants.{Refused}
use Rattle.grid.specs.scan.Judged.{GridAnswer, judge_rules, grid_number}
use Rattle.grid.specs.check.Promise.{GridMesh, grid_sites, refusing, grid_rules, grid_work, GridChecks}
use Rattle.grid.specs.check.Yes.{yes_holds}
use Rattle.grid.specs.check.laws.Outcome.{unlike, GridSettled}
use Rattle.grid.specs.border.ShortForm.{HullVerdict, short_rules}
use Rattle.grid.specs.border.laws.Hulls.{HullSites}
use Rattle.grid.specs.declared.nearest.NearestFault.{NearestFault}
use Rattle.grid.specs.declared.nearest.NearestFault.TheVariants.{Grid}
use Rattle.grid.specs.nearest.Judged.{NearestAnswer, of_grid, of_hull, nearest_number}
use Rattle.grid.specs.nearest.Promise.{nearest_rules, use_rules}

pub record NearestSettled (m : GridMesh) (old new : List ℕ) (a : NearestAnswer) : Type 0 where
  pub found : Finds (nearest_rules m (length old)) (Ok tt) a
  pub accepted : nearest_number a ≡ 0 → Keep (refusing m (length old))
  pub work : new ≡ grid_work m old (nearest_number a)

hull_number : (h : HullVerdict) → nearest_number (of_hull h) ≡ 0
hull_number (Ok _) = refl
hull_number (Err f) = refl

module _ (m : GridMesh) (old new : List ℕ) where
  -- what the number 0 tells, whatever is judged
  abbrev Zero : GridAnswer → Type 0
  Zero a = grid_number a ≡ 0 → a ≡ Ok tt

  zero : (w : ℕ) {a : GridAnswer} → Finds (refusing m w) (Ok tt) a → Zero a
  zero w = finds_answers Zero (λ _. refl) (
    λ _ h. absurd (omega arith),
    (
      λ _ h. absurd (omega arith),
      (
        λ _ h. absurd (omega arith),
        (
          λ _ h. absurd (omega arith),
          (
            λ _ h. absurd (omega arith),
            (λ _ h. absurd (omega arith), (λ _ h. absurd (omega arith), (λ _ h. absurd (omega arith), tt))),
          ),
        ),
      ),
    ),
  )

  zero_accepted : (a : GridAnswer) → GridSettled m old new a → grid_number a ≡ 0 → Keep (refusing m (length old))
  zero_accepted a s z =
      ⊎_elim
      (λ y. absurd (y.1 (zero (length old) y.0 z)))
      (λ y. y.0)
      (finds_split (refusing m (length old)) (judge_rules m.grid m.triangles m.halfedges) (
        λ _. other,
        (
          λ _. other,
          (
            λ _. other,
            (
              λ _. other,
              (λ _. other, (λ _. other, (λ _. other, (λ _. other, tt)))),
            ),
          ),
        ),
      ) s.found)
    where
      other : {r : Refusal} → ◌≡◌ {A = GridAnswer} (Err (Refused r)) (Ok tt) → ⊥
      other = unlike

  -- ---- the check on the grid names something or refuses
  pub by_grid : (f : GridFault) → GridSettled m old new (Err f) → NearestSettled m old new (Err (Grid f))
  by_grid f s = record {
    found = finds_first (reads of_hull (short_rules m.grid m.hull)) unlike (finds_reads of_grid s.found);
    accepted = λ z. zero_accepted (Err f) s z;
    work = s.work;
  }

  -- ---- what of_grid makes of it
  pub handed : (a : GridAnswer) (f : NearestFault) → GridSettled m old new a → Err f ≡ of_grid a → NearestSettled m old new (Err f)
  handed (Ok _) f s q = absurd (unlike q)
  handed (Err g) f s q = rw q (by_grid g s)

  pub said_yes : (a : GridAnswer) → GridSettled m old new a → Ok tt ≡ of_grid a → GridSettled m old new (Ok tt)
  said_yes (Ok _) s q = s
  said_yes (Err g) s q = absurd (unlike (sym q))

  -- ---- it says yes
  module _ (s : GridSettled m old new (Ok tt)) where
    checks : GridChecks m old new 0 0 EMPTY
    checks = record { answer = Ok tt; found = s.found; number = refl; kind_is = refl; at_place = refl; work = s.work }

    hold : Keep (grid_rules m (length old))
    hold = yes_holds m old new _ _ _ checks refl

    refused_none : Keep (refusing m (length old))
    refused_none = zero_accepted (Ok tt) s refl

    mesh : Topology m.triangles m.halfedges m.hull (grid_sites m)
    mesh = let c = hold.0 in keep_topology _ _ _ _ c.threes c.same (few_entries c) refused_none.1.1.1

    pub ready : HullSites m.grid m.hull
    ready = record { within = hold.1.1.0; small = few_on_hull hold.0; sites = λ i l. (mesh.border.fresh i l).0 }

    pub by_hull : (h : HullVerdict) → Finds (short_rules m.grid m.hull) (Ok tt) h → NearestSettled m old new (of_hull h)
    by_hull h f = record {
      found = finds_after (reads of_grid (grid_rules m (length old))) hold (finds_reads of_hull f);
      accepted = λ _. refused_none;
      work = s.work ∙ ap (grid_work m old) (sym (hull_number h));
    }

-- ---- sites in use, by the table
pub record UnusedIn (number : ℕ) (table : List ℕ) (count r : ℕ) : Type 0 where
  pub told : number ≡ 0 → Finds (each (λ s. s) count (λ s. get_or table s 0 ≢ EMPTY) ∷ []) EMPTY r
  pub silent : number ≢ 0 → r ≡ EMPTY

module _ (m : GridMesh) (old new : List ℕ) (a : NearestAnswer) (s : NearestSettled m old new a) (z : nearest_number a ≡ 0) where
  kept : Keep (refusing m (length old))
  kept = s.accepted z

  topology : Topology m.triangles m.halfedges m.hull (grid_sites m)
  topology = let c = kept.0 in keep_topology _ _ _ _ c.threes c.same (few_entries c) kept.1.1.1

  table_is : new ≡ leftmost_in m.triangles m.halfedges (grid_sites m) (length old)
  unfolding grid_work at_exit
  table_is = s.work ∙ ap (grid_work m old) z

  pub room : (grid_sites m ≤ length new) × (grid_sites m ≤ 65536)
  room =
      let table = leftmost_of m.triangles m.halfedges (grid_sites m) in
      (subst (λ l. grid_sites m ≤ length l) (sym table_is) (rw (length-append table (replicate (length old - grid_sites m) EMPTY), tab_length topology) (omega arith)), kept.0.few_sites)

  module _ (v : ℕ) (l : v < grid_sites m) where
    entry : get_or new v 0 ≡ get_or (leftmost_of m.triangles m.halfedges (grid_sites m)) v 0
    entry =
        ap (λ t. get_or t v 0) table_is
        ∙ longer_at m.triangles m.halfedges (grid_sites m) (length old) kept.1.0 (λ e h. end_site topology e (rw topology.same h)) v l

    in_use : get_or new v 0 ≢ EMPTY → Used m.triangles v
    in_use n = ⊎_elim (λ h. absurd (n (entry ∙ h))) (λ h. subst (Used m.triangles) h.1 (end_used topology _ h.0)) (tab_cases topology v l)

    entered : Used m.triangles v → get_or new v 0 ≢ EMPTY
    entered u h = let t = (tab_used topology v l u).0 in omega (arith, t, topology.same, topology.small, sym entry ∙ h)

  pub unused_is : (r : ℕ) → Finds (each (λ s. s) (grid_sites m) (λ s. get_or new s 0 ≢ EMPTY) ∷ []) EMPTY r → Finds (use_rules m) EMPTY r
  unused_is r f = go f.judged
    where
      go : Judged (each (λ s. s) (grid_sites m) (λ s. get_or new s 0 ≢ EMPTY) ∷ []) EMPTY r → Finds (use_rules m) EMPTY r
      go (inl y) =
          let f = y.1 in
          record { judged = inl (y.0, record { within = f.within; before = λ k l. in_use k (omega (arith, f.within)) (f.before k l); at = λ l u. f.at l (entered _ l u) }, y.2, y.3) }
      go (inr y) = record { judged = inr (λ k l. in_use k l (y.0 k l), y.1) }
