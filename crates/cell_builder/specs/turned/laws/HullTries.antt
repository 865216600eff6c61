-- What the tries at all hull places leave behind: the cells of other sites stay, and a hull site whose cell is empty is idle, as its own try put nothing and no later one is its own.
use Rattle.std.specs.Prelude.{◌≡◌, refl, Bool, true, false, List, [], ◌≢◌, get_or}
use Rattle.std.proofs.Common.{sym, ◌∙◌, inl, inr}
use Rattle.std.proofs.Math.Logic.{⊎_elim}
use Prim.Native.Nat.{ℕ, zero, suc, ◌+◌, ◌/◌, ◌≤◌, ◌<◌}
use Prim.{tt}
use native.Mathlib.Omega.{arith}
use Rattle.std.proofs.Math.ListN.{length}
use Rattle.base.specs.common.laws.Decide.{eq_or_ne}
use Rattle.base.specs.numbers.Numbers.{EMPTY}
use Rattle.mesh.specs.Mesh.{end_of, pair_of, leftmost_of}
use Rattle.mesh.specs.laws.Facts.{start_used, tab_used}
use Rattle.definition.specs.declared.Fault.{Fault}
use Rattle.definition.specs.Fault.{Outcome, ok, refused}
use Rattle.definition.specs.Build.{CellState, clip_hull, hull_ring, is_empty}
use Rattle.definition.specs.Measures.{share_of}
use Rattle.definition.specs.laws.Gives.{Gives, gives_map, gives_then}
use Rattle.build_laws.specs.laws.AllCells.{is_empty_lem, hull_share}
use Rattle.build_laws.specs.laws.CellsSoFar.{CellsSoFar, clip_into_lem}
use Rattle.cell_builder.specs.tried.SlicesInvariant.{Plan, Ground, Grounded, Fanned, hull_try}
use Rattle.cell_builder.specs.turned.Turns.{FullOrIdle}
use Rattle.cell_builder.specs.turned.laws.IdleSites.{idle_shrunk, hull_idle}
use Rattle.cell_builder.specs.turned.laws.Onward.{OthersStay}

-- from hull place i on, cells are empty
abbrev pub BlankFrom : List ℕ → ℕ → CellState → Type 0
BlankFrom hull i s = (j : ℕ) → i ≤ j → j < length hull → get_or s.cells (get_or hull j 0) [] ≡ []

-- site k stands at no hull place from i on
abbrev pub OffHull : Plan → ℕ → ℕ → Type 0
OffHull w k i = (j : ℕ) → i ≤ j → j < length w.hull → k ≢ get_or w.hull j 0

-- after the hull places from i on
pub record HullsDone (w : Plan) (g : Ground) (i : ℕ) (s r : CellState) : Type 0 where
  pub stay : (k : ℕ) → OffHull w k i → get_or r.cells k [] ≡ get_or s.cells k []
  pub idle : Fanned w g → (j : ℕ) → i ≤ j → j < length w.hull → pair_of w.halfedges (get_or w.table (get_or w.hull j 0) 0) ≡ EMPTY → FullOrIdle w g r (get_or w.hull j 0)

module _ (w : Plan) (g : Ground) {numbers indexes : ℕ} (on : Grounded w g numbers indexes) where
  abbrev Good : CellState → Type 0
  Good s = CellsSoFar w.frame.bounds (length w.triangles / 3) g.sites (share_of w.triangles w.hull) g.x.verts g.found g.x.steps s

  abbrev site : ℕ → ℕ
  site i = get_or w.hull i 0

  -- one place
  pub record PlaceDone (i : ℕ) (s t : CellState) : Type 0 where
    pub good : Good t
    pub others : OthersStay (site i) s t
    pub here : Fanned w g → pair_of w.halfedges (get_or w.table (site i) 0) ≡ EMPTY → FullOrIdle w g t (site i)

  module _ (i : ℕ) (s : CellState) (l : i < length w.hull) (good : Good s) where
    in_sites : site i < g.sites
    in_sites = (on.mesh.border.fresh i l).0

    abbrev entry : ℕ
    entry = get_or (leftmost_of w.triangles w.halfedges g.sites) (site i) 0

    there : (entry < length w.halfedges) × (end_of w.triangles entry ≡ site i)
    there = let e = on.mesh.border.edges i l in tab_used on.mesh (site i) in_sites (rw e.3 at (start_used on.mesh e.0 e.1))

    left : Fanned w g → (t : CellState) → hull_try w g i s ≡ ok t → pair_of w.halfedges (get_or w.table (site i) 0) ≡ EMPTY → (x : Bool) → is_empty (get_or t.cells (site i) []) ≡ x
        → FullOrIdle w g t (site i)
    left fan t q u false x = inl x
    left fan t q u true x =
        inr (idle_shrunk on.mesh w.frame.bounds (site i) (omega (arith, on.low)) good.grown
        (hull_idle on.mesh w.frame.bounds (site i) s entry there.0 there.1 fan in_sites refl (rw good.width in_sites) g.x.at i refl
        (rw on.table_is at u) (rw on.table_is at q) (is_empty_lem _ x)))

    place_done : get_or s.cells (site i) [] ≡ [] → Gives (PlaceDone i s) (hull_try w g i s)
    place_done blank =
        by (hull_try w g i s) refl
        (clip_into_lem w.frame.bounds (length w.triangles / 3) g.sites (share_of w.triangles w.hull) g.x.verts g.found g.x.steps on.low (site i)
        (omega (arith, in_sites, on.few_sites)) in_sites (hull_ring w.halfedges w.hull w.table g.x.at i)
        (rw on.table_is (hull_share on.mesh g.x.at i l)) s good blank)
      where
        by : (o : Outcome Fault CellState) → hull_try w g i s ≡ o → Gives (λ (r : CellState). Good r × OthersStay (site i) s r) o → Gives (PlaceDone i s) o
        by (ok t) q h = record { good = h.0; others = h.1; here = λ fan u. left fan t q u (is_empty (get_or t.cells (site i) [])) refl }
        by (refused x) q h = tt

  pub hulls_done : (n i : ℕ) (s : CellState) → i + n ≡ length w.hull → Good s → BlankFrom w.hull i s
      → Gives (HullsDone w g i s) (clip_hull w.frame.bounds (length w.triangles / 3) w.halfedges w.hull w.table g.x.at i n s)
  unfolding clip_hull
  hulls_done zero i s q good blank = record { stay = λ k o. refl; idle = λ fan j lo hi. absurd (omega arith) }
  hulls_done (suc n) i s q good blank =
      let l : i < length w.hull = omega arith in
      gives_then (PlaceDone i s) (HullsDone w g i s) (hull_try w g i s) _ (place_done i s l good (blank i (omega arith) l))
      (λ t p. gives_map (HullsDone w g (suc i) t) (HullsDone w g i s)
      (clip_hull w.frame.bounds (length w.triangles / 3) w.halfedges w.hull w.table g.x.at (suc i) n t)
      (hulls_done n (suc i) t (omega arith) p.good (λ j lo hi. p.others (site j) (distinct j lo hi) ∙ blank j (omega arith) hi))
      (λ r d. record {
        stay = λ k o. d.stay k (λ j lo hi. o j (omega arith) hi) ∙ p.others k (o i (omega arith) l);
        idle = λ fan j lo hi u.
            ⊎_elim
            (λ z. rw z (kept t r (d.stay (site i) (λ x lx hx y. distinct x lx hx (sym y))) (p.here fan (rw z at u))))
            (λ z. d.idle fan j (omega arith) hi u)
            (eq_or_ne j i);
      }))
    where
      distinct : (j : ℕ) → suc i ≤ j → j < length w.hull → site j ≢ site i
      distinct j lo hi z = (on.mesh.border.fresh j hi).1 i (omega arith) (sym z)

      kept : (t r : CellState) → get_or r.cells (site i) [] ≡ get_or t.cells (site i) [] → FullOrIdle w g t (site i) → FullOrIdle w g r (site i)
      kept t r q x = ⊎_elim (λ y. inl (rw q y)) (λ y. inr y) x
