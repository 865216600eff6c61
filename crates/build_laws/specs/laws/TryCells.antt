-- What the tries of a site have to do with its cell: a cell that is not empty was given by a try, and where a try gave one, no later try changes it.
use Rattle.std.specs.Prelude.{◌≡◌, Bool, true, false, List, [], ◌⊎◌, ◌≢◌, ℕ, suc, ◌/◌, ◌≤◌, ◌<◌, Float}
use Rattle.std.proofs.Math.Path.{refl}
use Rattle.std.proofs.Common.{sym, ap, ◌∙◌, inl, inr, arith, length-set, get_or-set_same, get_or-set_other}
use Rattle.std.proofs.Math.Logic.{⊎_elim}
use Rattle.std.proofs.Math.ListN.{length, get_or}
use Rattle.std.proofs.lemmas.List.{length-replicate}
use Rattle.base.specs.common.Pick.{pick}
use Rattle.base.specs.common.laws.Decide.{eq_or_ne}
use Rattle.plane.specs.declared.boxes.BoundingBox.{BoundingBox}
use Rattle.mesh.specs.Mesh.{end_of, leftmost_of}
use Rattle.mesh.specs.Accepted.{mesh, Accepted, site_count}
use Rattle.mesh.specs.laws.Facts.{topology, end_site}
use Rattle.definition.specs.declared.Fault.{Fault}
use Rattle.definition.specs.Fault.{Outcome, ok}
use Rattle.definition.specs.Cell.{Entry, RingPart, clip_cell}
use Rattle.definition.specs.Build.{Extensions, ring_from, hull_ring, CellState, clip_into, is_empty}
use Rattle.build_laws.specs.Tries.{no_cells, HullTo, RestTo, AllExtended, TryOf, at_place, at_halfedge, TryGives}
use Rattle.build_laws.specs.laws.AllCells.{is_empty_lem, no_cell}
use Rattle.build_laws.specs.laws.Runs.{true_false, ok_same, run, run_step, run_keeps}
use Rattle.build_laws.specs.laws.TryRuns.{hull_step, hull_run, rest_step, rest_run, rest_tries, into_ok}

-- ---- one try

abbrev cell_at : ℕ → CellState → List Entry
cell_at v s = get_or s.cells v []

module _ (b : BoundingBox) (nc site : ℕ) (ring : List ℕ) (s : CellState) {r : CellState} (h : clip_into b nc site ring s ≡ ok r) where
  into_length : length r.cells ≡ length s.cells
  into_length = let w = into_ok b nc site ring s h in rw w.2 (length-set s.cells site w.0.new)

  into_site : site < length s.cells → (c : RingPart) × (clip_cell b nc site ring s.verts s.owners ≡ ok c) × (cell_at site r ≡ c.new)
  into_site l = let w = into_ok b nc site ring s h in (w.0, w.1, ap (cell_at site) w.2 ∙ get_or-set_same s.cells site w.0.new [] l)

  into_other : (v : ℕ) → v ≢ site → cell_at v r ≡ cell_at v s
  into_other v n = let w = into_ok b nc site ring s h in ap (cell_at v) w.2 ∙ get_or-set_other s.cells site v w.0.new [] n

-- a turn of the rest: a try, or nothing
data Turn (b : BoundingBox) (nc : ℕ) (tri he : List ℕ) (e : ℕ) (s r : CellState) : Type 0 where
  tries : cell_at (end_of tri e) s ≡ [] → clip_into b nc (end_of tri e) (ring_from he e) s ≡ ok r → Turn b nc tri he e s r
  passes : is_empty (cell_at (end_of tri e) s) ≡ false → r ≡ s → Turn b nc tri he e s r

turn : (b : BoundingBox) (nc : ℕ) (tri he : List ℕ) (e : ℕ) (s r : CellState) → rest_step b nc tri he e s ≡ ok r → Turn b nc tri he e s r
turn b nc tri he e s r h = by (is_empty (cell_at (end_of tri e) s)) refl h
  where
    by : (t : Bool) → is_empty (cell_at (end_of tri e) s) ≡ t → pick t (λ _. clip_into b nc (end_of tri e) (ring_from he e) s) (λ _. ok s) ≡ ok r → Turn b nc tri he e s r
    by true q g = tries (is_empty_lem _ q) g
    by false q g = passes q (sym (ok_same g))

-- ---- all of them

module _ {sites : List Float} {tri he hull : List ℕ} (a : Accepted (mesh sites tri he hull)) (b : BoundingBox) (x : Extensions) (g : AllExtended (mesh sites tri he hull) b x) where
  abbrev table : List ℕ
  table = leftmost_of tri he (site_count sites)

  abbrev on_hull : ℕ → CellState → Outcome Fault CellState
  on_hull = hull_step b (length tri / 3) he hull table x.at

  abbrev on_rest : ℕ → CellState → Outcome Fault CellState
  on_rest = rest_step b (length tri / 3) tri he

  abbrev begin : CellState
  begin = no_cells (mesh sites tri he hull) b x

  abbrev Wide : CellState → Type 0
  Wide s = length s.cells ≡ site_count sites

  hull_wide : (k : ℕ) {s : CellState} → run on_hull k begin ≡ ok s → Wide s
  unfolding run
  hull_wide k h =
      run_keeps on_hull (λ i t. Wide t) 0 begin refl (length-replicate (site_count sites) []) k (omega arith)
      (λ i u v lo hi at e w. into_length b (length tri / 3) (get_or hull i 0) _ u e ∙ w) h

  rest_wide : (h : CellState) → Wide h → (k : ℕ) {s : CellState} → run on_rest k h ≡ ok s → Wide s
  unfolding run
  rest_wide h wide k e =
      run_keeps on_rest (λ i t. Wide t) 0 h refl wide k (omega arith) (λ i u v lo hi at e w. by (turn b (length tri / 3) tri he i u v e) w) e
    where
      by : {i : ℕ} {u v : CellState} → Turn b (length tri / 3) tri he i u v → Wide u → Wide v
      by {i} {u} (tries q e) w = into_length b (length tri / 3) (end_of tri i) _ u e ∙ w
      by (passes q e) w = rw e w

  -- a try of site v gave this cell
  abbrev pub Gave : ℕ → List Entry → Type 0
  Gave v cell = (ring : List ℕ) × (s : CellState) × (c : RingPart) × TryOf (mesh sites tri he hull) b v ring s × TryGives tri b v ring s c × (c.new ≡ cell)

  abbrev Got : ℕ → CellState → Type 0
  Got v s = (cell_at v s ≡ []) ⊎ Gave v (cell_at v s)

  gave : (v site : ℕ) (ring : List ℕ) (u w : CellState) (c : RingPart) → v ≡ site → TryOf (mesh sites tri he hull) b v ring u → TryGives tri b site ring u c
      → cell_at site w ≡ c.new → Got v w
  gave v site ring u w c q t gives is = inr (ring, u, c, t, rw q gives, sym (rw q is))

  hull_got : (v k : ℕ) → k ≤ length hull → {s : CellState} → run on_hull k begin ≡ ok s → Got v s
  unfolding run
  hull_got v k most h =
      run_keeps on_hull (λ i t. Got v t) 0 begin refl (inl (no_cell (site_count sites) v)) k (omega arith)
      (λ i u w lo hi at e p.
      ⊎_elim
      (λ q.
      let l = ((topology a).border.fresh i (omega arith)).0 in
      let c = into_site b (length tri / 3) (get_or hull i 0) _ u e (omega (arith, l, hull_wide i at)) in
      let t = at_place x g i (omega arith) (hull_run b (length tri / 3) he hull table x.at i begin ∙ at) q refl in
      gave v (get_or hull i 0) (hull_ring he hull table x.at i) u w c.0 q t c.1 c.2)
      (λ n. rw (into_other b (length tri / 3) (get_or hull i 0) _ u e v n) p)
      (eq_or_ne v (get_or hull i 0)))
      h

  module _ (h : CellState) (all : HullTo (mesh sites tri he hull) b x (length hull) h) where
    hulled : run on_hull (length hull) begin ≡ ok h
    hulled = sym (hull_run b (length tri / 3) he hull table x.at (length hull) begin) ∙ all

    pub rest_got : (v k : ℕ) → k ≤ length tri → {s : CellState} → run on_rest k h ≡ ok s → Got v s
    unfolding run
    rest_got v k most e₀ =
        run_keeps on_rest (λ i t. Got v t) 0 h refl (hull_got v (length hull) (omega arith) hulled) k (omega arith)
        (λ i u w lo hi at e p. by i u w (omega arith) at (turn b (length tri / 3) tri he i u w e) p) e₀
      where
        by : (i : ℕ) (u w : CellState) → i < length tri → run on_rest i h ≡ ok u → Turn b (length tri / 3) tri he i u w → Got v u → Got v w
        by i u w l at (passes q e) p = rw e p
        by i u w l at (tries empty e) p =
            ⊎_elim
            (λ q.
            let s : end_of tri i < site_count sites = end_site (topology a) i (omega (arith, (topology a).same)) in
            let c = into_site b (length tri / 3) (end_of tri i) _ u e (omega (arith, s, rest_wide h (hull_wide (length hull) hulled) i at)) in
            let t = at_halfedge x g h all i l (rest_run b (length tri / 3) tri he i h ∙ at) (rw q empty) q refl in
            gave v (end_of tri i) (ring_from he i) u w c.0 q t c.1 c.2)
            (λ n. rw (into_other b (length tri / 3) (end_of tri i) _ u e v n) p)
            (eq_or_ne v (end_of tri i))

    -- a cell that is there stays
    rest_stays : (v j k : ℕ) {r s : CellState} → run on_rest j h ≡ ok r → is_empty (cell_at v r) ≡ false → j ≤ k → run on_rest k h ≡ ok s → cell_at v s ≡ cell_at v r
    rest_stays v j k {r} at there l e₀ =
        run_keeps on_rest (λ i t. cell_at v t ≡ cell_at v r) j h at refl k l (λ i u w lo hi on e p. by i u w (turn b (length tri / 3) tri he i u w e) p) e₀
      where
        by : (i : ℕ) (u w : CellState) → Turn b (length tri / 3) tri he i u w → cell_at v u ≡ cell_at v r → cell_at v w ≡ cell_at v r
        by i u w (passes q e) p = rw e p
        by i u w (tries empty e) p =
            ⊎_elim
            (λ q. let o : cell_at v u ≡ [] = rw q empty in let z : is_empty (cell_at v r) ≡ true = ap is_empty (sym p ∙ o) in absurd (true_false z there))
            (λ n. into_other b (length tri / 3) (end_of tri i) _ u e v n ∙ p)
            (eq_or_ne v (end_of tri i))

    hull_stays : (i : ℕ) {r : CellState} → i < length hull → run on_hull (suc i) begin ≡ ok r → cell_at (get_or hull i 0) h ≡ cell_at (get_or hull i 0) r
    hull_stays i {r} l at =
        run_keeps on_hull (λ j t. cell_at (get_or hull i 0) t ≡ cell_at (get_or hull i 0) r) (suc i) begin at refl (length hull) (omega arith)
        (λ j u w lo hi on e p. into_other b (length tri / 3) (get_or hull j 0) _ u e (get_or hull i 0) (((topology a).border.fresh j hi).1 i (omega arith)) ∙ p) hulled

    -- a try of a build that went through: what it gave is nothing, or the cell
    module _ (s : CellState) (rest : RestTo (mesh sites tri he hull) b h (length tri) s) where
      rested : run on_rest (length tri) h ≡ ok s
      rested = sym (rest_run b (length tri / 3) tri he (length tri) h) ∙ rest

      abbrev TryTold : ℕ → List ℕ → CellState → Type 0
      TryTold v ring u = (c : RingPart) × TryGives tri b v ring u c × ((c.new ≡ []) ⊎ (c.new ≡ cell_at v s))

      told : (v : ℕ) (ring : List ℕ) (u t : CellState) (c : RingPart) → TryGives tri b v ring u c → cell_at v t ≡ c.new → (is_empty (cell_at v t) ≡ false → cell_at v s ≡ cell_at v t)
          → TryTold v ring u
      told v ring u t c gives is stays = by (is_empty (cell_at v t)) refl
        where
          by : (o : Bool) → is_empty (cell_at v t) ≡ o → TryTold v ring u
          by true e = (c, gives, inl (sym is ∙ is_empty_lem _ e))
          by false e = (c, gives, inr (sym is ∙ sym (stays e)))

      pub place_told : (i : ℕ) (u : CellState) → i < length hull → run on_hull i begin ≡ ok u → TryTold (get_or hull i 0) (hull_ring he hull table x.at i) u
      unfolding run
      place_told i u l at =
          let v = get_or hull i 0 in
          let t = run_step on_hull (length hull) i begin l at hulled in
          let c = into_site b (length tri / 3) v _ u t.1 (omega (arith, ((topology a).border.fresh i l).0, hull_wide i at)) in
          let kept = hull_stays i l t.2 in
          told v _ u t.0 c.0 c.1 c.2 (λ e. rest_stays v 0 (length tri) refl (ap is_empty kept ∙ e) (omega arith) rested ∙ kept)

      pub halfedge_told : (e : ℕ) (u : CellState) → e < length tri → run on_rest e h ≡ ok u → cell_at (end_of tri e) u ≡ [] → TryTold (end_of tri e) (ring_from he e) u
      halfedge_told e u l at empty =
          let v = end_of tri e in
          let t = run_step on_rest (length tri) e h l at rested in
          let w = sym (rest_tries b (length tri / 3) tri he e u empty) ∙ t.1 in
          let in_range : v < site_count sites = end_site (topology a) e (omega (arith, (topology a).same)) in
          let c = into_site b (length tri / 3) v (ring_from he e) u w (omega (arith, in_range, rest_wide h (hull_wide (length hull) hulled) e at)) in
          told v _ u t.0 c.0 c.1 c.2 (λ f. rest_stays v (suc e) (length tri) t.2 f (omega arith) rested)
