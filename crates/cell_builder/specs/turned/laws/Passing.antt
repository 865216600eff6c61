-- What is passed by: before the next half-edge that is tried the definition on the half-edges left still makes the whole. What is not due changes no cell; at one that is
-- not marked an early cell may be made, which is left out from there on. What is tried does the same without the cells left out.
use Rattle.std.specs.Prelude.{◌≡◌, refl, Bool, true, false, List, [], ◌≢◌, ℕ, zero, suc, ◌+◌, ◌-◌, ◌/◌, ◌≤◌, ◌<◌, Float, length, get_or}
use Rattle.std.proofs.Common.{sym, ap, ◌∙◌, subst, ⊎_elim, arith}
use Rattle.mesh.specs.Mesh.{end_of}
use Rattle.definition.specs.declared.Fault.{Fault}
use Rattle.definition.specs.Fault.{Outcome, ok}
use Rattle.definition.specs.Build.{CellState, ring_from, clip_into, is_empty}
use Rattle.definition.specs.laws.Gives.{Gives, gives_ok, gives_map, picked}
use Rattle.build_laws.specs.laws.Runs.{then_ok}
use Rattle.cell_builder.specs.declared.finish.Progress.{Progress}
use Rattle.cell_builder.specs.tried.SlicesInvariant.{Plan, Ground, Fanned, edge_try, EdgesAmid}
use Rattle.cell_builder.specs.tried.laws.Early.{early_cell}
use Rattle.cell_builder.specs.turned.Marks.{mark_of, MadeLast, LeftOut}
use Rattle.cell_builder.specs.turned.Turns.{due_of, AllHaveEntries, PassedBy, NextDue, SettledBefore}
use Rattle.cell_builder.specs.turned.Loops.{edge_tries, MarksCover, EarlyBlank}
use Rattle.cell_builder.specs.turned.laws.Leaving.{left_more, left_onward, try_alike, left_one}
use Rattle.cell_builder.specs.turned.laws.Onward.{Onward, onward, OthersStay, others_stay}
use Rattle.cell_builder.specs.turned.laws.OneTurn.{leftmost, in_sites, due_inner, all_entries_lem, turn_skipped, turn_tried}
use Rattle.cell_builder.specs.turned.laws.Quiet.{MadeHere, quiet}
use Rattle.cell_builder.specs.turned.laws.TryLoops.{edges_from, edge_next, TriedAlike, RestLeft, EdgesAlong, edges_start}

module _ (w : Plan) (g : Ground) (fan : Fanned w g) (m : List ℕ) (marked : MarksCover w g m) (whole : Outcome Fault CellState) (p : Progress) (v : List Float) (ix : List ℕ) where
  abbrev Left : ℕ → Type 0
  Left e = RestLeft w g m whole e p v ix

  abbrev Out : ℕ → ℕ → Type 0
  Out e k = MadeLast w.halfedges w.table m k × (get_or w.table k 0 < e)

  module _ (e : ℕ) (l : e < length w.triangles) (t : Left e) where
    goes_on : (c : CellState) → edge_try w e t.cells ≡ ok c → SettledBefore w g m (e + 1) c → LeftOut w g (Out (e + 1)) c t.held → Left (e + 1)
    goes_on c q s o = record {
      cells = c;
      held = t.held;
      amid = t.amid;
      settled = s;
      left = o;
      blank = t.blank;
      makes = sym (then_ok (edges_from w (e + 1)) q) ∙ edge_next w e t.cells l ∙ t.makes;
    }

    later : LeftOut w g (Out (e + 1)) t.cells t.held
    later = left_more (λ k lk x. (x.0, omega (arith, x.1))) t.left

    not_due : due_of w.triangles w.halfedges w.table e ≡ false → Left (e + 1)
    not_due d = let o = turn_skipped (left_onward t.amid t.left) t.settled l d in goes_on t.cells o.0 o.1 later

    -- the cell that is made here is left out
    made_here : due_of w.triangles w.halfedges w.table e ≡ true → MadeHere (left_onward t.amid t.left) m marked t.settled l → Left (e + 1)
    made_here d h =
        let a = left_onward t.amid t.left in
        let site = end_of w.triangles e in
        let blank : get_or t.held.cells site [] ≡ [] =
        ⊎_elim (λ x. sym x ∙ h.blank) (λ x. absurd (omega (arith, x.0.1, h.entry))) (t.left.each site (in_sites a t.settled l)) in
        goes_on _ h.try (gives_ok (SettledBefore w g m (e + 1)) (turn_tried a t.settled l fan d) h.try)
        (left_one t.left t.amid.held.width (in_sites a t.settled l) (λ k z x. (x.0, omega (arith, x.1))) (early_cell w.halfedges e)
        (h.early, omega (arith, h.entry)) blank (ap (early_cell w.halfedges) (sym h.entry)))

    not_marked : mark_of m e ≡ 0 → Left (e + 1)
    not_marked z = by (due_of w.triangles w.halfedges w.table e) refl
      where
        by : (x : Bool) → due_of w.triangles w.halfedges w.table e ≡ x → Left (e + 1)
        by false d = not_due d
        by true d =
            let a = left_onward t.amid t.left in
            ⊎_elim
            (λ q. goes_on t.cells q (gives_ok (SettledBefore w g m (e + 1)) (turn_tried a t.settled l fan d) q) later)
            (λ h. made_here d h)
            (quiet a m marked t.settled l z)

    pass_one : PassedBy w.triangles w.halfedges w.table m e → Left (e + 1)
    pass_one d = ⊎_elim not_due not_marked d

    -- what is due and marked is no early site's
    pub fits : due_of w.triangles w.halfedges w.table e ≡ true → (mark_of m e ≢ 0) → TriedAlike w g m e t.cells t.held
    fits d n = record {
      alike = try_alike t.left t.amid.held.width e inside (⊎_elim (λ x. x) (λ x. absurd (not_early x.0.0)) (t.left.each site inside));
      settled = turn_tried a t.settled l fan d;
      blank = picked (Gives (EarlyBlank w g m)) (is_empty (get_or t.held.cells site [])) _ _
          (λ _. gives_map (OthersStay site t.held) (EarlyBlank w g m)
          (clip_into w.frame.bounds (length w.triangles / 3) site (ring_from w.halfedges e) t.held)
          (others_stay w.frame.bounds (length w.triangles / 3) site (ring_from w.halfedges e) t.held)
          (λ r stay k lk x. stay k (λ z. not_early (rw z at x)) ∙ t.blank k lk x))
          (λ _. t.blank);
    }
      where
        a : Onward w g t.cells
        a = left_onward t.amid t.left

        site : ℕ
        site = end_of w.triangles e

        inside : site < g.sites
        inside = in_sites a t.settled l

        not_early : MadeLast w.halfedges w.table m site → ⊥
        not_early x =
            let q : get_or w.table site 0 ≡ e = omega (arith, due_inner a t.settled l d x.inner, (leftmost a site inside).lowest x.inner e l refl) in
            n (rw q at x.unmarked)

  pass : (k e r : ℕ) → e + k ≡ r → r ≤ length w.triangles → ((j : ℕ) → e ≤ j → j < r → PassedBy w.triangles w.halfedges w.table m j) → Left e → Left r
  pass zero e r q l d t = let z : e ≡ r = omega arith in subst Left z t
  pass (suc k) e r q l d t = pass k (e + 1) r (omega arith) l (λ j lo hi. d j (omega arith) hi) (pass_one e (omega arith) t (d e (omega arith) (omega arith)))

module _ (w : Plan) (m : List ℕ) (p₀ : Progress) (v₀ : List Float) (ix₀ : List ℕ) where
  module _ (e r : ℕ) (p : Progress) (v : List Float) (ix : List ℕ) (next : NextDue w.triangles w.halfedges w.table m e r) where
    pub edges_pass : EdgesAlong w m p₀ v₀ ix₀ e p v ix → EdgesAlong w m p₀ v₀ ix₀ r p v ix
    edges_pass along g s am = (
      (along g s am).0,
      λ fan inner filled marked.
          pass w g fan m marked (edge_tries w s) p v ix (r - e) e r (omega (arith, next.low)) next.high next.passed ((along g s am).1 fan inner filled marked),
    )

  pub edges_first : (r : ℕ) → NextDue w.triangles w.halfedges w.table m 0 r → EdgesAlong w m p₀ v₀ ix₀ r p₀ v₀ ix₀
  edges_first r next = edges_pass 0 r p₀ v₀ ix₀ next (edges_start w m p₀ v₀ ix₀)

pub edges_entries : (w : Plan) (p : Progress) (v : List Float) (ix : List ℕ) → EdgesAmid w p v ix → AllHaveEntries w.triangles w.halfedges w.table
edges_entries w p v ix h = all_entries_lem (onward h.amid)

-- what is tried
pub tried_fits : (w : Plan) (m : List ℕ) (e : ℕ) (p : Progress) (v : List Float) (ix : List ℕ) → e < length w.triangles
    → (due_of w.triangles w.halfedges w.table e ≡ true) × (mark_of m e ≢ 0)
    → (g : Ground) (s : CellState) (o : Outcome Fault CellState) → Fanned w g → MarksCover w g m → (a : RestLeft w g m o e p v ix) → TriedAlike w g m e a.cells a.held
tried_fits w m e p v ix l d g s o fan marked a = fits w g fan m marked o p v ix e l a d.0 d.1
