-- A half-edge passed by for want of a mark. The definition's try there changes nothing, or it is at the table entry of a site with every circumcenter round it inside:
-- then it sets that site's cell to its ring, and nothing else.
use Rattle.std.specs.Prelude.{◌≡◌, refl, Bool, true, false, List, [], ◌⊎◌, ◌≢◌, ℕ, ◌/◌, ◌<◌, length, get_or, set}
use Rattle.std.proofs.Common.{ap, ◌∙◌, inl, inr, ⊎_elim, arith}
use Rattle.base.specs.common.laws.Decide.{eq_or_ne, lt_or_ge}
use Rattle.base.specs.numbers.Numbers.{EMPTY}
use Rattle.mesh.specs.Mesh.{next_of, end_of, pair_of}
use Rattle.mesh.specs.laws.Facts.{paired, next_in}
use Rattle.mesh.specs.laws.Next.{next_sum}
use Rattle.definition.specs.Fault.{ok}
use Rattle.definition.specs.Cell.{in_box}
use Rattle.definition.specs.Build.{CellState, is_empty}
use Rattle.definition.specs.Short.{cell_state}
use Rattle.build_laws.specs.laws.AllCells.{is_empty_lem}
use Rattle.build_laws.specs.laws.Runs.{true_false}
use Rattle.cell_builder.specs.declared.tried.Frame.{Frame}
use Rattle.cell_builder.specs.tried.SlicesInvariant.{Plan, plan, Ground, edge_try}
use Rattle.cell_builder.specs.tried.laws.Early.{InsideSite, inside_grown, early_cell, early_try}
use Rattle.cell_builder.specs.turned.Marks.{mark_of, Covers, MadeLast}
use Rattle.cell_builder.specs.turned.Turns.{SettledBefore}
use Rattle.cell_builder.specs.turned.laws.Onward.{Onward}
use Rattle.cell_builder.specs.turned.laws.OneTurn.{in_list, leftmost, there, in_sites, inner_nothing, hull_nothing}

module _ {tri he hull table : List ℕ} {f : Frame} {off : List ℕ} {g : Ground} {c : CellState} (a : Onward (plan tri he hull table f off) g c)
    (m : List ℕ) (covers : Covers f.bounds g.x.verts tri table m (length tri)) where
  abbrev nc : ℕ
  nc = length tri / 3

  abbrev w : Plan
  w = plan tri he hull table f off

  -- what round an early site is not outside is inside
  pub early_inside : {k : ℕ} → MadeLast he table m k → InsideSite f.bounds nc tri he g.x.verts k
  early_inside {k = k} early h l q = by (in_box f.bounds nc g.x.verts (h / 3)) refl
    where
      in_tri : next_of h < length tri
      in_tri = rw (← a.on.mesh.same) (next_in a.on.mesh l)

      one_triangle : next_of h / 3 ≡ h / 3
      one_triangle = omega (arith, next_sum h)

      by : (t : Bool) → in_box f.bounds nc g.x.verts (h / 3) ≡ t → in_box f.bounds nc g.x.verts (h / 3) ≡ true
      by true z = z
      by false z = absurd (covers (next_of h) in_tri (ap (in_box f.bounds nc g.x.verts) one_triangle ∙ z) (ap (λ (s : ℕ). mark_of m (get_or table s 0)) q ∙ early.unmarked))

  pub early_now : {k : ℕ} → MadeLast he table m k → InsideSite f.bounds nc tri he c.verts k
  early_now {k = k} early = inside_grown f.bounds nc tri he k (omega (arith, a.on.low)) a.grown (early_inside early)

  -- an early site is not idle, so once it is settled it has a cell
  pub early_filled : {k : ℕ} → k < g.sites → MadeLast he table m k → SettledBefore w g m (length tri) c → is_empty (get_or c.cells k []) ≡ false
  early_filled {k = k} l early b =
      let entry : get_or table k 0 < length tri = rw (← a.on.mesh.same) early.entry in
      let ends : end_of tri (get_or table k 0) ≡ k = ((leftmost a k l).some (λ z. omega (arith, a.on.mesh.small))).1 in
      ⊎_elim
      (λ z. z)
      (λ i. absurd (true_false (early_inside early (get_or table k 0) early.entry ends) (i (get_or table k 0) early.entry ends).outside))
      (b.inner k l early.inner entry)

  module _ {e : ℕ} (b : SettledBefore w g m e c) (h : e < length tri) where
    abbrev site : ℕ
    site = end_of tri e

    abbrev made : CellState
    made = cell_state c.verts c.owners (set c.cells site (early_cell he e)) c.steps

    -- the site's cell is made here
    pub record MadeHere : Type 0 where
      pub early : MadeLast he table m site
      pub entry : get_or table site 0 ≡ e
      pub blank : get_or c.cells site [] ≡ []
      pub try : edge_try w e c ≡ ok made

    at_entry : mark_of m e ≡ 0 → pair_of he (get_or table site 0) ≢ EMPTY → get_or table site 0 ≡ e → (edge_try w e c ≡ ok c) ⊎ MadeHere
    at_entry z n q = by (is_empty (get_or c.cells site [])) refl
      where
        early : MadeLast he table m site
        early = record { entry = rw q (in_list a h); inner = n; unmarked = rw q z }

        by : (x : Bool) → is_empty (get_or c.cells site []) ≡ x → (edge_try w e c ≡ ok c) ⊎ MadeHere
        by false y = inl (there a b h y)
        by true y = inr (record {
          early = early;
          entry = q;
          blank = is_empty_lem _ y;
          try = rw y (early_try f.bounds nc site c tri he (paired a.on.mesh) e (in_list a h) refl (early_now early));
        })

    pub quiet : mark_of m e ≡ 0 → (edge_try w e c ≡ ok c) ⊎ MadeHere
    quiet z =
        ⊎_elim
        (λ u. inl (hull_nothing a b h z u))
        (λ n. ⊎_elim
        (λ l. inl (inner_nothing a b h n l))
        (λ l. at_entry z n (omega (arith, (leftmost a site (in_sites a b h)).lowest n e h refl)))
        (lt_or_ge (get_or table site 0) e))
        (eq_or_ne (pair_of he (get_or table site 0)) EMPTY)
