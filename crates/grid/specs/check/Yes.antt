-- Theorem: yes is answered exactly where all rules hold, turns and circles among them; a triangle that is named is the lowest that offends; a half-edge that is
-- named is the lowest that offends, and all triangles turn as they must. A refusal has one of seven numbers, names neither, and leaves the work slice alone or empty.
use Rattle.std.specs.Prelude.{◌≡◌, refl, List, ◌⊎◌, ◌≢◌, ℕ, ◌/◌, ◌<◌, length, replicate, Ok, Err}
use Rattle.std.proofs.Common.{sym, ◌∙◌, inl, inr, ⊎_elim, arith}
use Rattle.std.proofs.Math.Path.{ap}
use Rattle.base.specs.common.Decide.{First}
use Rattle.base.specs.common.Refusals.{Keep, Judged, Finds}
use Rattle.base.specs.common.laws.Refusals.{finds_one, finds_none, finds_keep, finds_answers, finds_split}
use Rattle.base.specs.numbers.Numbers.{EMPTY}
use Rattle.mesh_check.specs.whole.AtExit.{at_exit}
use Rattle.base.specs.declared.refusal.Refusal.{Refusal}
use Rattle.grid.specs.declared.scan.GridFault.TheVariants.{Refused}
use Rattle.grid.specs.scan.Judged.{GridAnswer, TurnAt, CircleAt, judge_rules, grid_number, grid_kind, grid_place}
use Rattle.grid.specs.check.Promise.{GridMesh, refusing, grid_rules, grid_work, GridChecks}

module _ (m : GridMesh) (old new : List ℕ) (r k p : ℕ) (x : GridChecks m old new r k p) where
  -- yes: all rules hold
  pub yes_holds : k ≡ 0 → Keep (grid_rules m (length old))
  yes_holds z = finds_keep (λ a. grid_kind a ≡ 0) (
    λ _ h. omega arith,
    (
      λ _ h. omega arith,
      (
        λ _ h. omega arith,
        (
          λ _ h. omega arith,
          (
            λ _ h. omega arith,
            (
              λ _ h. omega arith,
              (
                λ _ h. omega arith,
                (λ _ h. omega arith, (λ _ h. omega arith, (λ _ h. omega arith, tt))),
              ),
            ),
          ),
        ),
      ),
    ),
  )
      (sym x.kind_is ∙ z) x.found

  -- and back
  pub holds_yes : Keep (grid_rules m (length old)) → (r ≡ 0) × (k ≡ 0) × (p ≡ EMPTY)
  holds_yes h =
      let e = finds_one x.found (finds_none h) in
      (x.number ∙ ap grid_number e, x.kind_is ∙ ap grid_kind e, x.at_place ∙ ap grid_place e)

  -- the numbers that a refusal can have
  abbrev pub OwnNumber : ℕ → Type 0
  OwnNumber n = (n ≡ 1) ⊎ ((n ≡ 2) ⊎ ((n ≡ 22) ⊎ ((n ≡ 7) ⊎ ((n ≡ 8) ⊎ ((n ≡ 9) ⊎ (n ≡ 10))))))

  -- a refusal names nothing
  abbrev Told : GridAnswer → Type 0
  Told a = grid_number a ≢ 0 → OwnNumber (grid_number a) × (grid_kind a ≡ EMPTY) × (grid_place a ≡ EMPTY)

  told : Told x.answer
  told = finds_answers Told (λ n. absurd (n refl)) (
    λ _ _. (inl refl, refl, refl),
    (
      λ _ _. (inr (inl refl), refl, refl),
      (
        λ _ _. (inr (inr (inl refl)), refl, refl),
        (
          λ _ _. (inr (inr (inr (inl refl))), refl, refl),
          (
            λ _ _. (inr (inr (inr (inr (inl refl)))), refl, refl),
            (
              λ _ _. (inr (inr (inr (inr (inr (inl refl))))), refl, refl),
              (
                λ _ _. (inr (inr (inr (inr (inr (inl refl))))), refl, refl),
                (λ _ _. (inr (inr (inr (inr (inr (inr refl))))), refl, refl), (λ _ n. absurd (n refl), (λ _ n. absurd (n refl), tt))),
              ),
            ),
          ),
        ),
      ),
    ),
  )
      x.found

  pub refused_names : r ≢ 0 → OwnNumber r × (k ≡ EMPTY) × (p ≡ EMPTY)
  refused_names n = let t = told (λ h. n (x.number ∙ h)) in (rw x.number t.0, x.kind_is ∙ t.1, x.at_place ∙ t.2)

  -- the work slice after 1, 2 and 22, and after 7 to 10
  pub work_kept : (r ≡ 1) ⊎ ((r ≡ 2) ⊎ (r ≡ 22)) → new ≡ old
  unfolding grid_work at_exit
  work_kept (inl e) = x.work ∙ ap (grid_work m old) e
  work_kept (inr (inl e)) = x.work ∙ ap (grid_work m old) e
  work_kept (inr (inr e)) = x.work ∙ ap (grid_work m old) e

  pub work_cleared : (r ≡ 7) ⊎ ((r ≡ 8) ⊎ ((r ≡ 9) ⊎ (r ≡ 10))) → new ≡ replicate (length old) EMPTY
  unfolding grid_work at_exit
  work_cleared (inl e) = x.work ∙ ap (grid_work m old) e
  work_cleared (inr (inl e)) = x.work ∙ ap (grid_work m old) e
  work_cleared (inr (inr (inl e))) = x.work ∙ ap (grid_work m old) e
  work_cleared (inr (inr (inr e))) = x.work ∙ ap (grid_work m old) e

  -- what is named was judged
  abbrev Early : GridAnswer → Type 0
  Early a = (grid_kind a ≡ 1) ⊎ (grid_kind a ≡ 2) → ⊥

  early : (w : ℕ) {a : GridAnswer} → Finds (refusing m w) (Ok tt) a → Early a
  early w = finds_answers Early neither (
    λ _. neither',
    (
      λ _. neither',
      (
        λ _. neither',
        (
          λ _. neither',
          (
            λ _. neither',
            (
              λ _. neither',
              (
                λ _. neither',
                (λ _. neither', tt),
              ),
            ),
          ),
        ),
      ),
    ),
  )
    where
      neither : (◌≡◌ {A = ℕ} 0 1) ⊎ (◌≡◌ {A = ℕ} 0 2) → ⊥
      neither (inl h) = omega arith
      neither (inr h) = omega arith

      neither' : (EMPTY ≡ 1) ⊎ (EMPTY ≡ 2) → ⊥
      neither' (inl h) = omega arith
      neither' (inr h) = omega arith

  judged : (k ≡ 1) ⊎ (k ≡ 2) → Finds (judge_rules m.grid m.triangles m.halfedges) (Ok tt) x.answer
  judged h =
      ⊎_elim
      (λ y. absurd (early (length old) y.0 (⊎_elim (λ e. inl (sym x.kind_is ∙ e)) (λ e. inr (sym x.kind_is ∙ e)) h)))
      (λ y. y.1)
      (finds_split (refusing m (length old)) (judge_rules m.grid m.triangles m.halfedges) (
        λ _. other,
        (
          λ _. other,
          (
            λ _. other,
            (
              λ _. other,
              (λ _. other, (λ _. other, (λ _. other, (λ _. other, tt)))),
            ),
          ),
        ),
      ) x.found)
    where
      other : {r : Refusal} → ◌≡◌ {A = GridAnswer} (Err (Refused r)) (Ok tt) → ⊥
      other e = let z : EMPTY ≡ 0 = ap grid_kind e in omega arith

  -- a triangle that is named
  pub triangle_first : k ≡ 1 → First (TurnAt m.grid m.triangles) (length m.triangles / 3) p × (p < length m.triangles / 3)
  triangle_first e = go (judged (inl e)).judged
    where
      go : Judged (judge_rules m.grid m.triangles m.halfedges) (Ok tt) x.answer
          → First (TurnAt m.grid m.triangles) (length m.triangles / 3) p × (p < length m.triangles / 3)
      go (inl y) = let q : p ≡ y.0 = x.at_place ∙ ap grid_place y.3 in rw q (y.1, y.2)
      go (inr (h, inl y)) = let z : ◌≡◌ {A = ℕ} 2 1 = sym (ap grid_kind y.3) ∙ sym x.kind_is ∙ e in absurd (omega arith)
      go (inr (h, inr y)) = let z : ◌≡◌ {A = ℕ} 0 1 = sym (ap grid_kind y.1) ∙ sym x.kind_is ∙ e in absurd (omega arith)

  -- a half-edge that is named
  pub halfedge_first : k ≡ 2 → ((t : ℕ) → t < length m.triangles / 3 → TurnAt m.grid m.triangles t)
      × First (CircleAt m.grid m.triangles m.halfedges) (length m.triangles) p × (p < length m.triangles)
  halfedge_first e = go (judged (inr e)).judged
    where
      go : Judged (judge_rules m.grid m.triangles m.halfedges) (Ok tt) x.answer → ((t : ℕ) → t < length m.triangles / 3 → TurnAt m.grid m.triangles t)
          × First (CircleAt m.grid m.triangles m.halfedges) (length m.triangles) p × (p < length m.triangles)
      go (inl y) = let z : ◌≡◌ {A = ℕ} 1 2 = sym (ap grid_kind y.3) ∙ sym x.kind_is ∙ e in absurd (omega arith)
      go (inr (h, inl y)) = let q : p ≡ y.0 = x.at_place ∙ ap grid_place y.3 in rw q (h, y.1, y.2)
      go (inr (h, inr y)) = let z : ◌≡◌ {A = ℕ} 0 2 = sym (ap grid_kind y.1) ∙ sym x.kind_is ∙ e in absurd (omega arith)
