-- The rules of mending on slices that are long enough, with the rule on a box that is put in between 1 and all others.
use Rattle.std.specs.Prelude.{◌≡◌, Bool, true, false, List, [], ◌∷◌, ◌++◌, ◌≢◌, ℕ, ◌/◌, Float, length, Err}
use Rattle.std.proofs.Math.Path.{refl}
use Rattle.std.proofs.Common.{sym, ◌∙◌, inl, inr, ⊎_elim, arith}
use Rattle.base.specs.common.Refusals.{Rule, once, each, reads, Judged, Finds}
use Rattle.base.specs.numbers.Numbers.{refused_count, refused_room, refused_box}
use Rattle.mesh.specs.declared.MeshFault.TheVariants.{Triangle}
use Rattle.mesh.specs.Mesh.{SoundAt}
use Rattle.mesh.specs.Faults.{number_of, coordinate_rules}
use Rattle.mesh.specs.Accepted.{Counted, mesh, site_count}
use Rattle.mending.specs.Mending.{work_rules, mend_rules}
use Rattle.form.specs.Form.{Outline}
use Rattle.mend.specs.boxes.Option.{IsRecord, IsOption, outline_of, keeps_box, number_with}
use Rattle.mend.specs.boxes.laws.Option.{number_none, number_kept, number_first, number_box}
use Rattle.mend.specs.Printed.{put_rules}

-- the second rule of a list is kept, and another that is kept comes in its place
judged_kept : (rest : List (Rule ℕ)) (none r a c d : ℕ) (P Q S : Type 0) → Q → S → Judged (once a P ∷ once c Q ∷ rest) none r → Judged (once a P ∷ once d S ∷ rest) none r
judged_kept rest none r a c d P Q S q s (inl x) = inl x
judged_kept rest none r a c d P Q S q s (inr (p, inl x)) = absurd (x.0 q)
judged_kept rest none r a c d P Q S q s (inr (p, inr (k, j))) = inr (p, inr (s, j))

-- after 0 all rules are kept
judged_through : (rest : List (Rule ℕ)) (a c d : ℕ) (P Q S : Type 0) → a ≢ 0 → c ≢ 0 → S → Judged (once a P ∷ once c Q ∷ rest) 0 0 → Judged (once a P ∷ once d S ∷ rest) 0 0
judged_through rest a c d P Q S m n s (inl x) = absurd (m (sym x.1))
judged_through rest a c d P Q S m n s (inr (p, inl x)) = absurd (n (sym x.1))
judged_through rest a c d P Q S m n s (inr (p, inr (k, j))) = inr (p, inr (s, j))

module _ (sites : List Float) (tri he hull : List ℕ) where
  abbrev rest : List (Rule ℕ)
  rest = reads number_of (coordinate_rules sites ++ each (λ t. Err (Triangle t)) (length tri / 3) (SoundAt tri (site_count sites)) ∷ []) ++ work_rules tri (site_count sites)

  abbrev Counts : Type 0
  Counts = Counted (length sites) (length tri) (length he) (length hull)

  -- no later rule has the number 1
  later : (r : ℕ) → Judged rest 0 r → r ≢ refused_count
  later r (inl (k, f, l, e)) z = omega (arith, e, z)
  later r (inr (p, inl (k, f, l, e))) z = omega (arith, e, z)
  later r (inr (p, inr (q, inl (n, e)))) z = omega (arith, e, z)
  later r (inr (p, inr (q, inr (s, inl (n, e))))) z = omega (arith, e, z)
  later r (inr (p, inr (q, inr (s, inr (t, inl (k, f, l, e)))))) z = omega (arith, e, z)
  later r (inr (p, inr (q, inr (s, inr (t, inr (u, e)))))) z = omega (arith, e, z)

  module _ (first : List ℕ) (Q : Type 0) (q : Q) where
    abbrev Put : ℕ → Type 0
    Put n = Judged (once refused_count Counts ∷ once refused_box (keeps_box (outline_of first) ≡ true) ∷ rest) 0 n

    abbrev Old : ℕ → Type 0
    Old n = Judged (once refused_count Counts ∷ once refused_room Q ∷ rest) 0 n

    kept : (r : ℕ) → keeps_box (outline_of first) ≡ true → number_with first r ≡ r → Old r → Put (number_with first r)
    kept r k e x = rw e (judged_kept rest 0 r refused_count refused_room refused_box Counts Q (keeps_box (outline_of first) ≡ true) q k x)

    broke : (r : ℕ) → length first ≡ 33 → keeps_box (outline_of first) ≡ false → Old r → Put (number_with first r)
    broke r l k (inl x) = rw (number_first first r l k x.1) (inl x)
    broke r l k (inr (p, inl x)) = absurd (x.0 q)
    broke r l k (inr (p, inr (s, j))) =
        let no : keeps_box (outline_of first) ≡ true → ⊥ = λ z. (let y : ◌≡◌ {A = Bool} false true = sym k ∙ z in let w : ◌≡◌ {A = ℕ} 0 1 = cc in absurd (omega arith)) in
        rw (number_box first r l k (later r j)) (inr (p, inl (no, refl)))

    given : (r : ℕ) → IsRecord first → Old r → Put (number_with first r)
    given r i x = go (keeps_box (outline_of first)) refl
      where
        go : (b : Bool) → keeps_box (outline_of first) ≡ b → Put (number_with first r)
        go true k = kept r k (number_kept first r i.long k) x
        go false k = broke r i.long k x

  none_keeps : keeps_box (outline_of []) ≡ true
  unfolding outline_of
  none_keeps = refl

  pub with_box_lem : (first : List ℕ) → IsOption first → (r : ℕ) (Q : Type 0) → Q → Finds (mend_rules (mesh sites tri he hull) Q) 0 r
      → Finds (put_rules (outline_of first) sites tri he hull) 0 (number_with first r)
  with_box_lem first i r Q q x = record { judged = ⊎_elim none (λ s. given first Q q r s x.judged) i }
    where
      none : first ≡ [] → Put first Q q (number_with first r)
      none e = rw e (kept [] Q q r none_keeps (number_none [] r (λ z. omega arith)) x.judged)

  -- what is not refused with a box put in is not refused without
  pub without_box : (put : Outline) (S : Type 0) → S → Finds (put_rules put sites tri he hull) 0 0 → Finds (mend_rules (mesh sites tri he hull) S) 0 0
  without_box put S s x =
      record { judged = judged_through rest refused_count refused_box refused_room Counts (keeps_box put ≡ true) S (λ e. omega arith) (λ e. omega arith) s x.judged }
