-- The turns of the first places are at most as many (`turns_small`), and the number by its tests.
use Rattle.std.specs.Prelude.{◌≡◌, Bool, true, false, List, Float, length, get_or}
use Rattle.std.proofs.Math.Path.{refl, ap}
use Rattle.std.proofs.Common.{◌∙◌, sym, subst}
use Rattle.std.proofs.lemmas.List.FromFn.{length-range_with_len, get_or-range_with_len}
use Rattle.std.specs.Bool.{MatchBool}
use Rattle.std.specs.List.{HoldsAt, AllWithin, range_with_len}
use Prim.Native.Nat.{ℕ, zero, suc, ◌+◌, ◌≤◌, ◌<◌}
use native.Mathlib.Omega.{arith}
use borrow.Author.Tests.{eq-eqb, ne_eqb}
use Rattle.ring_area.specs.lowest.Lowest.{any_below}
use Rattle.ring_area.specs.lowest.laws.Loops.{none_below, some_below}
use Rattle.plane.specs.declared.boxes.BoundingBox.{BoundingBox}
use Rattle.mesh.specs.Mesh.{start_of}
use Rattle.cutting.specs.cuts.Step.{passed_by}
use Rattle.cutting.specs.corner.Corner.{within_of}
use Rattle.cutting.specs.declared.corner.SideName.TheVariants.{Left}
use Rattle.cutting.specs.declared.corner.Corner.{Corner}
use Rattle.cutting.specs.meet.Crossing.{upward_of}
use Rattle.cutting.specs.border.Border.{refused_border, hull_end, arrives_at, undirected_at, turned_by, turns_after, turns_to, once_of, border_number}
use Rattle.cutting.specs.declared.border.Turns.{Turns}

passed_small : (a b t : Bool) → passed_by a b t ≤ 1
passed_small true true t = omega arith
passed_small true false true = omega arith
passed_small true false false = omega arith
passed_small false b t = omega arith

turned_small : (b : BoundingBox) (t : Turns) (p q : Corner) (n : ℕ) → t.comes ≤ n → t.goes ≤ n → ((turned_by b t p q).comes ≤ suc n) × ((turned_by b t p q).goes ≤ suc n)
unfolding turned_by
turned_small b t p q n l h = (
  omega (arith, passed_small (within_of b Left q) (within_of b Left p) (upward_of p q)),
  omega (arith, passed_small (within_of b Left p) (within_of b Left q) (upward_of p q)),
)

pub once_is : (t : Turns) → t.comes ≡ t.goes + 1 → 0 ≡ once_of t
unfolding once_of
once_is t e = rw (eq-eqb t.comes (t.goes + 1) e) refl

pub once_not : (t : Turns) → (t.comes ≡ t.goes + 1 → ⊥) → refused_border ≡ once_of t
unfolding once_of
once_not t n = rw (ne_eqb t.comes (t.goes + 1) n) refl

module _ (b : BoundingBox) (sites : List Float) (tri hull table : List ℕ) (centers : List Float) where
  pub turns_small : (i : ℕ) → ((turns_to b sites tri hull table centers i).comes ≤ i) × ((turns_to b sites tri hull table centers i).goes ≤ i)
  unfolding turns_to turns_after
  turns_small zero = (omega arith, omega arith)
  turns_small (suc i) = turned_small b (turns_to b sites tri hull table centers i) _ _ i (turns_small i).0 (turns_small i).1

  pub turns_step : (i : ℕ) {t r : Turns} → t ≡ turns_to b sites tri hull table centers i → r ≡ turns_after b sites tri hull table centers t i
      → r ≡ turns_to b sites tri hull table centers (i + 1)
  unfolding turns_to
  turns_step i e f = let q : i + 1 ≡ suc i = omega arith in rw q (f ∙ ap (λ (z : Turns). turns_after b sites tri hull table centers z i) e)

  pub turned_at_lem : (t : Turns) (i : ℕ) {o w e v n : ℕ} {p q : Corner} {r : Turns} → o ≡ arrives_at table hull i → w ≡ o → e ≡ start_of tri w → v ≡ e → n ≡ get_or table v 0
      → p ≡ hull_end sites tri centers o → q ≡ hull_end sites tri centers n → r ≡ turned_by b t p q → r ≡ turns_after b sites tri hull table centers t i
  unfolding turns_after
  turned_at_lem t i d w e v n p q r = rw (r, q, p, n, v, e, w, d) refl

  pub no_way : any_below (undirected_at sites tri hull table) (length hull) ≡ true → refused_border ≡ border_number b sites tri hull table centers
  unfolding border_number
  no_way e = rw e refl

  pub by_turns : {n : ℕ} {t : Turns} → any_below (undirected_at sites tri hull table) (length hull) ≡ false → t ≡ turns_to b sites tri hull table centers (length hull)
      → n ≡ once_of t → n ≡ border_number b sites tri hull table centers
  unfolding border_number
  by_turns e f g = rw (g, f, e) refl

-- what `any` says of the numbers below n
pub any_is : (p : ℕ → Bool) (n : ℕ) (r : Bool) → MatchBool r ((k : ℕ) × (k < length (range_with_len 0 n)) × HoldsAt (λ i. p i ≡ true) (range_with_len 0 n) k)
    (AllWithin (λ i. p i ≡ false) (range_with_len 0 n) 0 (length (range_with_len 0 n))) → r ≡ any_below p n
any_is p n true h =
    let l : h.0 < n = omega (arith, h.1, length-range_with_len 0 n) in
    sym (some_below p h.0 l (subst (λ (i : ℕ). p i ≡ true) (get_or-range_with_len 0 n h.0 0 l ∙ omega arith) (h.2 0)))
any_is p n false h =
    sym (none_below p n (λ k l. subst (λ (i : ℕ). p i ≡ false) (get_or-range_with_len 0 n k 0 l ∙ omega arith) (h k 0 (omega arith) (omega (arith, length-range_with_len 0 n)))))
