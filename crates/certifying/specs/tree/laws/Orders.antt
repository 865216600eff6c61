-- An order of n numbers stays one where two places exchange what they hold.
use Rattle.std.specs.Prelude.{◌≡◌, refl, List, ℕ, ◌+◌, ◌≤◌, ◌<◌, length, get_or, set}
use Rattle.std.proofs.Common.{sym, ap, ◌∙◌, subst, ⊎_elim, le_trans, le_of_eq, lt_of_lt_of_le, arith, length-set, get_or-set_same, get_or-set_other}
use Rattle.base.specs.common.laws.Decide.{eq_or_ne, lt_or_ge}
use Rattle.certifying.specs.tree.Steps.{PlaceOf, Order, Reordered, swapped, SameBefore}

module _ {n : ℕ} {l : List ℕ} (o : Order n l) (i j : ℕ) (I : i < n) (J : j < n) where
  at_second : get_or (swapped l i j) j 0 ≡ get_or l i 0
  at_second = get_or-set_same (set l i (get_or l j 0)) j (get_or l i 0) 0 (lt_of_lt_of_le J (le_trans o.long (le_of_eq (sym (length-set l i (get_or l j 0))))))

  elsewhere : (k : ℕ) → (k ≡ j → ⊥) → get_or (swapped l i j) k 0 ≡ get_or (set l i (get_or l j 0)) k 0
  elsewhere k h = get_or-set_other (set l i (get_or l j 0)) j k (get_or l i 0) 0 h

  at_first : (i ≡ j → ⊥) → get_or (swapped l i j) i 0 ≡ get_or l j 0
  at_first h = elsewhere i h ∙ get_or-set_same l i (get_or l j 0) 0 (lt_of_lt_of_le I o.long)

  at_other : (k : ℕ) → (k ≡ i → ⊥) → (k ≡ j → ⊥) → get_or (swapped l i j) k 0 ≡ get_or l k 0
  at_other k g h = elsewhere k h ∙ get_or-set_other l i k (get_or l j 0) 0 g

  pub swapped_length : length (swapped l i j) ≡ length l
  swapped_length = length-set (set l i (get_or l j 0)) j (get_or l i 0) ∙ length-set l i (get_or l j 0)

  named' : (k : ℕ) → k < n → get_or (swapped l i j) k 0 < n
  named' k K =
      ⊎_elim (λ e. subst (λ (v : ℕ). v < n) (sym (ap (λ (p : ℕ). get_or (swapped l i j) p 0) e ∙ at_second)) (o.named i I))
      (λ h. ⊎_elim (λ e. subst (λ (v : ℕ). v < n) (sym (ap (λ (p : ℕ). get_or (swapped l i j) p 0) e ∙ at_first (λ f. h (e ∙ f)))) (o.named j J))
      (λ g. subst (λ (v : ℕ). v < n) (sym (at_other k g h)) (o.named k K)) (eq_or_ne k i)) (eq_or_ne k j)

  moved : (v : ℕ) → PlaceOf n l v → PlaceOf n (swapped l i j) v
  moved v p =
      let q = p.place in
      ⊎_elim (λ e. record { place = j; within = J; is = at_second ∙ ap (λ (k : ℕ). get_or l k 0) (sym e) ∙ p.is })
      (λ g. ⊎_elim (λ e. record { place = i; within = I; is = at_first (λ f. g (e ∙ sym f)) ∙ ap (λ (k : ℕ). get_or l k 0) (sym e) ∙ p.is })
      (λ h. record { place = q; within = p.within; is = at_other q g h ∙ p.is }) (eq_or_ne q j)) (eq_or_ne q i)

  pub order_swapped : Reordered n l (swapped l i j)
  order_swapped = record {
    order = record { long = le_trans o.long (le_of_eq (sym swapped_length)); named = named'; placed = λ v h. moved v (o.placed v h) };
    same = swapped_length;
  }

pub reorder_none : {n : ℕ} {l : List ℕ} → Order n l → Reordered n l l
reorder_none o = record { order = o; same = refl }

pub reorder_then : {n : ℕ} {a b c : List ℕ} → Reordered n a b → Reordered n b c → Reordered n a c
reorder_then f g = record { order = g.order; same = g.same ∙ f.same }

pub reorder_swap : {n : ℕ} {a b c : List ℕ} {i j : ℕ} → Reordered n a b → i < n → j < n → c ≡ swapped b i j → Reordered n a c
reorder_swap {n} {a} {b} {c} {i} {j} f I J e = reorder_then f (subst (Reordered n b) (sym e) (order_swapped f.order i j I J))

pub order_kept : {n p : ℕ} {a b : List ℕ} → Order n a → SameBefore p a b → n ≤ p → Order n b
order_kept {n} {p} {a} {b} o s h = record {
  long = le_trans o.long (le_of_eq (sym s.same));
  named = λ j g. subst (λ (v : ℕ). v < n) (sym (s.each j (lt_of_lt_of_le g h))) (o.named j g);
  placed = λ i g. let q = o.placed i g in record { place = q.place; within = q.within; is = s.each q.place (lt_of_lt_of_le q.within h) ∙ q.is };
}

-- ---- the numbers in turn
pub record StartTo (i : ℕ) (before room : List ℕ) : Type 0 where
  pub same : length room ≡ length before
  pub each : (j : ℕ) → j < i → get_or room j 0 ≡ j

pub start_none : (l : List ℕ) → StartTo 0 l l
start_none l = record { same = refl; each = λ j h. absurd (omega arith) }

pub start_step : {i v : ℕ} {before room : List ℕ} → StartTo i before room → i < length room → v ≡ i → StartTo (i + 1) before (set room i v)
start_step {i} {v} {before} {room} a h e = record {
  same = length-set room i v ∙ a.same;
  each = λ j g. ⊎_elim (λ q. ap (λ (k : ℕ). get_or (set room i v) k 0) q ∙ get_or-set_same room i v 0 h ∙ e ∙ sym q)
      (λ q. get_or-set_other room i j v 0 q ∙ a.each j (before' j g q)) (eq_or_ne j i);
}
  where
    before' : (j : ℕ) → j < i + 1 → (j ≡ i → ⊥) → j < i
    before' j g q = ⊎_elim (λ l. l) (λ l. absurd (q (omega arith))) (lt_or_ge j i)

pub start_order : {n i : ℕ} {before room : List ℕ} → StartTo i before room → n ≤ i → n ≤ length before → Order n room
start_order {n} {i} a h g = record {
  long = le_trans g (le_of_eq (sym a.same));
  named = λ j k. subst (λ (v : ℕ). v < n) (sym (a.each j (lt_of_lt_of_le k h))) k;
  placed = λ v k. record { place = v; within = k; is = a.each v (lt_of_lt_of_le k h) };
}
