-- The loop that writes the sites of the loop, and those of the table and of the lowest site.
use Rattle.std.specs.Prelude.{◌≡◌, List, [], ◌∷◌, ◌++◌, ◌≢◌, length, get_or, set, replicate}
use Rattle.std.proofs.Math.Path.{refl}
use Rattle.std.proofs.Common.{sym, ap, ◌∙◌, append-nil, append_assoc, inl, ⊎_elim, add-one, arith, length-append, eq-eqb, ne_eqb}
use Prim.Native.Nat.{ℕ, zero, suc, ◌+◌, ◌-◌, ◌≤◌, ◌<◌}
use Rattle.std.proofs.lemmas.List.Edits.{sets}
use Rattle.base.specs.common.laws.Decide.{eq_or_ne}
use Rattle.base.specs.common.laws.Stores.{sets_join}
use Rattle.base.specs.numbers.Numbers.{EMPTY}
use Rattle.mending.specs.border.Loop.{lead_at, leads_to, lead_table, loop_begin, loop_step, loop_to, loop_of, hull_of}
use Rattle.mending.specs.border.Answer.{OnTable, Closed}

pub lead_next : (tri he : List ℕ) (w e : ℕ) (t t' : List ℕ) → t ≡ leads_to tri he w e → t' ≡ lead_at tri he t e → t' ≡ leads_to tri he w (e + 1)
unfolding leads_to
lead_next tri he w e t t' p q = rw add-one (cc)

module _ (t : List ℕ) (b s : ℕ) where
  pub step_closed : get_or t s 0 ≡ b → loop_step t b s ≡ EMPTY
  unfolding loop_step
  step_closed q = rw (eq-eqb (get_or t s 0) b q)

  pub step_open : get_or t s 0 ≢ b → loop_step t b s ≡ get_or t s 0
  unfolding loop_step
  step_open q = rw (ne_eqb (get_or t s 0) b q)

  step_table : Closed t → s < length t → OnTable t (loop_step t b s)
  step_table c l = ⊎_elim (λ q. inl (step_closed q)) (λ q. rw (step_open q) (c s l)) (eq_or_ne (get_or t s 0) b)

  loop_go : (k : ℕ) → s ≢ EMPTY → loop_to t b (suc k) s ≡ s ∷ loop_to t b k (loop_step t b s)
  unfolding loop_to
  loop_go k z = rw (ne_eqb s EMPTY z)

  loop_stop : (k : ℕ) → s ≡ EMPTY → loop_to t b k s ≡ []
  unfolding loop_to
  loop_stop zero z = refl
  loop_stop (suc k) z = rw (eq-eqb s EMPTY z)

loop_full : (t : List ℕ) (b s : ℕ) → loop_to t b 0 s ≡ []
unfolding loop_to
loop_full t b s = refl

-- the sites `done` are written, and the loop goes on at s
pub record Tracing (t : List ℕ) (b : ℕ) (old new : List ℕ) (s k : ℕ) : Type 0 where
  pub done : List ℕ
  pub count : length done ≡ k
  pub room : k ≤ length t
  pub long : length new ≡ length old
  pub here : OnTable t s
  pub split : done ++ loop_to t b (length t - k) s ≡ loop_of t b
  pub written : new ≡ sets old 0 done

pub tracing_start : (t : List ℕ) (b : ℕ) (old : List ℕ) → OnTable t b → Tracing t b old old b 0
tracing_start t b old h =
    let q : length t - 0 ≡ length t = omega arith in
    record { done = []; count = refl; room = omega arith; long = refl; here = h; split = ap (λ k. loop_to t b k b) q; written = refl }

module _ (t : List ℕ) (b : ℕ) (old new : List ℕ) (s k : ℕ) (g : Tracing t b old new s k) where
  pub tracing_in : s ≢ EMPTY → s < length t
  tracing_in z = ⊎_elim (λ w. absurd (z w)) (λ w. w) g.here

  pub tracing_step : Closed t → k < length t → s ≢ EMPTY → (e y : ℕ) → e ≡ s → y ≡ loop_step t b e → (new' : List ℕ) → length new' ≡ length new → new' ≡ set new k s
      → Tracing t b old new' y (k + 1)
  tracing_step c l z e y p q new' m w =
      let r : length t - k ≡ suc (length t - (k + 1)) = omega arith in
      let y' : y ≡ loop_step t b s = q ∙ ap (loop_step t b) p in
      record {
        done = g.done ++ s ∷ [];
        count = length-append g.done (s ∷ []) ∙ omega (arith, g.count);
        room = omega arith;
        long = m ∙ g.long;
        here = rw y' (step_table t b s c (tracing_in z));
        split = append_assoc g.done (s ∷ []) (loop_to t b (length t - (k + 1)) y)
            ∙ ap (λ v. g.done ++ s ∷ loop_to t b (length t - (k + 1)) v) y'
            ∙ ap (λ v. g.done ++ v) (sym (loop_go t b s (length t - (k + 1)) z)) ∙ ap (λ v. g.done ++ loop_to t b v s) (sym r) ∙ g.split;
        written = w ∙ ap (λ v. set v k s) g.written ∙ sets_join g.done (s ∷ []) old 0 k (omega (arith, g.count));
      }

  whole : loop_of t b ≡ g.done → (k ≡ length (loop_of t b)) × (new ≡ sets old 0 (loop_of t b))
  whole q = rw q (sym g.count, g.written)

  pub tracing_done : s ≡ EMPTY → (k ≡ length (loop_of t b)) × (new ≡ sets old 0 (loop_of t b))
  tracing_done z = whole (sym g.split ∙ ap (λ v. g.done ++ v) (loop_stop t b s (length t - k) z) ∙ append-nil g.done)

  pub tracing_full : length t ≤ k → (k ≡ length (loop_of t b)) × (new ≡ sets old 0 (loop_of t b))
  tracing_full l =
      let r : length t - k ≡ 0 = omega arith in
      whole (sym g.split ∙ ap (λ v. g.done ++ v) (ap (λ j. loop_to t b j s) r ∙ loop_full t b s) ∙ append-nil g.done)

-- the whole: the table, where the loop begins, and the loop
pub traced_whole : (tri he t old new : List ℕ) (w first b r : ℕ) → t ≡ lead_table tri he w → b ≡ loop_begin t first → (r ≡ length (loop_of t b)) × (new ≡ sets old 0 (loop_of t b))
    → (r ≡ length (hull_of tri he first w)) × (new ≡ sets old 0 (hull_of tri he first w))
traced_whole tri he t old new w first b r p q x =
    let e : loop_of t b ≡ hull_of tri he first w = ap (loop_of t) q ∙ ap (λ k. loop_of k (loop_begin k first)) p in
    rw (← e) x

pub loop_few : (t : List ℕ) (b k s : ℕ) → length (loop_to t b k s) ≤ k
loop_few t b zero s = omega (arith, ap length (loop_full t b s))
loop_few t b (suc k) s =
    ⊎_elim
    (λ z. omega (arith, ap length (loop_stop t b s (suc k) z)))
    (λ z. omega (arith, ap length (loop_go t b s k z), loop_few t b k (loop_step t b s)))
    (eq_or_ne s EMPTY)

pub lead_start : (tri he t : List ℕ) (w : ℕ) → t ≡ replicate w EMPTY → t ≡ leads_to tri he w 0
unfolding leads_to
lead_start tri he t w q = q

pub lead_done : (tri he t : List ℕ) (w v e : ℕ) → t ≡ leads_to tri he w e → e ≤ length tri → length tri ≤ e → w ≡ v → t ≡ leads_to tri he v (length tri)
lead_done tri he t w v e q a b z = let y : e ≡ length tri = omega arith in rw (← y, ← z) q
