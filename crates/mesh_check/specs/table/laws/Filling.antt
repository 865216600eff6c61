-- The loops that fill the leftmost table: what each keeps from turn to turn, and that the table is the one that is defined.
use Rattle.std.specs.Prelude.{◌≡◌, refl, List, ◌≢◌, ℕ, ◌+◌, ◌%◌, ◌<◌, length, get_or, set, replicate}
use Rattle.std.proofs.Common.{sym, ◌∙◌, ⊎_elim, arith, length-set, get_or-set_same, get_or-set_other, ext_get_or}
use Rattle.std.proofs.lemmas.List.{length-replicate, get_or-replicate}
use Rattle.base.specs.common.laws.Decide.{eq_or_ne}
use Rattle.base.specs.numbers.Numbers.{EMPTY}
use Rattle.mesh.specs.Mesh.{next_of, end_of, pair_of, table_to}
use Rattle.mesh.specs.laws.Next.{next_lt}
use Rattle.mesh.specs.laws.Table.{table_length, table_leftmost, leftmost_one}
use Rattle.mesh_check.specs.table.Filled.{LowestFrom, LowestsFrom, LeftTo, LeftsTo}

-- ---- the lowest, from above

pub lowest_start : (tri : List ℕ) (w n : ℕ) → n ≡ length tri → LowestsFrom tri n (replicate w EMPTY)
lowest_start tri w n q s l =
    let l' : s < w = rw (length-replicate w EMPTY) at l in
    rw (q, get_or-replicate w s EMPTY 0 l') (record { none = λ _ e h k. absurd (omega arith); some = λ h. absurd (h refl); lowest = λ e h k. absurd (omega arith) })

module _ (tri work : List ℕ) (n : ℕ) (few : length tri < EMPTY) (ln : n < length tri) (g : LowestsFrom tri (n + 1) work) where
  here : LowestFrom tri n (end_of tri n) n
  here = record { none = λ q. absurd (omega arith); some = λ _. (ln, refl); lowest = λ e k _ _. k }

  elsewhere : (s : ℕ) → s < length work → end_of tri n ≢ s → LowestFrom tri n s (get_or work s 0)
  elsewhere s l d =
      let o = g s l in
      record {
        none = λ k e a b q. ⊎_elim (λ z. d (rw z at q)) (λ z. o.none k e (omega arith) b q) (eq_or_ne e n);
        some = o.some;
        lowest = λ e a b q. ⊎_elim (λ z. absurd (d (rw z at q))) (λ z. o.lowest e (omega arith) b q) (eq_or_ne e n);
      }

  lowest_step : end_of tri n < length work → LowestsFrom tri n (set work (end_of tri n) n)
  lowest_step i s l =
      let l' : s < length work = rw (length-set work (end_of tri n) n) at l in
      ⊎_elim
      (λ z. rw (← z, get_or-set_same work (end_of tri n) n 0 i) here)
      (λ z. rw (get_or-set_other work (end_of tri n) s n 0 (λ y. z (sym y))) (elsewhere s l' z))
      (eq_or_ne (end_of tri n) s)

-- at the site s₀ that half-edge n ends at
pub lowest_turn : (tri work : List ℕ) (n s₀ : ℕ) → length tri < EMPTY → n < length tri → LowestsFrom tri (n + 1) work → s₀ ≡ end_of tri n → s₀ < length work
    → LowestsFrom tri n (set work s₀ n)
lowest_turn tri work n s₀ few ln g q i = rw q (lowest_step tri work n few ln g (rw q at i))

-- ---- then the unpaired

pub lefts_start : (tri he work : List ℕ) → LowestsFrom tri 0 work → LeftsTo tri he 0 work
lefts_start tri he work g s l =
    let o = g s l in
    record { none = λ k e. o.none k e (omega arith); some = o.some; last = λ e k. absurd (omega arith); lowest = λ _ e. o.lowest e (omega arith) }

module _ (tri he work : List ℕ) (n : ℕ) (g : LeftsTo tri he n work) where
  -- half-edge n changes nothing at site s: it ends elsewhere, or it is paired
  left : (s : ℕ) → s < length work → (end_of tri n ≡ s → pair_of he n ≢ EMPTY) → LeftTo tri he (n + 1) s (get_or work s 0)
  left s l d =
      let o = g s l in
      record {
        none = o.none;
        some = o.some;
        last = λ e k q u. ⊎_elim (λ z. absurd (d (rw z at q) (rw z at u))) (λ z. o.last e (omega arith) q u) (eq_or_ne e n);
        lowest = o.lowest;
      }

  pub lefts_pass : pair_of he n ≢ EMPTY → LeftsTo tri he (n + 1) work
  lefts_pass h s l = left s l (λ _. h)

  module _ (few : length tri < EMPTY) (ln : n < length tri) (u : pair_of he n ≡ EMPTY) where
    taken : LeftTo tri he (n + 1) (end_of tri n) n
    taken = record { none = λ q. absurd (omega arith); some = λ _. (ln, refl); last = λ e k _ _. (omega arith, u); lowest = λ d. absurd (d u) }

    lefts_take : end_of tri n < length work → LeftsTo tri he (n + 1) (set work (end_of tri n) n)
    lefts_take i s l =
        let l' : s < length work = rw (length-set work (end_of tri n) n) at l in
        ⊎_elim
        (λ z. rw (← z, get_or-set_same work (end_of tri n) n 0 i) taken)
        (λ z. rw (get_or-set_other work (end_of tri n) s n 0 (λ y. z (sym y))) (left s l' (λ y. absurd (z y))))
        (eq_or_ne (end_of tri n) s)

pub lefts_turn : (tri he work : List ℕ) (n s₀ : ℕ) → length tri < EMPTY → n < length tri → LeftsTo tri he n work → pair_of he n ≡ EMPTY → s₀ ≡ end_of tri n → s₀ < length work
    → LeftsTo tri he (n + 1) (set work s₀ n)
lefts_turn tri he work n s₀ few ln g u q i = rw q (lefts_take tri he work n g few ln u (rw q at i))

-- ---- the table

pub filled : (tri he : List ℕ) (w : ℕ) (new : List ℕ) → length tri % 3 ≡ 0 → length tri < EMPTY → ((k : ℕ) → k < length tri → get_or tri k 0 < w) → length new ≡ w
    → LeftsTo tri he (length tri) new → new ≡ table_to tri he w (length tri)
filled tri he w new threes few named q g =
    ext_get_or 0 new (table_to tri he w (length tri)) (q ∙ sym (table_length tri he w (length tri))) (λ s l.
    let o = g s l in
    leftmost_one tri he (length tri) s _ _ (record { none = o.none; some = o.some; last = o.last; lowest = o.lowest })
    (table_leftmost tri he w (length tri) s (omega arith) (λ e h. named (next_of e) (next_lt threes h)) (rw q at l)))
