-- How the lowest site with a broken fan is found: the length of each site's walk is counted down by the half-edges that end there, and where
-- the walk is the shorter one the site stays in debt.
use Rattle.std.specs.Prelude.{◌≡◌, refl, List, ◌∷◌, ◌≢◌, ℕ, zero, suc, ◌+◌, ◌-◌, ◌≤◌, ◌<◌, ltb, length, get_or, set}
use Rattle.std.proofs.Common.{sym, ap, ◌∙◌, ⊎_elim, arith, length-set, get_or-set_same, get_or-set_other, eq-eqb, ne_eqb, lt-ltb, le-ltb}
use Rattle.std.proofs.Math.Nat.{sub-zero}
use Rattle.std.proofs.Math.Path.{subst}
use Rattle.base.specs.common.Pick.{pick}
use Rattle.base.specs.common.laws.Decide.{lt_or_ge, eq_or_ne}
use Rattle.base.specs.common.Count.{same, occ}
use Rattle.base.specs.common.laws.Count.{same_cases, all_weighed, weighed, weighed_le}
use Rattle.base.specs.numbers.Numbers.{EMPTY}
use Rattle.mesh.specs.Mesh.{next_of, start_of, end_of, pair_of, Mates, around, Reached, here, onward, whole_of, Paired}
use Rattle.mesh.specs.laws.Next.{next_lt, next_thrice}
use Rattle.mesh.specs.laws.Walks.{walk_in, walk_ends, walk_reached, reached_walk, whole_once}
use Rattle.mesh_check.specs.fan.Counts.{less_of, owed_to, ends_to}

-- the half-edge before g round the site where g ends, which is paired: the one before its pair in that one's triangle, and not g
module _ (tri he : List ℕ) (ok : Paired tri he) (g : ℕ) (l : g < length he) (n : pair_of he g ≢ EMPTY) where
  mates : Mates tri he g (pair_of he g)
  mates = ⊎_elim (λ w. absurd (n w)) (λ w. w) (ok.pairs g l)

  back_in : next_of (next_of (pair_of he g)) < length he
  back_in = next_lt ok.threes (next_lt ok.threes mates.inside)

  back_end : end_of tri (next_of (next_of (pair_of he g))) ≡ end_of tri g
  back_end = ap (start_of tri) (next_thrice (pair_of he g)) ∙ mates.from

  back_step : around he (next_of (next_of (pair_of he g))) ≡ g
  back_step = ap (pair_of he) (next_thrice (pair_of he g)) ∙ mates.back

  back_other : ((e : ℕ) → e < length he → start_of tri e ≢ end_of tri e) → next_of (next_of (pair_of he g)) ≢ g
  back_other apart z = apart (next_of (pair_of he g)) (next_lt ok.threes mates.inside) (mates.to ∙ ap (start_of tri) (sym z))

-- the walk from t, where t is no half-edge or ends at s, is no longer than they are many, and as long exactly where they are all reached
module _ (tri he : List ℕ) (ok : Paired tri he) (t s : ℕ) (ends : t < length he → end_of tri t ≡ s) where
  in_mesh : (v : ℕ) → 0 < occ v (whole_of he t) → v < length he
  in_mesh v h = (walk_ends tri he ok t (length he) t v h).0

  at_site : (v : ℕ) → 0 < occ v (whole_of he t) → end_of tri v ≡ s
  at_site v h = (walk_ends tri he ok t (length he) t v h).1 ∙ ends (walk_in tri he ok t (length he) t v h)

  at_most : (v : ℕ) → occ v (whole_of he t) ≤ same (end_of tri v) s
  at_most v =
      ⊎_elim
      (λ h. ⊎_elim (λ w. omega (arith, whole_once tri he ok t v)) (λ w. absurd (w.0 (at_site v h))) (same_cases (end_of tri v) s))
      (λ h. omega arith)
      (lt_or_ge 0 (occ v (whole_of he t)))

  pub enough : ((e : ℕ) → e < length he → end_of tri e ≡ s → Reached he t e) → ends_to tri s (length he) ≤ length (whole_of he t)
  enough f =
      let q = weighed (λ e. same (end_of tri e) s) (length he) (whole_of he t) in_mesh (λ v l.
      ⊎_elim
      (λ w. omega (arith, reached_walk tri he ok t (f v l w.0) l, whole_once tri he ok t v))
      (λ w. omega (arith, at_most v))
      (same_cases (end_of tri v) s)) in
      omega arith

  pub all_reached : ends_to tri s (length he) ≤ length (whole_of he t) → (e : ℕ) → e < length he → end_of tri e ≡ s → Reached he t e
  all_reached h e l q =
      let u : ℕ → ℕ = λ d. same (end_of tri d) s in
      let p = all_weighed u (length he) (whole_of he t) in_mesh at_most (omega (arith, weighed_le u (length he) (whole_of he t) in_mesh at_most)) e l in
      walk_reached tri he ok t (length he) t e here (⊎_elim (λ w. omega arith) (λ w. absurd (w.0 q)) (same_cases (end_of tri e) s))

  -- two half-edges at the site that are not in the walk are two entries that it lacks
  lacks_two : (r g : ℕ) → r < length he → g < length he → end_of tri r ≡ s → end_of tri g ≡ s → r ≢ g → occ r (whole_of he t) ≤ 0 → occ g (whole_of he t) ≤ 0
      → ends_to tri s (length he) ≤ length (whole_of he t) + 1 → ⊥
  lacks_two r g lr lg er eg d nr ng h =
      let u : ℕ → ℕ = λ d. same (end_of tri d) s in
      let w : List ℕ = r ∷ whole_of he t in
      let below : (v : ℕ) → 0 < occ v w → v < length he = λ v p. ⊎_elim (λ z. rw z.0 lr) (λ z. in_mesh v (omega arith)) (same_cases v r) in
      let most : (v : ℕ) → occ v w ≤ u v = λ v. ⊎_elim
      (λ z. subst (λ (k : ℕ). occ k w ≤ u k) (sym z.0)
      (let one : same r r ≡ 1 = subst (λ (k : ℕ). same k r ≡ 1) z.0 z.1 in
      ⊎_elim (λ y. omega (arith, one, y.1, nr)) (λ y. absurd (y.0 er)) (same_cases (end_of tri r) s)))
      (λ z. omega (arith, at_most v))
      (same_cases v r) in
      let q = all_weighed u (length he) w below most (omega (arith, weighed_le u (length he) w below most)) g lg in
      ⊎_elim
      (λ y. d (sym y.0))
      (λ y. ⊎_elim (λ z. omega arith) (λ z. z.0 eg) (same_cases (end_of tri g) s))
      (same_cases g r)

  -- where all half-edges at the site are paired and none ends where it starts, the walk never lacks just one: the one before that is in the walk, or is lacking too
  pub never_one : ((e : ℕ) → e < length he → start_of tri e ≢ end_of tri e) → ((e : ℕ) → e < length he → end_of tri e ≡ s → pair_of he e ≢ EMPTY)
      → ends_to tri s (length he) ≤ length (whole_of he t) + 1 → ends_to tri s (length he) ≤ length (whole_of he t)
  never_one apart closed h =
      enough (λ g l q.
      let n = closed g l q in
      let r = next_of (next_of (pair_of he g)) in
      ⊎_elim
      (λ i. walk_reached tri he ok t (length he) t g here i)
      (λ i. ⊎_elim
      (λ j. rw (back_step tri he ok g l n) at (onward (back_in tri he ok g l n) (walk_reached tri he ok t (length he) t r here j)))
      (λ j. absurd (lacks_two r g (back_in tri he ok g l n) l (back_end tri he ok g l n ∙ q) q (back_other tri he ok g l n apart) j i h))
      (lt_or_ge 0 (occ r (whole_of he t))))
      (lt_or_ge 0 (occ g (whole_of he t))))

-- what is left of l after c times one less
unfoldable pub spent : ℕ → ℕ → ℕ
spent l c = pick (ltb l c) (λ _. EMPTY) (λ _. l - c)

less_spent : (l c : ℕ) → l < EMPTY → less_of (spent l c) ≡ spent l (c + 1)
unfolding less_of spent
less_spent l c small =
    ⊎_elim
    (λ (h : l < c). rw (lt-ltb l c h, lt-ltb l (c + 1) (omega arith)))
    (λ (h : c ≤ l). ⊎_elim
    (λ (k : l ≡ c). rw (le-ltb l c h, eq-eqb (l - c) 0 (omega arith), lt-ltb l (c + 1) (omega arith)))
    (λ (k : l ≢ c). rw (le-ltb l c h, ne_eqb (l - c) 0 (omega arith), ne_eqb (l - c) EMPTY (omega arith), le-ltb l (c + 1) (omega arith)) (omega arith))
    (eq_or_ne l c))
    (lt_or_ge l c)

pub spent_debt : (l c : ℕ) → l < EMPTY → spent l c ≡ EMPTY → l < c
unfolding spent
spent_debt l c small h =
    ⊎_elim (λ k. k) (λ k. let q : l - c ≡ EMPTY = rw (le-ltb l c k) at h in absurd (omega arith)) (lt_or_ge l c)

pub spent_paid : (l c : ℕ) → spent l c ≢ EMPTY → c ≤ l
unfolding spent
spent_paid l c h = ⊎_elim (λ k. absurd (h (rw (lt-ltb l c k)))) (λ k. k) (lt_or_ge l c)

pub owed_length : (tri t : List ℕ) (n : ℕ) → length (owed_to tri t n) ≡ length t
unfolding owed_to
owed_length tri t zero = refl
owed_length tri t (suc n) = length-set (owed_to tri t n) _ _ ∙ owed_length tri t n

pub owed_at_lem : (tri t : List ℕ) (s : ℕ) → s < length t → get_or t s 0 < EMPTY → (n : ℕ) → get_or (owed_to tri t n) s 0 ≡ spent (get_or t s 0) (ends_to tri s n)
unfolding owed_to spent
owed_at_lem tri t s l small zero = rw (le-ltb (get_or t s 0) 0 (omega arith), sub-zero)
owed_at_lem tri t s l small (suc n) =
    let u = owed_to tri t n in
    ⊎_elim
    (λ w.
    let h : get_or (set u (end_of tri n) (less_of (get_or u (end_of tri n) 0))) s 0 ≡ less_of (get_or u s 0) = rw w.0 (get_or-set_same u s (less_of (get_or u s 0)) 0 (rw (owed_length tri t n) l)) in
    h ∙ ap less_of (owed_at_lem tri t s l small n) ∙ less_spent (get_or t s 0) (ends_to tri s n) small ∙ ap (λ k. spent (get_or t s 0) (ends_to tri s n + k)) (sym w.1))
    (λ w. get_or-set_other u (end_of tri n) s _ 0 (λ z. w.0 (sym z)) ∙ owed_at_lem tri t s l small n ∙ ap (spent (get_or t s 0)) (omega (arith, w.1)))
    (same_cases (end_of tri n) s)
