-- The walks of all sites together list each half-edge at most once, so the fan is whole exactly where their lengths add up to the number of half-edges.
use Rattle.std.specs.Prelude.{◌≡◌, Bool, true, false, List, [], ◌++◌, ◌≢◌, eqb, length}
use Rattle.std.proofs.Math.Path.{refl}
use Rattle.std.proofs.Common.{sym, ◌∙◌, add-zero, le_refl, add-one, arith, eqb-true, ne_eqb}
use Rattle.std.proofs.Math.Logic.{⊎_elim}
use Prim.Native.Nat.{ℕ, zero, suc, ◌+◌, ◌-◌, ◌≤◌, ◌<◌}
use Rattle.std.proofs.Math.ListN.{get_or, length-append}
use Rattle.std.proofs.lemmas.Bool.{eqb-false}
use Rattle.base.specs.common.laws.Decide.{lt_or_ge}
use Rattle.base.specs.common.Decide.{Says}
use Rattle.base.specs.common.Count.{occ}
use Rattle.base.specs.common.laws.Count.{same_cases, occ_append, pigeonhole, all_there, all_counted}
use Rattle.mesh.specs.Mesh.{end_of, here, whole_of, total_to, Fan, Paired}
use Rattle.mesh.specs.laws.Walks.{walk_in, walk_ends, walk_reached, reached_walk, whole_once}

-- the walks from the first n entries of a table, one after the other
all_of : List ℕ → List ℕ → ℕ → List ℕ
all_of he table zero = []
all_of he table (suc n) = all_of he table n ++ whole_of he (get_or table n 0)

-- a table that holds at each site nothing of the mesh, or a half-edge that ends there
pub record Ends (tri he table : List ℕ) : Type 0 where
  pub sites : (e : ℕ) → e < length he → end_of tri e < length table
  pub ends : (n : ℕ) → n < length table → get_or table n 0 < length he → end_of tri (get_or table n 0) ≡ n

module _ (tri he table : List ℕ) (ok : Paired tri he) (t : Ends tri he table) where
  -- a half-edge is in no walk but that of the site where it ends
  elsewhere : (n v : ℕ) → n < length table → end_of tri v ≢ n → occ v (whole_of he (get_or table n 0)) ≡ 0
  elsewhere n v l h =
      let s : ℕ = get_or table n 0 in
      ⊎_elim
      (λ p. absurd (h ((walk_ends tri he ok s (length he) s v p).1 ∙ t.ends n l (walk_in tri he ok s (length he) s v p))))
      (λ p. omega arith)
      (lt_or_ge 0 (occ v (whole_of he s)))

  not_yet : (n v : ℕ) → n ≤ length table → n ≤ end_of tri v → occ v (all_of he table n) ≡ 0
  unfolding all_of
  not_yet zero v l h = refl
  not_yet (suc n) v l h =
      rw (occ_append v (all_of he table n)) (omega (arith, not_yet n v (omega arith) (omega arith), elsewhere n v l (omega arith)))

  in_all : (n v : ℕ) → n ≤ length table → end_of tri v < n → occ v (all_of he table n) ≡ occ v (whole_of he (get_or table (end_of tri v) 0))
  unfolding all_of
  in_all zero v l h = absurd (omega arith)
  in_all (suc n) v l h =
      rw (occ_append v (all_of he table n)) (⊎_elim
      (λ u. rw u.0 (omega (arith, not_yet n v (omega arith) (omega (arith, u.0)))))
      (λ u. omega (arith, in_all n v (omega arith) (omega (arith, u.0)), elsewhere n v l u.0))
      (same_cases (end_of tri v) n))

  all_below : (n v : ℕ) → 0 < occ v (all_of he table n) → v < length he
  unfolding all_of
  all_below zero v h = absurd (omega arith)
  all_below (suc n) v h =
      let s : ℕ = get_or table n 0 in
      ⊎_elim
      (λ p. all_below n v p)
      (λ p. (walk_ends tri he ok s (length he) s v (omega (arith, occ_append v (all_of he table n) (whole_of he s)))).0)
      (lt_or_ge 0 (occ v (all_of he table n)))

  all_length : (n : ℕ) → length (all_of he table n) ≡ total_to he table n
  unfolding all_of total_to
  all_length zero = refl
  all_length (suc n) = omega (arith, all_length n, length-append (all_of he table n) (whole_of he (get_or table n 0)))

  all_once : (v : ℕ) → occ v (all_of he table (length table)) ≤ 1
  all_once v =
      ⊎_elim
      (λ l. rw (in_all (length table) v (omega arith) l) (whole_once tri he ok _ v))
      (λ l. rw (not_yet (length table) v (omega arith) l) (omega arith))
      (lt_or_ge (end_of tri v) (length table))

  -- the fan is whole exactly where the walks have as many entries as there are half-edges
  fan_total : Fan tri he table → total_to he table (length table) ≡ length he
  fan_total f =
      sym (all_length (length table)) ∙ all_counted (length he) (all_of he table (length table)) (all_below (length table)) (λ v l.
      let s : ℕ = get_or table (end_of tri v) 0 in
      omega (arith, in_all (length table) v (omega arith) (t.sites v l), reached_walk tri he ok s (f v l) l, whole_once tri he ok s v))

  -- and then the walk of a site lists each half-edge that ends there exactly once
  total_each : total_to he table (length table) ≡ length he → (e : ℕ) → e < length he → occ e (whole_of he (get_or table (end_of tri e) 0)) ≡ 1
  total_each q e l =
      sym (in_all (length table) e (omega arith) (t.sites e l)) ∙ all_there (length he) (all_of he table (length table)) (all_below (length table)) all_once (all_length (length table) ∙ q) e l

  total_fan : total_to he table (length table) ≡ length he → Fan tri he table
  total_fan q e l =
      let s : ℕ = get_or table (end_of tri e) 0 in
      walk_reached tri he ok s (length he) s e here (omega (arith, total_each q e l))

  -- they are never more
  total_most : total_to he table (length table) ≤ length he
  total_most = rw (← all_length (length table)) (pigeonhole (length he) (all_of he table (length table)) (all_below (length table)) all_once)

  pub total_whole_lem : length he ≤ total_to he table (length table) → Fan tri he table
  total_whole_lem h = total_fan (omega (arith, total_most))

  -- the sum decides the fan
  pub total_says : (b : Bool) → b ≡ eqb (total_to he table (length table)) (length he) → Says b (Fan tri he table)
  total_says true h = total_fan (eqb-true (total_to he table (length table)) (length he) (sym h))
  total_says false h = λ f. eqb-false (total_to he table (length table)) (length he) (sym h) (fan_total f)

total_more : (he table : List ℕ) (n : ℕ) → total_to he table (n + 1) ≡ total_to he table n + length (whole_of he (get_or table n 0))
unfolding total_to
total_more he table n = rw add-one

total_mono : (he table : List ℕ) (n k : ℕ) → total_to he table n ≤ total_to he table (n + k)
total_mono he table n zero = rw add-zero (le_refl _)
total_mono he table n (suc k) =
    let q : n + suc k ≡ n + k + 1 = omega arith in
    rw (q, total_more) (omega (arith, total_mono he table n k))

-- a turn of the loop that adds the lengths
pub total_turn : (he table : List ℕ) (n total x : ℕ) → total ≡ total_to he table n → x ≡ length (whole_of he (get_or table n 0)) → total + x ≡ total_to he table (n + 1)
total_turn he table n total x p q = rw (total_more, p, q)

-- more than the half-edges already: not as many in the end
pub total_over : (he table : List ℕ) (n k : ℕ) → n ≤ length table → k ≡ total_to he table n → length he < k → false ≡ eqb (total_to he table (length table)) (length he)
total_over he table n k l e h =
    let q : length table ≡ n + (length table - n) = omega arith in
    sym (ne_eqb (total_to he table (length table)) (length he) (λ z. omega (arith, rw (← q) at (total_mono he table n (length table - n)))))
