-- A list that holds no number twice, and none but those below m, has m entries at most (the pigeonhole principle), and m exactly where it holds each of them.
use Rattle.std.specs.Prelude.{◌≡◌, refl, List, [], ◌∷◌, ◌++◌, Bool, true, false, ◌⊎◌, ◌≢◌, ℕ, zero, suc, ◌+◌, ◌≤◌, ◌<◌, eqb, length, get_or}
use Rattle.std.proofs.Common.{sym, ◌∙◌, inl, inr, ⊎_elim, arith, eqb-true}
use Rattle.std.proofs.lemmas.Bool.{eqb-false}
use Rattle.base.specs.common.Pick.{pick}
use Rattle.base.specs.common.Count.{same, occ, sum_to}

pub same_cases : (v x : ℕ) → ((v ≡ x) × (same v x ≡ 1)) ⊎ ((v ≢ x) × (same v x ≡ 0))
unfolding same
same_cases v x = go (eqb v x) refl
  where
    go : (b : Bool) → eqb v x ≡ b → ((v ≡ x) × (pick {A = ℕ} b (λ _. 1) (λ _. 0) ≡ 1)) ⊎ ((v ≢ x) × (pick {A = ℕ} b (λ _. 1) (λ _. 0) ≡ 0))
    go true h = inl (eqb-true v x h, refl)
    go false h = inr (eqb-false v x h, refl)

pub occ_append : (v : ℕ) (k l : List ℕ) → occ v (k ++ l) ≡ occ v k + occ v l
occ_append v [] l = omega arith
occ_append v (x ∷ k) l = omega (arith, occ_append v k l)

-- the entries below m, counted
abbrev occs : ℕ → List ℕ → ℕ
occs zero l = 0
occs (suc m) l = occs m l + occ m l

abbrev hits : ℕ → ℕ → ℕ
hits zero x = 0
hits (suc m) x = hits m x + same m x

hits_none : (m x : ℕ) → m ≤ x → hits m x ≡ 0
hits_none zero x h = refl
hits_none (suc m) x h = ⊎_elim (λ w. omega arith) (λ w. omega (arith, hits_none m x (omega arith))) (same_cases m x)

hits_one : (m x : ℕ) → x < m → hits m x ≡ 1
hits_one zero x h = absurd (omega arith)
hits_one (suc m) x h =
    ⊎_elim (λ w. omega (arith, hits_none m x (omega arith))) (λ w. omega (arith, hits_one m x (omega arith))) (same_cases m x)

occs_nil : (m : ℕ) → occs m [] ≡ 0
occs_nil zero = refl
occs_nil (suc m) = omega (arith, occs_nil m)

occs_cons : (m x : ℕ) (l : List ℕ) → occs m (x ∷ l) ≡ hits m x + occs m l
occs_cons zero x l = refl
occs_cons (suc m) x l = omega (arith, occs_cons m x l)

occs_length : (m : ℕ) (l : List ℕ) → ((v : ℕ) → 0 < occ v l → v < m) → occs m l ≡ length l
occs_length m [] h = occs_nil m
occs_length m (x ∷ l) h =
    let here : 0 < same x x + occ x l = ⊎_elim (λ w. omega arith) (λ w. absurd (w.0 refl)) (same_cases x x) in
    omega (arith, occs_cons m x l, hits_one m x (h x here), occs_length m l (λ v p. h v (omega arith)))

once_le : (m : ℕ) (l : List ℕ) → ((v : ℕ) → occ v l ≤ 1) → occs m l ≤ m
once_le zero l h = omega arith
once_le (suc m) l h = omega (arith, once_le m l h, h m)

once_all : (m : ℕ) (l : List ℕ) → ((v : ℕ) → occ v l ≤ 1) → occs m l ≡ m → (v : ℕ) → v < m → occ v l ≡ 1
once_all zero l h e v p = absurd (omega arith)
once_all (suc m) l h e v p =
    ⊎_elim
    (λ w. rw w.0 (omega (arith, once_le m l h, h m)))
    (λ w. once_all m l h (omega (arith, once_le m l h, h m)) v (omega arith))
    (same_cases v m)

all_once : (m : ℕ) (l : List ℕ) → ((v : ℕ) → v < m → occ v l ≡ 1) → occs m l ≡ m
all_once zero l h = refl
all_once (suc m) l h = omega (arith, all_once m l (λ v p. h v (omega arith)), h m (omega arith))

module _ (m : ℕ) (l : List ℕ) (below : (v : ℕ) → 0 < occ v l → v < m) where
  -- no number twice: at most m entries
  pub pigeonhole : ((v : ℕ) → occ v l ≤ 1) → length l ≤ m
  pigeonhole once = omega (arith, occs_length m l below, once_le m l once)

  -- m entries, and no number twice: each number below m once
  pub all_there : ((v : ℕ) → occ v l ≤ 1) → length l ≡ m → (v : ℕ) → v < m → occ v l ≡ 1
  all_there once e = once_all m l once (occs_length m l below ∙ e)

  -- each number below m once: m entries
  pub all_counted : ((v : ℕ) → v < m → occ v l ≡ 1) → length l ≡ m
  all_counted h = sym (occs_length m l below) ∙ all_once m l h

-- the same by weights: no number oftener than u says, and as many entries as u counts below m: each number exactly as often as u says
weigh_le : (u : ℕ → ℕ) (m : ℕ) (l : List ℕ) → ((v : ℕ) → occ v l ≤ u v) → occs m l ≤ sum_to u m
weigh_le u zero l h = omega arith
weigh_le u (suc m) l h = omega (arith, weigh_le u m l h, h m)

weigh_all : (u : ℕ → ℕ) (m : ℕ) (l : List ℕ) → ((v : ℕ) → occ v l ≤ u v) → occs m l ≡ sum_to u m → (v : ℕ) → v < m → occ v l ≡ u v
weigh_all u zero l h e v p = absurd (omega arith)
weigh_all u (suc m) l h e v p =
    ⊎_elim
    (λ w. rw w.0 (omega (arith, weigh_le u m l h, h m)))
    (λ w. weigh_all u m l h (omega (arith, weigh_le u m l h, h m)) v (omega arith))
    (same_cases v m)

pub all_weighed : (u : ℕ → ℕ) (m : ℕ) (l : List ℕ) → ((v : ℕ) → 0 < occ v l → v < m) → ((v : ℕ) → occ v l ≤ u v) → length l ≡ sum_to u m
    → (v : ℕ) → v < m → occ v l ≡ u v
all_weighed u m l below h e = weigh_all u m l h (occs_length m l below ∙ e)

weigh_same : (u : ℕ → ℕ) (m : ℕ) (l : List ℕ) → ((v : ℕ) → v < m → occ v l ≡ u v) → occs m l ≡ sum_to u m
weigh_same u zero l h = refl
weigh_same u (suc m) l h = omega (arith, weigh_same u m l (λ v p. h v (omega arith)), h m (omega arith))

-- and so the other way round: each number as often as u says, or no oftener
pub weighed : (u : ℕ → ℕ) (m : ℕ) (l : List ℕ) → ((v : ℕ) → 0 < occ v l → v < m) → ((v : ℕ) → v < m → occ v l ≡ u v) → length l ≡ sum_to u m
weighed u m l below h = sym (occs_length m l below) ∙ weigh_same u m l h

pub weighed_le : (u : ℕ → ℕ) (m : ℕ) (l : List ℕ) → ((v : ℕ) → 0 < occ v l → v < m) → ((v : ℕ) → occ v l ≤ u v) → length l ≤ sum_to u m
weighed_le u m l below h = rw (← occs_length m l below) (weigh_le u m l h)

-- a list's entries, counted number by number, are all of them
pub occ_sum : (m : ℕ) (l : List ℕ) → ((v : ℕ) → 0 < occ v l → v < m) → sum_to (λ v. occ v l) m ≡ length l
occ_sum m l below = sym (weighed (λ v. occ v l) m l below (λ v p. refl))

-- what holds of every entry holds of every number that stands in the list
pub below_occ : (l : List ℕ) (m : ℕ) → ((k : ℕ) → k < length l → get_or l k 0 < m) → (v : ℕ) → 0 < occ v l → v < m
below_occ [] m h v p = absurd (omega arith)
below_occ (x ∷ l) m h v p = ⊎_elim (λ w. rw w.0 (h 0 (omega arith))) (λ w. below_occ l m (λ k q. h (suc k) (omega arith)) v (omega arith)) (same_cases v x)

pub occ_length : (v : ℕ) (l : List ℕ) → occ v l ≤ length l
occ_length v [] = omega arith
occ_length v (x ∷ l) = ⊎_elim (λ w. omega (arith, occ_length v l)) (λ w. omega (arith, occ_length v l)) (same_cases v x)

-- sums of equal numbers are equal, and a sum of more numbers is no less
pub sum_same : (u w : ℕ → ℕ) (n : ℕ) → ((k : ℕ) → k < n → u k ≡ w k) → sum_to u n ≡ sum_to w n
sum_same u w zero h = refl
sum_same u w (suc n) h = omega (arith, sum_same u w n (λ k p. h k (omega arith)), h n (omega arith))

pub sum_mono : (u : ℕ → ℕ) (i j : ℕ) → i ≤ j → sum_to u i ≤ sum_to u j
sum_mono u i zero h = let z : i ≡ 0 = omega arith in rw z (omega arith)
sum_mono u i (suc j) h = ⊎_elim (λ w. rw w.0 (omega arith)) (λ w. omega (arith, sum_mono u i j (omega (arith, w.0)))) (same_cases i (suc j))
