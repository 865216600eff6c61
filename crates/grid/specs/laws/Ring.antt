-- Equations between sums of products of numbers, decided by multiplying out: each side as a list of monomials, and the two lists hold the same.
use Rattle.std.specs.Prelude.{◌≡◌, refl, List, [], ◌∷◌, ◌++◌, Bool, true, false, ℕ, ◌+◌, ◌*◌, T, leb, eqb, get_or}
use Rattle.std.proofs.Common.{sym, ap, ◌∙◌, mul_left_comm, mul_assoc, mul-add, add-mul, arith, eqb-true}
use Rattle.base.specs.common.Pick.{pick}

pub data Ex : Type 0 where
  va : ℕ → Ex
  add : Ex → Ex → Ex
  mul : Ex → Ex → Ex

abbrev pub eval : List ℕ → Ex → ℕ
eval r (va i) = get_or r i 0
eval r (add a b) = eval r a + eval r b
eval r (mul a b) = eval r a * eval r b

-- a monomial is the list of its factors in order, a sum the list of its monomials
abbrev eval_m : List ℕ → List ℕ → ℕ
eval_m r [] = 1
eval_m r (i ∷ m) = get_or r i 0 * eval_m r m

abbrev eval_p : List ℕ → List (List ℕ) → ℕ
eval_p r [] = 0
eval_p r (m ∷ p) = eval_m r m + eval_p r p

abbrev insert : ℕ → List ℕ → List ℕ
insert i [] = i ∷ []
insert i (j ∷ m) = pick (leb i j) (λ _. i ∷ j ∷ m) (λ _. j ∷ insert i m)

abbrev mul_m : List ℕ → List ℕ → List ℕ
mul_m [] n = n
mul_m (i ∷ m) n = insert i (mul_m m n)

abbrev mul_mP : List ℕ → List (List ℕ) → List (List ℕ)
mul_mP m [] = []
mul_mP m (n ∷ p) = mul_m m n ∷ mul_mP m p

abbrev mul_p : List (List ℕ) → List (List ℕ) → List (List ℕ)
mul_p [] q = []
mul_p (m ∷ p) q = mul_mP m q ++ mul_p p q

abbrev norm : Ex → List (List ℕ)
norm (va i) = (i ∷ []) ∷ []
norm (add a b) = norm a ++ norm b
norm (mul a b) = mul_p (norm a) (norm b)

abbrev and : Bool → Bool → Bool
and true b = b
and false b = false

abbrev same_m : List ℕ → List ℕ → Bool
same_m [] [] = true
same_m [] (j ∷ n) = false
same_m (i ∷ m) [] = false
same_m (i ∷ m) (j ∷ n) = and (eqb i j) (same_m m n)

-- p without its first m, and whether it had one
abbrev had : List ℕ → List (List ℕ) → Bool
had m [] = false
had m (n ∷ p) = pick (same_m m n) (λ _. true) (λ _. had m p)

abbrev less : List ℕ → List (List ℕ) → List (List ℕ)
less m [] = []
less m (n ∷ p) = pick (same_m m n) (λ _. p) (λ _. n ∷ less m p)

abbrev same_p : List (List ℕ) → List (List ℕ) → Bool
same_p [] [] = true
same_p [] (n ∷ q) = false
same_p (m ∷ p) q = and (had m q) (same_p p (less m q))

module _ (r : List ℕ) where
  insert_is : (i : ℕ) (m : List ℕ) → eval_m r (insert i m) ≡ get_or r i 0 * eval_m r m
  insert_is i [] = refl
  insert_is i (j ∷ m) = go (leb i j) (insert_is i m)
    where
      go : (b : Bool) → eval_m r (insert i m) ≡ get_or r i 0 * eval_m r m → eval_m r (pick b (λ _. i ∷ j ∷ m) (λ _. j ∷ insert i m)) ≡ get_or r i 0 * (get_or r j 0 * eval_m r m)
      go true h = refl
      go false h = ap (λ z. get_or r j 0 * z) h ∙ mul_left_comm _ _ _

  mul_m_is : (m n : List ℕ) → eval_m r (mul_m m n) ≡ eval_m r m * eval_m r n
  mul_m_is [] n = omega arith
  mul_m_is (i ∷ m) n = insert_is i (mul_m m n) ∙ ap (λ z. get_or r i 0 * z) (mul_m_is m n) ∙ sym (mul_assoc _ _ _)

  mul_mP_is : (m : List ℕ) (p : List (List ℕ)) → eval_p r (mul_mP m p) ≡ eval_m r m * eval_p r p
  mul_mP_is m [] = omega arith
  mul_mP_is m (n ∷ p) = rw (mul_m_is m n, mul_mP_is m p) (sym (mul-add _ _ _))

  append_is : (p q : List (List ℕ)) → eval_p r (p ++ q) ≡ eval_p r p + eval_p r q
  append_is [] q = omega arith
  append_is (m ∷ p) q = omega (arith, append_is p q)

  mul_p_is : (p q : List (List ℕ)) → eval_p r (mul_p p q) ≡ eval_p r p * eval_p r q
  mul_p_is [] q = omega arith
  mul_p_is (m ∷ p) q = rw (append_is (mul_mP m q) (mul_p p q), mul_mP_is m q, mul_p_is p q) (sym (add-mul _ _ _))

  norm_is : (e : Ex) → eval_p r (norm e) ≡ eval r e
  norm_is (va i) = omega arith
  norm_is (add a b) = rw (append_is (norm a) (norm b), norm_is a, norm_is b)
  norm_is (mul a b) = rw (mul_p_is (norm a) (norm b), norm_is a, norm_is b)

  and_both : (b c : Bool) → T (and b c) → T b × T c
  and_both true c h = (tt, h)
  and_both false c h = elim h [ ]

  true_is : (b : Bool) → T b → b ≡ true
  true_is true h = refl
  true_is false h = elim h [ ]

  same_m_is : (m n : List ℕ) → T (same_m m n) → eval_m r m ≡ eval_m r n
  same_m_is [] [] h = refl
  same_m_is [] (j ∷ n) h = elim h [ ]
  same_m_is (i ∷ m) [] h = elim h [ ]
  same_m_is (i ∷ m) (j ∷ n) h =
      let w = and_both (eqb i j) (same_m m n) h in
      rw (eqb-true i j (true_is _ w.0), same_m_is m n w.1)

  less_is : (m : List ℕ) (p : List (List ℕ)) → T (had m p) → eval_p r p ≡ eval_m r m + eval_p r (less m p)
  less_is m [] h = elim h [ ]
  less_is m (n ∷ p) h = go (same_m m n) refl (less_is m p) h
    where
      go : (b : Bool) → same_m m n ≡ b → (T (had m p) → eval_p r p ≡ eval_m r m + eval_p r (less m p)) → T (pick b (λ _. true) (λ _. had m p))
          → eval_m r n + eval_p r p ≡ eval_m r m + eval_p r (pick b (λ _. p) (λ _. n ∷ less m p))
      go true q l k = rw (same_m_is m n (rw q tt))
      go false q l k = omega (arith, l k)

  same_p_is : (p q : List (List ℕ)) → T (same_p p q) → eval_p r p ≡ eval_p r q
  same_p_is [] [] h = refl
  same_p_is [] (n ∷ q) h = elim h [ ]
  same_p_is (m ∷ p) q h =
      let w = and_both (had m q) (same_p p (less m q)) h in
      rw (same_p_is p (less m q) w.1) (sym (less_is m q w.0))

-- equal as sums of monomials, equal at all numbers
pub solve : (r : List ℕ) (a b : Ex) → T (same_p (norm a) (norm b)) → eval r a ≡ eval r b
solve r a b h = sym (norm_is r a) ∙ same_p_is r (norm a) (norm b) h ∙ norm_is r b
