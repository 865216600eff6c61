-- Theorem: pieces whose sides cancel, and that leave one corner of the box once, have the area of the box: exactly. A side from p to q adds p's y times q's x and takes off p's x
-- times q's y; all sides together add twice the width times the height more than they take off.
use Rattle.std.specs.Prelude.{◌≡◌, Bool, true, false, List, ℕ, ◌+◌, ◌*◌, ◌<◌, eqb}
use Rattle.std.proofs.Math.Path.{refl}
use Rattle.std.proofs.Common.{sym, ap, ◌∙◌, arith}
use Rattle.std.proofs.Math.Logic.{⊎_elim}
use borrow.Author.Tests.{eq-eqb, ne_eqb}
use Rattle.base.specs.common.Pick.{pick}
use Rattle.base.specs.common.laws.Decide.{eq_or_ne}
use Rattle.certifying.specs.cover.Sums.{WholePlace, OfSide, sum_all}
use Rattle.certifying.specs.cover.laws.Adding.{add_all, same_all, times, closed}
use Rattle.certifying.specs.cover.Cover.{BothOnEdge, leaves}

-- the box from (l, t), w wide and h high
module _ (l t w h : ℕ) (wide : 0 < w) (high : 0 < h) where
  abbrev r : ℕ
  r = l + w

  abbrev b : ℕ
  b = t + h

  abbrev pub gained : OfSide
  gained p q = p.y * q.x

  abbrev pub leaves_box : OfSide
  leaves_box = leaves l t (l + w) (t + h)

  -- ---- the start
  start_off : (p q : WholePlace) → (p.x ≡ r → ⊥) → leaves_box p q ≡ 0
  unfolding leaves
  start_off p q n = rw (ne_eqb p.x r n) refl

  start_top : (p q : WholePlace) → p.x ≡ r → p.y ≡ t → q.y ≡ t → leaves_box p q ≡ 1
  unfolding leaves
  start_top p q e f g = rw (eq-eqb p.x r e, eq-eqb p.y t f, eq-eqb q.y t g) refl

  start_low : (p q : WholePlace) → (p.y ≡ t → ⊥) → leaves_box p q ≡ 0
  unfolding leaves
  start_low p q n = ⊎_elim (λ k. rw (eq-eqb p.x r k, ne_eqb p.y t n) refl) (λ k. rw (ne_eqb p.x r k) refl) (eq_or_ne p.x r)

  start_no : (p q : WholePlace) → (q.y ≡ t → ⊥) → leaves_box p q ≡ 0
  unfolding leaves
  start_no p q n =
      ⊎_elim (λ k. ⊎_elim (λ m. rw (eq-eqb p.x r k, eq-eqb p.y t m, ne_eqb q.y t n) refl) (λ m. rw (eq-eqb p.x r k, ne_eqb p.y t m) refl) (eq_or_ne p.y t))
      (λ k. rw (ne_eqb p.x r k) refl) (eq_or_ne p.x r)

  start_both : (p q : WholePlace) → p.x ≡ r → q.x ≡ r → leaves_box p q ≡ leaves_box q p
  start_both p q e f =
      ⊎_elim (λ k. ⊎_elim (λ m. start_top p q e k m ∙ sym (start_top q p f m k)) (λ m. start_no p q m ∙ sym (start_low q p m)) (eq_or_ne q.y t))
      (λ k. start_low p q k ∙ sym (start_no q p k)) (eq_or_ne p.y t)

  -- ---- a potential of the border, as what is added and what is taken off
  unfoldable more : WholePlace → ℕ
  more q =
      pick (eqb q.x r) (λ _. r * q.y + 2 * (l * b))
      (λ _. pick (eqb q.x l) (λ _. l * q.y + 2 * (r * b)) (λ _. pick (eqb q.y b) (λ _. 2 * (r * b) + 2 * (l * b)) (λ _. 2 * (r * b) + 2 * (l * t))))

  unfoldable less : WholePlace → ℕ
  less q = pick (eqb q.x r) (λ _. 0) (λ _. pick (eqb q.x l) (λ _. 0) (λ _. pick (eqb q.y b) (λ _. b * q.x) (λ _. t * q.x)))

  apart : (q : WholePlace) → q.x ≡ l → q.x ≡ r → ⊥
  apart q e f = omega arith

  below : (q : WholePlace) → q.y ≡ t → q.y ≡ b → ⊥
  below q e f = omega arith

  more_right : (q : WholePlace) → q.x ≡ r → more q ≡ r * q.y + 2 * (l * b)
  unfolding more
  more_right q e = rw (eq-eqb q.x r e) refl

  less_right : (q : WholePlace) → q.x ≡ r → less q ≡ 0
  unfolding less
  less_right q e = rw (eq-eqb q.x r e) refl

  more_left : (q : WholePlace) → q.x ≡ l → more q ≡ l * q.y + 2 * (r * b)
  unfolding more
  more_left q e = rw (ne_eqb q.x r (apart q e), eq-eqb q.x l e) refl

  less_left : (q : WholePlace) → q.x ≡ l → less q ≡ 0
  unfolding less
  less_left q e = rw (ne_eqb q.x r (apart q e), eq-eqb q.x l e) refl

  module _ (q : WholePlace) (m : q.x ≡ r → ⊥) (n : q.x ≡ l → ⊥) where
    more_bottom : q.y ≡ b → more q ≡ 2 * (r * b) + 2 * (l * b)
    unfolding more
    more_bottom e = rw (ne_eqb q.x r m, ne_eqb q.x l n, eq-eqb q.y b e) refl

    less_bottom : q.y ≡ b → less q ≡ b * q.x
    unfolding less
    less_bottom e = rw (ne_eqb q.x r m, ne_eqb q.x l n, eq-eqb q.y b e) refl

    more_top : q.y ≡ t → more q ≡ 2 * (r * b) + 2 * (l * t)
    unfolding more
    more_top e = rw (ne_eqb q.x r m, ne_eqb q.x l n, ne_eqb q.y b (below q e)) refl

    less_top : q.y ≡ t → less q ≡ t * q.x
    unfolding less
    less_top e = rw (ne_eqb q.x r m, ne_eqb q.x l n, ne_eqb q.y b (below q e)) refl

  bottom : (q : WholePlace) → q.y ≡ b → more q + b * q.x ≡ 2 * (r * b) + 2 * (l * b) + less q
  bottom q e =
      ⊎_elim (λ k. on q.x q.y _ _ k e (more_right q k) (less_right q k))
      (λ k. ⊎_elim (λ m. at q.x q.y _ _ m e (more_left q m) (less_left q m)) (λ m. rw (more_bottom q k m e, less_bottom q k m e) refl) (eq_or_ne q.x l)) (eq_or_ne q.x r)
    where
      on : (x y m n : ℕ) → x ≡ r → y ≡ b → m ≡ r * y + 2 * (l * b) → n ≡ 0 → m + b * x ≡ 2 * (r * b) + 2 * (l * b) + n
      on x y m n e f g k = rw (g, k, e, f) (omega arith)

      at : (x y m n : ℕ) → x ≡ l → y ≡ b → m ≡ l * y + 2 * (r * b) → n ≡ 0 → m + b * x ≡ 2 * (r * b) + 2 * (l * b) + n
      at x y m n e f g k = rw (g, k, e, f) (omega arith)

  -- at the corner that is left once the potential jumps by twice the box
  top : (p q : WholePlace) → p.y ≡ t → q.y ≡ t → more p + t * p.x + 2 * (w * h) * leaves_box p q ≡ 2 * (r * b) + 2 * (l * t) + less p
  top p q e f =
      ⊎_elim (λ k. on p.x p.y _ _ _ k e (more_right p k) (less_right p k) (start_top p q k e f))
      (λ k. ⊎_elim (λ m. at p.x p.y _ _ _ m e (more_left p m) (less_left p m) (start_off p q k))
      (λ m. in_between p.x _ _ _ (more_top p k m e) (less_top p k m e) (start_off p q k)) (eq_or_ne p.x l))
      (eq_or_ne p.x r)
    where
      on : (x y m n s : ℕ) → x ≡ r → y ≡ t → m ≡ r * y + 2 * (l * b) → n ≡ 0 → s ≡ 1 → m + t * x + 2 * (w * h) * s ≡ 2 * (r * b) + 2 * (l * t) + n
      on x y m n s e f g k i = rw (g, k, e, f, i) (omega arith)

      at : (x y m n s : ℕ) → x ≡ l → y ≡ t → m ≡ l * y + 2 * (r * b) → n ≡ 0 → s ≡ 0 → m + t * x + 2 * (w * h) * s ≡ 2 * (r * b) + 2 * (l * t) + n
      at x y m n s e f g k i = rw (g, k, e, f, i) (omega arith)

      in_between : (x m n s : ℕ) → m ≡ 2 * (r * b) + 2 * (l * t) → n ≡ t * x → s ≡ 0 → m + t * x + 2 * (w * h) * s ≡ 2 * (r * b) + 2 * (l * t) + n
      in_between x m n s g k i = rw (g, k, i) (omega arith)

  -- ---- what a side along an edge owes
  abbrev Owes : WholePlace → WholePlace → Type 0
  Owes p q = gained p q + more q + less p + 2 * (w * h) * leaves_box q p ≡ gained q p + more p + less q + 2 * (w * h) * leaves_box p q

  owes : (p q : WholePlace) → BothOnEdge l t r b p q → Owes p q
  owes p q =
      ⊎_elim (λ e. left p.x q.x p.y q.y _ _ _ _ _ _ e.0 e.1 (more_left p e.0) (less_left p e.0) (more_left q e.1) (less_left q e.1)
      (start_off p q (apart p e.0)) (start_off q p (apart q e.1)))
      (⊎_elim (λ e. right p.x q.x p.y q.y _ _ _ _ _ _ e.0 e.1 (more_right p e.0) (less_right p e.0) (more_right q e.1) (less_right q e.1) (start_both p q e.0 e.1))
      (⊎_elim (λ e. level (2 * (r * b) + 2 * (l * t)) (2 * (w * h)) t p.x q.x p.y q.y _ _ _ _ _ _ e.0 e.1 (top p q e.0 e.1) (top q p e.1 e.0))
      (λ e. flat (2 * (r * b) + 2 * (l * b)) (2 * (w * h)) p.x q.x p.y q.y _ _ _ _ _ _ e.0 e.1 (bottom p e.0) (bottom q e.1) (start_low p q (low p e.0))
      (start_low q p (low q e.1)))))
    where
      low : (q : WholePlace) → q.y ≡ b → q.y ≡ t → ⊥
      low q e f = omega arith

      left : (x x' y y' m n m' n' s s' : ℕ) → x ≡ l → x' ≡ l → m ≡ l * y + 2 * (r * b) → n ≡ 0 → m' ≡ l * y' + 2 * (r * b) → n' ≡ 0 → s ≡ 0 → s' ≡ 0
          → y * x' + m' + n + 2 * (w * h) * s' ≡ y' * x + m + n' + 2 * (w * h) * s
      left x x' y y' m n m' n' s s' a c d e f g i j = rw (a, c, d, e, f, g, i, j) (omega arith)

      right : (x x' y y' m n m' n' s s' : ℕ) → x ≡ r → x' ≡ r → m ≡ r * y + 2 * (l * b) → n ≡ 0 → m' ≡ r * y' + 2 * (l * b) → n' ≡ 0 → s ≡ s'
          → y * x' + m' + n + 2 * (w * h) * s' ≡ y' * x + m + n' + 2 * (w * h) * s
      right x x' y y' m n m' n' s s' a c d e f g i = rw (a, c, d, e, f, g, i) (omega arith)

      level : (k z t x x' y y' m n m' n' s s' : ℕ) → y ≡ t → y' ≡ t → m + t * x + z * s ≡ k + n → m' + t * x' + z * s' ≡ k + n' → y * x' + m' + n + z * s' ≡ y' * x + m + n' + z * s
      level k z t x x' y y' m n m' n' s s' a c d e = rw (a, c) (omega (arith, d, e))

      flat : (k z x x' y y' m n m' n' s s' : ℕ) → y ≡ b → y' ≡ b → m + b * x ≡ k + n → m' + b * x' ≡ k + n' → s ≡ 0 → s' ≡ 0 → y * x' + m' + n + z * s' ≡ y' * x + m + n' + z * s
      flat k z x x' y y' m n m' n' s s' a c d e i j = rw (a, c, i, j) (omega (arith, d, e))

  -- ---- all rings: `along_edge` tells the sides that need no other
  module _ (along_edge : WholePlace → WholePlace → Bool) (sure : (p q : WholePlace) → along_edge p q ≡ true → BothOnEdge l t r b p q) (rs : List (List WholePlace)) where
    abbrev on : OfSide → OfSide
    on f p q = pick (along_edge p q) (λ _. f p q) (λ _. 0)

    abbrev pub off : OfSide → OfSide
    off f p q = pick (along_edge p q) (λ _. 0) (λ _. f p q)

    abbrev pub side_back : OfSide → OfSide
    side_back f p q = f q p

    split : (f : OfSide) → sum_all f rs ≡ sum_all (on f) rs + sum_all (off f) rs
    split f = same_all f (λ p q. on f p q + off f p q) (λ p q. one_where (along_edge p q) (f p q)) rs ∙ add_all (on f) (off f) rs
      where
        one_where : (c : Bool) (n : ℕ) → n ≡ pick c (λ _. n) (λ _. 0) + pick c (λ _. 0) (λ _. n)
        one_where true n = omega arith
        one_where false n = omega arith

    abbrev jump : OfSide
    jump p q = 2 * (w * h) * leaves_box p q

    abbrev mores : OfSide
    mores p q = more p

    abbrev lesses : OfSide
    lesses p q = less p

    owed : sum_all (on gained) rs + sum_all (on (side_back mores)) rs + sum_all (on lesses) rs + sum_all (on (side_back jump)) rs
        ≡ sum_all (on (side_back gained)) rs + sum_all (on mores) rs + sum_all (on (side_back lesses)) rs + sum_all (on jump) rs
    owed =
        sym (four (on gained) (on (side_back mores)) (on lesses) (on (side_back jump)))
        ∙ same_all _ _ (λ p q. one_where p q (along_edge p q) refl) rs
        ∙ four (on (side_back gained)) (on mores) (on (side_back lesses)) (on jump)
      where
        four : (f g i j : OfSide) → sum_all (λ p q. f p q + g p q + i p q + j p q) rs ≡ sum_all f rs + sum_all g rs + sum_all i rs + sum_all j rs
        four f g i j =
            add_all (λ p q. f p q + g p q + i p q) j rs
            ∙ ap (λ (n : ℕ). n + sum_all j rs) (add_all (λ p q. f p q + g p q) i rs ∙ ap (λ (n : ℕ). n + sum_all i rs) (add_all f g rs))

        one_where : (p q : WholePlace) (c : Bool) → along_edge p q ≡ c
            → on gained p q + on (side_back mores) p q + on lesses p q + on (side_back jump) p q ≡ on (side_back gained) p q + on mores p q + on (side_back lesses) p q + on jump p q
        one_where p q true e = rw e (owes p q (sure p q e))
        one_where p q false e = rw e refl

    -- the sum of the jumps is so many times their number
    jumps : (f : OfSide) (n : ℕ) → sum_all (λ p q. n * f p q) rs ≡ n * sum_all f rs
    jumps f n = times f n rs

    pub whole : ((f : OfSide) → sum_all (off f) rs ≡ sum_all (off (side_back f)) rs) → sum_all leaves_box rs ≡ sum_all (side_back leaves_box) rs + 1
        → sum_all gained rs ≡ sum_all (side_back gained) rs + 2 * (w * h)
    whole cancelled corner =
        go _ _ _ _ _ _ _ _ _ _ _ _ _ _ _ _ _ _ _ _ _ _ _ _ (split gained) (split (side_back gained)) (split mores) (split (side_back mores)) (split lesses) (split (side_back lesses))
        (split jump) (split (side_back jump))
        (cancelled gained) (cancelled mores) (cancelled lesses) (cancelled jump) (closed more rs) (closed less rs)
        (jumps leaves_box (2 * (w * h)) ∙ ap (λ (n : ℕ). 2 * (w * h) * n) corner ∙ over (2 * (w * h)) (sum_all (side_back leaves_box) rs) ∙ ap (λ (n : ℕ). n + 2 * (w * h))
        (sym (jumps (side_back leaves_box) (2 * (w * h))))) owed
      where
        over : (u v : ℕ) → u * (v + 1) ≡ u * v + u
        over u v = omega arith

        go : (G G' M M' L L' J J' Gn Gn' Mn Mn' Ln Ln' Jn Jn' Gf Gf' Mf Mf' Lf Lf' Jf Jf' : ℕ) → G ≡ Gn + Gf → G' ≡ Gn' + Gf' → M ≡ Mn + Mf → M' ≡ Mn' + Mf' → L ≡ Ln + Lf → L' ≡ Ln' + Lf'
            → J ≡ Jn + Jf → J' ≡ Jn' + Jf' → Gf ≡ Gf' → Mf ≡ Mf' → Lf ≡ Lf' → Jf ≡ Jf' → M ≡ M' → L ≡ L' → J ≡ J' + 2 * (w * h) → Gn + Mn' + Ln + Jn' ≡ Gn' + Mn + Ln' + Jn → G ≡ G' + 2 * (w * h)
        go G G' M M' L L' J J' Gn Gn' Mn Mn' Ln Ln' Jn Jn' Gf Gf' Mf Mf' Lf Lf' Jf Jf' a c d e f g i j k m n o u v x y = omega arith
