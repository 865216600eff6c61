-- Theorem: pieces whose sides cancel cover every place of the box once: the windings add up to 1.
use Rattle.std.specs.Prelude.{◌≡◌, Bool, true, false, List, ◌⊎◌, ℕ, suc, ◌+◌, ◌-◌, ◌*◌, ◌≤◌, ◌<◌, ltb, leb, eqb}
use Rattle.std.proofs.Math.Path.{refl}
use Rattle.std.proofs.Common.{sym, ap, ◌∙◌, arith}
use Rattle.std.proofs.Math.Logic.{⊎_elim}
use borrow.Author.Tests.{lt-ltb, le-ltb, le-leb, lt-leb, eq-eqb, ne_eqb}
use Rattle.base.specs.common.Pick.{pick}
use Rattle.base.specs.common.laws.Decide.{lt_or_ge, eq_or_ne}
use Rattle.certifying.specs.cover.Sums.{WholePlace, OfSide, sum_all}
use Rattle.certifying.specs.cover.laws.Adding.{add_all, same_all, closed}

-- the side from a to b comes up over the height Y (y points down), right of X: 1, else 0. The side back comes down: `comes_up X Y b a`
unfoldable pub comes_up : ℕ → ℕ → OfSide
comes_up X Y a b =
    pick (leb b.y Y)
    (λ _. pick (ltb Y a.y) (λ _. pick (ltb (a.y * X + b.x * Y + a.x * b.y) (b.y * X + b.x * a.y + a.x * Y)) (λ _. 1) (λ _. 0)) (λ _. 0))
    (λ _. 0)

module _ (X Y : ℕ) (a b : WholePlace) where
  up_one : b.y ≤ Y → Y < a.y → a.y * X + b.x * Y + a.x * b.y < b.y * X + b.x * a.y + a.x * Y → comes_up X Y a b ≡ 1
  unfolding comes_up
  up_one h k m = rw (le-leb _ _ h, lt-ltb _ _ k, lt-ltb _ _ m) refl

  up_not_right : b.y ≤ Y → Y < a.y → b.y * X + b.x * a.y + a.x * Y ≤ a.y * X + b.x * Y + a.x * b.y → comes_up X Y a b ≡ 0
  unfolding comes_up
  up_not_right h k m = rw (le-leb _ _ h, lt-ltb _ _ k, le-ltb _ _ m) refl

  up_above : b.y ≤ Y → a.y ≤ Y → comes_up X Y a b ≡ 0
  unfolding comes_up
  up_above h k = rw (le-leb _ _ h, le-ltb _ _ k) refl

  up_below : Y < b.y → comes_up X Y a b ≡ 0
  unfolding comes_up
  up_below h = rw (lt-leb _ _ h) refl

-- ---- the box, and a place in it
module _ (l t r b : ℕ) where
  -- both ends on one edge
  abbrev pub BothOnEdge : WholePlace → WholePlace → Type 0
  BothOnEdge p q = ((p.x ≡ l) × (q.x ≡ l)) ⊎ ((p.x ≡ r) × (q.x ≡ r)) ⊎ ((p.y ≡ t) × (q.y ≡ t)) ⊎ ((p.y ≡ b) × (q.y ≡ b))

  -- a side along the top that starts at the top right corner: 1, else 0
  unfoldable pub leaves : OfSide
  leaves p q = pick (eqb p.x r) (λ _. pick (eqb p.y t) (λ _. pick (eqb q.y t) (λ _. 1) (λ _. 0)) (λ _. 0)) (λ _. 0)

  module _ (X Y : ℕ) where
    -- on the right edge, at the height Y or above it
    unfoldable pub right_mark : WholePlace → ℕ
    right_mark q = pick (eqb q.x r) (λ _. pick (leb q.y Y) (λ _. 1) (λ _. 0)) (λ _. 0)

    mark_off : (q : WholePlace) → (q.x ≡ r → ⊥) → right_mark q ≡ 0
    unfolding right_mark
    mark_off q h = rw (ne_eqb _ _ h) refl

    mark_above : (q : WholePlace) → q.x ≡ r → q.y ≤ Y → right_mark q ≡ 1
    unfolding right_mark
    mark_above q h k = rw (eq-eqb _ _ h, le-leb _ _ k) refl

    mark_below : (q : WholePlace) → Y < q.y → right_mark q ≡ 0
    unfolding right_mark
    mark_below q k = ⊎_elim (λ h. rw (eq-eqb q.x r h, lt-leb q.y Y k) refl) (λ h. rw (ne_eqb q.x r h) refl) (eq_or_ne q.x r)

    leaves_off : (p q : WholePlace) → (p.x ≡ r → ⊥) → leaves p q ≡ 0
    unfolding leaves
    leaves_off p q h = rw (ne_eqb _ _ h) refl

    leaves_low : (p q : WholePlace) → (p.y ≡ t → ⊥) → leaves p q ≡ 0
    unfolding leaves
    leaves_low p q h = ⊎_elim (λ k. rw (eq-eqb p.x r k, ne_eqb p.y t h) refl) (λ k. rw (ne_eqb p.x r k) refl) (eq_or_ne p.x r)

    leaves_top : (p q : WholePlace) → p.x ≡ r → p.y ≡ t → q.y ≡ t → leaves p q ≡ 1
    unfolding leaves
    leaves_top p q h k m = rw (eq-eqb _ _ h, eq-eqb _ _ k, eq-eqb _ _ m) refl

    un_leave : (p q : WholePlace) → (q.y ≡ t → ⊥) → leaves p q ≡ 0
    unfolding leaves
    un_leave p q h =
        ⊎_elim (λ k. ⊎_elim (λ m. rw (eq-eqb p.x r k, eq-eqb p.y t m, ne_eqb q.y t h) refl) (λ m. rw (eq-eqb p.x r k, ne_eqb p.y t m) refl) (eq_or_ne p.y t))
        (λ k. rw (ne_eqb p.x r k) refl) (eq_or_ne p.x r)

    module _ (across : l < r) (down : t < b) (hl : l ≤ X) (hr : X < r) (ht : t ≤ Y) (hb : Y < b) where
      -- what a side along an edge owes
      abbrev Owes : WholePlace → WholePlace → Type 0
      Owes p q = comes_up X Y p q + right_mark p + leaves q p ≡ comes_up X Y q p + right_mark q + leaves p q

      six : {u m v w n z : ℕ} {u' m' v' w' n' z' : ℕ} → u ≡ u' → m ≡ m' → v ≡ v' → w ≡ w' → n ≡ n' → z ≡ z' → u' + m' + v' ≡ w' + n' + z' → u + m + v ≡ w + n + z
      six a c d e f g h = omega arith

      at_left : (p q : WholePlace) → p.x ≡ l → q.x ≡ l → Owes p q
      at_left p q hp hq = six (none p q hp hq) (mark_off p (off p hp)) (leaves_off q p (off q hq)) (none q p hq hp) (mark_off q (off q hq)) (leaves_off p q (off p hp)) refl
        where
          off : (p : WholePlace) → p.x ≡ l → p.x ≡ r → ⊥
          off p h k = omega arith

          flat : (u v x : ℕ) → u ≤ Y → Y < v → x ≤ X → u * X + x * v + x * Y ≤ v * X + x * Y + x * u
          flat u v x h k m = go (v - u) (X - x) v X (omega arith) (omega arith)
            where
              go : (e d v X : ℕ) → v ≡ u + e → X ≡ x + d → u * X + x * v + x * Y ≤ v * X + x * Y + x * u
              go e d v X c f = rw (c, f) (omega arith)

          none : (p q : WholePlace) → p.x ≡ l → q.x ≡ l → comes_up X Y p q ≡ 0
          none p q hp hq =
              ⊎_elim (λ k. up_below X Y p q k)
              (λ k. ⊎_elim (λ m. up_not_right X Y p q k m (rw (hp, hq) (flat q.y p.y l k m hl))) (λ m. up_above X Y p q k m) (lt_or_ge Y p.y))
              (lt_or_ge Y q.y)

      at_right : (p q : WholePlace) → p.x ≡ r → q.x ≡ r → Owes p q
      at_right p q hp hq =
          ⊎_elim
          (λ k. ⊎_elim
          (λ m. six (up_below X Y p q m) (mark_below p k) (leaves_low q p (low q m)) (up_below X Y q p k) (mark_below q m) (leaves_low p q (low p k)) refl)
          (λ m. six (passes p q hp hq m k) (mark_below p k) (un_leave q p (low p k)) (up_below X Y q p k) (mark_above q hq m) (leaves_low p q (low p k)) refl)
          (lt_or_ge Y q.y))
          (λ k. ⊎_elim
          (λ m. six (up_below X Y p q m) (mark_above p hp k) (leaves_low q p (low q m)) (passes q p hq hp k m) (mark_below q m) (un_leave p q (low q m)) refl)
          (λ m. six (up_above X Y p q m k) (mark_above p hp k) refl (up_above X Y q p k m) (mark_above q hq m) (both p q hp hq) refl)
          (lt_or_ge Y q.y))
          (lt_or_ge Y p.y)
        where
          low : (q : WholePlace) → Y < q.y → q.y ≡ t → ⊥
          low q h k = omega arith

          -- the same both ways on the right edge
          both : (p q : WholePlace) → p.x ≡ r → q.x ≡ r → leaves p q ≡ leaves q p
          both p q hp hq =
              ⊎_elim
              (λ k. ⊎_elim (λ m. leaves_top p q hp k m ∙ sym (leaves_top q p hq m k)) (λ m. un_leave p q m ∙ sym (leaves_low q p m)) (eq_or_ne q.y t))
              (λ k. leaves_low p q k ∙ sym (un_leave q p k))
              (eq_or_ne p.y t)

          steep : (u v x : ℕ) → u ≤ Y → Y < v → X < x → v * X + x * Y + x * u < u * X + x * v + x * Y
          steep u v x h k m = go (v - suc u) (x - suc X) v x (omega arith) (omega arith)
            where
              go : (e d v x : ℕ) → v ≡ u + suc e → x ≡ X + suc d → v * X + x * Y + x * u < u * X + x * v + x * Y
              go e d v x c f = rw (c, f) (omega arith)

          passes : (p q : WholePlace) → p.x ≡ r → q.x ≡ r → q.y ≤ Y → Y < p.y → comes_up X Y p q ≡ 1
          passes p q hp hq h k = up_one X Y p q h k (rw (hp, hq) (steep q.y p.y r h k hr))

      at_top : (p q : WholePlace) → p.y ≡ t → q.y ≡ t → Owes p q
      at_top p q hp hq =
          six (up_above X Y p q (high q hq) (high p hp)) (marks p q hp hq) refl (up_above X Y q p (high p hp) (high q hq)) (marks q p hq hp) refl (swap (leaves p q) (leaves q p))
        where
          high : (q : WholePlace) → q.y ≡ t → q.y ≤ Y
          high q h = omega arith

          swap : (m n : ℕ) → 0 + m + n ≡ 0 + n + m
          swap m n = omega arith

          marks : (p q : WholePlace) → p.y ≡ t → q.y ≡ t → right_mark p ≡ leaves p q
          marks p q hp hq =
              ⊎_elim (λ k. mark_above p k (high p hp) ∙ sym (leaves_top p q k hp hq)) (λ k. mark_off p k ∙ sym (leaves_off p q k)) (eq_or_ne p.x r)

      at_bottom : (p q : WholePlace) → p.y ≡ b → q.y ≡ b → Owes p q
      at_bottom p q hp hq =
          six (up_below X Y p q (under q hq)) (mark_below p (under p hp)) (leaves_low q p (low q hq)) (up_below X Y q p (under p hp)) (mark_below q (under q hq)) (leaves_low p q (low p hp)) refl
        where
          under : (q : WholePlace) → q.y ≡ b → Y < q.y
          under q h = omega arith

          low : (q : WholePlace) → q.y ≡ b → q.y ≡ t → ⊥
          low q h k = omega arith

      owes : (p q : WholePlace) → BothOnEdge p q → Owes p q
      owes p q =
          ⊎_elim (λ h. at_left p q h.0 h.1)
          (⊎_elim (λ h. at_right p q h.0 h.1) (⊎_elim (λ h. at_top p q h.0 h.1) (λ h. at_bottom p q h.0 h.1)))

      -- ---- all rings: `along_edge` tells the sides that need no other
      module _ (along_edge : WholePlace → WholePlace → Bool) (sure : (p q : WholePlace) → along_edge p q ≡ true → BothOnEdge p q) (rs : List (List WholePlace)) where
        abbrev pub off : OfSide → OfSide
        off f p q = pick (along_edge p q) (λ _. 0) (λ _. f p q)

        abbrev on : OfSide → OfSide
        on f p q = pick (along_edge p q) (λ _. f p q) (λ _. 0)

        abbrev pub side_back : OfSide → OfSide
        side_back f p q = f q p

        abbrev pub Cancelled : Type 0
        Cancelled = (f : OfSide) → sum_all (off f) rs ≡ sum_all (off (side_back f)) rs

        split : (f : OfSide) → sum_all f rs ≡ sum_all (on f) rs + sum_all (off f) rs
        split f = same_all f (λ p q. on f p q + off f p q) (λ p q. one_where (along_edge p q) (f p q)) rs ∙ add_all (on f) (off f) rs
          where
            one_where : (c : Bool) (n : ℕ) → n ≡ pick c (λ _. n) (λ _. 0) + pick c (λ _. 0) (λ _. n)
            one_where true n = omega arith
            one_where false n = omega arith

        abbrev starts : OfSide
        starts p q = right_mark p

        abbrev ends : OfSide
        ends p q = right_mark q

        owed : sum_all (on (comes_up X Y)) rs + sum_all (on starts) rs + sum_all (on (side_back leaves)) rs ≡ sum_all (on (side_back (comes_up X Y))) rs + sum_all (on ends) rs + sum_all (on leaves) rs
        owed =
            sym (three (on (comes_up X Y)) (on starts) (on (side_back leaves)))
            ∙ same_all _ _ (λ p q. one_where p q (along_edge p q) refl) rs
            ∙ three (on (side_back (comes_up X Y))) (on ends) (on leaves)
          where
            three : (f g h : OfSide) → sum_all (λ p q. f p q + g p q + h p q) rs ≡ sum_all f rs + sum_all g rs + sum_all h rs
            three f g h = add_all (λ p q. f p q + g p q) h rs ∙ ap (λ (n : ℕ). n + sum_all h rs) (add_all f g rs)

            one_where : (p q : WholePlace) (c : Bool) → along_edge p q ≡ c
                → on (comes_up X Y) p q + on starts p q + on (side_back leaves) p q ≡ on (side_back (comes_up X Y)) p q + on ends p q + on leaves p q
            one_where p q true h = rw h (owes p q (sure p q h))
            one_where p q false h = rw h refl

        -- sides that cancel, and a corner that is left once: the ways up, right of the place, are one more than the ways down
        pub covered : Cancelled → sum_all leaves rs ≡ sum_all (side_back leaves) rs + 1 → sum_all (comes_up X Y) rs ≡ sum_all (side_back (comes_up X Y)) rs + 1
        covered cancelled corner =
            go _ _ _ _ _ _ _ _ _ _ _ _ _ _ _ _ _ _ (split (comes_up X Y)) (split (side_back (comes_up X Y))) (split starts) (split ends) (split leaves) (split (side_back leaves)) (cancelled (comes_up X Y))
            (cancelled starts) (cancelled leaves) (closed right_mark rs) corner owed
          where
            go : (U U' S E L L' Un Un' Sn En Ln Ln' Uf Uf' Sf Ef Lf Lf' : ℕ)
                → U ≡ Un + Uf → U' ≡ Un' + Uf' → S ≡ Sn + Sf → E ≡ En + Ef → L ≡ Ln + Lf → L' ≡ Ln' + Lf'
                → Uf ≡ Uf' → Sf ≡ Ef → Lf ≡ Lf' → S ≡ E → L ≡ L' + 1 → Un + Sn + Ln' ≡ Un' + En + Ln → U ≡ U' + 1
            go U U' S E L L' Un Un' Sn En Ln Ln' Uf Uf' Sf Ef Lf Lf' a c d f g h i j k m n o = omega arith
