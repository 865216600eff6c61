-- Nodes: the sites of least and greatest coordinates of a block, found one site at a time, and written after what is there.
use Rattle.std.specs.Prelude.{◌≡◌, Bool, true, false, List, ◌⊎◌, ℕ, ◌+◌, ◌-◌, ◌*◌, ◌/◌, ◌≤◌, ◌<◌, Float, length, get_or, set, take, drop, min}
use Rattle.std.proofs.Math.Path.{refl}
use Rattle.std.proofs.Common.{sym, ap, ◌∙◌, subst, inl, inr, ⊎_elim, le_trans, le_of_eq, le_of_lt, lt_of_lt_of_le, le-div_iff_mul-le, mul-le-mul_right, arith}
use Rattle.std.proofs.Common.{length-set, get_or-set_same, get_or-set_other}
use Rattle.std.specs.Int.{div_ceil}
use Rattle.std.proofs.lemmas.List.{length-take, get_or-take, get_or-drop}
use Rattle.std.proofs.lemmas.Grind.{div_ceil_times}
use Rattle.std.specs.Float.{nan}
use Rattle.std.specs.Float.Ieee.{lt}
use Rattle.base.specs.common.laws.Decide.{eq_or_ne, lt_or_ge}
use Rattle.plane.specs.points.Flat.{point_at}
use Rattle.plane.specs.declared.points.Point.{Point}
use Rattle.audit_truth.specs.Held.{HeldWithin}
use Rattle.certifying.specs.tree.Steps.{SitesHeld, coord_at, TwoSites, Lower, Higher, FourNamed, Boxes, Widens, BoxesFrom, Order, NodeBoxes, FillSafe, SameBefore, NodeFilled}
use Rattle.certifying.specs.windows.Windows.{NotAbove}
use Rattle.certifying.specs.tree.Steps.{NodesTo, Level, LevelFilled, base256, base4096, TreeOf}
use Rattle.certifying.specs.windows.laws.LeftOut.{at_most_of_lt, at_most_of_not, at_most_trans, at_most_self}
use Rattle.certifying.specs.tree.laws.Orders.{order_kept}

-- ---- coordinates
along_x : (sites : List Float) (i : ℕ) → coord_at sites i 0 ≡ get_or sites (2 * i) nan
unfolding coord_at
along_x sites i = ap (λ (k : ℕ). get_or sites k nan) (plain i)
  where
    plain : (i : ℕ) → 2 * i + 0 ≡ 2 * i
    plain i = omega arith

along_y : (sites : List Float) (i : ℕ) → coord_at sites i 1 ≡ get_or sites (2 * i + 1) nan
unfolding coord_at
along_y sites i = refl

coord_held : {sites : List Float} → SitesHeld sites → (i axis : ℕ) → i < length sites / 2 → axis < 2 → HeldWithin 400 (coord_at sites i axis)
coord_held {sites} h i axis I A = ⊎_elim (λ e. subst (λ (a : ℕ). HeldWithin 400 (coord_at sites i a)) (sym e) (subst (HeldWithin 400) (sym (along_x sites i)) (h.each i I).x))
    (λ n. subst (λ (a : ℕ). HeldWithin 400 (coord_at sites i a)) (one axis n A) (subst (HeldWithin 400) (sym (along_y sites i)) (h.each i I).y)) (eq_or_ne axis 0)
  where
    one : (a : ℕ) → (a ≡ 0 → ⊥) → a < 2 → 1 ≡ a
    one a n h = ⊎_elim (λ l. absurd (n (omega arith))) (λ l. omega arith) (lt_or_ge a 1)

module _ {sites : List Float} {a b axis : ℕ} (t : TwoSites sites a b axis) {wa wb : ℕ} (A : wa ≡ a) (B : wb ≡ b) where
  abbrev test_low : Bool
  test_low = lt (get_or sites (2 * wb + axis) nan) (get_or sites (2 * wa + axis) nan)

  ha : HeldWithin 400 (coord_at sites a axis)
  ha = coord_held t.held a axis t.first t.flat

  hb : HeldWithin 400 (coord_at sites b axis)
  hb = coord_held t.held b axis t.second t.flat

  low_is : test_low ≡ lt (coord_at sites b axis) (coord_at sites a axis)
  unfolding coord_at
  low_is = rw (A, B) refl

  pub lower_second : test_low ≡ true → Lower sites a b axis b
  lower_second e = record { named = t.second; own = at_most_of_lt 400 400 _ _ hb ha (sym low_is ∙ e); other = at_most_self (coord_at sites b axis) }

  pub lower_first : test_low ≡ false → Lower sites a b axis a
  lower_first e = record { named = t.first; own = at_most_self (coord_at sites a axis); other = at_most_of_not 400 400 _ _ ha hb (sym low_is ∙ e) }

  abbrev test_high : Bool
  test_high = lt (get_or sites (2 * wa + axis) nan) (get_or sites (2 * wb + axis) nan)

  high_is : test_high ≡ lt (coord_at sites a axis) (coord_at sites b axis)
  unfolding coord_at
  high_is = rw (A, B) refl

  pub higher_second : test_high ≡ true → Higher sites a b axis b
  higher_second e = record { named = t.second; own = at_most_of_lt 400 400 _ _ ha hb (sym high_is ∙ e); other = at_most_self (coord_at sites b axis) }

  pub higher_first : test_high ≡ false → Higher sites a b axis a
  higher_first e = record { named = t.first; own = at_most_self (coord_at sites a axis); other = at_most_of_not 400 400 _ _ hb ha (sym high_is ∙ e) }

-- ---- one site more
pub widens : {sites : List Float} {l t r b o l' t' r' b' : ℕ} → Lower sites l o 0 l' → Lower sites t o 1 t' → Higher sites r o 0 r' → Higher sites b o 1 b' → Widens sites l t r b o l' t' r' b'
widens {sites} {l} {t} {r} {b} {o} {l'} {t'} {r'} {b'} f g h i = record {
  named = record { left = f.named; top = g.named; right = h.named; bottom = i.named };
  new = record { left = x l' o f.other; top = y t' o g.other; right = x o r' h.other; bottom = y o b' i.other };
  old = λ p k. record {
    left = at_most_trans (point_at sites l').x (point_at sites l).x (point_at sites p).x (x l' l f.own) k.left;
    top = at_most_trans (point_at sites t').y (point_at sites t).y (point_at sites p).y (y t' t g.own) k.top;
    right = at_most_trans (point_at sites p).x (point_at sites r).x (point_at sites r').x k.right (x r r' h.own);
    bottom = at_most_trans (point_at sites p).y (point_at sites b).y (point_at sites b').y k.bottom (y b b' i.own);
  };
}
  where
    x : (p q : ℕ) → NotAbove (coord_at sites p 0) (coord_at sites q 0) → NotAbove (point_at sites p).x (point_at sites q).x
    x p q k = subst (λ (z : Float). NotAbove z (point_at sites q).x) (along_x sites p) (subst (NotAbove (coord_at sites p 0)) (along_x sites q) k)

    y : (p q : ℕ) → NotAbove (coord_at sites p 1) (coord_at sites q 1) → NotAbove (point_at sites p).y (point_at sites q).y
    y p q k = subst (λ (z : Float). NotAbove z (point_at sites q).y) (along_y sites p) (subst (NotAbove (coord_at sites p 1)) (along_y sites q) k)

pub boxes_start : {sites : List Float} {room : List ℕ} {from : ℕ} → get_or room from 0 < length sites / 2
    → BoxesFrom sites room from (from + 1) (get_or room from 0) (get_or room from 0) (get_or room from 0) (get_or room from 0)
boxes_start {sites} {room} {from} h = record {
  named = record { left = h; top = h; right = h; bottom = h };
  each = λ j a b. subst (λ (i : ℕ). Boxes sites (get_or room from 0) (get_or room from 0) (get_or room from 0) (get_or room from 0) (get_or room i 0)) (only j a b)
      (record { left = at_most_self p.x; top = at_most_self p.y; right = at_most_self p.x; bottom = at_most_self p.y });
}
  where
    p : Point
    p = point_at sites (get_or room from 0)

    only : (j : ℕ) → from ≤ j → j < from + 1 → from ≡ j
    only j a b = omega arith

pub boxes_step : {sites : List Float} {room : List ℕ} {from j l t r b l' t' r' b' : ℕ} → BoxesFrom sites room from j l t r b → Widens sites l t r b (get_or room j 0) l' t' r' b'
    → BoxesFrom sites room from (j + 1) l' t' r' b'
boxes_step {sites} {room} {from} {j} {l' = l'} {t' = t'} {r' = r'} {b' = b'} a w = record {
  named = w.named;
  each = λ i f g. ⊎_elim (λ e. subst (λ (k : ℕ). Boxes sites l' t' r' b' (get_or room k 0)) (sym e) w.new) (λ n. w.old (get_or room i 0) (a.each i f (before i g n))) (eq_or_ne i j);
}
  where
    before : (i : ℕ) → i < j + 1 → (i ≡ j → ⊥) → i < j
    before i g q = ⊎_elim (λ l. l) (λ l. absurd (q (omega arith))) (lt_or_ge i j)

pub boxes_to : {sites : List Float} {room : List ℕ} {from j to l t r b : ℕ} → BoxesFrom sites room from j l t r b → to ≤ j → BoxesFrom sites room from to l t r b
boxes_to a h = record { named = a.named; each = λ i f g. a.each i f (lt_of_lt_of_le g h) }

-- ---- four words
module _ (l : List ℕ) (at a b c d : ℕ) (h : at + 3 < length l) where
  abbrev one : List ℕ
  one = set l at a

  abbrev two : List ℕ
  two = set one (at + 1) b

  abbrev three : List ℕ
  three = set two (at + 2) c

  abbrev wrote : List ℕ
  wrote = set three (at + 3) d

  long₁ : length one ≡ length l
  long₁ = length-set l at a

  long₂ : length two ≡ length l
  long₂ = length-set one (at + 1) b ∙ long₁

  long₃ : length three ≡ length l
  long₃ = length-set two (at + 2) c ∙ long₂

  wrote_length : length wrote ≡ length l
  wrote_length = length-set three (at + 3) d ∙ long₃

  word₀ : get_or wrote at 0 ≡ a
  word₀ =
      get_or-set_other three (at + 3) at d 0 (λ e. omega arith)
      ∙ get_or-set_other two (at + 2) at c 0 (λ e. omega arith)
      ∙ get_or-set_other one (at + 1) at b 0 (λ e. omega arith)
      ∙ get_or-set_same l at a 0 (omega arith)

  word₁ : get_or wrote (at + 1) 0 ≡ b
  word₁ =
      get_or-set_other three (at + 3) (at + 1) d 0 (λ e. omega arith)
      ∙ get_or-set_other two (at + 2) (at + 1) c 0 (λ e. omega arith)
      ∙ get_or-set_same one (at + 1) b 0 (omega (arith, long₁))

  word₂ : get_or wrote (at + 2) 0 ≡ c
  word₂ = get_or-set_other three (at + 3) (at + 2) d 0 (λ e. omega arith) ∙ get_or-set_same two (at + 2) c 0 (omega (arith, long₂))

  word₃ : get_or wrote (at + 3) 0 ≡ d
  word₃ = get_or-set_same three (at + 3) d 0 (omega (arith, long₃))

  before_word : (i : ℕ) → i < at → get_or wrote i 0 ≡ get_or l i 0
  before_word i g =
      get_or-set_other three (at + 3) i d 0 (λ e. omega arith)
      ∙ get_or-set_other two (at + 2) i c 0 (λ e. omega arith)
      ∙ get_or-set_other one (at + 1) i b 0 (λ e. omega arith)
      ∙ get_or-set_other l at i a 0 (λ e. omega arith)

-- ---- a node, in its place
named_as : {sites : List Float} {l t r b l' t' r' b' : ℕ} → l' ≡ l → t' ≡ t → r' ≡ r → b' ≡ b → FourNamed sites l t r b → FourNamed sites l' t' r' b'
named_as e f g h n = rw (e, f, g, h) n

boxes_as : {sites : List Float} {l t r b o l' t' r' b' o' : ℕ} → l' ≡ l → t' ≡ t → r' ≡ r → b' ≡ b → o' ≡ o → Boxes sites l t r b o → Boxes sites l' t' r' b' o'
boxes_as e f g h i n = rw (e, f, g, h, i) n

-- the lesser of two numbers is one of them
pub min_either : (a b : ℕ) {to : ℕ} → to ≡ min a b → (to ≡ a) ⊎ (to ≡ b)
min_either a b {to} e = ⊎_elim (λ l. inl (omega (arith, e))) (λ l. inr (omega (arith, e))) (lt_or_ge a b)

module _ {sites : List Float} {room : List ℕ} {w base : ℕ} (s : FillSafe sites room w base) (b : ℕ) (B : b * w < length sites / 2) where
  few_blocks : b ≤ length sites / 2 / w
  few_blocks = (le-div_iff_mul-le s.some).1 (le_of_lt B)

  pub node_fits : base + 4 * b + 3 < length room
  node_fits = go (length sites / 2 / w) few_blocks s.fits
    where
      go : (q : ℕ) → b ≤ q → base + 4 * (q + 1) ≤ length room → base + 4 * b + 3 < length room
      go q h k = omega arith

  pub node_filled : {to l t r u : ℕ} {after : List ℕ} → BoxesFrom sites room (b * w) to l t r u → (to ≡ b * w + w) ⊎ (to ≡ length sites / 2)
      → after ≡ set (set (set (set room (base + 4 * b) l) (base + 4 * b + 1) t) (base + 4 * b + 2) r) (base + 4 * b + 3) u → NodeFilled sites w base b room after
  node_filled {to} {l} {t} {r} {u} {after} f end e = subst (NodeFilled sites w base b room) (sym e) (record {
    kept = record { same = wrote_length room at l t r u node_fits; each = before_word room at l t r u node_fits };
    node = record {
      named = named_as w0 w1 w2 w3 f.named;
      each = λ j x y z. boxes_as w0 w1 w2 w3 (before_word room at l t r u node_fits j (low j z)) (f.each j x (within j y z));
    };
  })
    where
      at : ℕ
      at = base + 4 * b

      w0 : get_or (wrote room at l t r u node_fits) at 0 ≡ l
      w0 = word₀ room at l t r u node_fits

      w1 : get_or (wrote room at l t r u node_fits) (at + 1) 0 ≡ t
      w1 = word₁ room at l t r u node_fits

      w2 : get_or (wrote room at l t r u node_fits) (at + 2) 0 ≡ r
      w2 = word₂ room at l t r u node_fits

      w3 : get_or (wrote room at l t r u node_fits) (at + 3) 0 ≡ u
      w3 = word₃ room at l t r u node_fits

      low : (j : ℕ) → j < length sites / 2 → j < base + 4 * b
      low j z = go (length sites / 2) s.after z
        where
          go : (n : ℕ) → n ≤ base → j < n → j < base + 4 * b
          go n h k = omega arith

      within : (j : ℕ) → j < b * w + w → j < length sites / 2 → j < to
      within j y z = ⊎_elim (λ q. lt_of_lt_of_le y (le_of_eq (sym q))) (λ q. lt_of_lt_of_le z (le_of_eq (sym q))) end

  pub node_filled_min : {to l t r u : ℕ} {after : List ℕ} → BoxesFrom sites room (b * w) to l t r u → to ≡ min (b * w + w) (length sites / 2)
      → after ≡ set (set (set (set room (base + 4 * b) l) (base + 4 * b + 1) t) (base + 4 * b + 2) r) (base + 4 * b + 3) u → NodeFilled sites w base b room after
  node_filled_min f end e = node_filled f (min_either (b * w + w) (length sites / 2) end) e

-- what was written later leaves a node as it is
module _ {sites : List Float} {p : ℕ} {before after : List ℕ} (s : SameBefore p before after) (N : length sites / 2 ≤ p) where
  node_kept : {w base i : ℕ} → base + 4 * i + 4 ≤ p → NodeBoxes sites w base i before → NodeBoxes sites w base i after
  node_kept {w} {base} {i} h n = record {
    named = named_as (s.each _ (a h)) (s.each _ (b h)) (s.each _ (c h)) (s.each _ (d h)) n.named;
    each = λ j x y z. boxes_as (s.each _ (a h)) (s.each _ (b h)) (s.each _ (c h)) (s.each _ (d h)) (s.each j (lt_of_lt_of_le z N)) (n.each j x y z);
  }
    where
      a : base + 4 * i + 4 ≤ p → base + 4 * i < p
      a h = omega arith

      b : base + 4 * i + 4 ≤ p → base + 4 * i + 1 < p
      b h = omega arith

      c : base + 4 * i + 4 ≤ p → base + 4 * i + 2 < p
      c h = omega arith

      d : base + 4 * i + 4 ≤ p → base + 4 * i + 3 < p
      d h = omega arith

  pub level_kept : {w base : ℕ} → base + 4 * (length sites / 2 / w + 1) ≤ p → Level sites before w base → Level sites after w base
  level_kept {w} {base} h l = record {
    some = l.some;
    after = l.after;
    fits = le_trans l.fits (le_of_eq (sym s.same));
    nodes = λ i g. node_kept (go i (length sites / 2 / w) ((le-div_iff_mul-le l.some).1 (le_of_lt g)) h) (l.nodes i g);
  }
    where
      go : (i q : ℕ) → i ≤ q → base + 4 * (q + 1) ≤ p → base + 4 * i + 4 ≤ p
      go i q a b = omega arith

-- ---- all nodes of a level
pub filled_none : {sites : List Float} {w base : ℕ} (room : List ℕ) → NodesTo sites w base 0 room room
filled_none room = record { kept = record { same = refl; each = λ i h. refl }; nodes = λ i h. absurd (omega arith) }

pub filled_step : {sites : List Float} {w base b : ℕ} {first before after : List ℕ} → length sites / 2 ≤ base → NodesTo sites w base b first before → NodeFilled sites w base b before after
    → NodesTo sites w base (b + 1) first after
filled_step {sites} {w} {base} {b} {first} {before} {after} N a n = record {
  kept = record { same = n.kept.same ∙ a.kept.same; each = λ i h. n.kept.each i (low i h) ∙ a.kept.each i h };
  nodes = λ i h. ⊎_elim (λ e. subst (λ (k : ℕ). NodeBoxes sites w base k after) (sym e) n.node)
      (λ q. node_kept n.kept (more (length sites / 2) N) (room i (earlier i h q)) (a.nodes i (earlier i h q)))
      (eq_or_ne i b);
}
  where
    low : (i : ℕ) → i < base → i < base + 4 * b
    low i h = omega arith

    more : (n : ℕ) → n ≤ base → n ≤ base + 4 * b
    more n h = omega arith

    room : (i : ℕ) → i < b → base + 4 * i + 4 ≤ base + 4 * b
    room i h = omega arith

    earlier : (i : ℕ) → i < b + 1 → (i ≡ b → ⊥) → i < b
    earlier i g q = ⊎_elim (λ l. l) (λ l. absurd (q (omega arith))) (lt_or_ge i b)

pub fill_again : {sites : List Float} {w base p : ℕ} {before after : List ℕ} → FillSafe sites before w base → SameBefore p before after → length sites / 2 ≤ p → FillSafe sites after w base
fill_again f s N = record {
  held = f.held;
  order = order_kept f.order s N;
  few = f.few;
  some = f.some;
  most = f.most;
  after = f.after;
  fits = le_trans f.fits (le_of_eq (sym s.same));
}

pub filled_all : {sites : List Float} {w base b : ℕ} {before after : List ℕ} → FillSafe sites before w base → NodesTo sites w base b before after → length sites / 2 ≤ b * w
    → LevelFilled sites w base before after
filled_all {sites} {w} {base} {b} {before} {after} f a end = record {
  kept = a.kept;
  level = record {
    some = f.some;
    after = f.after;
    fits = le_trans f.fits (le_of_eq (sym a.kept.same));
    nodes = λ i h. a.nodes i (⊎_elim (λ l. l) (λ l. absurd (no (b * w) (i * w) (length sites / 2) (mul-le-mul_right w l) end h)) (lt_or_ge i b));
  };
}
  where
    no : (x y n : ℕ) → x ≤ y → n ≤ x → y < n → ⊥
    no x y n h k l = omega arith

-- ---- the tree
pub safe_level : {sites : List Float} {room : List ℕ} (w base : ℕ) → SitesHeld sites → Order (length sites / 2) room → length sites / 2 ≤ 65536 → 0 < w → w ≤ 4096 → length sites / 2 ≤ base
    → base + 4 * (length sites / 2 / w + 1) ≤ length room → FillSafe sites room w base
safe_level w base h o f s m a t = record { held = h; order = o; few = f; some = s; most = m; after = a; fits = t }

pub tree_of : {sites : List Float} {r₁ r₂ r₃ r₄ : List ℕ} → length sites / 2 ≤ 65536 → Order (length sites / 2) r₁ → LevelFilled sites 16 (length sites / 2) r₁ r₂
    → LevelFilled sites 256 (base256 (length sites / 2)) r₂ r₃ → LevelFilled sites 4096 (base4096 (length sites / 2)) r₃ r₄ → TreeOf sites r₄
tree_of {sites} few o f g h = record {
  order = order_kept (order_kept (order_kept o f.kept (a n)) g.kept (b n)) h.kept (c n);
  few = few;
  fine = level_kept h.kept (c n) (d n) (level_kept g.kept (b n) (e n) f.level);
  middle = level_kept h.kept (c n) (i n) g.level;
  coarse = h.level;
}
  where
    n : ℕ
    n = length sites / 2

    a : (n : ℕ) → n ≤ n
    a n = omega arith

    b : (n : ℕ) → n ≤ n + 4 * (n / 16 + 1)
    b n = omega arith

    c : (n : ℕ) → n ≤ n + 4 * (n / 16 + n / 256 + 2)
    c n = omega arith

    d : (n : ℕ) → n + 4 * (n / 16 + 1) ≤ n + 4 * (n / 16 + n / 256 + 2)
    d n = omega arith

    e : (n : ℕ) → n + 4 * (n / 16 + 1) ≤ n + 4 * (n / 16 + 1)
    e n = omega arith

    i : (n : ℕ) → n + 4 * (n / 16 + 1) + 4 * (n / 256 + 1) ≤ n + 4 * (n / 16 + n / 256 + 2)
    i n = omega arith

pub level_at : {sites : List Float} {w base base' : ℕ} {before after : List ℕ} → base ≡ base' → LevelFilled sites w base before after → LevelFilled sites w base' before after
level_at {sites} {w} {before = before} {after = after} e f = subst (λ (b : ℕ). LevelFilled sites w b before after) e f

-- what each level owes
module _ {sites : List Float} (r : List ℕ) {r₁ : List ℕ} (held : SitesHeld sites) (few : length sites / 2 ≤ 65536) (room : 2 * (length sites / 2) + 64 ≤ length r) (o : Order (length sites / 2) r₁)
    (same : length r₁ ≡ length r) where
  pub first_safe : FillSafe sites r₁ 16 (length sites / 2)
  first_safe = safe_level 16 (length sites / 2) held o few (omega arith) (omega arith) (omega arith) (go (length sites / 2) (length r) (length r₁) same room)
    where
      go : (n a b : ℕ) → b ≡ a → 2 * n + 64 ≤ a → n + 4 * (n / 16 + 1) ≤ b
      go n a b e h = omega arith

  module _ {r₂ : List ℕ} {base : ℕ} (f : LevelFilled sites 16 (length sites / 2) r₁ r₂) (e : base ≡ base256 (length sites / 2)) where
    second_order : Order (length sites / 2) r₂
    second_order = order_kept o f.kept (omega arith)

    pub second_safe : FillSafe sites r₂ 256 base
    second_safe =
        rw e
        (safe_level 256 (base256 (length sites / 2)) held second_order few (omega arith) (omega arith) (above (length sites / 2))
        (go (length sites / 2) (length r) (length r₂) (f.kept.same ∙ same) room))
      where
        above : (n : ℕ) → n ≤ n + 4 * (n / 16 + 1)
        above n = omega arith

        go : (n a b : ℕ) → b ≡ a → 2 * n + 64 ≤ a → n + 4 * (n / 16 + 1) + 4 * (n / 256 + 1) ≤ b
        go n a b e h = omega arith

    module _ {r₃ : List ℕ} {base' : ℕ} (g : LevelFilled sites 256 base r₂ r₃) (e' : base' ≡ base4096 (length sites / 2)) where
      pub third_safe : FillSafe sites r₃ 4096 base'
      third_safe =
          rw e'
          (safe_level 4096 (base4096 (length sites / 2)) held (order_kept second_order g.kept (after (length sites / 2) base e)) few (omega arith) (omega arith) (above (length sites / 2))
          (go (length sites / 2) (length r) (length r₃) (g.kept.same ∙ f.kept.same ∙ same) room))
        where
          after : (n b : ℕ) → b ≡ n + 4 * (n / 16 + 1) → n ≤ b
          after n b e = omega arith

          above : (n : ℕ) → n ≤ n + 4 * (n / 16 + n / 256 + 2)
          above n = omega arith

          go : (n a b : ℕ) → b ≡ a → 2 * n + 64 ≤ a → n + 4 * (n / 16 + n / 256 + 2) + 4 * (n / 4096 + 1) ≤ b
          go n a b e h = omega arith

-- ---- small things
-- item i of a slice from a up to b
pub slice_item : (room : List ℕ) (a b i : ℕ) → i < length (take (b - a) (drop a room)) → get_or (take (b - a) (drop a room)) i 0 ≡ get_or room (a + i) 0
slice_item room a b i h =
    get_or-take (b - a) (drop a room) i 0 (omega (arith, length-take (b - a) (drop a room))) ∙ get_or-drop a room i 0

pub end_past : (x y n to : ℕ) → x < n → 0 < y → (to ≡ x + y) ⊎ (to ≡ n) → x < to
end_past x y n to h k = ⊎_elim (λ e. omega arith) (λ e. omega arith)

pub end_past_min : (x y n to : ℕ) → x < n → 0 < y → to ≡ min (x + y) n → x < to
end_past_min x y n to h k e = end_past x y n to h k (min_either (x + y) n e)

-- the blocks of w places: block b of q starts below n, and q of them hold n
pub block_below : {n w q b : ℕ} → 0 < w → q ≡ div_ceil n w → b < q → b * w < n
block_below {n} {w} {q} {b} h e l =
    let most : q * w < n + w = rw e (div_ceil_times n w h).1 in
    let next : (b + 1) * w ≤ q * w = mul-le-mul_right w (omega arith) in
    omega arith

pub blocks_all : {n w q b : ℕ} → 0 < w → q ≡ div_ceil n w → q ≤ b → n ≤ b * w
blocks_all {n} {w} {q} {b} h e l = le_trans (rw e (div_ceil_times n w h).0) (mul-le-mul_right w l)
