-- The walk round a ring: after the corners up to i, what is left is the ring from there back to its first corner.
use Rattle.std.specs.Prelude.{◌≡◌, ℕ, ◌+◌, ◌-◌, ◌*◌, ◌≤◌, ◌<◌, Float}
use Rattle.std.proofs.Math.Path.{sym, ap, subst}
use Rattle.std.proofs.Common.{◌∙◌, add_assoc, add-one}
use mathlib.Core.List.{List, [], ◌∷◌, map}
use native.Mathlib.Omega.{arith}
use Rattle.std.proofs.Math.ListN.{length, get_or, drop, drop_of_length-le}
use Rattle.std.proofs.Math.Seq.{drop-cons}
use Rattle.ring_area.specs.long.Amount.{lifted}
use Rattle.ring_area.specs.long.Steps.{PutIn}
use Rattle.ring_area.specs.long.laws.Puts.{added_then}
use Rattle.ring_area.specs.long.laws.Lifted.{lifted_same}
use Rattle.plane.specs.points.Flat.{point_at}
use Rattle.plane.specs.declared.points.Point.{Point}
use Rattle.ring_area.specs.Area.{gain, loss, gains, losses}
use Rattle.ring_area.specs.Steps.{SideIn, gains_of, losses_of, RingIn}
use Rattle.ring_area.specs.Span.{CornerIn, RingPlaced, BothOpen}
use Rattle.ring_area.specs.laws.Products.{added_none}

-- a is the first corner, q the last that was passed, number i - 1
pub record SidesTo (from n : ℕ) (v : List Float) (cell : List ℕ) (p p₁ m m₁ : List ℕ) (a q : Point) (i : ℕ) : Type 0 where
  pub some : 0 < i
  pub most : i ≤ length cell
  pub got : ℕ
  pub lost : ℕ
  pub added : PutIn p p₁ got (16 * (i - 1))
  pub taken : PutIn m m₁ lost (16 * (i - 1))
  pub more : gains_of (map (point_at v) cell) ≡ got + gains a q (map (point_at v) (drop i cell))
  pub less : losses_of (map (point_at v) cell) ≡ lost + losses a q (map (point_at v) (drop i cell))
  pub first : CornerIn from n a
  pub last : CornerIn from n q

pub walked_start : {from n : ℕ} (v : List Float) (cell p m : List ℕ) (a : Point) → RingPlaced from n v cell → 0 < length cell → a ≡ point_at v (get_or cell 0 0)
    → SidesTo from n v cell p p m m a a 1
walked_start v [] p m a c h e = absurd (omega arith)
walked_start {from} {n} v (x ∷ r) p m a c h e =
    let b : CornerIn from n a = subst (CornerIn from n) (sym e) (c.each 0 (omega arith)) in
    record {
      some = omega arith;
      most = omega arith;
      got = 0;
      lost = 0;
      added = added_none p 0;
      taken = added_none m 0;
      more = ap (λ (z : Point). gains z z (map (point_at v) r)) (sym e) ∙ plain (gains a a (map (point_at v) r));
      less = ap (λ (z : Point). losses z z (map (point_at v) r)) (sym e) ∙ plain (losses a a (map (point_at v) r));
      first = b;
      last = b;
    }
  where
    plain : (n : ℕ) → n ≡ 0 + n
    plain n = omega arith

-- room for one more side
pub ready_side : {from : ℕ} {p p₁ m m₁ : List ℕ} {x y : ℕ} (n i : ℕ) → BothOpen from p m (16 * n) → PutIn (lifted from p) (lifted from p₁) x (16 * (i - 1))
    → PutIn (lifted from m) (lifted from m₁) y (16 * (i - 1)) → 0 < i → i ≤ n → BothOpen from p₁ m₁ 16
ready_side {from} {p} {p₁} {m} {m₁} n i o a b s h = record {
  same = lifted_same from m₁ m b.long ∙ o.same ∙ sym (lifted_same from p₁ p a.long);
  plus = record { each = λ k. omega (arith, a.grown k, o.plus.each k) };
  minus = record { each = λ k. omega (arith, b.grown k, o.minus.each k) };
}

module _ {from n : ℕ} {v : List Float} {cell p p₁ m m₁ : List ℕ} {a q : Point} {i : ℕ} (w : SidesTo from n v cell p p₁ m m₁ a q i) where
  pub walked_step : {p₂ m₂ : List ℕ} {b : Point} → RingPlaced from n v cell → i < length cell → b ≡ point_at v (get_or cell i 0) → SideIn q b p₁ p₂ m₁ m₂
      → SidesTo from n v cell p p₂ m m₂ a b (i + 1)
  unfolding gains losses
  walked_step {p₂} {m₂} {b} c h e s =
      let d : drop i cell ≡ get_or cell i 0 ∷ drop (i + 1) cell = drop-cons cell i 0 h ∙ ap (λ (k : ℕ). get_or cell i 0 ∷ drop k cell) (sym (add-one i)) in
      let t : map (point_at v) (drop i cell) ≡ b ∷ map (point_at v) (drop (i + 1) cell) = ap (map (point_at v)) d ∙ ap (λ (z : Point). z ∷ map (point_at v) (drop (i + 1) cell)) (sym e) in
      record {
        some = omega arith;
        most = omega arith;
        got = w.got + gain q b;
        lost = w.lost + loss q b;
        added = counted (added_then w.added s.added);
        taken = counted (added_then w.taken s.taken);
        more = w.more ∙ ap (λ (r : List Point). w.got + gains a q r) t ∙ sym (add_assoc w.got (gain q b) (gains a b (map (point_at v) (drop (i + 1) cell))));
        less = w.less ∙ ap (λ (r : List Point). w.lost + losses a q r) t ∙ sym (add_assoc w.lost (loss q b) (losses a b (map (point_at v) (drop (i + 1) cell))));
        first = w.first;
        last = subst (CornerIn from n) (sym e) (c.each i h);
      }
    where
      counted : {l l₁ : List ℕ} {x : ℕ} → PutIn l l₁ x (16 * (i - 1) + 16) → PutIn l l₁ x (16 * (i + 1 - 1))
      counted {l} {l₁} {x} y = subst (PutIn l l₁ x) (turns i w.some) y
        where
          turns : (i : ℕ) → 0 < i → 16 * (i - 1) + 16 ≡ 16 * (i + 1 - 1)
          turns i h = omega arith

  -- the side back to the first corner
  pub walked_end : {p₂ m₂ : List ℕ} → length cell ≤ i → SideIn q a p₁ p₂ m₁ m₂ → RingIn v cell p p₂ m m₂
  unfolding gains losses
  walked_end {p₂} {m₂} h s =
      let d : drop i cell ≡ [] = drop_of_length-le cell h in
      let t : map (point_at v) (drop i cell) ≡ [] = ap (map (point_at v)) d in
      record {
        added = whole w.got (gain q a) (added_then w.added s.added) (w.more ∙ ap (λ (r : List Point). w.got + gains a q r) t);
        taken = whole w.lost (loss q a) (added_then w.taken s.taken) (w.less ∙ ap (λ (r : List Point). w.lost + losses a q r) t);
      }
    where
      turns : 16 * (i - 1) + 16 ≡ 16 * length cell
      turns = omega (arith, w.some, w.most)

      whole : {l l₁ : List ℕ} {n : ℕ} (x y : ℕ) → PutIn l l₁ (x + y) (16 * (i - 1) + 16) → n ≡ x + y → PutIn l l₁ n (16 * length cell)
      whole {l} {l₁} {n} x y z e = subst (λ (k : ℕ). PutIn l l₁ k (16 * length cell)) (sym e) (subst (PutIn l l₁ (x + y)) turns z)

-- ---- the whole ring
pub ring_whole : {v : List Float} {cell p p₁ m m₁ : List ℕ} → RingIn v cell (lifted 0 p) (lifted 0 p₁) (lifted 0 m) (lifted 0 m₁) → RingIn v cell p p₁ m m₁
unfolding lifted
ring_whole r = r
