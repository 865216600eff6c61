-- How the errors of the two sides of the test add up: the left side from its coordinates, the right side from its sums, and both together. Nothing here is about floats.
use Rattle.std.specs.Prelude.{◌≡◌, refl, ℕ, ◌+◌, ◌-◌, ◌*◌, ◌^◌, ◌≤◌, ◌<◌}
use Rattle.std.proofs.Common.{sym, ap, ◌∙◌, subst, ⊎_elim, le_trans, le_of_eq, mul-le-mul, mul-le-mul_left, mul-le-mul_right, le_of_mul-le-mul_right, zero-lt-suc, mul_assoc, arith, lit≤}
use Prim.{tt}
use Rattle.std.proofs.Math.Nat.{mul-mul-mul_comm}
use Rattle.base.specs.common.laws.Decide.{lt_or_ge}
use Rattle.auditing.specs.total.Total.{apart}
use Rattle.audit_truth.specs.laws.Close.{Close}

-- ---- the left side: x - x' and y - y' for the two coordinates, c - c' for their sum, and that is at most r
apart_times : (a b u t : ℕ) → Close (a * u) (b * u) t → apart a b * u ≤ t
apart_times a b u t h = ⊎_elim (λ l. less a b (omega arith) h.least) (λ l. more a b l h.most) (lt_or_ge a b)
  where
    plain : (k a u t : ℕ) → (a + k) * u ≤ a * u + t → k * u ≤ t
    plain k a u t h = omega arith

    less : (a b : ℕ) → a ≤ b → b * u ≤ a * u + t → apart a b * u ≤ t
    less a b l h = let k : b ≡ a + apart a b = omega arith in plain (apart a b) a u t (subst (λ (i : ℕ). i * u ≤ a * u + t) k h)

    more : (a b : ℕ) → b ≤ a → a * u ≤ b * u + t → apart a b * u ≤ t
    more a b l h = let k : a ≡ b + apart a b = omega arith in plain (apart a b) b u t (subst (λ (i : ℕ). i * u ≤ b * u + t) k h)

-- the exact sum is l - l': at most r units, and 84 sixteenths of one part in 2 ^ 53 of t, a unit and a little
pub record LeftOff (l l' r t u : ℕ) : Type 0 where
  pub off : ℕ
  pub most : l ≤ l' + r * u + off
  pub few : off * (16 * 2 ^ 53) ≤ 84 * t + (16 * 2 ^ 53 + 16) * u

module _ (x x' l₁ l₂ t₁ y y' k₁ k₂ t₂ c c' e r u ex ey : ℕ) (X : Close (x * u + l₂) (x' * u + l₁) ex) (fx : ex * (16 * 2 ^ 53) ≤ 67 * t₁ + 8 * 2 ^ 53 * u)
    (mx : Close l₁ l₂ t₁) (Y : Close (y * u + k₂) (y' * u + k₁) ey) (fy : ey * (16 * 2 ^ 53) ≤ 67 * t₂ + 8 * 2 ^ 53 * u) (my : Close k₁ k₂ t₂)
    (C : Close (c + (x' + y')) (c' + (x + y)) e) (fc : e * 2 ^ 53 ≤ apart (x + y) (x' + y')) (o : c ≤ c' + r) where
  pub left_off : LeftOff (l₁ + k₁) (l₂ + k₂) r (t₁ + t₂) u
  left_off =
      record {
        off = ex + ey + e * u;
        most = whole x x' l₁ l₂ y y' k₁ k₂ ex ey e r u X.least Y.least (mul-le-mul_right u (room C.least));
        few = few ex ey (e * u) (t₁ + t₂) u (both fx fy) last;
      }
    where
      room : c' + (x + y) ≤ c + (x' + y') + e → x + y ≤ x' + y' + e + r
      room h = omega arith

      whole : (x x' l₁ l₂ y y' k₁ k₂ ex ey e r u : ℕ) → x' * u + l₁ ≤ x * u + l₂ + ex → y' * u + k₁ ≤ y * u + k₂ + ey → (x + y) * u ≤ (x' + y' + e + r) * u
          → l₁ + k₁ ≤ l₂ + k₂ + r * u + (ex + ey + e * u)
      whole x x' l₁ l₂ y y' k₁ k₂ ex ey e r u h k l = omega arith

      both : ex * (16 * 2 ^ 53) ≤ 67 * t₁ + 8 * 2 ^ 53 * u → ey * (16 * 2 ^ 53) ≤ 67 * t₂ + 8 * 2 ^ 53 * u → (ex + ey) * (16 * 2 ^ 53) ≤ 67 * (t₁ + t₂) + 16 * 2 ^ 53 * u
      both h k = omega arith

      sized : Close ((x + y) * u) ((x' + y') * u) (t₁ + t₂ + (ex + ey))
      sized =
          record {
            most = go x x' l₁ l₂ y y' k₁ k₂ ex ey t₁ t₂ u X.most Y.most mx.most my.most;
            least = go x' x l₂ l₁ y' y k₂ k₁ ex ey t₁ t₂ u X.least Y.least mx.least my.least;
          }
        where
          go : (x x' l₁ l₂ y y' k₁ k₂ ex ey t₁ t₂ u : ℕ) → x * u + l₂ ≤ x' * u + l₁ + ex → y * u + k₂ ≤ y' * u + k₁ + ey
              → l₁ ≤ l₂ + t₁ → k₁ ≤ k₂ + t₂ → (x + y) * u ≤ (x' + y') * u + (t₁ + t₂ + (ex + ey))
          go x x' l₁ l₂ y y' k₁ k₂ ex ey t₁ t₂ u h k l m = omega arith

      last : e * u * 2 ^ 53 ≤ t₁ + t₂ + (ex + ey)
      last = le_trans (le_of_eq (turn e u)) (le_trans (mul-le-mul_right u fc) (apart_times (x + y) (x' + y') u (t₁ + t₂ + (ex + ey)) sized))
        where
          turn : (a b : ℕ) → a * b * 2 ^ 53 ≡ a * 2 ^ 53 * b
          turn a b = omega arith

      few : (ex ey eu t u : ℕ) → (ex + ey) * (16 * 2 ^ 53) ≤ 67 * t + 16 * 2 ^ 53 * u → eu * 2 ^ 53 ≤ t + (ex + ey) → (ex + ey + eu) * (16 * 2 ^ 53) ≤ 84 * t + (16 * 2 ^ 53 + 16) * u
      few ex ey eu t u h k = omega arith

-- ---- the right side
-- two roundings of a sum of differences
pub twice_rounded : (a s n : ℕ) → a * 2 ^ 53 ≤ s * (2 ^ 53 + 1) → s * 2 ^ 53 ≤ n * (2 ^ 53 + 1) → a * (16 * 2 ^ 53) ≤ n * (16 * 2 ^ 53 + 33)
twice_rounded a s n h k = go (a * 2 ^ 53) (s * 2 ^ 53) (n * 2 ^ 53) a s n (first a s h) (first s n k) (slack s n k) refl refl
  where
    first : (a s : ℕ) → a * 2 ^ 53 ≤ s * (2 ^ 53 + 1) → a * 2 ^ 53 ≤ s * 2 ^ 53 + s
    first a s h = omega arith

    slack : (s n : ℕ) → s * 2 ^ 53 ≤ n * (2 ^ 53 + 1) → 16 * s ≤ 17 * n
    slack s n h = omega arith

    go : (A S N a s n : ℕ) → A ≤ S + s → S ≤ N + n → 16 * s ≤ 17 * n → A ≡ a * 2 ^ 53 → N ≡ n * 2 ^ 53 → a * (16 * 2 ^ 53) ≤ n * (16 * 2 ^ 53 + 33)
    go A S N a s n x y z e f =
        let w : 16 * A ≤ 16 * N + 33 * n = omega arith in
        le_trans (le_of_eq (times a ∙ ap (λ (i : ℕ). 16 * i) (sym e))) (le_trans w (le_of_eq (ap (λ (i : ℕ). 16 * i + 33 * n) f ∙ more n)))
      where
        times : (a : ℕ) → a * (16 * 2 ^ 53) ≡ 16 * (a * 2 ^ 53)
        times a = omega arith

        more : (n : ℕ) → 16 * (n * 2 ^ 53) + 33 * n ≡ n * (16 * 2 ^ 53 + 33)
        more n = omega arith

-- r units are the rounded product of f and d, where f is n̂ over b, and a unit at most
pub right_most : (r f d n̂ n w b u : ℕ) → r * u * 2 ^ 54 ≤ f * d * (2 ^ 54 + 2) + 2 ^ 53 * u → f * b ≤ n̂ + b → n̂ * (16 * 2 ^ 53) ≤ n * (16 * 2 ^ 53 + 33)
    → d * (16 * 2 ^ 53) ≤ w * (16 * 2 ^ 53 + 33) → r * u * b * (16 * 2 ^ 53) ≤ n * w * (16 * 2 ^ 53 + 84) + 18 * 2 ^ 53 * (b * w) + 8 * 2 ^ 53 * (b * u)
right_most r f d n̂ n w b u x y N D =
    last (r * u * b) (n̂ * d) (b * d) (n * w) (b * w) (b * u) (whole r f d n̂ b u (mul-le-mul_right b x) (mul-le-mul_right d y)) (both n̂ d n w (mul-le-mul N D))
    (le_trans (le_of_eq (turn b d)) (le_trans (mul-le-mul_left b D) (le_of_eq (back b w))))
  where
    turn : (a b : ℕ) → a * b * (16 * 2 ^ 53) ≡ a * (b * (16 * 2 ^ 53))
    turn a b = omega arith

    back : (a b : ℕ) → a * (b * (16 * 2 ^ 53 + 33)) ≡ a * b * (16 * 2 ^ 53 + 33)
    back a b = omega arith

    whole : (r f d n̂ b u : ℕ) → r * u * 2 ^ 54 * b ≤ (f * d * (2 ^ 54 + 2) + 2 ^ 53 * u) * b → f * b * d ≤ (n̂ + b) * d
        → r * u * b * 2 ^ 54 ≤ (n̂ * d + b * d) * (2 ^ 54 + 2) + 2 ^ 53 * (b * u)
    whole r f d n̂ b u h k = omega arith

    both : (n̂ d n w : ℕ) → n̂ * (16 * 2 ^ 53) * (d * (16 * 2 ^ 53)) ≤ n * (16 * 2 ^ 53 + 33) * (w * (16 * 2 ^ 53 + 33)) → n̂ * d * (16 * 2 ^ 53) ≤ n * w * (16 * 2 ^ 53 + 67)
    both n̂ d n w h = go (16 * 2 ^ 53) (lit≤ tt) (zero-lt-suc (16 * 2 ^ 53 - 1)) h
      where
        go : (q : ℕ) → (q + 33) * (q + 33) ≤ (q + 67) * q → 0 < q → n̂ * q * (d * q) ≤ n * (q + 33) * (w * (q + 33)) → n̂ * d * q ≤ n * w * (q + 67)
        go q Q P h =
            le_of_mul-le-mul_right {k = q}
            (le_trans (le_of_eq (mul_assoc (n̂ * d) q q ∙ sym (mul-mul-mul_comm n̂ q d q)))
            (le_trans h (le_trans (le_of_eq (mul-mul-mul_comm n (q + 33) w (q + 33))) (le_trans (mul-le-mul_left (n * w) Q) (le_of_eq (sym (mul_assoc (n * w) (q + 67) q)))))))
            P

    last : (rub nd bd nw bw bu : ℕ) → rub * 2 ^ 54 ≤ (nd + bd) * (2 ^ 54 + 2) + 2 ^ 53 * bu → nd * (16 * 2 ^ 53) ≤ nw * (16 * 2 ^ 53 + 67) → bd * (16 * 2 ^ 53) ≤ bw * (16 * 2 ^ 53 + 33)
        → rub * (16 * 2 ^ 53) ≤ nw * (16 * 2 ^ 53 + 84) + 18 * 2 ^ 53 * bw + 8 * 2 ^ 53 * bu
    last rub nd bd nw bw bu h k l =
        go rub (nd * (16 * 2 ^ 53)) (bd * (16 * 2 ^ 53)) nd bd nw bw bu (times rub nd bd bu h) k l (slack nd nw 67 (lit≤ tt) k) (slack bd bw 33 (lit≤ tt) l)
      where
        slack : (a c i : ℕ) → i ≤ 2 ^ 53 → a * (16 * 2 ^ 53) ≤ c * (16 * 2 ^ 53 + i) → 16 * a ≤ 17 * c
        slack a c i I h = le_of_mul-le-mul_right {k = 2 ^ 53} (le_trans (le_of_eq (first a)) (le_trans h (le_trans (mul-le-mul_left c (wide i I)) (le_of_eq (second c))))) (zero-lt-suc (2 ^ 53 - 1))
          where
            first : (a : ℕ) → 16 * a * 2 ^ 53 ≡ a * (16 * 2 ^ 53)
            first a = omega arith

            wide : (i : ℕ) → i ≤ 2 ^ 53 → 16 * 2 ^ 53 + i ≤ 17 * 2 ^ 53
            wide i h = omega arith

            second : (c : ℕ) → c * (17 * 2 ^ 53) ≡ 17 * c * 2 ^ 53
            second c = omega arith

        times : (rub nd bd bu : ℕ) → rub * 2 ^ 54 ≤ (nd + bd) * (2 ^ 54 + 2) + 2 ^ 53 * bu
            → rub * (16 * 2 ^ 53) ≤ nd * (16 * 2 ^ 53) + bd * (16 * 2 ^ 53) + 16 * nd + 16 * bd + 8 * 2 ^ 53 * bu
        times rub nd bd bu h = omega arith

        go : (rub x y nd bd nw bw bu : ℕ) → rub * (16 * 2 ^ 53) ≤ x + y + 16 * nd + 16 * bd + 8 * 2 ^ 53 * bu → x ≤ nw * (16 * 2 ^ 53 + 67) → y ≤ bw * (16 * 2 ^ 53 + 33)
            → 16 * nd ≤ 17 * nw → 16 * bd ≤ 17 * bw → rub * (16 * 2 ^ 53) ≤ nw * (16 * 2 ^ 53 + 84) + 18 * 2 ^ 53 * bw + 8 * 2 ^ 53 * bu
        go rub x y nd bd nw bw bu a b c d e = omega arith

-- ---- both; q is how far the corner is from the sites, and n at least
pub together : (l l' r t u b n w q : ℕ) → LeftOff l l' r t u → r * u * b * (16 * 2 ^ 53) ≤ n * w * (16 * 2 ^ 53 + 84) + 18 * 2 ^ 53 * (b * w) + 8 * 2 ^ 53 * (b * u)
    → t ≤ 2 * (q * w) → n ≤ q → 1 ≤ b → l * (2 ^ 49 * b) ≤ (l' + 2 * (w + u)) * (2 ^ 49 * b) + (2 ^ 49 * n + b * q) * w
together l l' r t u b n w q o R T N B =
    last l l' w u b n q
    (linear (l * b) (l' * b) (r * u * b) (o.off * b) (n * w) (q * w * b) (b * w) (b * u) (t * b) (whole l l' (r * u) o.off b (mul-le-mul_right b o.most)) R
    (spread o.off t u b (mul-le-mul_right b o.few)) (le_trans (mul-le-mul_right b T) (le_of_eq (turn (q * w) b))) (le_trans (mul-le-mul_right w N) (more (q * w) b B)))
  where
    whole : (l l' ru o b : ℕ) → l * b ≤ (l' + ru + o) * b → l * b ≤ l' * b + ru * b + o * b
    whole l l' ru o b h = omega arith

    spread : (o t u b : ℕ) → o * (16 * 2 ^ 53) * b ≤ (84 * t + (16 * 2 ^ 53 + 16) * u) * b → o * b * (16 * 2 ^ 53) ≤ 84 * (t * b) + (16 * 2 ^ 53 + 16) * (b * u)
    spread o t u b h = omega arith

    turn : (a b : ℕ) → 2 * a * b ≡ 2 * (a * b)
    turn a b = omega arith

    more : (a b : ℕ) → 1 ≤ b → a ≤ a * b
    more a b h = le_trans (le_of_eq (plain a)) (mul-le-mul_left a h)
      where
        plain : (a : ℕ) → a ≡ a * 1
        plain a = omega arith

    linear : (lb l'b rub ob nw qwb bw bu tb : ℕ) → lb ≤ l'b + rub + ob → rub * (16 * 2 ^ 53) ≤ nw * (16 * 2 ^ 53 + 84) + 18 * 2 ^ 53 * bw + 8 * 2 ^ 53 * bu
        → ob * (16 * 2 ^ 53) ≤ 84 * tb + (16 * 2 ^ 53 + 16) * bu → tb ≤ 2 * qwb → nw ≤ qwb → lb * 2 ^ 49 ≤ l'b * 2 ^ 49 + (bw + bu) * 2 ^ 50 + nw * 2 ^ 49 + qwb
    linear lb l'b rub ob nw qwb bw bu tb a c d e f = omega arith

    last : (l l' w u b n q : ℕ) → l * b * 2 ^ 49 ≤ l' * b * 2 ^ 49 + (b * w + b * u) * 2 ^ 50 + n * w * 2 ^ 49 + q * w * b
        → l * (2 ^ 49 * b) ≤ (l' + 2 * (w + u)) * (2 ^ 49 * b) + (2 ^ 49 * n + b * q) * w
    last l l' w u b n q h = omega arith
