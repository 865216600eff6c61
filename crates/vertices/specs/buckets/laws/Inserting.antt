-- How vertices are inserted, one after the other: a bucket is one of the heads, each vertex goes in front of the chain of its bucket, and those that are chained do not move when more are written.
use Rattle.std.specs.Prelude.{◌≡◌, refl, List, ◌≢◌, Float, length, get_or, set, take}
use Rattle.std.proofs.Common.{sym, ◌∙◌, ⊎_elim, lt_of_le_of_lt, lt_of_lt_of_le, le_of_lt, mul-le-mul, mul-lt-mul_of_pos_right, mul_comm, one-mul, mod-lt, div-lt_iff_lt-mul, lit<, shr-shr, length-set, get_or-set_same, get_or-set_other}
use Rattle.std.proofs.Math.Path.{ap, ap₂}
use Prim.Native.Nat.{ℕ, zero, suc, ◌+◌, ◌-◌, ◌*◌, ◌/◌, ◌%◌, ◌^◌, ◌≤◌, ◌<◌}
use native.Mathlib.Omega.{arith}
use Rattle.std.proofs.Math.Nat.{mul-mod_left}
use Rattle.std.specs.Float.{binary64}
use Rattle.std.specs.Float.Ieee.{to_bits}
use Rattle.std.specs.Int.Bits.{bit_or, or_zero_r, or_mod}
use Rattle.std.proofs.lemmas.Nat.{or_comm, or_shr}
use Rattle.std.proofs.Math.Pow.{pow-add, shl-shr, high, low}
use Prim.{tt}
use Rattle.std.proofs.lemmas.List.{take-set-le}
use Rattle.base.specs.common.laws.Decide.{lt_or_ge, eq_or_ne}
use Rattle.plane.specs.points.Flat.{point_at}
use Rattle.plane.specs.declared.points.Point.{Point}
use Rattle.vertices.specs.declared.buckets.Home.{Home}
use Rattle.vertices.specs.buckets.Buckets.{mix_of, bucket_by, bucket_from, mark_by, mark_from, mid_of, heads_of, number_in, entry_with, LastChained, InChains}
use Rattle.vertices.specs.buckets.Steps.{BucketsFree, HomeOf, HomeIn, InsertsIn}

-- ---- a bucket is one of them
pub mix_small : (a b : ℕ) → mix_of a b < 4194304
unfolding mix_of
mix_small a b = omega arith

pub mix_fits : (a b : ℕ) → a < 18446744073709551616 → b < 18446744073709551616
    → a % 4294967296 + a / 4294967296 * 40503 + (b % 4294967296 * 60493 + b / 4294967296 * 51749) < 18446744073709551616
mix_fits a b h g = go (a % 4294967296) (a / 4294967296) (b % 4294967296) (b / 4294967296) (omega arith) (omega arith) (omega arith) (omega arith)
  where
    go : (u v w x : ℕ) → u < 4294967296 → v < 4294967296 → w < 4294967296 → x < 4294967296 → u + v * 40503 + (w * 60493 + x * 51749) < 18446744073709551616
    go u v w x h g i j = omega arith

pub bucket_small : (h : ℕ) (x y : Float) → 0 < h → bucket_by h x y < h
unfolding bucket_by
bucket_small h x y H = (div-lt_iff_lt-mul (lit< tt)).1 (rw (mul_comm h 4194304) (mul-lt-mul_of_pos_right (mix_small (to_bits binary64 x) (to_bits binary64 y)) H))

pub bucket_fits : (a b h : ℕ) → h ≤ 262144 → mix_of a b * h < 18446744073709551616
bucket_fits a b h l = lt_of_le_of_lt (mul-le-mul (le_of_lt (mix_small a b)) l) (lit< tt)

-- ---- heads and links lie within the list
pub heads_room : (h n limit : ℕ) → h ≡ heads_of (n - limit) → (0 < h → limit + 4 * h ≤ n) × (h ≤ 262144)
heads_room h n limit e = (λ o. omega arith, omega arith)

-- ---- emptying the buckets
pub record FreeTo (limit m : ℕ) (old new : List ℕ) : Type 0 where
  pub long : length new ≡ length old
  pub body : take limit new ≡ take limit old
  pub free : (j : ℕ) → j < m → get_or new (limit + j) 0 ≡ 0

pub empty_start : {limit : ℕ} {ix : List ℕ} → FreeTo limit 0 ix ix
empty_start = record { long = refl; body = refl; free = λ j h. absurd (omega arith) }

pub empty_step : {limit m : ℕ} {old new : List ℕ} → FreeTo limit m old new → limit + m < length old → FreeTo limit (m + 1) old (set new (limit + m) 0)
empty_step {limit} {m} {old} {new} a h = record {
  long = length-set new (limit + m) 0 ∙ a.long;
  body = take-set-le limit new (limit + m) 0 (omega arith) ∙ a.body;
  free = λ j g. ⊎_elim
      (λ z. rw z (get_or-set_same new (limit + m) 0 0 (omega (arith, a.long))))
      (λ z. get_or-set_other new (limit + m) (limit + j) 0 0 (λ q. z (omega arith)) ∙ a.free j (⊎_elim (λ l. l) (λ l. absurd (z (omega arith))) (lt_or_ge j m)))
      (eq_or_ne j m);
}

pub empty_end : {limit m h : ℕ} {old new : List ℕ} → FreeTo limit m old new → h ≡ heads_of (length old - limit) → h ≤ m → BucketsFree limit old new
empty_end {limit} {m} {h} {old} {new} a e l = record { long = a.long; body = a.body; free = λ j g. a.free j (lt_of_lt_of_le (rw (a.long, ← e) at g) l) }

-- ---- what a function has written
pub inserted_is : (limit k : ℕ) (ix : List ℕ) {h m t e : ℕ} → h ≡ heads_of (length ix - limit) → e ≡ entry_with (get_or ix (limit + m) 0) k t → k < 3 * h
    → InsertsIn limit k m t ix (set (set ix (limit + (h + k)) (get_or ix (limit + m) 0)) (limit + m) e)
inserted_is limit k ix a b l = record { linked = λ _. rw (b, a) refl; past = λ g. absurd (omega arith) }

pub inserted_not : (limit k m t : ℕ) (ix : List ℕ) {h : ℕ} → h ≡ heads_of (length ix - limit) → 3 * h ≤ k → InsertsIn limit k m t ix ix
inserted_not limit k m t ix a l = record { linked = λ g. absurd (omega arith); past = λ _. refl }

-- ---- an entry: its number, and its marks
or_one : (x y : ℕ) → y < 2 → x ≡ 1 → bit_or x y ≡ 1
or_one x y l e = rw e (go y l)
  where
    go : (y : ℕ) → y < 2 → bit_or 1 y ≡ 1
    go zero l = refl
    go (suc zero) l = refl
    go (suc (suc y)) l = absurd (omega arith)

-- a digit of two that are joined
digit_or : (a b j : ℕ) → a / 2 ^ j % 2 ≡ 1 → bit_or a b / 2 ^ j % 2 ≡ 1
digit_or a b j e = ap (λ (x : ℕ). x % 2) (or_shr a b j) ∙ or_mod (a / 2 ^ j) (b / 2 ^ j) 1 ∙ or_one (a / 2 ^ j % 2) (b / 2 ^ j % 2) (mod-lt (b / 2 ^ j) (lit< tt)) e

-- another number below the same marks
renumbered : (e r j : ℕ) → r < 1048576 → 20 ≤ j → (e / 1048576 * 1048576 + r) / 2 ^ j ≡ e / 2 ^ j
renumbered e r j l h =
    let q : 20 + (j - 20) ≡ j = omega arith in
    rw (← q) (sym (shr-shr (e / 1048576 * 1048576 + r) 20 (j - 20)) ∙ ap (λ (x : ℕ). x / 2 ^ (j - 20)) (high (e / 1048576) 20 l) ∙ shr-shr e 20 (j - 20))

module _ (e k t : ℕ) (l : suc k < 1048576) (h : 20 ≤ t) where
  pub entry_number : number_in (entry_with e k t) ≡ suc k
  unfolding entry_with
  entry_number = or_mod (e / 1048576 * 1048576 + suc k) (2 ^ t) 20 ∙ ap₂ bit_or (low (e / 1048576) 20 l) even ∙ or_zero_r (suc k)
    where
      even : 2 ^ t % 2 ^ 20 ≡ 0
      even = let q : t - 20 + 20 ≡ t = omega arith in rw (← q, pow-add 2 (t - 20) 20) (mul-mod_left (2 ^ (t - 20)) (2 ^ 20))

  pub entry_mark : entry_with e k t / 2 ^ t % 2 ≡ 1
  unfolding entry_with
  entry_mark =
      ap (λ (x : ℕ). x / 2 ^ t % 2) (or_comm (e / 1048576 * 1048576 + suc k) (2 ^ t))
      ∙ digit_or (2 ^ t) (e / 1048576 * 1048576 + suc k) t (ap (λ (x : ℕ). x % 2) (ap (λ (x : ℕ). x / 2 ^ t) (sym (one-mul (2 ^ t))) ∙ shl-shr 1 t))

  pub entry_keeps : (j : ℕ) → 20 ≤ j → e / 2 ^ j % 2 ≡ 1 → entry_with e k t / 2 ^ j % 2 ≡ 1
  unfolding entry_with
  entry_keeps j i o = digit_or (e / 1048576 * 1048576 + suc k) (2 ^ t) j (ap (λ (x : ℕ). x % 2) (renumbered e (suc k) j l i) ∙ o)

pub mark_high : (x y : Float) → 20 ≤ mark_by x y
unfolding mark_by
mark_high x y = omega arith

pub mark_small : (x y : Float) → mark_by x y < 32
unfolding mark_by
mark_small x y = omega arith

-- where a point belongs there is a bucket and a digit
pub home_in : (h : ℕ) (p : Point) {r : Home} → HomeOf h p r → HomeIn h r.bucket r.mark
home_in h p g = record {
  below = λ o. rw g.bucket (bucket_small h (mid_of p.x) (mid_of p.y) o);
  digit = rw g.mark (mark_small (mid_of p.x) (mid_of p.y));
}

-- ---- the last of a bucket
module _ (bucket mark : ℕ → ℕ) where
  none_inserted : (m : ℕ) → LastChained bucket mark m 0 0
  none_inserted m = record { within = omega arith; there = λ k e. absurd (omega arith); after = λ k l h. absurd (omega arith); marked = λ k l. absurd (omega arith); none = λ _. refl }

  below : (n k : ℕ) → k < suc n → k ≢ n → k < n
  below n k i q = ⊎_elim (λ l. l) (λ l. absurd (q (omega arith))) (lt_or_ge k n)

  inserted_last : (m n e : ℕ) → suc n < 1048576 → ((k : ℕ) → 20 ≤ mark k) → bucket n ≡ m → LastChained bucket mark m n e → LastChained bucket mark m (suc n) (entry_with e n (mark n))
  inserted_last m n e i high b l =
      let q = entry_number e n (mark n) i (high n) in
      record {
        within = omega (arith, q);
        there = λ k z. ap bucket (same k (sym q ∙ z)) ∙ b;
        after = λ k z h. absurd (omega (arith, q));
        marked = λ k z o. ⊎_elim
            (λ y. rw y (entry_mark e n (mark n) i (high n)))
            (λ y. entry_keeps e n (mark n) i (high n) (mark k) (high k) (l.marked k (below n k z y) o))
            (eq_or_ne k n);
        none = λ z. absurd (omega (arith, q));
      }
    where
      same : (k : ℕ) → suc n ≡ suc k → k ≡ n
      same k q = omega arith

  last_still : (m n e : ℕ) → bucket n ≢ m → LastChained bucket mark m n e → LastChained bucket mark m (suc n) e
  last_still m n e h l = record {
    within = omega (arith, l.within);
    there = l.there;
    after = λ k g i. ⊎_elim (λ q o. h (ap bucket (sym q) ∙ o)) (λ q. l.after k g (below n k i q)) (eq_or_ne k n);
    marked = λ k i o. ⊎_elim (λ q. absurd (h (ap bucket (sym q) ∙ o))) (λ q. l.marked k (below n k i q) o) (eq_or_ne k n);
    none = l.none;
  }

-- by other functions that agree below n
last_agree : (f g s t : ℕ → ℕ) (m n e : ℕ) → ((k : ℕ) → k < n → g k ≡ f k) → ((k : ℕ) → k < n → t k ≡ s k) → LastChained f s m n e → LastChained g t m n e
last_agree f g s t m n e a b l = record {
  within = l.within;
  there = λ k q. a k (omega (arith, l.within)) ∙ l.there k q;
  after = λ k i j o. l.after k i j (sym (a k j) ∙ o);
  marked = λ k i o. rw (b k i) (l.marked k i (sym (a k i) ∙ o));
  none = l.none;
}

-- ---- none is chained
pub in_chains_none : (nc : ℕ) (v : List Float) (tail : List ℕ) → ((m : ℕ) → m < heads_of (length tail) → get_or tail m 0 ≡ 0) → InChains nc 0 v tail
in_chains_none nc v tail f = record { lasts = λ m l. rw (f m l) (none_inserted _ _ m); nexts = λ k l. absurd (omega arith) }

-- ---- more vertices are written after those that are chained
pub in_chains_kept : {nc n : ℕ} {v w : List Float} {tail : List ℕ} → ((k : ℕ) → k < n → point_at w (nc + k) ≡ point_at v (nc + k)) → InChains nc n v tail → InChains nc n w tail
in_chains_kept {nc} {n} {v} {w} {tail} f g = record {
  lasts = λ m l. last_agree _ _ _ _ m n _ buckets marks (g.lasts m l);
  nexts = λ k l. rw (buckets k l) (last_agree _ _ _ _ _ k _ (λ j i. buckets j (omega arith)) (λ j i. marks j (omega arith)) (g.nexts k l));
}
  where
    buckets : (k : ℕ) → k < n → bucket_from (heads_of (length tail)) w nc k ≡ bucket_from (heads_of (length tail)) v nc k
    buckets k l = ap (λ (q : Point). bucket_by (heads_of (length tail)) (mid_of q.x) (mid_of q.y)) (f k l)

    marks : (k : ℕ) → k < n → mark_from w nc k ≡ mark_from v nc k
    marks k l = ap (λ (q : Point). mark_by (mid_of q.x) (mid_of q.y)) (f k l)

-- ---- the next one goes in front of the chain of its bucket
module _ {nc n m : ℕ} {v : List Float} {tail : List ℕ} (g : InChains nc n v tail) (r : n < 3 * heads_of (length tail)) (b : bucket_from (heads_of (length tail)) v nc n ≡ m)
    (small : m < heads_of (length tail)) where
  abbrev h : ℕ
  h = heads_of (length tail)

  abbrev bucket : ℕ → ℕ
  bucket = bucket_from h v nc

  abbrev mark : ℕ → ℕ
  mark = mark_from v nc

  abbrev linked : List ℕ
  linked = set tail (h + n) (get_or tail m 0)

  abbrev front : ℕ
  front = entry_with (get_or tail m 0) n (mark n)

  abbrev inserted : List ℕ
  inserted = set linked m front

  long : length linked ≡ length tail
  long = length-set tail (h + n) (get_or tail m 0)

  same_long : length inserted ≡ length tail
  same_long = length-set linked m front ∙ long

  first : LastChained bucket mark m (suc n) front
  first = inserted_last bucket mark m n (get_or tail m 0) (omega arith) (λ k. mark_high _ _) b (g.lasts m small)

  last_at : (t : ℕ) → t < h → LastChained bucket mark t (suc n) (get_or inserted t 0)
  last_at t i =
      ⊎_elim
      (λ z. rw (z, get_or-set_same linked m front 0 (omega (arith, long))) first)
      (λ z. rw (get_or-set_other linked m t front 0 z, get_or-set_other tail (h + n) t (get_or tail m 0) 0 (λ q. omega arith))
      (last_still bucket mark t n (get_or tail t 0) (λ y. z (sym y ∙ b)) (g.lasts t i)))
      (eq_or_ne t m)

  next_at : (k : ℕ) → k < suc n → LastChained bucket mark (bucket k) k (get_or inserted (h + k) 0)
  next_at k i =
      ⊎_elim
      (λ z. rw (z, get_or-set_other linked m (h + n) front 0 (λ q. omega arith), get_or-set_same tail (h + n) (get_or tail m 0) 0 (omega arith), b) (g.lasts m small))
      (λ z. rw (get_or-set_other linked m (h + k) front 0 (λ q. omega arith), get_or-set_other tail (h + n) (h + k) (get_or tail m 0) 0 (λ q. z (omega arith)))
      (g.nexts k (⊎_elim (λ w. w) (λ w. absurd (z (omega arith))) (lt_or_ge k n))))
      (eq_or_ne k n)

  pub in_chains_more : InChains nc (suc n) v inserted
  in_chains_more = record { lasts = λ t i. rw same_long (last_at t (rw same_long at i)); nexts = λ k i. rw same_long (next_at k i) }
