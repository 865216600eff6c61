-- A slip is the schoolbook's page after every turn (`on_slip_next`), so that after 53 turns it is rounded to the whole number nearest to the root (`on_slip_near`).
use Rattle.std.specs.Prelude.{◌≡◌, Bool, not, T, leb, ltb}
use Rattle.std.proofs.Math.Path.{refl, ap}
use Rattle.std.proofs.Common.{sym, ◌∙◌, subst, mul-le-mul_right, mul-lt-mul_of_pos_right, lt_of_mul-lt-mul_right, pow-suc, arith, leb→le, ltb→lt, nltb→le, pow-add, pow_mono, pow_pos}
use Rattle.std.proofs.Math.Logic.{⊎_elim}
use Rattle.std.proofs.Math.Bool.{true, false}
use Prim.Native.Nat.{ℕ, zero, suc, ◌+◌, ◌-◌, ◌*◌, ◌/◌, ◌%◌, ◌^◌, ◌≤◌, ◌<◌}
use Rattle.std.proofs.Math.Dec.{nleb→lt}
use Rattle.base.specs.common.Pick.{pick}
use Rattle.root.specs.whole_root.Near.{NearWhole}
use Rattle.root.specs.whole_root.Turn.{after, brought_down, taken, Schoolbook}
use Rattle.root.specs.whole_root.Schoolbook.{schoolbook}
use Rattle.root.specs.whole_root.laws.Turns.{settled_zero, settled_one, stays, goes_up_lem}
use Rattle.root.specs.declared.whole_root.Page.{Page}
use Rattle.root.specs.declared.two_roots.Slip.{Slip}
use Rattle.root.specs.two_roots.Slip.{slip, next_slip, rounded_slip, SlipRoom, weight_of, OnSlip, Slips}
use Rattle.root.specs.laws.Squares.{le_or_lt}

-- ---- the digit of a slip

module _ (r : Slip) (w : ℕ) where
  pub next_one : r.twice + w ≤ r.left → next_slip r w ≡ slip (r.twice + w + w) ((r.left - (r.twice + w)) * 2)
  unfolding next_slip
  next_one h = go (leb (r.twice + w) r.left) (nleb→lt (r.twice + w) r.left)
    where
      go : (t : Bool) → (T (not t) → r.left < r.twice + w)
          → pick t (λ _. slip (r.twice + w + w) ((r.left - (r.twice + w)) * 2)) (λ _. slip r.twice (r.left * 2)) ≡ slip (r.twice + w + w) ((r.left - (r.twice + w)) * 2)
      go true _ = refl
      go false n = let no : r.left < r.twice + w = n tt in absurd (omega arith)

  pub next_zero : r.left < r.twice + w → next_slip r w ≡ slip r.twice (r.left * 2)
  unfolding next_slip
  next_zero h = go (leb (r.twice + w) r.left) (leb→le (r.twice + w) r.left)
    where
      go : (t : Bool) → (T t → r.twice + w ≤ r.left)
          → pick t (λ _. slip (r.twice + w + w) ((r.left - (r.twice + w)) * 2)) (λ _. slip r.twice (r.left * 2)) ≡ slip r.twice (r.left * 2)
      go true y = let no : r.twice + w ≤ r.left = y tt in absurd (omega arith)
      go false _ = refl

module _ (r : Slip) where
  pub rounded_up : r.twice < r.left → rounded_slip r ≡ r.twice / 2 + 1
  unfolding rounded_slip
  rounded_up h = go (ltb r.twice r.left) (nltb→le r.twice r.left)
    where
      go : (t : Bool) → (T (not t) → r.left ≤ r.twice) → pick t (λ _. r.twice / 2 + 1) (λ _. r.twice / 2) ≡ r.twice / 2 + 1
      go true _ = refl
      go false n = let no : r.left ≤ r.twice = n tt in absurd (omega arith)

  pub rounded_down : r.left ≤ r.twice → rounded_slip r ≡ r.twice / 2
  unfolding rounded_slip
  rounded_down h = go (ltb r.twice r.left) (ltb→lt r.twice r.left)
    where
      go : (t : Bool) → (T t → r.twice < r.left) → pick t (λ _. r.twice / 2 + 1) (λ _. r.twice / 2) ≡ r.twice / 2
      go true y = let no : r.twice < r.left = y tt in absurd (omega arith)
      go false _ = refl

-- ---- a turn of a slip and of its page, on plain numbers: w is the digit's weight, d the weight of a place of what is left

module _ (root left rest twice x w d : ℕ) (one : w * d ≡ 2 ^ 52) (t : twice ≡ root * (4 * w)) (l : x * d ≡ left * 2 ^ 54 + rest) where
  tried : (twice + w) * d ≡ (4 * root + 1) * 2 ^ 52
  tried = ap (λ (a : ℕ). (a + w) * d) t ∙ group root w d ∙ ap (λ (a : ℕ). (4 * root + 1) * a) one
    where
      group : (root w d : ℕ) → (root * (4 * w) + w) * d ≡ (4 * root + 1) * (w * d)
      group root w d = omega arith

  goes_in : twice + w ≤ x → 2 * (root * 2) < left * 4 + rest / 2 ^ 52
  goes_in h = go ((twice + w) * d) (x * d) (mul-le-mul_right d h) tried l
    where
      go : (a b : ℕ) → a ≤ b → a ≡ (4 * root + 1) * 2 ^ 52 → b ≡ left * 2 ^ 54 + rest → 2 * (root * 2) < left * 4 + rest / 2 ^ 52
      go a b h e f = omega arith

  goes_not : 0 < d → x < twice + w → left * 4 + rest / 2 ^ 52 ≤ 2 * (root * 2)
  goes_not s h = go (x * d) ((twice + w) * d) (mul-lt-mul_of_pos_right h s) l tried
    where
      go : (b a : ℕ) → b < a → b ≡ left * 2 ^ 54 + rest → a ≡ (4 * root + 1) * 2 ^ 52 → left * 4 + rest / 2 ^ 52 ≤ 2 * (root * 2)
      go b a h f e = omega arith

  left_in : twice + w ≤ x → (x - (twice + w)) * 2 * (d * 2) ≡ (left * 4 + rest / 2 ^ 52 - (2 * (root * 2) + 1)) * 2 ^ 54 + rest % 2 ^ 52 * 4
  left_in h = four (x - (twice + w)) d ∙ go ((x - (twice + w)) * d) ((twice + w) * d) (x * d) (parts x (twice + w) d h) tried l
    where
      four : (y d : ℕ) → y * 2 * (d * 2) ≡ y * d * 4
      four y d = omega arith

      parts : (x t d : ℕ) → t ≤ x → (x - t) * d + t * d ≡ x * d
      parts x t d h = let y = x - t in let e : x ≡ y + t = omega arith in sum y t d ∙ ap (λ (a : ℕ). a * d) (sym e)
        where
          sum : (y t d : ℕ) → y * d + t * d ≡ (y + t) * d
          sum y t d = omega arith

      go : (y a b : ℕ) → y + a ≡ b → a ≡ (4 * root + 1) * 2 ^ 52 → b ≡ left * 2 ^ 54 + rest → y * 4 ≡ (left * 4 + rest / 2 ^ 52 - (2 * (root * 2) + 1)) * 2 ^ 54 + rest % 2 ^ 52 * 4
      go y a b s e f = omega arith

  left_not : x * 2 * (d * 2) ≡ (left * 4 + rest / 2 ^ 52) * 2 ^ 54 + rest % 2 ^ 52 * 4
  left_not = four x d ∙ go (x * d) l
    where
      four : (y d : ℕ) → y * 2 * (d * 2) ≡ y * d * 4
      four y d = omega arith

      go : (b : ℕ) → b ≡ left * 2 ^ 54 + rest → b * 4 ≡ (left * 4 + rest / 2 ^ 52) * 2 ^ 54 + rest % 2 ^ 52 * 4
      go b f = omega arith

  twice_in : twice + w + w ≡ (root * 2 + 1) * (2 * w)
  twice_in = ap (λ (a : ℕ). a + w + w) t ∙ go root w
    where
      go : (root w : ℕ) → root * (4 * w) + w + w ≡ (root * 2 + 1) * (2 * w)
      go root w = omega arith

  twice_not : twice ≡ root * 2 * (2 * w)
  twice_not = t ∙ go root w
    where
      go : (root w : ℕ) → root * (4 * w) ≡ root * 2 * (2 * w)
      go root w = omega arith

-- ---- slips and pages

double : (k : ℕ) → 2 ^ suc k ≡ 2 * 2 ^ k
double k = omega (arith, pow-suc 2 k)

fourfold : (k : ℕ) → 2 ^ suc (suc k) ≡ 4 * 2 ^ k
fourfold k = omega (arith, pow-suc 2 (suc k), pow-suc 2 k)

places : (i k : ℕ) → i + suc k ≡ 53 → 2 ^ k * 2 ^ i ≡ 2 ^ 52
places i k s = let e : k + i ≡ 52 = omega arith in sym (pow-add 2 k i) ∙ ap (λ (a : ℕ). 2 ^ a) e

pub on_slip_start : (m : ℕ) → OnSlip m 0 53 (slip 0 m)
unfolding after
on_slip_start m = record { twice = omega arith; left = omega arith }

module _ {m i k : ℕ} {r : Slip} (s : i + suc k ≡ 53) (y : OnSlip m i (suc k) r) where
  abbrev page : Page
  page = after m i

  wide : r.twice ≡ page.root * (4 * 2 ^ k)
  wide = y.twice ∙ ap (λ (a : ℕ). page.root * a) (fourfold k)

  pub on_slip_next : OnSlip m (suc i) k (next_slip r (2 ^ k))
  unfolding after
  on_slip_next = ⊎_elim one none (le_or_lt (r.twice + 2 ^ k) r.left)
    where
      one : r.twice + 2 ^ k ≤ r.left → OnSlip m (suc i) k (next_slip r (2 ^ k))
      one h =
          let e : after m (suc i) ≡ taken (brought_down page) = settled_one (brought_down page) (goes_in _ _ _ _ _ _ _ (places i k s) wide y.left h) in
          rw (next_one r (2 ^ k) h) (record {
            twice = twice_in _ _ _ _ _ _ _ (places i k s) wide y.left ∙ ap (λ (a : ℕ). (page.root * 2 + 1) * a) (sym (double k)) ∙ ap (λ (p : Page). p.root * 2 ^ suc k) (sym e);
            left = ap (λ (a : ℕ). (r.left - (r.twice + 2 ^ k)) * 2 * a) (pow-suc 2 i) ∙ left_in _ _ _ _ _ _ _ (places i k s) wide y.left h ∙ ap (λ (p : Page). p.left * 2 ^ 54 + p.rest) (sym e);
          })

      none : r.left < r.twice + 2 ^ k → OnSlip m (suc i) k (next_slip r (2 ^ k))
      none h =
          let e : after m (suc i) ≡ brought_down page = settled_zero (brought_down page) (goes_not _ _ _ _ _ _ _ (places i k s) wide y.left (pow_pos i) h) in
          rw (next_zero r (2 ^ k) h) (record {
            twice = twice_not _ _ _ _ _ _ _ (places i k s) wide y.left ∙ ap (λ (a : ℕ). page.root * 2 * a) (sym (double k)) ∙ ap (λ (p : Page). p.root * 2 ^ suc k) (sym e);
            left = ap (λ (a : ℕ). r.left * 2 * a) (pow-suc 2 i) ∙ left_not _ _ _ _ _ _ _ (places i k s) wide y.left ∙ ap (λ (p : Page). p.left * 2 ^ 54 + p.rest) (sym e);
          })

  -- the bounds of a slip
  pub on_slip_room : m < 2 ^ 54 → SlipRoom r (2 ^ k)
  on_slip_room h =
      let b = schoolbook m i h in
      record {
        twice = short page.root (2 ^ i) (2 ^ k) r.twice wide b.short (places i k s) (pow_pos k);
        left = lt_of_mul-lt-mul_right (2 ^ i) (less page.root page.left page.rest (2 ^ i) (r.left * 2 ^ i) y.left b.less b.short b.room);
        weight = let h : k ≤ 52 = omega arith in pow_mono h;
      }
    where
      short : (root d w twice : ℕ) → twice ≡ root * (4 * w) → root < d → w * d ≡ 2 ^ 52 → 0 < w → twice < 2 ^ 54
      short root d w twice t h o p = go (root * w) (d * w) (mul-lt-mul_of_pos_right h p)
        where
          go : (a b : ℕ) → root * w < d * w → twice < 2 ^ 54
          go a b l = omega arith

      less : (root left rest d b : ℕ) → b ≡ left * 2 ^ 54 + rest → left ≤ 2 * root → root < d → rest < 2 ^ 54 → b < 2 ^ 55 * d
      less root left rest d b e l h g = omega arith

-- ---- after the last turn

module _ {m : ℕ} {r : Slip} (low : 2 ^ 52 ≤ m) (high : m + 2 ≤ 2 ^ 54) (y : OnSlip m 53 0 r) where
  last : Schoolbook m 53 (after m 53)
  last = schoolbook m 53 (omega arith)

  twice_root : r.twice ≡ (after m 53).root * 2
  twice_root = y.twice

  twice_left : r.left ≡ (after m 53).left * 2
  twice_left = go m ((after m 53).root * (after m 53).root + (after m 53).left) (after m 53).left (after m 53).rest r.left last.value last.room y.left
    where
      go : (m v left rest x : ℕ) → m * 4 ^ 53 ≡ v * 2 ^ 54 + rest → rest < 2 ^ 54 → x * 2 ^ 53 ≡ left * 2 ^ 54 + rest → x ≡ left * 2
      go m v left rest x e h f = omega arith

  pub on_slip_near : NearWhole (m * 2 ^ 52) (rounded_slip r)
  on_slip_near = ⊎_elim
      (λ h. rw (rounded_down r h, half r.twice _ twice_root) (stays last low (omega (arith, twice_root, twice_left))))
      (λ h. rw (rounded_up r h, half r.twice _ twice_root) (goes_up_lem last (omega (arith, twice_root, twice_left))))
      (le_or_lt r.left r.twice)
    where
      half : (t root : ℕ) → t ≡ root * 2 → t / 2 ≡ root
      half t root e = omega arith

-- ---- two slips

pub slips_start : (m n : ℕ) → Slips m n (2 ^ 52) (slip 0 m) (slip 0 n)
slips_start m n = record { done = 0; ahead = 53; turns = refl; weight = refl; first = on_slip_start m; second = on_slip_start n }

half_weight : (k : ℕ) → 2 ^ k / 2 ≡ weight_of k
half_weight zero = refl
half_weight (suc k) = omega (arith, pow-suc 2 k)

no_weight : (k w : ℕ) → w ≡ weight_of (suc k) → 0 < w
no_weight k w e = rw e (pow_pos k)

module _ {m n w : ℕ} {p q : Slip} where
  pub slips_next : Slips m n w p q → 0 < w → Slips m n (w / 2) (next_slip p w) (next_slip q w)
  slips_next g h = go g.done g.ahead g.turns g.weight g.first g.second
    where
      go : (i k : ℕ) → i + k ≡ 53 → w ≡ weight_of k → OnSlip m i k p → OnSlip n i k q → Slips m n (w / 2) (next_slip p w) (next_slip q w)
      go i zero s e a b = absurd (omega arith)
      go i (suc k) s e a b = rw e (record { done = suc i; ahead = k; turns = omega arith; weight = half_weight k; first = on_slip_next s a; second = on_slip_next s b })

  pub slips_room : Slips m n w p q → 0 < w → m + 2 ≤ 2 ^ 54 → n + 2 ≤ 2 ^ 54 → SlipRoom p w × SlipRoom q w
  slips_room g h x y = go g.done g.ahead g.turns g.weight g.first g.second
    where
      go : (i k : ℕ) → i + k ≡ 53 → w ≡ weight_of k → OnSlip m i k p → OnSlip n i k q → SlipRoom p w × SlipRoom q w
      go i zero s e a b = absurd (omega arith)
      go i (suc k) s e a b = rw e (on_slip_room s a (omega arith), on_slip_room s b (omega arith))

  pub slips_end :
      Slips m n w p q → w ≤ 0 → (2 ^ 52 ≤ m) × (m + 2 ≤ 2 ^ 54) → (2 ^ 52 ≤ n) × (n + 2 ≤ 2 ^ 54)
      → NearWhole (m * 2 ^ 52) (rounded_slip p) × NearWhole (n * 2 ^ 52) (rounded_slip q)
  slips_end g h x y = go g.done g.ahead g.turns g.weight g.first g.second
    where
      go : (i k : ℕ) → i + k ≡ 53 → w ≡ weight_of k → OnSlip m i k p → OnSlip n i k q → NearWhole (m * 2 ^ 52) (rounded_slip p) × NearWhole (n * 2 ^ 52) (rounded_slip q)
      go i zero s e a b =
          let l : i ≡ 53 = omega arith in
          (on_slip_near x.0 x.1 (subst (λ (j : ℕ). OnSlip m j 0 p) l a), on_slip_near y.0 y.1 (subst (λ (j : ℕ). OnSlip n j 0 q) l b))
      go i (suc k) s e a b = let z = no_weight k w e in absurd (omega arith)
