-- A turn of the schoolbook root where nothing is moved: the root's digits stand at their places, and what is left is doubled. Definitions only.
use Rattle.std.specs.Prelude.{◌≡◌, ℕ, zero, suc, ◌+◌, ◌-◌, ◌*◌, ◌/◌, ◌^◌, ◌≤◌, ◌<◌, leb, ltb}
use Rattle.base.specs.common.Pick.{pick}
use Rattle.root.specs.whole_root.Turn.{after}
use Rattle.root.specs.declared.two_roots.Slip.{Slip}

abbrev pub slip : ℕ → ℕ → Slip
slip t l = record { twice = t; left = l }

-- the digit is 1 where twice the root and the digit's weight goes in, else 0
unfoldable pub next_slip : Slip → ℕ → Slip
next_slip r w = pick (leb (r.twice + w) r.left) (λ _. slip (r.twice + w + w) ((r.left - (r.twice + w)) * 2)) (λ _. slip r.twice (r.left * 2))

-- up where more is left than the root
unfoldable pub rounded_slip : Slip → ℕ
rounded_slip r = pick (ltb r.twice r.left) (λ _. r.twice / 2 + 1) (λ _. r.twice / 2)

-- a slip that a turn can be taken on
pub record SlipRoom (r : Slip) (w : ℕ) : Type 0 where
  pub twice : r.twice < 2 ^ 54
  pub left : r.left < 2 ^ 55
  pub weight : w ≤ 2 ^ 52

-- the weight of the next digit, where k are to come
abbrev pub weight_of : ℕ → ℕ
weight_of zero = 0
weight_of (suc k) = 2 ^ k

-- the slip is the schoolbook's page after i turns, where k are to come: the root moved to its place, and what is left with the pairs to come
pub record OnSlip (m i k : ℕ) (r : Slip) : Type 0 where
  pub twice : r.twice ≡ (after m i).root * 2 ^ suc k
  pub left : r.left * 2 ^ i ≡ (after m i).left * 2 ^ 54 + (after m i).rest

-- two slips between two turns, and the weight of their next digit
pub record Slips (m n w : ℕ) (p q : Slip) : Type 0 where
  pub done : ℕ
  pub ahead : ℕ
  pub turns : done + ahead ≡ 53
  pub weight : w ≡ weight_of ahead
  pub first : OnSlip m done ahead p
  pub second : OnSlip n done ahead q
