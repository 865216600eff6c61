-- The schoolbook root in binary, as it stands on the page: a pair of digits is brought down, twice the root and one is tried, the digit is settled. Definitions only.
use Rattle.std.specs.Prelude.{◌≡◌, ℕ, zero, suc, ◌+◌, ◌-◌, ◌*◌, ◌/◌, ◌%◌, ◌^◌, ◌≤◌, ◌<◌, leb}
use Rattle.base.specs.common.Pick.{pick}
use Rattle.root.specs.whole_root.Near.{sq}
use Rattle.root.specs.declared.whole_root.Page.{Page}

-- a pair of digits is brought down beside what is left, and the root gets a place for its next digit
abbrev pub brought_down : Page → Page
brought_down p = record { root = p.root * 2; left = p.left * 4 + p.rest / 2 ^ 52; rest = p.rest % 2 ^ 52 * 4 }

-- twice the root and one
abbrev pub tried : Page → ℕ
tried p = 2 * p.root + 1

-- taken off what is left: the digit is 1
abbrev pub taken : Page → Page
taken p = record { root = p.root + 1; left = p.left - tried p; rest = p.rest }

-- the digit is 1 where twice the root and one goes in, else 0
unfoldable pub settled : Page → Page
settled p = pick (leb (tried p) p.left) (λ _. taken p) (λ _. p)

-- one turn
abbrev pub next_page : Page → Page
next_page p = settled (brought_down p)

-- the page after i turns on a number of 27 pairs of digits
unfoldable pub after : ℕ → ℕ → Page
after m zero = record { root = 0; left = 0; rest = m }
after m (suc i) = next_page (after m i)

-- The schoolbook's identity. Of m and zeros after it i pairs were brought down: they are the root squared and what is left.
-- And what is left is at most twice the root, so that no larger root goes in.
pub record Schoolbook (m i : ℕ) (p : Page) : Type 0 where
  pub value : m * 4 ^ i ≡ (sq p.root + p.left) * 2 ^ 54 + p.rest
  pub room : p.rest < 2 ^ 54
  pub less : p.left ≤ 2 * p.root
  pub short : p.root < 2 ^ i

-- a page that a turn can be taken on
pub record Narrow (p : Page) : Type 0 where
  pub root : p.root < 2 ^ 52
  pub left : p.left ≤ 2 * p.root
  pub rest : p.rest < 2 ^ 54
