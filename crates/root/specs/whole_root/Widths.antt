-- Theorem: the bound of every number on the way to a root, and of every product: those of the turns are below 2 ^ 55, those of the pattern that is put together at the end below
-- 2 ^ 63.
use Rattle.std.specs.Prelude.{ℕ, ◌+◌, ◌-◌, ◌*◌, ◌/◌, ◌%◌, ◌^◌, ◌≤◌, ◌<◌}
use Rattle.std.proofs.Common.{arith}
use Rattle.root.specs.declared.whole_root.Page.{Page}
use Rattle.root.specs.whole_root.Turn.{brought_down, tried, Narrow, Schoolbook}

-- in a turn
pub record Widths (p : Page) : Type 0 where
  pub root_before : p.root < 2 ^ 52
  pub left_before : p.left < 2 ^ 53
  pub rest_before : p.rest < 2 ^ 54
  pub root_moved : p.root * 2 < 2 ^ 53
  pub left_moved : p.left * 4 < 2 ^ 55
  pub pair : p.rest / 2 ^ 52 < 2 ^ 2
  pub left_down : p.left * 4 + p.rest / 2 ^ 52 < 2 ^ 55
  pub rest_cut : p.rest % 2 ^ 52 < 2 ^ 52
  pub rest_moved : p.rest % 2 ^ 52 * 4 < 2 ^ 54
  pub twice : 2 * (p.root * 2) < 2 ^ 54
  pub twice_and_one : tried (brought_down p) < 2 ^ 54
  pub root_after : p.root * 2 + 1 < 2 ^ 53

pub widths : {p : Page} → Narrow p → Widths p
widths n = record {
  root_before = n.root;
  left_before = omega (arith, n.left, n.root);
  rest_before = n.rest;
  root_moved = omega (arith, n.root);
  left_moved = omega (arith, n.left, n.root);
  pair = omega (arith, n.rest);
  left_down = omega (arith, n.left, n.root, n.rest);
  rest_cut = omega arith;
  rest_moved = omega arith;
  twice = omega (arith, n.root);
  twice_and_one = omega (arith, n.root);
  root_after = omega (arith, n.root);
}

-- after the last one
pub record LastWidths (p : Page) : Type 0 where
  pub root_last : p.root < 2 ^ 53
  pub left_last : p.left < 2 ^ 54
  pub rounded_up : p.root + 1 ≤ 2 ^ 53

pub last_widths : {m : ℕ} {p : Page} → Schoolbook m 53 p → LastWidths p
last_widths s = record { root_last = s.short; left_last = omega (arith, s.less, s.short); rounded_up = omega (arith, s.short) }

-- the pattern of the root r, of a value whose scale is p: at most 2046 and 1073
pub record PatternWidths (p r : ℕ) : Type 0 where
  pub exponent : p / 2 - 26 < 2 ^ 11
  pub exponent_moved : (p / 2 - 26) * 2 ^ 52 < 2 ^ 63
  pub pattern : (p / 2 - 26) * 2 ^ 52 + r < 2 ^ 63

pub pattern_widths : (p r : ℕ) → p ≤ 3119 → r ≤ 2 ^ 53 → PatternWidths p r
pattern_widths p r l h = record { exponent = omega arith; exponent_moved = omega arith; pattern = omega arith }
