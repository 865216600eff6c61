-- `certifying::sides::is_even` meets its contract.
use mathlib.Core.Path.{sym}
use Rattle.ring_area.specs.lowest.laws.Loops.{no_both}
use Rattle.certifying.specs.sides.laws.Fair.{head_below}
use Rattle.certifying.specs.sides.laws.Numbers.{number_safe, y_below, z_below, d_below, two_even, four_even}
use native.Mathlib.Omega.{arith}
use borrow.Author.Rules.{rules}
use Rattle.certifying.proofs.sides.is_even.Statement.{statement}
use Rattle.certifying.proofs.sides.is_even.Tie as tie

returns : tie.Need-returns-then-x-eq0
returns c = λ e. absurd (no_both (sym e))

prior-requires : tie.Need-prior-y-requires
prior-requires c κs =
    let e1 = c in
    let w1 = e1 in
    let s = w1 in
    let h = s.requires.1 in
    let m = s.requires.0 in
    let x = w1.wide-x.ensures in
    let below = head_below h m x (omega (arith, e1.if-x-eq0.false)) in
    (omega (arith, h.lie.few, below), omega (arith, h.lie.room, below))

returns-2 : tie.Need-returns-then-y-eq0
returns-2 c = λ e. absurd (no_both (sym e))

prior-requires-2 : tie.Need-prior-z-requires
prior-requires-2 c κs =
    let e2 = c in
    let p1 = e2 in
    let e1 = p1 in
    let w1 = e1 in
    let s = w1 in
    let h = s.requires.1 in
    let m = s.requires.0 in
    let x = w1.wide-x.ensures in
    let below = y_below h m x (omega (arith, e1.if-x-eq0.false)) p1.prior-y.ensures (omega (arith, e2.if-y-eq0.false)) in
    (omega (arith, h.lie.few, below), omega (arith, h.lie.room, below))

is_turned-requires : tie.Need-is_turned-requires
is_turned-requires c κs =
    let e2 = c in
    let p1 = e2 in
    let e1 = p1 in
    let w1 = e1 in
    let s = w1 in
    let h = s.requires.1 in
    let m = s.requires.0 in
    let x = w1.wide-x.ensures in
    (number_safe h.lie (head_below h m x (omega (arith, e1.if-x-eq0.false))), number_safe h.lie (y_below h m x (omega (arith, e1.if-x-eq0.false)) p1.prior-y.ensures (omega (arith, e2.if-y-eq0.false))))

returns-3 : tie.Need-returns-then-z-eq0
returns-3 c =
    let e3 = c in
    let p2 = e3 in
    let e2 = p2 in
    let p1 = e2 in
    let e1 = p1 in
    let w1 = e1 in
    let s = w1 in
    let h = s.requires.1 in
    let m = s.requires.0 in
    let x = w1.wide-x.ensures in
    λ e.
    two_even h m x (omega (arith, e1.if-x-eq0.false)) p1.prior-y.ensures (omega (arith, e2.if-y-eq0.false)) (omega (arith, p2.prior-z.ensures, e3.if-z-eq0.true)) (c.is_turned.ensures e)

prior-requires-3 : tie.Need-prior-t-requires
prior-requires-3 c κs =
    let e3 = c in
    let p2 = e3 in
    let e2 = p2 in
    let p1 = e2 in
    let e1 = p1 in
    let w1 = e1 in
    let s = w1 in
    let h = s.requires.1 in
    let m = s.requires.0 in
    let x = w1.wide-x.ensures in
    let below = z_below h m x (omega (arith, e1.if-x-eq0.false)) p1.prior-y.ensures (omega (arith, e2.if-y-eq0.false)) p2.prior-z.ensures (omega (arith, e3.if-z-eq0.false)) in
    (omega (arith, h.lie.few, below), omega (arith, h.lie.room, below))

returns-4 : tie.Need-returns-then-t-eq0
returns-4 c = λ e. absurd (no_both (sym e))

prior-requires-4 : tie.Need-prior-requires
prior-requires-4 c κs =
    let e4 = c in
    let p3 = e4 in
    let e3 = p3 in
    let p2 = e3 in
    let e2 = p2 in
    let p1 = e2 in
    let e1 = p1 in
    let w1 = e1 in
    let s = w1 in
    let h = s.requires.1 in
    let m = s.requires.0 in
    let x = w1.wide-x.ensures in
    let below = d_below h m x (omega (arith, e1.if-x-eq0.false)) p1.prior-y.ensures (omega (arith, e2.if-y-eq0.false)) p2.prior-z.ensures
    (omega (arith, e3.if-z-eq0.false)) p3.prior-t.ensures (omega (arith, e4.if-t-eq0.false)) in
    (omega (arith, h.lie.few, below), omega (arith, h.lie.room, below))

returns-5 : tie.Need-returns-then-prior-gt0
returns-5 c = λ e. absurd (no_both (sym e))

is_two_pairs-requires : tie.Need-is_two_pairs-requires
is_two_pairs-requires c κs =
    let e4 = c in
    let p3 = e4 in
    let e3 = p3 in
    let p2 = e3 in
    let e2 = p2 in
    let p1 = e2 in
    let e1 = p1 in
    let w1 = e1 in
    let s = w1 in
    let h = s.requires.1 in
    let m = s.requires.0 in
    let x = w1.wide-x.ensures in
    record {
      first = number_safe h.lie (head_below h m x (omega (arith, e1.if-x-eq0.false)));
      second = number_safe h.lie (y_below h m x (omega (arith, e1.if-x-eq0.false)) p1.prior-y.ensures (omega (arith, e2.if-y-eq0.false)));
      third = number_safe h.lie (z_below h m x (omega (arith, e1.if-x-eq0.false)) p1.prior-y.ensures (omega (arith, e2.if-y-eq0.false)) p2.prior-z.ensures (omega (arith, e3.if-z-eq0.false)));
      fourth = number_safe h.lie (d_below h m x (omega (arith, e1.if-x-eq0.false)) p1.prior-y.ensures (omega (arith, e2.if-y-eq0.false)) p2.prior-z.ensures
          (omega (arith, e3.if-z-eq0.false)) p3.prior-t.ensures (omega (arith, e4.if-t-eq0.false)));
    }

returns-6 : tie.Need-returns
returns-6 c =
    let e5 = c in
    let p4 = e5 in
    let e4 = p4 in
    let p3 = e4 in
    let e3 = p3 in
    let p2 = e3 in
    let e2 = p2 in
    let p1 = e2 in
    let e1 = p1 in
    let w1 = e1 in
    let s = w1 in
    let h = s.requires.1 in
    let m = s.requires.0 in
    let x = w1.wide-x.ensures in
    λ e.
    four_even h m x (omega (arith, e1.if-x-eq0.false)) p1.prior-y.ensures (omega (arith, e2.if-y-eq0.false)) p2.prior-z.ensures
    (omega (arith, e3.if-z-eq0.false)) p3.prior-t.ensures (omega (arith, e4.if-t-eq0.false))
    (omega (arith, p4.prior.ensures, e5.if-prior-gt0.false)) (c.is_two_pairs.ensures e)

pub is_even_spec : {M : Type 1} → statement M
is_even_spec =
    tie.close
    (tie.spec (λ c. search rules) (λ c. search rules) (λ c. search rules) (λ c κs. search rules) returns (λ c. search rules) prior-requires returns-2 (λ c. search rules) prior-requires-2
    (λ c. search rules) (λ c. search rules) is_turned-requires returns-3 (λ c. search rules) prior-requires-3 returns-4 (λ c. search rules) prior-requires-4 returns-5 (λ c. search rules)
    (λ c. search rules) (λ c. search rules) (λ c. search rules) is_two_pairs-requires returns-6)
