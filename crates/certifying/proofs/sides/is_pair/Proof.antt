-- `certifying::sides::is_pair` meets its contract.
use mathlib.Core.Path.{sym}
use Rattle.ring_area.specs.lowest.laws.Loops.{no_both}
use Rattle.certifying.specs.sides.laws.Inserting.{side_safe, side_to}
use Rattle.certifying.specs.sides.laws.Fair.{head_below, next_below, answered, pair_even}
use native.Mathlib.Omega.{arith}
use borrow.Author.Rules.{rules}
use Rattle.certifying.proofs.sides.is_pair.Statement.{statement}
use Rattle.certifying.proofs.sides.is_pair.Tie as tie

abbrev Start : tie.Else-x-eq0 → tie.Start
Start c = c.before.before.before.before.before.before

returns : tie.Need-returns-then-x-eq0
returns c = λ q. absurd (no_both (sym q))

mul-wide-3 : tie.Need-overflow_mul-x
mul-wide-3 c =
    let below = head_below (Start c).requires.1 (Start c).requires.0 c.wide-x.ensures (omega (arith, c.if-x-eq0.false)) in
    record { fits = omega (arith, (Start c).requires.1.lie.few, below) }

add_wide : tie.Need-overflow_add-x
add_wide c =
    let below = head_below (Start c).requires.1 (Start c).requires.0 c.wide-x.ensures (omega (arith, c.if-x-eq0.false)) in
    record { fits = omega (arith, (Start c).requires.1.lie.few, below) }

mul-wide-4 : tie.Need-offset_bounds-work-x
mul-wide-4 c =
    let below = head_below (Start c).requires.1 (Start c).requires.0 c.wide-x.ensures (omega (arith, c.if-x-eq0.false)) in
    omega (arith, (Start c).requires.1.lie.few, below)

shared_slice_read-wide-2 : tie.Need-bounds-work-x
shared_slice_read-wide-2 c =
    let e1 = c in
    let below = head_below (Start e1.before).requires.1 (Start e1.before).requires.0 e1.wide-x.ensures (omega (arith, e1.if-x-eq0.false)) in
    omega (arith, (Start e1.before).requires.1.lie.room, below)

returns-2 : tie.Need-returns-then-y-eq0
returns-2 c = λ q. absurd (no_both (sym q))

mul-if3 : tie.Need-overflow_mul-y
mul-if3 c =
    let e1 = c in
    let below = next_below (Start e1.before.before.before).requires.1 (Start e1.before.before.before).requires.0 e1.wide-x.ensures (omega (arith, e1.if-x-eq0.false)) c.wide-y.ensures (omega (arith, c.if-y-eq0.false)) in
    record { fits = omega (arith, (Start e1.before.before.before).requires.1.lie.few, below) }

add-if3 : tie.Need-overflow_add-y
add-if3 c =
    let e1 = c in
    let below = next_below (Start e1.before.before.before).requires.1 (Start e1.before.before.before).requires.0 e1.wide-x.ensures (omega (arith, e1.if-x-eq0.false)) c.wide-y.ensures (omega (arith, c.if-y-eq0.false)) in
    record { fits = omega (arith, (Start e1.before.before.before).requires.1.lie.few, below) }

mul-if3-2 : tie.Need-offset_bounds-work-y
mul-if3-2 c =
    let e1 = c in
    let below = next_below (Start e1.before.before.before).requires.1 (Start e1.before.before.before).requires.0 e1.wide-x.ensures (omega (arith, e1.if-x-eq0.false)) c.wide-y.ensures (omega (arith, c.if-y-eq0.false)) in
    omega (arith, (Start e1.before.before.before).requires.1.lie.few, below)

shared_slice_read-if3 : tie.Need-bounds-work-y
shared_slice_read-if3 c =
    let e1 = c in
    let below = next_below (Start e1.before.before.before.before).requires.1 (Start e1.before.before.before.before).requires.0 e1.wide-x.ensures (omega (arith, e1.if-x-eq0.false)) c.wide-y.ensures
    (omega (arith, c.if-y-eq0.false)) in
    omega (arith, (Start e1.before.before.before.before).requires.1.lie.room, below)

returns-3 : tie.Need-returns-then-work-y-gt0
returns-3 c = λ q. absurd (no_both (sym q))

side_at-requires : tie.Need-side_at-s-requires
side_at-requires c κs =
    let e1 = c in
    let below = head_below (Start e1.before.before.before.before.before).requires.1 (Start e1.before.before.before.before.before).requires.0 e1.wide-x.ensures (omega (arith, e1.if-x-eq0.false)) in
    side_safe (Start e1.before.before.before.before.before).requires.1.lie below

side_at-requires-2 : tie.Need-side_at-t-requires
side_at-requires-2 c κs =
    let e2 = c in
    let e1 = e2 in
    let below = next_below (Start e1.before.before.before.before.before.before).requires.1 (Start e1.before.before.before.before.before.before).requires.0 e1.wide-x.ensures (omega (arith, e1.if-x-eq0.false)) e2.wide-y.ensures (omega (arith, e2.if-y-eq0.false)) in
    side_safe (Start e1.before.before.before.before.before.before).requires.1.lie below

returns-4 : tie.Need-returns-then-answers
returns-4 c =
    let s2 = c in
    let s1 = s2 in
    let e2 = s1 in
    let e1 = e2 in
    let h = (Start e1.before.before.before.before.before.before.before.before.before.before).requires.1 in
    let m = (Start e1.before.before.before.before.before.before.before.before.before.before).requires.0 in
    let x = e1.wide-x.ensures in
    let y = e2.wide-y.ensures in
    let to1 = side_to h.lie (head_below h m x (omega (arith, e1.if-x-eq0.false))) s1.side_at-s.ensures.1 in
    let to2 = side_to h.lie (next_below h m x (omega (arith, e1.if-x-eq0.false)) y (omega (arith, e2.if-y-eq0.false))) s2.side_at-t.ensures.1 in
    λ q.
    pair_even h m x (omega (arith, e1.if-x-eq0.false)) y (omega (arith, e2.if-y-eq0.false)) s1.if-work-y-gt0.false
    (answered _ _ _ _ _ s1.side_at-s.ensures.0 to1 s2.side_at-t.ensures.0 to2 (c.answers.ensures c.if-answers.true))
    (answered _ _ _ _ _ s2.side_at-t.ensures.0 to2 s1.side_at-s.ensures.0 to1 (c.answers-then-answers.ensures q))

returns-5 : tie.Need-returns
returns-5 c = λ q. absurd (no_both (sym q))

pub is_pair_spec : {M : Type 1} → statement M
is_pair_spec =
    tie.close
    (tie.spec (λ c. search rules) (λ c. search rules) (λ c. search rules) (λ c κs. search rules) returns (λ c. search rules) mul-wide-3 add_wide mul-wide-4 shared_slice_read-wide-2
    (λ c κs. search rules) returns-2 (λ c. search rules) mul-if3 add-if3 mul-if3-2 shared_slice_read-if3 returns-3 (λ c. search rules) side_at-requires (λ c. search rules)
    side_at-requires-2 (λ c κs. search rules) (λ c κs. search rules) returns-4 returns-5)
