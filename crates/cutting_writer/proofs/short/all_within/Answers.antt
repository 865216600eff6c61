-- `cutting_writer::short::all_within`: what `all` says of each corner of the ring.
use Rattle.std.proofs.Common.{◌≡◌, ◌+◌, ℕ, true, rules, tests, arith, refl}
use Rattle.std.proofs.lemmas.Bool.{MatchBool-at_true}
use Rattle.std.proofs.lemmas.Iterator.{cases_from_all, YieldsList-from_range}
use Rattle.cutting.specs.corner.Corner.{within_of}
use Rattle.cutting_writer.specs.slots.Slots.{corner_in}
use Rattle.cutting_writer.specs.short.laws.Passing.{all_each}
use Rattle.cutting_writer.proofs.short.all_within.Goals as goal

pub returns : goal.returns
returns c t =
    let a = c.args in
    let inside = λ (i : ℕ). within_of a.b a.s (corner_in a.slots.now (a.from + i)) ≡ true in
    all_each a.b a.s a.from a.count a.slots.now
    (MatchBool-at_true _ _ t
    (cases_from_all _ _ _ inside (λ _. Unit {0}) c.all.ensures.ran (YieldsList-from_range 0 a.count a.count refl (omega arith)) (λ x q k. search (rules, tests)) (λ x q k. tt)))
