-- `auditing::nearer::first_beyond` meets its contract: what `find` tells is the lowest.
use Rattle.std.proofs.Common.{◌≡◌, true, false, rules}
use Rattle.std.proofs.lemmas.Iterator.{first_from_Range}
use Rattle.ring_area.specs.lowest.laws.Found.{found}
use Rattle.ring_area.specs.lowest.laws.Loops.{named_twice}
use Rattle.auditing.specs.nearer.Nearer.{beyond_at}
use Rattle.auditing.proofs.nearer.first_beyond.Goals as goal

pub point_at-site-requires : goal.point_at-site-requires
point_at-site-requires c = named_twice _ _ c.requires.own

pub returns : goal.returns
returns c =
    let p = beyond_at c.args.far c.args.corner c.args.sites.now c.args.s c.args.part.now c.args.all in
    rw c.held_count-count.ensures at
    (found p c.held_count-count.result c.find.result (first_from_Range _ _ _ c.find.result (λ k. p k ≡ true) (λ k. p k ≡ false) c.find.ensures.ran (λ x q k. search rules) (λ x q k. search rules)) c.unwrap_or.ensures)
