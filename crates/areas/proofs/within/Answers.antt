-- Each entry names a vertex, which is read.
use Rattle.std.proofs.Common.{rules, arith, length, ◌<◌, ◌/◌}
use Rattle.std.proofs.lemmas.Grind.{get_or_default_zero}
use Rattle.std.proofs.lemmas.Iterator.{YieldsList-from_slice}
use Rattle.std.proofs.lemmas.Iterator.Adapters.{serves_from_places}
use Rattle.areas.proofs.within.Goals as goal

pub all-requires-clause-callable : goal.all-requires-clause-callable
all-requires-clause-callable c =
    serves_from_places {v = λ x. x.now} (YieldsList-from_slice _ c.iter.ensures.rest) (λ x q h. search rules)
    (λ x k l e.
    let p : x.now < length c.args.vertices.now / 2 = omega (arith, e, c.requires.each k l, get_or_default_zero c.args.entries.now k x.now l) in
    search rules)
