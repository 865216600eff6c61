-- The invariant is that the hull sites so far are written; each turn writes one more.
use lib.ListN.{length, take}
use Rattle.octets.specs.Bytes.{each}
use Rattle.octets.specs.laws.Wrote.{Lined}
use Rattle.form.specs.Form.{hull_bytes}
use Rattle.mend.proofs.writer.put_hull.Given as goal

abbrev pub invariant-loop-site : goal.invariant-loop-site
invariant-loop-site l = Lined (λ k. each hull_bytes (take k l.hull)) (length l.hull) l.fn.out l.out l.at l.end l.site-index
