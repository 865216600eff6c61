-- `wkb::put_head` meets its contract: three numbers one after the other.
use Rattle.octets.specs.laws.Wrote.{wrote_then}
use Rattle.wkb.specs.Polygon.{head_bytes}
use borrow.Author.Rules.{rules}
use Rattle.wkb.proofs.put_head.Statement.{statement}
use Rattle.wkb.proofs.put_head.Tie as tie

returns : tie.Need-returns
unfolding head_bytes
returns c =
    let at-put-le2 = c in
    wrote_then (wrote_then at-put-le2.put_le-kind.ensures at-put-le2.put_le-count.ensures) c.put_le.ensures

pub put_head_spec : {M : Type 1} → statement M
put_head_spec =
    tie.close
    (tie.spec (λ c κs. search rules) (λ c κs. search rules) (λ c κs. search rules) (λ c. search rules) returns)
