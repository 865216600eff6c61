-- `audit::turns::is_turned` meets its contract: the area of the ring of its three sites.
use Rattle.std.proofs.Common.{sym, subst, arith}
use Rattle.ring_area.specs.Steps.{Corners}
use Rattle.audit.specs.turns.laws.Turns.{triangle_corners, triangle_part, turned_is}
use Rattle.audit.proofs.turns.is_turned.Statement.{statement}
use Rattle.audit.proofs.turns.is_turned.Tie as tie

ring_area-requires : tie.Need-ring_area-requires
ring_area-requires c κs =
    let s = c in
    subst (Corners s.args.sites.now) (sym (triangle_part s.args.triangles.now s.args.t)) (triangle_corners s.requires.0 s.args.t s.requires.1)

returns : tie.Need-returns
returns c =
    let s = c in
    turned_is s.args.sites.now s.args.triangles.now s.args.t c.ring_area.ensures

pub is_turned_spec : {M : Type 1} → statement M
is_turned_spec =
    tie.close
    (tie.spec (λ c. omega arith) (λ c. omega arith) (λ c. omega arith) (λ c. omega arith) (λ c. omega arith) (λ c. omega arith)
    ring_area-requires returns)
