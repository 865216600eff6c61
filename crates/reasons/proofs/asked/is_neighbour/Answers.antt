-- A step that comes is t or leaves t to be sought among the others.
use Rattle.std.proofs.Common.{arith}
use Rattle.walks.specs.neighbours.laws.Rest.{settled_start}
use Rattle.reasons.specs.laws.Search.{seeks_start, seeks_found, seeks_step, seeks_less, seeks_none}
use Rattle.reasons.proofs.asked.is_neighbour.Goals as goal

pub loop-x-init : goal.loop-x-init
loop-x-init c = seeks_start _ _ (omega (arith, c.requires.0.small)) _ _ (settled_start _ _ c.requires.0 _)

pub returns-then-x-t : goal.returns-then-x-t
returns-then-x-t c = seeks_found _ _ (omega (arith, c.requires.0.small)) _ c.loop-x.invariant _ _ c.in-Some.ensures c.if-x-t.true

pub loop-x-smaller : goal.loop-x-smaller
loop-x-smaller c = seeks_less _ _ (omega (arith, c.requires.0.small)) c.args.t c.loop-x.invariant _ _ c.in-Some.ensures

pub loop-x-preserved : goal.loop-x-preserved
loop-x-preserved c = seeks_step _ _ (omega (arith, c.requires.0.small)) _ c.loop-x.invariant _ _ c.in-Some.ensures c.if-x-t.false

pub returns : goal.returns
returns c = seeks_none _ _ (omega (arith, c.requires.0.small)) _ c.loop-x.invariant c.in_default.ensures
