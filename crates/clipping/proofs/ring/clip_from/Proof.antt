-- `clipping::ring::clip_from` meets its contract: it walks the ring from its vertex at place f, with nothing written and the cell not open.
use mathlib.Core.Path.{refl}
use mathlib.Core.Bool.{false≢true}
use native.Mathlib.Omega.{arith}
use Rattle.clipping.specs.laws.RingWalk.{get_d_ring}
use borrow.Author.Rules.{rules}
use Rattle.clipping.proofs.ring.clip_from.Statement.{statement}
use Rattle.clipping.proofs.ring.clip_from.Tie as tie

walk_ring-requires : tie.Need-walk_ring-requires
walk_ring-requires c κs =
    let s = c in (
      s.requires.0,
      (
        record { vertex = s.requires.0.below s.args.f s.requires.1.0; shut = λ e. refl; low = λ e. absurd (false≢true e); ends = λ e. absurd (false≢true e) },
        (omega arith, s.requires.1.1),
      ),
    )

returns : tie.Need-returns
returns c =
    let at-walk-ring = c in
    let s = at-walk-ring in
    let a = s.args in
    rw (get_d_ring a.indexes.now a.ring a.len a.f s.requires.1.0) at-walk-ring.walk_ring.ensures

pub clip_from_spec : {M : Type 1} → statement M
clip_from_spec =
    tie.close
    (tie.spec (λ c. search rules) (λ c. search rules) (λ c. search rules) walk_ring-requires (λ c. search rules)
    (λ c. search rules) returns)
