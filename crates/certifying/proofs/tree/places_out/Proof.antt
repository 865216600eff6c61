-- `certifying::tree::places_out` meets its contract.
use native.Mathlib.Omega.{arith}
use Rattle.certifying.proofs.tree.places_out.Statement.{statement}
use Rattle.certifying.proofs.tree.places_out.Tie as tie

abbrev Start : tie.Else-level_out → tie.Start
Start c = c.before.before.before.before.before

base_4096-requires : tie.Need-base_4096-requires
base_4096-requires c κs = c.requires.0.few

level_out-requires : tie.Need-level_out-requires
level_out-requires c κs =
    let s = c in
    (rw c.base_4096.ensures (record { held = s.requires.1; order = s.requires.0.order; level = s.requires.0.coarse; edges = s.requires.2 }), s.requires.3)

returns : tie.Need-returns-then-level_out
returns c = (c.level_out.ensures c.if-level_out.true, omega arith)

base_256-requires : tie.Need-base_256-requires
base_256-requires c κs = (Start c).requires.0.few

level_out-requires-2 : tie.Need-level_out-requires-2
level_out-requires-2 c κs =
    let s = Start c.before in
    (rw c.base_256.ensures (record { held = s.requires.1; order = s.requires.0.order; level = s.requires.0.middle; edges = s.requires.2 }), s.requires.3)

returns-2 : tie.Need-returns-then-level_out-2
returns-2 c = (c.level_out-2.ensures c.if-level_out-2.true, omega arith)

level_out-requires-3 : tie.Need-level_out-requires-3
level_out-requires-3 c κs =
    let s = Start c.before.before.before in
    (record { held = s.requires.1; order = s.requires.0.order; level = s.requires.0.fine; edges = s.requires.2 }, s.requires.3)

returns-3 : tie.Need-returns-then-level_out-3
returns-3 c = (c.level_out-3.ensures c.if-level_out-3.true, omega arith)

returns-4 : tie.Need-returns
returns-4 c = (λ i a b h. absurd (omega arith), omega arith)

pub places_out_spec : {M : Type 1} → statement M
places_out_spec =
    tie.close (tie.spec base_4096-requires level_out-requires returns base_256-requires level_out-requires-2
    returns-2 level_out-requires-3 returns-3 returns-4)
