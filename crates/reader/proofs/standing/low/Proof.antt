-- `reader::standing::low` meets its contract: at each `return` the number of bytes is known, and the power computes.
use mathlib.Core.Path.{◌≡◌, refl}
use native.Mathlib.Omega.{arith}
use Rattle.reader.proofs.standing.low.Statement.{statement}
use Rattle.reader.proofs.standing.low.Tie as tie

returns : tie.Need-returns-then-n-eq1
returns c = (rw c.if-n-eq1.true, omega arith)

returns-2 : tie.Need-returns-then-n-eq2
returns-2 c = (rw c.if-n-eq2.true, omega arith)

returns-3 : tie.Need-returns-then-n-eq3
returns-3 c = (rw c.if-n-eq3.true, omega arith)

returns-4 : tie.Need-returns-then-n-eq4
returns-4 c = (rw c.if-n-eq4.true, omega arith)

returns-5 : tie.Need-returns-then-n-eq5
returns-5 c = (rw c.if-n-eq5.true, omega arith)

returns-6 : tie.Need-returns-then-n-eq6
returns-6 c = (rw c.if-n-eq6.true, omega arith)

returns-7 : tie.Need-returns
returns-7 c =
    let s = c in
    let e : s.args.n ≡ 7 = omega (
      arith,
      s.requires,
      c.if-n-eq1.false,
      c.if-n-eq2.false,
      c.if-n-eq3.false,
      c.if-n-eq4.false,
      c.if-n-eq5.false,
      c.if-n-eq6.false,
    ) in
    (rw e refl, omega arith)

pub low_spec : {M : Type 1} → statement M
low_spec =
    tie.close
    (tie.spec returns returns-2 returns-3 returns-4 returns-5 returns-6 returns-7)
