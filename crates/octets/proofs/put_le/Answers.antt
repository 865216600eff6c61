-- `octets::put_le` meets its contract: each byte carries `Spelling` one further.
use Rattle.std.proofs.Common.{◌≡◌, ◌+◌, ℕ, arith, refl, subst}
use Rattle.octets.specs.Bytes.{le}
use Rattle.octets.specs.Wrote.{Wrote}
use Rattle.octets.specs.laws.Bytes.{length_le}
use Rattle.octets.specs.laws.Wrote.{wrote_length}
use Rattle.octets.specs.laws.PutLe.{spelling_step, spelling_end}
use Rattle.octets.proofs.put_le.Goals as goal

pub bounds-out-at : goal.bounds-out-at
bounds-out-at c = omega (arith, c.requires, wrote_length c.loop-i.invariant.put.wrote, length_le c.args.n c.args.x)

pub loop-i-preserved : goal.loop-i-preserved
loop-i-preserved c = spelling_step c.loop-i.invariant c.loop-i-test.true (omega arith) refl

pub returns : goal.returns
returns c =
    let all : c.loop-i.i ≡ c.args.n = omega (arith, c.loop-i-test.false, c.loop-i.auto.i-end) in
    subst (λ (k : ℕ). Wrote c.args.out.now c.loop-i.out c.args.at (c.args.at + k) (le c.args.n c.args.x)) all
    (spelling_end c.loop-i.invariant c.loop-i-test.false)
