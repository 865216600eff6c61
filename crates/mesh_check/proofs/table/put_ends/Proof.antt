-- The three half-edges from above: 3 t + 2 ends where 3 t starts, 3 t + 1 where 3 t + 2 does, 3 t where 3 t + 1 does.
use borrow.Author.Rules.{rules}
use mathlib.Core.Path.{◌≡◌, ◌∙◌}
use Prim.Native.Nat.{◌+◌, ◌*◌}
use native.Mathlib.Omega.{arith}
use Rattle.mesh_check.specs.pairing.laws.Threes.{first_next, second_next, third_next}
use Rattle.mesh_check.proofs.table.put_ends.Statement.{statement}
use Rattle.mesh_check.proofs.table.put_ends.Tie as tie

abbrev Start : tie.After-put_end-arg-2-1 → tie.Start
Start c = c.before.before.before.before.before.before.before

put_end-requires : tie.Need-put_end-requires
put_end-requires c κs =
    let s = c in
    let t = s.args.t in
    let q : 3 * t + 3 ≡ 3 * t + 2 + 1 = omega arith in
    (s.requires.0, omega arith, omega arith, third_next t, s.requires.1 _ (omega arith), rw q at s.requires.3)

put_end-requires-2 : tie.Need-put_end-requires-2
put_end-requires-2 c κs =
    let p = c.put_end in
    let t = (Start c).args.t in
    let q : 3 * t + 2 ≡ 3 * t + 1 + 1 = omega arith in
    ((Start c).requires.0, omega arith, omega arith, second_next t, rw p.auto.work ((Start c).requires.1 _ (omega arith)), rw q at p.ensures)

put_end-requires-3 : tie.Need-put_end-requires-3
put_end-requires-3 c κs =
    let s = Start c.before.before.before.before in
    let p = c.put_end-2 in
    let p1 = c.put_end in
    (s.requires.0, omega arith, omega arith, first_next s.args.t, rw (p.auto.work ∙ p1.auto.work) (s.requires.1 _ (omega arith)), p.ensures)

pub put_ends_spec : {M : Type 1} → statement M
put_ends_spec =
    tie.close
    (tie.spec (λ c. search rules) (λ c. search rules) (λ c. search rules) put_end-requires (λ c. search rules) (λ c. search rules) (λ c. search rules) (λ c. search rules)
    put_end-requires-2 (λ c. search rules) (λ c. search rules) (λ c. search rules) put_end-requires-3 (λ c. search rules) (λ c. search rules))
