-- The three half-edges from above: 3 t + 2 ends where 3 t starts, 3 t + 1 where 3 t + 2 does, 3 t where 3 t + 1 does.
use borrow.Author.Rules.{rules}
use borrow.Author.Tests.{not-false}
use mathlib.Core.Path.{ap, ◌≡◌, ◌∙◌}
use mathlib.Core.Bool.{not, false≢true}
use Prim.Native.Nat.{◌+◌, ◌*◌}
use native.Mathlib.Omega.{arith}
use Rattle.mesh_check.specs.pairing.laws.Threes.{first_next, second_next, third_next}
use Rattle.mesh_check.proofs.degrees.pack_ends.Statement.{statement}
use Rattle.mesh_check.proofs.degrees.pack_ends.Tie as tie

abbrev Start : tie.After-pack_end-arg-2-1 → tie.Start
Start c = c.before.before.before.before.before.before.before.before

pack_end-requires : tie.Need-pack_end-requires
pack_end-requires c κs =
    let s = c in
    let t = s.args.t in
    let q : 3 * t + 3 ≡ 3 * t + 2 + 1 = omega arith in
    (s.requires.0, omega arith, omega arith, third_next t, s.requires.1 _ (omega arith), rw q at s.requires.3)

pack_end-requires-2 : tie.Need-pack_end-requires-2
pack_end-requires-2 c κs =
    let p = c.pack_end in
    let t = (Start c).args.t in
    let q : 3 * t + 2 ≡ 3 * t + 1 + 1 = omega arith in
    ((Start c).requires.0, omega arith, omega arith, second_next t, rw p.auto.work ((Start c).requires.1 _ (omega arith)), rw q at (p.ensures (not-false _ (ap not c.if-not-pack_end.false))))

pack_end-requires-3 : tie.Need-pack_end-requires-3
pack_end-requires-3 c κs =
    let at-pack-end2 = c in
    let p = at-pack-end2.pack_end-2 in
    let p1 = at-pack-end2.pack_end in
    let s = Start at-pack-end2.before.before.before.before.before in
    (s.requires.0, omega arith, omega arith, first_next s.args.t, rw (p.auto.work ∙ p1.auto.work) (s.requires.1 _ (omega arith)), p.ensures (not-false _ (ap not c.if-not-pack_end-2.false)))

pub pack_ends_spec : {M : Type 1} → statement M
pack_ends_spec =
    tie.close
    (tie.spec (λ c. search rules) (λ c. search rules) (λ c. search rules) pack_end-requires (λ c. search rules) (λ c h. absurd (false≢true h)) (λ c. search rules) (λ c. search rules)
    (λ c. search rules) (λ c. search rules) pack_end-requires-2 (λ c. search rules) (λ c h. absurd (false≢true h)) (λ c. search rules) (λ c. search rules) (λ c. search rules)
    pack_end-requires-3 (λ c. search rules) (λ c. search rules))
