-- `root::positive_roots` meets its contract: each root's digits are put beside its exponent (`positive`).
use native.Mathlib.Omega.{arith}
use borrow.Author.Rules.{rules}
use Rattle.root.specs.laws.Patterns.{digits, positive}
use Rattle.root.proofs.positive_roots.Statement.{statement}
use Rattle.root.proofs.positive_roots.Tie as tie

add-t9 : tie.Need-overflow_add-result
add-t9 c =
    let at-roots = c.before.before in
    let d = digits at-roots.before.before.even_scale-s.ensures.evens at-roots.nearest_roots-r.ensures.0 in
    omega arith

add-t13 : tie.Need-overflow_add-result-2
add-t13 c =
    let at-roots = c.before.before.before.before in
    let d = digits at-roots.before.even_scale-t.ensures.evens at-roots.nearest_roots-r.ensures.1 in
    omega arith

returns : tie.Need-returns
returns c =
    let at-roots = c.before.before.before.before in
    let s = at-roots.before.before.even_scale-s.ensures in
    let t = at-roots.before.even_scale-t.ensures in
    let pre = at-roots.before.before.before.requires in
    (positive pre.0.1 s.scales s.evens at-roots.nearest_roots-r.ensures.0, positive pre.1.1 t.scales t.evens at-roots.nearest_roots-r.ensures.1)

pub positive_roots_spec : {M : Type 1} → statement M
positive_roots_spec =
    tie.close
    (tie.spec (λ c κs. search rules) (λ c κs. search rules) (λ c κs. search rules) (λ c. search rules) (λ c. search rules) add-t9
    (λ c. search rules) (λ c. search rules) add-t13 returns)
