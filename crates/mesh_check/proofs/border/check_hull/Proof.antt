-- The marks are those of the places before the first that is not fresh; what is left of them decides (`answers`).
use native.Mathlib.Nat.{lt_of_lt_of_le}
use borrow.Author.Rules.{rules}
use Rattle.mesh_check.specs.border.laws.Loops.{checked, marks_left}
use Rattle.mesh_check.proofs.border.check_hull.Statement.{statement}
use Rattle.mesh_check.proofs.border.check_hull.Tie as tie

abbrev Start : tie.After-unmark-arg-1 → tie.Start
Start c = c.before.before.before.before.before.before.before.before.before

unmark-requires : tie.Need-unmark-stray-requires
unmark-requires c κs = ((Start c).requires.0, (Start c).requires.1, λ k l. rw c.mark_hull-fresh.auto.work ((Start c).requires.4 k l))

first_kept-requires : tie.Need-first_kept-kept-requires
first_kept-requires c κs =
    let s = Start c.before.before.before in
    let m = c.mark_hull-fresh in
    (m.ensures.0.within, λ k l. rw (c.unmark-stray.auto.work, m.auto.work) (lt_of_lt_of_le (m.ensures.0.before k l).0 s.requires.2))

returns : tie.Need-returns
returns c =
    let at-unmark = c in
    let s = Start at-unmark.before.before.before.before.before in
    let m = at-unmark.mark_hull-fresh in
    let u = at-unmark.unmark-stray in (
      checked _ _ _ _ _ _ _ _ _ _ _ s.requires.1 s.requires.2 s.requires.3 s.requires.4 m.ensures.0 m.ensures.1 u.ensures.0 u.ensures.1
          c.first_kept-kept.ensures c.hull_fault.ensures,
      marks_left _ _ _ _ s.args.work.now _ _ _ m.ensures.0 m.ensures.1 u.ensures.0,
    )

pub check_hull_spec : {M : Type 1} → statement M
check_hull_spec =
    tie.close
    (tie.spec (λ c κs. search rules) unmark-requires first_kept-requires (λ c κs. search rules) (λ c. search rules)
    returns)
