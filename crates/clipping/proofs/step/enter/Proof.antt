-- `clipping::step::enter` meets its contract: the crossing as the store has it, then the edge to it, case by case.
use mathlib.Core.Path.{refl}
use native.Mathlib.Omega.{arith}
use Prim.Native.Nat.{ℕ}
use Rattle.plane.specs.points.Flat.{points}
use Rattle.definition.specs.Fault.{Outcome}
use Rattle.definition.specs.Cell.{EdgeClip, Change, clip_with, enter}
use Rattle.definition.specs.Short.{took_one, took_two}
use Rattle.clipping.specs.laws.EdgeOutcome.{by_missed, by_once, by_twice, room_once, room_twice}
use borrow.Author.Rules.{rules}
use Rattle.clipping.proofs.step.enter.Statement.{statement}
use Rattle.clipping.proofs.step.enter.Tie as tie

-- after the crossings, and the start
abbrev Crossings : tie.After-slice_known-4-1 → tie.After-add_crossings-clip
Crossings c = c.before.before.before.before

abbrev Entry : tie.After-slice_known-4-1 → tie.Start
Entry c = c.before.before.before.before.before.before.before.before.before

abbrev clip : tie.After-slice_known-4-1 → EdgeClip
clip c = let a = (Entry c).args in clip_with a.env.centers (points a.count a.vertices.now) a.c

abbrev does : tie.After-slice_known-4-1 → EdgeClip → Outcome ℕ Change
does c = let a = (Entry c).args in enter a.env.bounds a.env.centers a.env.site a.cell.owners a.cell.last

enter_at-requires : tie.Need-enter_at-requires
enter_at-requires c κs =
    let m = c in
    let k = m in
    let g = (Crossings k.before.before).add_crossings-clip in
    let s = Entry k.before.before in
    let a = s.args in
    let h = room_once a.env a.count a.cell a.vertices.now a.indexes.now (clip k.before.before) _ _ _ s.requires.0 s.requires.1.0 g.ensures g.auto.indexes m.in-Once.is in
    (h.fits, ((h.room, h.first, omega (arith, h.more, s.requires.1.1.0), h.corners, h.small), (h.last s.requires.1.1.0 s.requires.1.1.1, h.sided)))

enter_at-requires-2 : tie.Need-enter_at-requires-in-Twice
enter_at-requires-2 c κs =
    let m = c in
    let k = m in
    let g = (Crossings k.before.before).add_crossings-clip in
    let s = Entry k.before.before in
    let a = s.args in
    let h = room_twice a.env a.count a.cell a.vertices.now a.indexes.now (clip k.before.before) _ _ _ s.requires.0 s.requires.1.0 g.ensures g.auto.indexes m.in-Twice.is in
    (h.0.fits, ((h.0.room, h.0.first, omega (arith, h.0.more, s.requires.1.1.0), h.0.corners, h.0.small), (h.0.last s.requires.1.1.0 s.requires.1.1.1, h.0.sided)))

returns : tie.Need-returns-in-Missed
unfolding enter
returns c =
    let k = c in
    let s = Entry k.before in
    let a = s.args in
    by_missed a.env a.count a.cell a.vertices.now a.indexes.now _ (clip k.before) _ _ _ s.requires.0.fits (does k.before) (Crossings k.before).add_crossings-clip.ensures
    c.in-Missed.is (refl, omega arith)

returns-2 : tie.Need-returns-in-Once
unfolding enter
returns-2 c =
    let m = c in
    let k = m in
    let s = Entry k.before.before.before.before.before in
    let a = s.args in
    by_once a.env a.count a.cell a.vertices.now a.indexes.now _ (clip k.before.before.before.before.before) _ _ _ s.requires.0.fits (does k.before.before.before.before.before) (Crossings k.before.before.before.before.before).add_crossings-clip.ensures _ m.in-Once.is
    (λ x e w. rw (e, w) at (c.enter_at.ensures (took_one x)))

returns-3 : tie.Need-returns-in-Twice
unfolding enter
returns-3 c =
    let m = c in
    let k = m in
    let s = Entry k.before.before.before.before.before in
    let a = s.args in
    by_twice a.env a.count a.cell a.vertices.now a.indexes.now _ (clip k.before.before.before.before.before) _ _ _ s.requires.0.fits (does k.before.before.before.before.before) (Crossings k.before.before.before.before.before).add_crossings-clip.ensures _ m.in-Twice.is
    (λ x y e f w. rw (e, w) at (c.enter_at-in-Twice.ensures (took_two x y)))

pub enter_spec : {M : Type 1} → statement M
enter_spec =
    tie.close
    (tie.spec (λ c κs. search rules) (λ c. search rules) (λ c. search rules) enter_at-requires (λ c. search rules)
    enter_at-requires-2 (λ c. search rules) (λ c. search rules) returns (λ c. search rules) (λ c. search rules)
    returns-2 (λ c. search rules) (λ c. search rules) returns-3)
