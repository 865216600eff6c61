-- `clipping::step::leave` meets its contract: the crossing as the store has it, then the entries, case by case.
use mathlib.Core.Path.{refl}
use native.Mathlib.Omega.{arith}
use Prim.Native.Nat.{ℕ}
use Rattle.plane.specs.points.Flat.{points}
use Rattle.definition.specs.Fault.{Outcome}
use Rattle.definition.specs.Cell.{EdgeClip, Change, clip_with, leave}
use Rattle.definition.specs.Short.{took_one, took_two}
use Rattle.clipping.specs.laws.EdgeOutcome.{by_missed, by_once, by_twice, room_once, room_twice}
use borrow.Author.Rules.{rules}
use Rattle.clipping.proofs.step.leave.Statement.{statement}
use Rattle.clipping.proofs.step.leave.Tie as tie

-- after the crossings, and the start
abbrev Crossings : tie.After-slice_known-4-1 → tie.After-add_crossings-clip
Crossings c = c.before.before.before.before

abbrev Entry : tie.After-slice_known-4-1 → tie.Start
Entry c = c.before.before.before.before.before.before.before.before.before

abbrev clip : tie.After-slice_known-4-1 → EdgeClip
clip c = let a = (Entry c).args in clip_with a.env.centers (points a.count a.vertices.now) a.c

abbrev does : tie.After-slice_known-4-1 → EdgeClip → Outcome ℕ Change
does c = let a = (Entry c).args in leave a.p a.cell.owners

leave_at-requires : tie.Need-leave_at-requires
leave_at-requires c κs =
    let m = c in
    let k = m in
    let g = (Crossings k.before.before).add_crossings-clip in
    let s = Entry k.before.before in
    let a = s.args in
    let h = room_once a.env a.count a.cell a.vertices.now a.indexes.now (clip k.before.before) _ _ _ s.requires.0 s.requires.1 g.ensures g.auto.indexes m.in-Once.is in
    (h.fits, h.first)

leave_at-requires-2 : tie.Need-leave_at-requires-in-Twice
leave_at-requires-2 c κs =
    let m = c in
    let k = m in
    let g = (Crossings k.before.before).add_crossings-clip in
    let s = Entry k.before.before in
    let a = s.args in
    let h = room_twice a.env a.count a.cell a.vertices.now a.indexes.now (clip k.before.before) _ _ _ s.requires.0 s.requires.1 g.ensures g.auto.indexes m.in-Twice.is in
    (h.0.fits, h.0.first)

returns : tie.Need-returns-in-Missed
unfolding leave
returns c =
    let k = c in
    let s = Entry k.before in
    let a = s.args in
    by_missed a.env a.count a.cell a.vertices.now a.indexes.now _ (clip k.before) _ _ _ s.requires.0.fits (does k.before) (Crossings k.before).add_crossings-clip.ensures
    c.in-Missed.is (refl, omega arith)

returns-2 : tie.Need-returns-in-Once
unfolding leave
returns-2 c =
    let m = c in
    let k = m in
    let s = Entry k.before.before.before.before.before in
    let a = s.args in
    by_once a.env a.count a.cell a.vertices.now a.indexes.now _ (clip k.before.before.before.before.before) _ _ _ s.requires.0.fits (does k.before.before.before.before.before) (Crossings k.before.before.before.before.before).add_crossings-clip.ensures _ m.in-Once.is
    (λ x e w u. rw e at (c.leave_at.ensures x.verts (took_one x) u))

returns-3 : tie.Need-returns-in-Twice
unfolding leave
returns-3 c =
    let m = c in
    let k = m in
    let s = Entry k.before.before.before.before.before in
    let a = s.args in
    by_twice a.env a.count a.cell a.vertices.now a.indexes.now _ (clip k.before.before.before.before.before) _ _ _ s.requires.0.fits (does k.before.before.before.before.before) (Crossings k.before.before.before.before.before).add_crossings-clip.ensures _ m.in-Twice.is
    (λ x y e f w u. rw e at (c.leave_at-in-Twice.ensures y.verts (took_two x y) u))

pub leave_spec : {M : Type 1} → statement M
leave_spec =
    tie.close
    (tie.spec (λ c κs. search rules) (λ c. search rules) (λ c. search rules) leave_at-requires (λ c. search rules)
    leave_at-requires-2 (λ c. search rules) (λ c. search rules) returns (λ c. search rules) (λ c. search rules)
    returns-2 (λ c. search rules) (λ c. search rules) returns-3)
