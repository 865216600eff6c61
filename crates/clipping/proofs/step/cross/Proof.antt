-- `clipping::step::cross` meets its contract: the crossings as the store has them, then the edges along the box, case by case.
use native.Mathlib.Omega.{arith}
use Rattle.plane.specs.points.Flat.{points}
use Prim.Native.Nat.{ℕ}
use Rattle.definition.specs.Fault.{Outcome}
use Rattle.definition.specs.Cell.{EdgeClip, Change, clip_with, cross}
use Rattle.definition.specs.Short.{took_two}
use Rattle.clipping.specs.laws.EdgeOutcome.{by_missed, by_once, by_twice, room_once, room_twice, changes_none}
use borrow.Author.Rules.{rules}
use Rattle.clipping.proofs.step.cross.Statement.{statement}
use Rattle.clipping.proofs.step.cross.Tie as tie

-- after the crossings, and the start
abbrev Crossings : tie.After-slice_known-4-1 → tie.After-add_crossings-clip
Crossings c = c.before.before.before.before

abbrev Entry : tie.After-slice_known-4-1 → tie.Start
Entry c = c.before.before.before.before.before.before.before.before.before

abbrev clip : tie.After-slice_known-4-1 → EdgeClip
clip c = let a = (Entry c).args in clip_with a.env.centers (points a.count a.vertices.now) a.c

abbrev does : tie.After-slice_known-4-1 → EdgeClip → Outcome ℕ Change
does c = let a = (Entry c).args in cross a.env.bounds a.env.centers a.env.site (points a.count a.vertices.now) a.cell.owners a.opened a.cell.last

cross_once-requires : tie.Need-cross_once-requires
cross_once-requires c κs =
    let m = c in
    let k = m in
    let g = (Crossings k.before.before).add_crossings-clip in
    let s = Entry k.before.before in
    let a = s.args in
    let h = room_once a.env a.count a.cell a.vertices.now a.indexes.now (clip k.before.before) _ _ _ s.requires.0 s.requires.1.0 g.ensures g.auto.indexes m.in-Once.is in
    (h.fits, ((h.room, h.first, λ e. omega (arith, h.more, s.requires.1.1.0 e), h.corners, h.small), (λ e. h.last (s.requires.1.1.0 e) (s.requires.1.1.1 e), h.sided)))

cross_at-requires : tie.Need-cross_at-requires
cross_at-requires c κs =
    let m = c in
    let k = m in
    let g = (Crossings k.before.before).add_crossings-clip in
    let s = Entry k.before.before in
    let a = s.args in
    let h = room_twice a.env a.count a.cell a.vertices.now a.indexes.now (clip k.before.before) _ _ _ s.requires.0 s.requires.1.0 g.ensures g.auto.indexes m.in-Twice.is in
    let o = h.0 in
    (o.fits, ((o.room, o.first, h.1, λ e. omega (arith, o.more, s.requires.1.1.0 e), o.corners, o.small), (λ e. o.last (s.requires.1.1.0 e) (s.requires.1.1.1 e), o.sided, h.2)))

returns : tie.Need-returns-in-Missed
unfolding cross
returns c =
    let k = c in
    let s = Entry k.before in
    let a = s.args in
    by_missed a.env a.count a.cell a.vertices.now a.indexes.now _ (clip k.before) _ _ _ s.requires.0.fits (does k.before) (Crossings k.before).add_crossings-clip.ensures
    c.in-Missed.is (changes_none a.env a.count a.cell a.vertices.now a.indexes.now a.opened s.requires.0 s.requires.1.1.0)

returns-2 : tie.Need-returns-in-Once
unfolding cross
returns-2 c =
    let m = c in
    let k = m in
    let s = Entry k.before.before.before.before.before in
    let a = s.args in
    by_once a.env a.count a.cell a.vertices.now a.indexes.now _ (clip k.before.before.before.before.before) _ _ _ s.requires.0.fits (does k.before.before.before.before.before) (Crossings k.before.before.before.before.before).add_crossings-clip.ensures _ m.in-Once.is
    (λ x e w u. (c.cross_once.ensures, omega arith))

returns-3 : tie.Need-returns-in-Twice
unfolding cross
returns-3 c =
    let m = c in
    let k = m in
    let s = Entry k.before.before.before.before.before in
    let a = s.args in
    by_twice a.env a.count a.cell a.vertices.now a.indexes.now _ (clip k.before.before.before.before.before) _ _ _ s.requires.0.fits (does k.before.before.before.before.before) (Crossings k.before.before.before.before.before).add_crossings-clip.ensures _ m.in-Twice.is
    (λ x y e f w u. rw (e, f, w) at (c.cross_at.ensures (took_two x y) u))

pub cross_spec : {M : Type 1} → statement M
cross_spec =
    tie.close
    (tie.spec (λ c κs. search rules) (λ c. search rules) (λ c. search rules) cross_once-requires (λ c. search rules)
    cross_at-requires (λ c. search rules) (λ c. search rules) returns (λ c. search rules) (λ c. search rules) returns-2
    (λ c. search rules) (λ c. search rules) returns-3)
