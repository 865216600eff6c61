-- Where the walks are as long as half-edges end at their sites, no fan is broken; else the sum of the lengths decides whether one is, and the lowest is searched for.
use native.Mathlib.Nat.{lt_of_lt_of_le}
use mathlib.Core.Path.{◌≡◌, ◌∙◌, ap}
use Prim.Native.Nat.{◌%◌}
use borrow.Author.Rules.{rules}
use lib.ListN.{length}
use Rattle.mesh.specs.Mesh.{table_to}
use Rattle.mesh_check.specs.pairing.laws.Threes.{sound_ends}
use Rattle.mesh_check.specs.fan.laws.Loops.{fan_long, fan_whole, fan_broken}
use Rattle.mesh_check.proofs.fan.check_fan.Statement.{statement}
use Rattle.mesh_check.proofs.fan.check_fan.Tie as tie

abbrev Start : tie.After-slice_known-2-1 → tie.Start
Start c = c.before.before.before.before.before.before.before

whole_fans-requires : tie.Need-whole_fans-requires
whole_fans-requires c κs =
    let s = c in
    let threes : length s.args.triangles.now % 3 ≡ 0 = rw (← s.requires.0) s.requires.1.threes in
    (threes, s.requires.0, λ k l. lt_of_lt_of_le (s.requires.3 k l) s.requires.2, s.requires.1, sound_ends s.args.triangles.now s.args.sites threes s.requires.4)

returns : tie.Need-returns-then-whole_fans
returns c =
    fan_long _ _ _ _ _ (Start c.before).requires.0 (Start c.before).requires.1 (Start c.before).requires.2 (Start c.before).requires.3
    (c.whole_fans.ensures c.if-whole_fans.true)

put_leftmost-requires : tie.Need-put_leftmost-requires
put_leftmost-requires c κs =
    let s = Start c.before.before in
    let w = c.whole_fans in
    (rw (← s.requires.0) s.requires.1.threes, s.requires.0, rw (← s.requires.0) s.requires.1.small, λ k l. rw w.auto.work (lt_of_lt_of_le (s.requires.3 k l) s.requires.2))

returns-2 : tie.Need-returns-then-walks_cover
returns-2 c =
    let l = c in
    let w = l in
    let s = w in
    let tri = s.args.triangles.now in
    fan_whole _ _ _ _ _ s.requires.0 s.requires.1 s.requires.2 s.requires.3 (l.put_leftmost.ensures ∙ ap (λ k. table_to tri s.args.halfedges.now k (length tri)) w.whole_fans.auto.work) _
    c.walks_cover.ensures c.if-walks_cover.true

first_broken-requires : tie.Need-first_broken-requires
first_broken-requires c κs =
    let l = c in
    let s = Start l.before.before.before.before.before.before.before.before in
    let k = l.put_leftmost.auto.work in
    (s.requires.0, s.requires.1, rw (k ∙ l.whole_fans.auto.work) s.requires.2, s.requires.3, rw k l.put_leftmost.ensures)

returns-3 : tie.Need-returns
returns-3 c =
    let at-walks-cover = c in
    let l = at-walks-cover in
    let w = l in
    let s = w in
    let tri = s.args.triangles.now in
    let b = c.first_broken.ensures in
    fan_broken _ _ _ _ _ s.requires.0 s.requires.1 s.requires.2 s.requires.3 (l.put_leftmost.ensures ∙ ap (λ k. table_to tri s.args.halfedges.now k (length tri)) w.whole_fans.auto.work) _
    at-walks-cover.walks_cover.ensures _ _ c.if-walks_cover.false b.0 b.1

pub check_fan_spec : {M : Type 1} → statement M
check_fan_spec =
    tie.close
    (tie.spec whole_fans-requires (λ c. search rules) returns put_leftmost-requires (λ c κs. search rules) (λ c. search rules) returns-2 first_broken-requires
    (λ c. search rules) returns-3)
