-- `clipping::edges::clip_twice` meets its contract: the second crossing is added to the vertices with the first.
use native.Mathlib.Omega.{arith}
use Rattle.clipping.specs.edges.laws.EdgeClip.{clips_twice}
use borrow.Author.Rules.{rules}
use Rattle.clipping.proofs.edges.clip_twice.Statement.{statement}
use Rattle.clipping.proofs.edges.clip_twice.Tie as tie

abbrev Second : tie.After-struct_known-2-1 → tie.After-add_at-b
Second c = c.before.before.before.before.before.before.before.before

abbrev First : tie.After-struct_known-2-1 → tie.After-add_at-a
First c = c.before.before.before.before.before.before.before.before.before.before.before.before.before.before.before

cast-t23 : tie.Need-overflow_cast-result-2
cast-t23 c =
    let s = First c in
    omega (arith, (Second c).add_at-b.ensures.0.below, (Second c).add_at-b.ensures.0.high, (First c).add_at-a.ensures.0.high, s.requires.1.1)

returns : tie.Need-returns
returns c =
    let at-if-old2 = c in
    let s = First c in
    let a = s.args in
    let g = (First c).add_at-a.ensures in
    let h = (Second c).add_at-b.ensures in
    clips_twice a.env.centers a.env.limit a.count a.x a.y a.vertices.now a.indexes.now _ _ _ a.z a.w _ _ _
    g.0 g.1 h.0 h.1 s.requires.1.0 _ _ at-if-old2.if_old.ensures at-if-old2.if_old-2.ensures

pub clip_twice_spec : {M : Type 1} → statement M
clip_twice_spec =
    tie.close
    (tie.spec (λ c κs. search rules) (λ c κs. search rules) (λ c κs. search rules) (λ c κs. search rules)
    (λ c. search rules) cast-t23 (λ c. search rules) (λ c. search rules) returns)
