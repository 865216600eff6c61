-- `vertices::buckets::home_of` meets its contract: where p is narrow its place is the lowest one (`own_place`).
use mathlib.Core.Path.{◌≡◌, sym, ap₂, ◌∙◌}
use mathlib.Core.Bool.{◌&&◌}
use Rattle.base.specs.common.laws.And.{and_left, and_right}
use Rattle.vertices.specs.buckets.Buckets.{narrow_of}
use Rattle.vertices.specs.buckets.laws.Keys.{own_place}
use Rattle.vertices.proofs.buckets.home_of.Statement.{statement}
use Rattle.vertices.proofs.buckets.home_of.Tie as tie

abbrev Start : tie.After-narrow-2 → tie.Start
Start c = c.before.before

-- both answers, by the definition
both : (c : tie.After-narrow-2) → (c.narrow.result && c.narrow-2.result) ≡ (narrow_of (Start c).args.p.x && narrow_of (Start c).args.p.y)
both c = ap₂ ◌&&◌ c.narrow.ensures c.narrow-2.ensures

returns : tie.Need-returns-then-narrow
returns c =
    let at-low2 = c in
    let at_low = at-low2 in
    let t = at_low in
    let p = (Start t.before.before.before.before).args.p in
    let all = sym (both t.before.before.before.before) ∙ t.if-narrow.true in
    let x = own_place p.x (and_left (narrow_of p.x) (narrow_of p.y) all) ∙ sym at_low.low.ensures in
    let y = own_place p.y (and_right (narrow_of p.x) (narrow_of p.y) all) ∙ sym at-low2.low-then-narrow.ensures in
    rw (x, y, all) c.home_at.ensures

returns-2 : tie.Need-returns
returns-2 c =
    let at-mid2 = c in
    let at_mid = at-mid2 in
    let f = at_mid in
    let all = sym (both f.before.before.before.before) ∙ f.if-narrow.false in
    rw (← at_mid.middle.ensures, ← at-mid2.middle-2.ensures, all) c.home_at-2.ensures

pub home_of_spec : {M : Type 1} → statement M
home_of_spec =
    tie.close
    (tie.spec (λ c κs. tt) (λ c κs. tt) (λ c κs. tt) (λ c κs. tt) (λ c κs. (Start c.before.before.before).requires) returns (λ c κs. tt) (λ c κs. tt)
    (λ c κs. (Start c.before.before.before).requires) returns-2)
