-- `cell_builder::tried::tries::clip_staged` meets its contract: a ring wholly inside is copied, which is what clipping gives; of another one what `clip_cell` answers is handed on.
use mathlib.Core.Path.{◌≡◌, refl, ap, ◌∙◌}
use native.Mathlib.Omega.{arith}
use lib.ListN.{get_or}
use borrow.Author.Rules.{rules}
use Rattle.clipping.specs.interior.laws.InsideWalk.{copied_answer, stays}
use Rattle.cell_builder.specs.tried.Tries.{env_of}
use Rattle.cell_builder.specs.tried.laws.OneTry.{none_reused, ring_small}
use Rattle.cell_builder.proofs.tried.tries.clip_staged.Statement.{statement}
use Rattle.cell_builder.proofs.tried.tries.clip_staged.Tie as tie

abbrev Entry : tie.After-wide-base → tie.Start
Entry c = c.before.before.before.before.before.before.before.before.before

abbrev Based : tie.After-all_inside → tie.After-wide-base
Based c = c.before.before

-- where the site's region starts
base : (c : tie.After-wide-base) → c.wide-base.result ≡ get_or (Entry c).args.offsets.now (Entry c).args.site 0
base c = c.wide-base.ensures ∙ ap (λ k. get_or (Entry c).args.offsets.now k 0) c.wide.ensures

copy_ring-requires : tie.Need-copy_ring-requires
copy_ring-requires c κs =
    let w = Based c.before.before in
    let i = Entry w in
    let m = i.requires.room in
    (omega (arith, base w, m.fits.room), omega (arith, m.ends, m.list))

returns : tie.Need-returns-then-all_inside
returns c =
    let k = c in
    let t = k in
    let a = t in
    let w = Based a.before.before.before.before.before in
    let i = Entry w in
    record {
      stepped = copied_answer (env_of i.args.f i.args.site) _ _ (get_or i.args.offsets.now i.args.site 0) i.args.f.stage _ i.args.vertices.now
          i.args.indexes.now i.requires.room (omega (arith, i.requires.some)) (rw t.if-all_inside.true at a.all_inside.ensures);
      faulty = refl;
      is = λ z. none_reused _ _ _ i.args.p.reused;
      steps = stays (env_of i.args.f i.args.site) _ _ (get_or i.args.offsets.now i.args.site 0) i.args.f.stage _ i.args.vertices.now
          i.args.indexes.now i.requires.room (omega (arith, i.requires.some)) (rw t.if-all_inside.true at a.all_inside.ensures) _ (rw (base w) at k.copy_ring.ensures);
    }

clip_cell-requires : tie.Need-clip_cell-s-requires
clip_cell-requires c κs =
    let w = Based c.before.before.before in
    let i = Entry w in
    (rw (base w) i.requires.room, omega (arith, i.requires.some))

after_ring-requires : tie.Need-after_ring-requires
after_ring-requires c κs =
    let k = c in
    let i = Entry (Based k.before.before.before.before.before.before.before.before) in
    λ z. (i.requires.few, ring_small _ _ _ _ _ _ _ _ _ _ _ _ k.clip_cell-s.ensures z (omega (arith, i.requires.room.small)))

returns-2 : tie.Need-returns
returns-2 c =
    let k = c in
    let w = Based k.before.before.before.before.before.before.before.before.before in
    record {
      stepped = k.clip_cell-s.result;
      faulty = c.after_ring.ensures.0;
      is = c.after_ring.ensures.1;
      steps = rw (base w) at k.clip_cell-s.ensures;
    }

pub clip_staged_spec : {M : Type 1} → statement M
clip_staged_spec =
    tie.close
    (tie.spec (λ c κs. search rules) (λ c. search rules) (λ c. search rules) (λ c κs. search rules) (λ c. search rules)
    (λ c κs. search rules) copy_ring-requires (λ c. search rules) (λ c. search rules) returns clip_cell-requires
    after_ring-requires (λ c. search rules) (λ c. search rules) returns-2)
