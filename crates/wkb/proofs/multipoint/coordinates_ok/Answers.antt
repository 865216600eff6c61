-- `wkb::multipoint::coordinates_ok` meets its contract: `all` over the coordinates.
use Rattle.std.proofs.Common.{◌≡◌, ◌*◌, true, ℕ, rules, arith, refl}
use Rattle.std.proofs.lemmas.Iterator.{cases_from_all, YieldsList-from_range}
use Rattle.plane.specs.points.Rules.{ok_coord}
use Rattle.wkb.specs.multipoint.Fields.{coordinate_of}
use Rattle.wkb.specs.multipoint.laws.Answers.{all_say, all_sound, coordinate_kept, coordinate_broken}
use Rattle.wkb.proofs.multipoint.coordinates_ok.Goals as goal

pub returns : goal.returns
returns c =
    let n = 2 * c.args.count in
    let P = λ (k : ℕ). ok_coord (coordinate_of c.args.file.now k) ≡ true in
    all_sound c.args.file.now c.all.result c.requires.0
    (all_say P n c.all.result
    (cases_from_all _ _ c.all.result P (λ k. P k → ⊥) c.all.ensures.ran (YieldsList-from_range 0 n n refl (omega arith)) (λ x q k. search (rules, coordinate_kept))
    (λ x q k. search (rules, coordinate_broken))))
