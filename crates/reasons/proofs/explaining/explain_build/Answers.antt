-- Refused by the rules up to 10, with its place; or the outcome of the clipped definition decides.
use Rattle.std.proofs.Common.{refl, sym, arith, length-take}
use Rattle.base.specs.refusal.laws.Number.{some_number}
use Rattle.admission.specs.laws.Outlined.{build_outlined, table_fits, nine_of, table_is}
use Rattle.building.specs.answers.laws.Build.{boxed_asks, boxed_told, boxed_count, boxed_reused}
use Rattle.reasons.specs.explaining.Steps.{early}
use Rattle.reasons.specs.explaining.laws.ExplainBuild.{explains_build}
use Rattle.reasons.proofs.explaining.explain_build.Goals as goal

pub returns-in-Err : goal.returns-in-Err
returns-in-Err c = early c.in-Err.ensures (some_number _) c.locate.ensures refl

pub slice_bounds-build_cells-end : goal.slice_bounds-build_cells-end
slice_bounds-build_cells-end c = table_fits (build_outlined c.in_default.ensures refl) refl

pub slice_bounds-build_cells-end-2 : goal.slice_bounds-build_cells-end-2
slice_bounds-build_cells-end-2 c = sym (simp length-take (omega (arith, table_fits (build_outlined c.in_default.ensures refl) refl)))

pub build_cells-told-requires : goal.build_cells-told-requires
build_cells-told-requires c = boxed_asks (build_outlined c.in_default.ensures refl) _ c.requires.2 c.requires.1 refl

pub finish_build-requires : goal.finish_build-requires
finish_build-requires c =
    let a = c.in_default.ensures in
    let o = build_outlined a refl in
    let b = boxed_told a _ c.requires.2 c.requires.1 refl (table_is o refl) c.build_cells-told.ensures in
    (boxed_count a _ c.requires.2 c.requires.1 refl _ b.0, boxed_reused a _ c.requires.2 c.requires.1 refl _ b.0, nine_of o refl)

pub returns : goal.returns
returns c =
    let a = c.in_default.ensures in
    let b = boxed_told a _ c.requires.2 c.requires.1 refl (table_is (build_outlined a refl) refl) c.build_cells-told.ensures in
    explains_build a refl _ c.requires.2 c.requires.1 _ b.0 b.1 c.finish_build.ensures c.of_fault.ensures
