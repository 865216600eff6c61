-- Refused by the rules up to 9, or by rule 10, or the outcome of the clipped definition decides.
use Rattle.std.proofs.Common.{refl, sym, arith, length-take}
use Rattle.base.specs.refusal.laws.Number.{some_number, handed_on}
use Rattle.admission.specs.laws.Outlined.{table_fits, fans_tryable}
use Rattle.building.specs.answers.laws.Build.{build_early, build_asks, build_fans, build_broken, count_fits, fault_fits, reused_fit, nine_fit, build_built}
use Rattle.building.proofs.build.Goals as goal

pub returns-in_err-admit_outline : goal.returns-in_err-admit_outline
returns-in_err-admit_outline c =
    rw (handed_on c.from_residual.result _ c.from_residual.ensures.1)
    (build_early c.in_err-admit_outline.ensures c.args.given c.ask_box-asked.ensures (some_number _))

pub build_cells-told-requires : goal.build_cells-told-requires
build_cells-told-requires c = build_asks c.in_ok-admit_outline.ensures c.args.given c.ask_box-asked.ensures c.requires refl

pub admit_fans-requires : goal.admit_fans-requires
admit_fans-requires c =
    let a = c.in_ok-admit_outline.ensures in
    (fans_tryable a refl, build_fans a c.args.given c.ask_box-asked.ensures c.requires refl c.build_cells-told.ensures)

pub slice_bounds-build_cells-end : goal.slice_bounds-build_cells-end
slice_bounds-build_cells-end c = table_fits c.in_ok-admit_outline.ensures refl

pub slice_bounds-build_cells-end-2 : goal.slice_bounds-build_cells-end-2
slice_bounds-build_cells-end-2 c = sym (simp length-take (omega (arith, table_fits c.in_ok-admit_outline.ensures refl)))

pub returns-in_err-admit_fans : goal.returns-in_err-admit_fans
returns-in_err-admit_fans c =
    let k = c.build_cells-told.auto in
    rw (handed_on c.from_residual-in_err-admit_fans.result _ c.from_residual-in_err-admit_fans.ensures.1)
    (build_broken c.in_ok-admit_outline.ensures c.args.given c.ask_box-asked.ensures c.requires refl c.build_cells-told.ensures
    c.in_err-admit_fans.ensures (some_number _) k.vertices k.indexes k.offsets)

pub finish_build-requires : goal.finish_build-requires
finish_build-requires c =
    let a = c.in_ok-admit_outline.ensures in
    let t = c.build_cells-told.ensures in
    let f = c.in_ok-admit_fans.ensures in (
      count_fits a c.args.given c.ask_box-asked.ensures c.requires refl t f refl,
      reused_fit a c.args.given c.ask_box-asked.ensures c.requires refl t f refl,
      nine_fit a c.args.given c.ask_box-asked.ensures c.requires refl t f refl,
    )

pub refusal-requires : goal.refusal-requires
refusal-requires c =
    fault_fits c.in_ok-admit_outline.ensures c.args.given c.ask_box-asked.ensures c.requires refl c.build_cells-told.ensures c.in_ok-admit_fans.ensures refl

pub returns : goal.returns
returns c =
    rw c.refusal.ensures
    (build_built c.in_ok-admit_outline.ensures c.args.given c.ask_box-asked.ensures c.requires refl c.build_cells-told.ensures c.in_ok-admit_fans.ensures refl
    c.finish_build.ensures)
