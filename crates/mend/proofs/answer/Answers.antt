-- `mend::answer` prints what is promised: the form was read, and its lists are the mesh of its bytes.
use Rattle.std.proofs.Common.{◌≡◌, refl, ap, ◌∙◌, arith, length, take, length-take-le}
use Rattle.octets.specs.laws.Wrote.{wrote_all}
use Rattle.printing.specs.parts.Labelled.{refusal}
use Rattle.printing.specs.parts.laws.Labelled.{refusal_short}
use Rattle.printing.specs.laws.ReadForm.{parts_sized}
use Rattle.mend.specs.laws.ReadForm.{read_headed, prints, prints_refusal}
use Rattle.mend.proofs.answer.Goals as goal

pub refusal-requires : goal.refusal-requires
refusal-requires c = omega (arith, refusal_short c.number_of.result, c.requires.1)

pub of_form-requires : goal.of_form-requires
of_form-requires c =
    let r = c.in-Ok.ensures.0 in
    let many : length (take c.in-Ok.mesh.coordinates c.read.new.sites) ≡ c.in-Ok.mesh.coordinates =
    length-take-le _ _ (omega (arith, r.sized.few_sites, c.read.auto.sites)) in
    (c.requires.0, rw many (read_headed r refl), parts_sized _ _ _ r.sized, c.requires.1)

pub returns-in-Ok : goal.returns-in-Ok
returns-in-Ok c =
    let r = c.in-Ok.ensures.0 in
    let many : length (take c.in-Ok.mesh.coordinates c.read.new.sites) ≡ c.in-Ok.mesh.coordinates =
    length-take-le _ _ (omega (arith, r.sized.few_sites, c.read.auto.sites)) in
    let h = c.of_form.ensures in
    (prints r c.args.option.now c.requires.0 c.is_given-old.ensures c.args.form refl (rw many at h.0), h.1)

pub returns-in-Err : goal.returns-in-Err
returns-in-Err c =
    let q = c.refusal.ensures in
    let short = refusal_short c.number_of.result in (
      prints_refusal c.args.option.now c.is_given-old.ensures c.in-Err.broken c.in-Err.ensures.1 (wrote_all q (omega (arith, short, c.requires.1)) ∙ ap refusal c.number_of.ensures),
      omega (arith, q.place, short, c.requires.1),
    )
