-- `export::answer` prints what is promised: the form was read, and its lists are the mesh of its bytes.
use Rattle.std.proofs.Common.{refl, ap, ◌∙◌, arith}
use Rattle.printing.specs.parts.Labelled.{refusal}
use Rattle.printing.specs.parts.laws.Labelled.{refusal_short}
use Rattle.printing.specs.laws.TextRoom.{line_held}
use Rattle.printing.specs.laws.ReadForm.{told, not_told}
use Rattle.export.proofs.answer.Goals as goal

pub refusal-requires : goal.refusal-requires
refusal-requires c = omega (arith, refusal_short c.number_of.result, c.requires)

pub returns-in-Ok : goal.returns-in-Ok
returns-in-Ok c = let h = c.of_mesh.ensures in (told c.in-Ok.ensures.0 refl h.0, h.1)

pub returns-in-Err : goal.returns-in-Err
returns-in-Err c =
    let h = line_held _ (omega (arith, c.requires)) c.refusal.ensures in
    (not_told c.in-Err.broken c.in-Err.ensures.1 (h.first ∙ ap refusal c.number_of.ensures), h.within)
