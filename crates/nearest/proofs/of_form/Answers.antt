-- `nearest::of_form`: the form was read, and its lists are the mesh of its bytes.
use Rattle.std.proofs.Common.{refl}
use Rattle.printing.specs.laws.ReadForm.{told, not_told}
use Rattle.nearest.proofs.of_form.Goals as goal

pub returns-in-Ok : goal.returns-in-Ok
returns-in-Ok c = told c.in-Ok.ensures.0 refl c.of_mesh.ensures

pub returns-in-Err : goal.returns-in-Err
returns-in-Err c = not_told c.in-Err.broken c.in-Err.ensures.1 (rw c.number_of.ensures refl)
