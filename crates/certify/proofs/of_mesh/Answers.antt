-- The number of the cutting goes into the line, and its slices into the certificate.
use Rattle.certify.proofs.of_mesh.Goals as goal

pub returns : goal.returns
returns c =
    let h = c.of_pieces.ensures in
    (record { slices = _; number = _; count = _; cut = c.cut-done.ensures; told = rw c.cut_number.ensures at h.0 }, h.1)
