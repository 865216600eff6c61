-- `plane::centers::circumcenter_of`: the operations are the definition's, one by one.
use Rattle.plane.specs.centers.Circumcenter.{center_of}
use Rattle.plane.proofs.centers.circumcenter_of.Statement.{statement}
use Rattle.plane.proofs.centers.circumcenter_of.Tie as tie

pub circumcenter_of_spec : {M : Type 1} → statement M
unfolding center_of
circumcenter_of_spec = tie.close (tie.spec (λ c. cc))
