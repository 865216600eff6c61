-- Theorem: what a certificate that is not refused has.
use Rattle.std.specs.Prelude.{◌≡◌, Bool, true, List, ℕ, ◌≤◌, Float, length}
use Rattle.std.proofs.Common.{rules, arith}
use Rattle.base.specs.common.laws.Refusals.{finds_keep}
use Rattle.certifying.specs.nearer.Safe.{NearSafe}
use Rattle.certifying.specs.rules.Rules.{certify_room, CertifyNumber}

pub record CertifyAdmitted (sound : Bool) (sites v : List Float) (off ix work : List ℕ) (bits : ℕ) : Type 0 where
  pub box : sound ≡ true
  pub fine : bits ≤ 52
  pub room : certify_room (length sites) (length ix) ≤ length work
  pub near : NearSafe sites v off ix work

pub admitted : {sound : Bool} {sites v : List Float} {off ix work : List ℕ} {bits r : ℕ} → CertifyNumber sound sites v off ix bits (length work) r → r ≡ 0
    → CertifyAdmitted sound sites v off ix work bits
admitted a z =
    let k = finds_keep (λ r. r ≡ 0) (search rules) z a.found in
    let counts = k.0 in
    let room = k.1.0 in
    let cut = k.1.1.1.1.0 in
    let corners = k.1.1.1.1.1 in
    record {
      box = k.1.1.0;
      fine = counts.fine;
      room = room;
      near = record {
        pieces = record { cut = cut; named = corners.0 };
        rings = record { cut = cut.cut; few = counts.few_entries; named = corners.0; kept = corners.1.0 };
        sites_kept = k.1.1.1.0;
        few = counts.few_sites;
        roomy = omega (arith, room);
      };
    }
