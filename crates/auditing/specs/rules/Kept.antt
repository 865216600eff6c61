-- Theorem: what an audit that is not refused has.
use Rattle.std.specs.Prelude.{◌≡◌, Bool, true, List, ℕ, ◌≤◌, Float, length}
use Rattle.std.proofs.Common.{rules, arith}
use Rattle.base.specs.common.laws.Refusals.{finds_keep}
use Rattle.areas.specs.Steps.{RingsKept}
use Rattle.auditing.specs.nearer.Steps.{HeldKept, PiecesKept}
use Rattle.auditing.specs.rules.Rules.{AuditNumber}

pub record AuditKept (sound : Bool) (sites v : List Float) (off ix starts others : List ℕ) (bits : ℕ) : Type 0 where
  pub box : sound ≡ true
  pub fine : bits ≤ 52
  pub rings : RingsKept v off ix
  pub pieces : PiecesKept sites v off ix
  pub held : HeldKept sites starts others
  pub many : length off ≤ 65537

pub kept : {sound : Bool} {sites v : List Float} {off ix starts others : List ℕ} {bits r : ℕ} → AuditNumber sound sites v off ix starts others bits r → r ≡ 0
    → AuditKept sound sites v off ix starts others bits
kept {off = off} a z =
    let k = finds_keep (λ r. r ≡ 0) (search rules) z a.found in
    let counts = k.0 in
    let cut = k.1.1.1.0 in
    let entries = k.1.1.1.1.1 in
    record {
      box = k.1.0;
      fine = counts.fine;
      rings = record { cut = cut.cut; few = counts.few_entries; named = entries.0; kept = entries.1.1.0 };
      pieces = record { cut = cut; named = entries.0 };
      held = record { cut = k.1.1.1.1.0; named = entries.1.0 };
      many = omega (arith, cut.many, counts.few_sites);
    }
