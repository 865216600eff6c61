-- Rows: the lines that docs/use/RULES.md shows, and shares at the ends of what is shown. By computation.
use Rattle.std.specs.Prelude.{◌≡◌, true, false, pos, negsuc, refl, Ok, Err}
use Rattle.std.specs.Float.{fin, nan, inf}
use Rattle.std.specs.Float.Ieee.{of_bits, mul, lt, le, neg, round, to_unsigned}
use Rattle.printing.specs.parts.Text.{ascii, digits, decimal}
use Rattle.printing.specs.parts.Labelled.{entries}
use Rattle.auditing.specs.declared.AuditFault.TheVariants.{Ring, Outside, Nearer, Uncovered, Twin}
use Rattle.audit.specs.text.Share.{billionths, fraction, pointed, share_text}
use Rattle.audit.specs.text.AuditLines.{labelled_line, pair_line, triple_line, missing_line, turned_line, audit_lines}

-- 5/16 of the box is missing; pieces overlap by 1/4; a billionth and a bit; beyond what is shown
pub shares :
    (share_text (fin false 5 (negsuc 3)) ≡ ascii "0.312500000")
    × (share_text (fin true 1 (negsuc 1)) ≡ ascii "-0.250000000")
    × (share_text (fin false 1 (negsuc 29)) ≡ ascii "0.000000000")
    × (share_text (fin false 1 (negsuc 19)) ≡ ascii "0.000000953")
    × (share_text (fin true 95 (pos 0)) ≡ ascii "-95.000000000")
    × (share_text (fin false 1 (pos 40)) ≡ ascii "4294967295.999999999")
    × (share_text nan ≡ ascii "4294967295.999999999")
    × (share_text (inf true) ≡ ascii "-4294967295.999999999")
unfolding of_bits mul lt le neg round to_unsigned digits decimal billionths fraction pointed share_text
shares = (refl, refl, refl, refl, refl, refl, refl, refl)

pub rows :
    (audit_lines 0 2 2 (Ok tt) (fin false 0 (pos 0)) ≡ ascii "sound\n")
    × (audit_lines 50 50 0 (Err (Ring 0)) (fin false 0 (pos 0)) ≡ ascii "turned 50 of 50 triangles, lowest 0\nsite 0: its piece does not run once round, the right way\n")
    × (audit_lines 0 50 50 (Err (Outside 4 61)) (fin false 0 (pos 0)) ≡ ascii "site 4: vertex 61 is outside the box\n")
    × (audit_lines 1 50 7 (Err (Nearer 4 61 29)) (fin false 0 (pos 0)) ≡ ascii "turned 1 of 50 triangles, lowest 7\nsite 4: vertex 61 is nearer to site 29\n")
    × (audit_lines 0 4 4 (Err Uncovered) (fin false 5 (negsuc 3)) ≡ ascii "missing 0.312500000\n")
    × (audit_lines 0 50 50 (Err (Twin 12 3)) (fin false 0 (pos 0)) ≡ ascii "sites 3 and 12 stand at one place\n")
unfolding of_bits mul lt le neg round to_unsigned digits decimal entries billionths fraction pointed share_text labelled_line pair_line triple_line missing_line turned_line audit_lines
rows = (refl, refl, refl, refl, refl, refl)
