-- Finite values above nothing with the same units are one value, and so are two that are both nearest to a root.
use Rattle.std.specs.Prelude.{◌≡◌, refl, true, false, ℕ, ◌+◌, ◌-◌, ◌*◌, ◌/◌, ◌^◌, ◌<◌, T, Float}
use Rattle.std.proofs.Common.{sym, ap, ◌∙◌, subst, ⊎_elim, true≢false, add_comm, le_antisymm, lt_irrefl, lt_of_lt_of_le, le_of_lt}
use Rattle.std.specs.Float.{nan, inf, fin, binary64}
use Rattle.std.specs.Float.Ieee.{fits, of_bits, to_bits, size}
use Rattle.std.specs.Float.Ieee.Bits.{of_bits-to_bits}
use Rattle.root.specs.whole_root.Near.{sq}
use Rattle.root.specs.Root.{units, Plus, NearestRoot}
use Rattle.root.specs.laws.Squares.{le_or_lt}

abbrev pub plus_bits : ℕ → ℕ
plus_bits n = 0 + (size n - 53) * 2 ^ 52 + n / 2 ^ (size n - 53)

pub to_bits_units : (v : Float) → Plus v → to_bits binary64 v ≡ plus_bits (units v)
unfolding to_bits
to_bits_units nan p = absurd p
to_bits_units (inf s) p = absurd p
to_bits_units (fin true m e) p = absurd (true≢false p)
to_bits_units (fin false m e) p = refl

pub same_units : {v w : Float} → T (fits binary64 v) → T (fits binary64 w) → Plus v → Plus w → units v ≡ units w → v ≡ w
same_units {v} {w} f g p q e =
    sym (of_bits-to_bits binary64 v f) ∙ ap (of_bits binary64) (to_bits_units v p ∙ ap plus_bits e ∙ sym (to_bits_units w q)) ∙ of_bits-to_bits binary64 w g

pub no_less : {x r s : Float} → NearestRoot x r → NearestRoot x s → units r < units s → ⊥
no_less {x} {r} {s} a b l =
    lt_irrefl (4 * (units x * 2 ^ 1074))
    (lt_of_lt_of_le (a.above s b.held b.plus l) (le_of_lt (subst (λ (n : ℕ). sq n < 4 * (units x * 2 ^ 1074)) (add_comm (units s) (units r)) (b.below r a.held a.plus l))))

pub one_nearest : {x r s : Float} → NearestRoot x r → NearestRoot x s → r ≡ s
one_nearest {x} {r} {s} a b = same_units a.held b.held a.plus b.plus
    (⊎_elim (λ g. ⊎_elim (λ h. le_antisymm g h) (λ h. absurd (no_less a b h)) (le_or_lt (units s) (units r))) (λ h. absurd (no_less b a h)) (le_or_lt (units r) (units s)))
