-- A list written into a cleared slice, and two lists of changes written one after the other.
use Rattle.std.specs.Prelude.{◌≡◌, List, ◌++◌, ℕ, zero, suc, ◌+◌, ◌-◌, ◌*◌, ◌≤◌, length, take, drop, replicate}
use Rattle.std.proofs.Common.{sym, ap, ◌∙◌, arith, length-append, take_at}
use Rattle.std.proofs.lemmas.List.Edits.{sets}
use Rattle.base.specs.common.laws.Stores.{sets_all, sets_join}
use Rattle.base.specs.numbers.Numbers.{EMPTY}
use Rattle.mending.specs.changes.Changes.{longer, changes_of, flat_changes}
use Rattle.mending.specs.changes.laws.Listing.{flat_append, flat_length, changes_few}
use Rattle.mending.specs.slices.Lent.{filled}
use Rattle.mending.specs.slices.Steps.{ListedBoth}

drop_replicate : (j w : ℕ) → drop j (replicate w EMPTY) ≡ replicate (w - j) EMPTY
drop_replicate zero w = let q : w ≡ w - 0 = omega arith in ap (λ k. replicate k EMPTY) q
drop_replicate (suc j) zero = let q : 0 ≡ 0 - suc j = omega arith in ap (λ k. replicate k EMPTY) q
drop_replicate (suc j) (suc w) = let q : w - j ≡ suc w - suc j = omega arith in drop_replicate j w ∙ ap (λ k. replicate k EMPTY) q

-- written into a cleared slice
pub sets_filled : (l s s' : List ℕ) (w : ℕ) → s ≡ replicate w EMPTY → length s ≡ w → length l ≤ w → s' ≡ sets s 0 l → s' ≡ filled w l
sets_filled l s s' w q long fits z = z ∙ sets_all l s (rw long fits) ∙ ap (λ v. l ++ drop (length l) v) q ∙ ap (λ v. l ++ v) (drop_replicate (length l) w)

pub take_filled : (l s : List ℕ) (w k : ℕ) → s ≡ filled w l → length l ≡ k → take k s ≡ l
take_filled l s w k q z = ap (take k) q ∙ take_at l (replicate (w - length l) EMPTY) k z

-- two lists of changes, one after the other
pub listed : (old new before after c c₀ c₁ c₂ : List ℕ) (p q : ℕ) → c₀ ≡ replicate (length c) EMPTY → length c₀ ≡ length c
    → 3 * (longer old new + longer before after) ≤ length c
    → (p ≡ length (changes_of old new)) × (c₁ ≡ sets c₀ (3 * 0) (flat_changes (changes_of old new)))
    → (q ≡ length (changes_of before after)) × (c₂ ≡ sets c₁ (3 * p) (flat_changes (changes_of before after))) → ListedBoth old new before after c c₂ p q
listed old new before after c c₀ c₁ c₂ p q z long room (a, b) (d, e) =
    let A = changes_of old new in
    let B = changes_of before after in
    let f : length (flat_changes (A ++ B)) ≤ length c =
    omega (arith, flat_length (A ++ B), length-append A B, changes_few old new (longer old new), changes_few before after (longer before after)) in
    let g : c₂ ≡ sets c₀ 0 (flat_changes (A ++ B)) =
    e ∙ ap (λ v. sets v (3 * p) (flat_changes B)) b ∙ sets_join (flat_changes A) (flat_changes B) c₀ 0 (3 * p) (omega (arith, flat_length A)) ∙ ap (sets c₀ 0) (sym (flat_append A B)) in
    record { first = a; then = d; changes = sets_filled (flat_changes (A ++ B)) c₀ c₂ (length c) z long f g }
