-- A limit that is a quotient: to be above its whole part is to be above it.
use Rattle.std.specs.Prelude.{◌≡◌, refl, Bool, true, false, not, ◌&&◌, ℕ, ◌+◌, ◌-◌, ◌*◌, ◌/◌, ◌^◌, ◌≤◌, ◌<◌, ltb, leb}
use Rattle.std.proofs.Common.{sym, ap, ◌∙◌, ⊎_elim, div-lt_iff_lt-mul, not-le_of_lt, add-zero, zero-add, arith, lit≤, lt-ltb, le-ltb, le-leb}
use Prim.{tt}
use Rattle.std.proofs.Math.Nat.{one-le-pow}
use Rattle.std.proofs.lemmas.Bool.{lt-leb}
use Rattle.base.specs.common.laws.Decide.{lt_or_ge}

pub limit_exact : (box bits x : ℕ) → ltb (box / 2 ^ bits) x ≡ ltb box (x * 2 ^ bits)
limit_exact box bits x = ⊎_elim yes no (lt_or_ge (box / 2 ^ bits) x)
  where
    pos : 0 < 2 ^ bits
    pos = one-le-pow bits 2 (lit≤ tt)

    yes : box / 2 ^ bits < x → ltb (box / 2 ^ bits) x ≡ ltb box (x * 2 ^ bits)
    yes h = lt-ltb (box / 2 ^ bits) x h ∙ sym (lt-ltb box (x * 2 ^ bits) ((div-lt_iff_lt-mul pos).0 h))

    no : x ≤ box / 2 ^ bits → ltb (box / 2 ^ bits) x ≡ ltb box (x * 2 ^ bits)
    no h = le-ltb (box / 2 ^ bits) x h ∙ sym (le-ltb box (x * 2 ^ bits) (⊎_elim (λ l. absurd (not-le_of_lt ((div-lt_iff_lt-mul pos).1 l) h)) (λ l. l) (lt_or_ge box (x * 2 ^ bits))))

-- not less is at most
not_less : (a b : ℕ) → not (ltb a b) ≡ leb b a
not_less a b = ⊎_elim (λ h. ap not (lt-ltb a b h) ∙ sym (lt-leb b a h)) (λ h. ap not (le-ltb a b h) ∙ sym (le-leb b a h)) (lt_or_ge a b)

-- two numbers are apart by at most the limit: neither is over the other by more
pub apart_within : (box bits p m : ℕ) → (not (ltb (box / 2 ^ bits) (p - m)) && not (ltb (box / 2 ^ bits) (m - p))) ≡ leb ((p - m + (m - p)) * 2 ^ bits) box
apart_within box bits p m = ⊎_elim less more (lt_or_ge p m)
  where
    goal : Type 0
    goal = (not (ltb (box / 2 ^ bits) (p - m)) && not (ltb (box / 2 ^ bits) (m - p))) ≡ leb ((p - m + (m - p)) * 2 ^ bits) box

    none : (x : ℕ) → x ≡ 0 → not (ltb (box / 2 ^ bits) x) ≡ true
    none x e = ap not (le-ltb (box / 2 ^ bits) x (omega arith))

    one : (x : ℕ) → not (ltb (box / 2 ^ bits) x) ≡ leb (x * 2 ^ bits) box
    one x = ap not (limit_exact box bits x) ∙ not_less box (x * 2 ^ bits)

    and_true : (b : Bool) → (b && true) ≡ b
    and_true true = refl
    and_true false = refl

    less : p < m → goal
    less h =
        let z : p - m ≡ 0 = omega arith in
        ap (λ (b : Bool). b && not (ltb (box / 2 ^ bits) (m - p))) (none (p - m) z)
        ∙ one (m - p)
        ∙ ap (λ (x : ℕ). leb (x * 2 ^ bits) box) (sym (ap (λ (x : ℕ). x + (m - p)) z ∙ zero-add (m - p)))

    more : m ≤ p → goal
    more h =
        let z : m - p ≡ 0 = omega arith in
        ap (λ (b : Bool). not (ltb (box / 2 ^ bits) (p - m)) && b) (none (m - p) z)
        ∙ and_true (not (ltb (box / 2 ^ bits) (p - m)))
        ∙ one (p - m)
        ∙ ap (λ (x : ℕ). leb (x * 2 ^ bits) box) (sym (ap (λ (x : ℕ). p - m + x) z ∙ add-zero (p - m)))
