-- The code's tests and reads in the words of the definition.
use Rattle.std.specs.Prelude.{◌≡◌, Bool, true, false, List, ℕ, ◌+◌, ◌*◌, ◌≤◌, ◌<◌, eqb, get_or, take, drop, Float}
use Rattle.std.proofs.Math.Path.{refl}
use Rattle.std.proofs.Common.{sym, ap, ◌∙◌, add-zero, arith, get_or-drop, drop-drop, eqb-true, lt-ltb, le-ltb}
use Rattle.std.proofs.lemmas.Bool.{eqb-false}
use Rattle.base.specs.common.Binary64 as R
use Rattle.base.specs.common.Decide.{Says}
use Rattle.octets.specs.Orders.{word_in}
use Rattle.wkb.specs.multipoint.Fields.{little_of, field, StartsAs, point_count, coordinate_of}
use Rattle.wkb.specs.multipoint.Promise.{entry_of}

first_byte : (s : List ℕ) (at : ℕ) → get_or (drop at s) 0 0 ≡ get_or s at 0
first_byte s at = get_or-drop at s 0 0 ∙ ap (λ (k : ℕ). get_or s k 0) (add-zero at)

-- the number that is read at at + from, in the order of the mark at `at`
pub read_field : (s : List ℕ) (at from n : ℕ) → word_in (eqb (get_or s at 0) 1) (take n (drop (at + from) s)) ≡ field (drop at s) from n
unfolding field
read_field s at from n =
    ap (λ (b : ℕ). word_in (eqb b 1) (take n (drop (at + from) s))) (sym (first_byte s at))
    ∙ ap (λ (t : List ℕ). word_in (little_of (drop at s)) (take n t)) (sym (drop-drop from at s))

pub no_mark : (s : List ℕ) (at kind : ℕ) → 1 < get_or s at 0 → StartsAs (drop at s) kind → ⊥
no_mark s at kind h p = omega (arith, p.marked, first_byte s at)

pub types_say : (s : List ℕ) (at kind n : ℕ) (b : Bool) → get_or s at 0 ≤ 1 → n ≡ field (drop at s) 1 4 → eqb n kind ≡ b → Says b (StartsAs (drop at s) kind)
types_say s at kind n true h e t = record { marked = omega (arith, first_byte s at); typed = sym e ∙ eqb-true n kind t }
types_say s at kind n false h e t = λ p. eqb-false n kind t (e ∙ p.typed)

-- place k of the output
module _ (s : List ℕ) (n k : ℕ) (e : n ≡ point_count s) where
  pub entry_past : 2 * n ≤ k → R.zero ≡ entry_of s k
  unfolding entry_of
  entry_past h = rw (le-ltb k (2 * point_count s) (omega arith)) refl

  pub entry_there : {x : Float} → k < 2 * n → x ≡ coordinate_of s k → x ≡ entry_of s k
  unfolding entry_of
  entry_there h q = rw (lt-ltb k (2 * point_count s) (omega arith)) q
