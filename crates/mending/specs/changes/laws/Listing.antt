-- How the changes are written one after the other.
use Rattle.std.specs.Prelude.{◌≡◌, refl, List, [], ◌∷◌, ◌++◌, Bool, eqb, set}
use Rattle.std.proofs.Common.{sym, ◌∙◌, add-one}
use Rattle.std.proofs.Math.Path.{ap}
use Rattle.std.proofs.Math.Bool.{true, false}
use Prim.Native.Nat.{ℕ, zero, suc, ◌+◌, ◌-◌, ◌*◌, ◌≤◌, ◌<◌}
use native.Mathlib.Omega.{arith}
use Rattle.std.proofs.Math.ListN.{length, get_or, length-append}
use Rattle.std.proofs.Math.Seq.{sets}
use borrow.Author.Tests.{lt-ltb, le-ltb, eq-eqb}
use Rattle.base.specs.common.laws.Stores.{sets_join}
use Rattle.base.specs.numbers.Numbers.{EMPTY}
use Rattle.base.specs.common.Pick.{pick}
use Rattle.mending.specs.changes.Changes.{Difference, same_at, change_at, changes_to, longer, changes_of, flat_changes}

pub flat_append : (a b : List Difference) → flat_changes (a ++ b) ≡ flat_changes a ++ flat_changes b
flat_append [] b = refl
flat_append (c ∷ a) b = ap (λ l. c.place ∷ c.was ∷ c.becomes ∷ l) (flat_append a b)

pub flat_length : (a : List Difference) → length (flat_changes a) ≡ 3 * length a
flat_length [] = refl
flat_length (c ∷ a) = omega (arith, flat_length a)

-- ---- one place
module _ (old new : List ℕ) (i : ℕ) where
  pub change_few : length (change_at old new i) ≤ 1
  unfolding change_at
  change_few = go (same_at old new i)
    where
      go : (b : Bool) → length {A = Difference} (pick b (λ _. []) (λ _. record { place = i; was = get_or old i EMPTY; becomes = get_or new i EMPTY } ∷ [])) ≤ 1
      go true = omega arith
      go false = omega arith

  module _ (changes : List ℕ) (n : ℕ) where
    pub same_put : same_at old new i ≡ true → (n ≡ n + length (change_at old new i)) × (changes ≡ sets changes (3 * n) (flat_changes (change_at old new i)))
    unfolding change_at
    same_put h = rw h (omega arith, refl)

    pub other_put : (a b : ℕ) → same_at old new i ≡ false → a ≡ get_or old i EMPTY → b ≡ get_or new i EMPTY
        → (n + 1 ≡ n + length (change_at old new i)) × (set (set (set changes (3 * n) i) (3 * n + 1) a) (3 * n + 2) b ≡ sets changes (3 * n) (flat_changes (change_at old new i)))
    unfolding change_at
    other_put a b h p q =
        let u : 3 * n + 1 ≡ suc (3 * n) = omega arith in
        let v : 3 * n + 2 ≡ suc (suc (3 * n)) = omega arith in
        rw (h, p, q, u, v) (omega arith, refl)

-- ---- the loop: the changes below place i are written from number `from` on; n is the number of the next
pub record Listing (old new was now : List ℕ) (from n i : ℕ) : Type 0 where
  pub room : i ≤ longer old new
  pub long : length now ≡ length was
  pub count : n ≡ from + length (changes_to old new i)
  pub few : n ≤ from + i
  pub written : now ≡ sets was (3 * from) (flat_changes (changes_to old new i))

pub listing_start : (old new was : List ℕ) (from : ℕ) → Listing old new was was from from 0
unfolding changes_to
listing_start old new was from = record { room = omega arith; long = refl; count = omega arith; few = omega arith; written = refl }

module _ (old new was now : List ℕ) (from n i : ℕ) (g : Listing old new was now from n i) where
  pub listing_step : (m : ℕ) (next : List ℕ) → i < longer old new → length next ≡ length now → m ≡ n + length (change_at old new i)
      → next ≡ sets now (3 * n) (flat_changes (change_at old new i)) → Listing old new was next from m (i + 1)
  unfolding changes_to
  listing_step m next l k p q = record {
    room = omega arith;
    long = k ∙ g.long;
    count = rw (add-one i) (omega (arith, p, g.count, length-append (changes_to old new i) (change_at old new i)));
    few = omega (arith, p, g.few, change_few old new i);
    written = rw (add-one i) (q ∙ ap (λ l. sets l (3 * n) (flat_changes (change_at old new i))) g.written
        ∙ sets_join (flat_changes (changes_to old new i)) (flat_changes (change_at old new i)) was (3 * from) (3 * n) (omega (arith, g.count, flat_length (changes_to old new i)))
        ∙ ap (sets was (3 * from)) (sym (flat_append (changes_to old new i) (change_at old new i))));
  }

  pub listing_done : (r : ℕ) → r ≡ n - from → longer old new ≤ i
      → (r ≡ length (changes_of old new)) × (now ≡ sets was (3 * from) (flat_changes (changes_of old new)))
  listing_done r q l =
      let z : i ≡ longer old new = omega (arith, g.room) in
      rw (← z) (omega (arith, g.count), g.written)

-- ---- the tests
module _ (old new : List ℕ) (i : ℕ) where
  pub no_old : length old ≤ i → same_at old new i ≡ false
  unfolding same_at
  no_old h = rw (le-ltb i (length old) h)

  pub no_new : i < length old → length new ≤ i → same_at old new i ≡ false
  unfolding same_at
  no_new l h = rw (lt-ltb i (length old) l, le-ltb i (length new) h)

  pub both : i < length old → i < length new → same_at old new i ≡ eqb (get_or old i 0) (get_or new i 0)
  unfolding same_at
  both l h = rw (lt-ltb i (length old) l, lt-ltb i (length new) h)

-- an entry of the list, whatever stands for none
pub entry_any : (l : List ℕ) (i : ℕ) → i < length l → get_or l i 0 ≡ get_or l i EMPTY
entry_any [] i h = absurd (omega arith)
entry_any (x ∷ l) zero h = refl
entry_any (x ∷ l) (suc i) h = entry_any l i (omega arith)

-- at most one change at each place
pub changes_few : (old new : List ℕ) (n : ℕ) → length (changes_to old new n) ≤ n
unfolding changes_to
changes_few old new zero = omega arith
changes_few old new (suc n) = omega (arith, length-append (changes_to old new n) (change_at old new n), change_few old new n, changes_few old new n)

-- a list and itself: no change
same_self : (l : List ℕ) (i : ℕ) → i < length l → same_at l l i ≡ true
same_self l i h = both l l i h h ∙ eq-eqb (get_or l i 0) (get_or l i 0) refl

none_at : (l : List ℕ) (i : ℕ) → same_at l l i ≡ true → change_at l l i ≡ []
unfolding change_at
none_at l i h = rw h

none_to : (l : List ℕ) (n : ℕ) → n ≤ length l → changes_to l l n ≡ []
unfolding changes_to
none_to l zero h = refl
none_to l (suc n) h = rw (none_to l n (omega arith)) (none_at l n (same_self l n (omega arith)))

pub no_changes : (l : List ℕ) → changes_of l l ≡ []
no_changes l = none_to l (longer l l) (omega arith)
