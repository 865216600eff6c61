-- The answers of reading, from the tests that the code makes.
use Rattle.std.specs.Prelude.{◌≡◌, refl, Bool, true, false, MatchBool, List, ◌≢◌, ℕ, ◌*◌, ◌≤◌, ◌<◌, length, get_or, drop, Float}
use Rattle.std.specs.List.{AllWithin, HoldsAt, range_with_len}
use Rattle.std.proofs.Common.{sym, ap, ◌∙◌, subst, arith}
use Rattle.std.proofs.lemmas.Bool.{false≢true}
use Rattle.std.proofs.lemmas.List.FromFn.{length-range_with_len, get_or-range_with_len}
use Rattle.base.specs.common.Decide.{Says}
use Rattle.base.specs.common.laws.Refusals.{breaks, keeps, nothing}
use Rattle.base.specs.numbers.Numbers.{refused_count, refused_room, refused_coordinate, refused_points}
use Rattle.plane.specs.points.Rules.{ok_coord}
use Rattle.wkb.specs.multipoint.Fields.{StartsAs, point_count, point_place, Shape, coordinate_of}
use Rattle.wkb.specs.multipoint.Promise.{SiteLimits, firsts, SoundPoints, entry_of, ReadAnswer, SoundAnswer}

-- what `all` over the numbers below n tells
pub all_say : (P : ℕ → Type 0) (n : ℕ) (r : Bool)
    → MatchBool r (AllWithin P (range_with_len 0 n) 0 (length (range_with_len 0 n))) ((k : ℕ) × (k < length (range_with_len 0 n)) × HoldsAt (λ x. P x → ⊥) (range_with_len 0 n) k)
    → Says r ((k : ℕ) → k < n → P k)
all_say P n true h = λ k l. subst P (get_or-range_with_len 0 n k 0 l ∙ omega arith) (h k 0 (omega arith) (omega (arith, length-range_with_len 0 n)))
all_say P n false h =
    let l : h.0 < n = omega (arith, h.1, length-range_with_len 0 n) in
    let e : get_or (range_with_len 0 n) h.0 0 ≡ h.0 = get_or-range_with_len 0 n h.0 0 l ∙ omega arith in
    λ all. h.2 0 (subst P (sym e) (all h.0 l))

-- a coordinate by its test
pub coordinate_kept : {x y : Float} → true ≡ ok_coord x → x ≡ y → ok_coord y ≡ true
coordinate_kept t e = ap ok_coord (sym e) ∙ sym t

pub coordinate_broken : {x y : Float} → false ≡ ok_coord x → x ≡ y → ok_coord y ≡ true → ⊥
coordinate_broken t e k = false≢true (t ∙ ap ok_coord e ∙ k)

-- the file's count of points
pub all_sound : (s : List ℕ) {n : ℕ} (r : Bool) → n ≡ point_count s → Says r ((k : ℕ) → k < 2 * n → ok_coord (coordinate_of s k) ≡ true) → Says r (SoundPoints s)
all_sound s true e a = record { each = λ k l. a k (omega arith) }
all_sound s false e a = λ p. a (λ k l. p.each k (omega arith))

-- a file and the output before
module _ (s : List ℕ) (old : List Float) where
  pub no_shape : (Shape s → ⊥) → ReadAnswer s old old 0 refused_points
  no_shape q = record { number = breaks q; sites = refl; counted = refl }

  pub of_shape : {new : List Float} {k r : ℕ} → Shape s → SoundAnswer s old new k r → ReadAnswer s old new k r
  of_shape q a = record { number = keeps q a.number; sites = a.sites; counted = a.counted }

  module _ (n : ℕ) (e : n ≡ point_count s) where
    pub not_counted : (SiteLimits n → ⊥) → SoundAnswer s old old 0 refused_count
    not_counted q = record { number = breaks (λ l. q (rw e l)); sites = refl; counted = refl }

    module _ (limits : SiteLimits n) where
      within : SiteLimits (point_count s)
      within = rw e at limits

      pub no_room : length old < 2 * n → SoundAnswer s old old 0 refused_room
      no_room h = record { number = keeps within (breaks (λ l. omega arith)); sites = refl; counted = refl }

      module _ (room : 2 * n ≤ length old) where
        pub not_sound : (SoundPoints s → ⊥) → SoundAnswer s old old 0 refused_coordinate
        not_sound q = record { number = keeps within (keeps (omega arith) (breaks q)); sites = refl; counted = refl }

        pub was_read : {new : List Float} → SoundPoints s → new ≡ firsts (entry_of s) (length old) → SoundAnswer s old new n 0
        was_read q p = record { number = keeps within (keeps (omega arith) (keeps q nothing)); sites = p; counted = e }

-- whether a file has the shape, by its parts
module _ (s : List ℕ) where
  pub short_file : length s < 9 → Shape s → ⊥
  short_file h p = omega (arith, p.long)

  module _ (long : 9 ≤ length s) (starts : StartsAs s 4) (n : ℕ) (e : n ≡ point_count s) where
    pub other_length : length s ≢ point_place n → Shape s → ⊥
    other_length h p = h (p.whole ∙ ap point_place (sym e))

    pub points_say : (b : Bool) → length s ≡ point_place n → Says b ((i : ℕ) → i < n → StartsAs (drop (point_place i) s) 1) → Says b (Shape s)
    points_say true h p = record { long = long; starts = starts; whole = h ∙ ap point_place e; points = λ i l. p i (omega arith) }
    points_say false h p = λ q. p (λ i l. q.points i (omega arith))
