-- Rule 2 of a build by its tests, in the order in which the code makes them, and what it grants.
use Rattle.std.specs.Prelude.{◌≡◌, refl, Bool, true, false, ◌&&◌, ℕ, ◌+◌, ◌*◌, ◌/◌, ◌≤◌, ◌<◌, leb, ltb}
use Rattle.std.proofs.lemmas.Bool.{false≢true}
use borrow.Author.Tests.{leb-true, ltb-true, le-leb, lt-leb, lt-ltb}
use Rattle.base.specs.common.laws.And.{and_left, and_right}
use Rattle.base.specs.common.Decide.{Says}
use Rattle.mesh.specs.Accepted.{Counted}
use Rattle.cell_memory.specs.outputs.Outputs.{Rooms}
use Rattle.admission.specs.Slices.{room_for}
use Rattle.admission.specs.Admission.{RoomAnswer}

module _ (T h n numbers indexes offsets : ℕ) where
  -- the three tests on the outputs
  abbrev outputs_fit : Bool
  outputs_fit = leb (7 * T + 5 * h + 4) (numbers / 2) && leb (12 * T + 8 * h + 4) indexes && ltb n offsets

  says_rooms : (r : Bool) → Says r (Rooms T h n numbers indexes offsets) → r ≡ outputs_fit
  says_rooms true s = rw (le-leb _ _ s.vertices, le-leb _ _ s.entries, lt-ltb _ _ s.one_more)
  says_rooms false s = go _ _ _ refl refl refl
    where
      go : (a b c : Bool) → leb (7 * T + 5 * h + 4) (numbers / 2) ≡ a → leb (12 * T + 8 * h + 4) indexes ≡ b → ltb n offsets ≡ c → false ≡ (a && b && c)
      go false b c p q r = refl
      go true false c p q r = refl
      go true true false p q r = refl
      go true true true p q r = absurd (s (record { vertices = leb-true _ _ p; entries = leb-true _ _ q; one_more = ltb-true _ _ r }))

module _ (coordinates entries halfedges hull work numbers indexes offsets counts : ℕ) where
  abbrev Answers : Bool → Type 0
  Answers r = RoomAnswer coordinates entries halfedges hull work numbers indexes offsets counts r

  pub no_counts : (Counted coordinates entries halfedges hull → ⊥) → Answers false
  no_counts n = record { right = λ c. absurd (n c); table = λ t. absurd (false≢true t) }

  pub no_table : work < coordinates / 2 → Answers false
  unfolding room_for
  no_table l = record { right = λ c. rw (lt-leb _ _ l); table = λ t. absurd (false≢true t) }

  module _ (l : coordinates / 2 ≤ work) where
    pub no_nine : counts < 9 → Answers false
    unfolding room_for
    no_nine m = record { right = λ c. rw (le-leb _ _ l, lt-leb _ _ m); table = λ t. l }

    pub by_outputs : 9 ≤ counts → (r : Bool) → Says r (Rooms (entries / 3) hull (coordinates / 2) numbers indexes offsets) → Answers r
    unfolding room_for
    by_outputs m r s = record { right = λ c. rw (le-leb _ _ l, le-leb _ _ m) (says_rooms _ _ _ _ _ _ r s); table = λ t. l }

-- what rule 2 grants
pub record Granted (n T h work numbers indexes offsets counts : ℕ) : Type 0 where
  pub table : n ≤ work
  pub nine : 9 ≤ counts
  pub rooms : Rooms T h n numbers indexes offsets

pub granted : (n T h work numbers indexes offsets counts : ℕ) → room_for n T h work numbers indexes offsets counts ≡ true → Granted n T h work numbers indexes offsets counts
unfolding room_for
granted n T h work numbers indexes offsets counts e =
    let a = leb n work in
    let b = leb 9 counts in
    let v = leb (7 * T + 5 * h + 4) (numbers / 2) in
    let i = leb (12 * T + 8 * h + 4) indexes in
    let f = ltb n offsets in
    let abvi = and_left (a && b && v && i) f e in
    let abv = and_left (a && b && v) i abvi in
    let ab = and_left (a && b) v abv in
    record {
      table = leb-true _ _ (and_left a b ab);
      nine = leb-true _ _ (and_right a b ab);
      rooms = record {
        vertices = leb-true _ _ (and_right (a && b) v abv);
        entries = leb-true _ _ (and_right (a && b && v) i abvi);
        one_more = ltb-true _ _ (and_right (a && b && v && i) f e);
      };
    }
