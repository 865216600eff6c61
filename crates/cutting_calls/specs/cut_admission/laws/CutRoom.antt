-- Rule 2 of a cutting by its tests, in the order in which the code makes them, and what it grants.
use Rattle.std.specs.Prelude.{◌≡◌, Bool, true, false, ◌&&◌, ℕ, ◌+◌, ◌*◌, ◌/◌, ◌≤◌, ◌<◌, leb, ltb}
use Rattle.std.proofs.lemmas.Bool.{false≢true}
use borrow.Author.Tests.{leb-true, ltb-true, le-leb, lt-leb, lt-ltb, le-ltb}
use Rattle.base.specs.common.laws.And.{and_left, and_right}
use Rattle.mesh.specs.Accepted.{Counted}
use Rattle.cutting_calls.specs.cut_admission.CutSlices.{cut_room_for}
use Rattle.cutting_calls.specs.cut_admission.CutAdmission.{CutRoomAnswer}

module _ (coordinates entries halfedges hull work numbers indexes offsets : ℕ) where
  abbrev Answers : Bool → Type 0
  Answers r = CutRoomAnswer coordinates entries halfedges hull work numbers indexes offsets r

  pub no_counts : (Counted coordinates entries halfedges hull → ⊥) → Answers false
  no_counts n = record { right = λ c. absurd (n c); table = λ t. absurd (false≢true t) }

  pub no_table : work < coordinates / 2 → Answers false
  unfolding cut_room_for
  no_table l = record { right = λ c. rw (lt-leb _ _ l); table = λ t. absurd (false≢true t) }

  module _ (l : coordinates / 2 ≤ work) where
    pub no_vertices : numbers / 2 < 7 * (entries / 3) + 2 * hull + 4 → Answers false
    unfolding cut_room_for
    no_vertices v = record { right = λ c. rw (le-leb _ _ l, lt-leb _ _ v); table = λ t. l }

    module _ (v : 7 * (entries / 3) + 2 * hull + 4 ≤ numbers / 2) where
      pub no_entries : indexes < 16 * (entries / 3) + 11 * hull → Answers false
      unfolding cut_room_for
      no_entries i = record { right = λ c. rw (le-leb _ _ l, le-leb _ _ v, lt-leb _ _ i); table = λ t. l }

      module _ (i : 16 * (entries / 3) + 11 * hull ≤ indexes) where
        pub no_offsets : offsets ≤ coordinates / 2 → Answers false
        unfolding cut_room_for
        no_offsets o = record { right = λ c. rw (le-leb _ _ l, le-leb _ _ v, le-leb _ _ i, le-ltb _ _ o); table = λ t. l }

        pub roomy : coordinates / 2 < offsets → Answers true
        unfolding cut_room_for
        roomy o = record { right = λ c. rw (le-leb _ _ l, le-leb _ _ v, le-leb _ _ i, lt-ltb _ _ o); table = λ t. l }

-- what rule 2 grants
pub record CutGranted (n T h work numbers indexes offsets : ℕ) : Type 0 where
  pub table : n ≤ work
  pub vertices : 7 * T + 2 * h + 4 ≤ numbers / 2
  pub entries : 16 * T + 11 * h ≤ indexes
  pub one_more : n < offsets

pub cut_granted : (n T h work numbers indexes offsets : ℕ) → cut_room_for n T h work numbers indexes offsets ≡ true → CutGranted n T h work numbers indexes offsets
unfolding cut_room_for
cut_granted n T h work numbers indexes offsets e =
    let a = leb n work in
    let v = leb (7 * T + 2 * h + 4) (numbers / 2) in
    let i = leb (16 * T + 11 * h) indexes in
    let f = ltb n offsets in
    let avi = and_left (a && v && i) f e in
    let av = and_left (a && v) i avi in
    record {
      table = leb-true _ _ (and_left a v av);
      vertices = leb-true _ _ (and_right a v av);
      entries = leb-true _ _ (and_right (a && v) i avi);
      one_more = ltb-true _ _ (and_right (a && v && i) f e);
    }
