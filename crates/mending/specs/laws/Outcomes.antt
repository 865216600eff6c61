-- How an outcome comes about: refused before rule 7, refused from there on, or made; and how the numbers of the two lists of rules come together.
use Rattle.std.specs.Prelude.{◌≡◌, refl, List, ◌∷◌, ◌++◌, ◌≢◌, ℕ, ◌/◌, ◌%◌, ◌≤◌, ◌<◌, Float, length, replicate}
use Rattle.std.proofs.Common.{sym, ap, ◌∙◌, arith, rules, eq-eqb, ne_eqb}
use Rattle.base.specs.common.Decide.{First}
use Rattle.base.specs.common.Refusals.{Keep, Finds, each}
use Rattle.base.specs.common.laws.Decide.{first_all}
use Rattle.base.specs.common.laws.Refusals.{offends, all_keep, finds_keep, finds_answers, finds_first, finds_after}
use Rattle.base.specs.numbers.Numbers.{EMPTY, refused_triangle}
use Rattle.mesh.specs.Mesh.{SoundAt, AllSound, leftmost_in}
use Rattle.mesh.specs.Accepted.{Mesh, site_count}
use Rattle.mesh.specs.laws.Facts.{few_entries, sound_site}
use Rattle.mesh_check.specs.whole.laws.AtExit.{exit_made, exit_held, exit_blank}
use Rattle.mending.specs.pairs.Pairs.{pairs_of}
use Rattle.mending.specs.changes.Changes.{flat_changes}
use Rattle.mending.specs.Mending.{mend_room_of, mend_start, work_rules, new_hull, pair_changes, hull_changes, when_made, MendOutcome, Mends}
use Rattle.mending.specs.slices.Lent.{Lent, filled}
use Rattle.mending.specs.slices.Steps.{Cleared}
use Rattle.mending.specs.Steps.{Ready, Lists}

pub made : (r x : ℕ) → r ≡ 0 → when_made r x ≡ x
unfolding when_made
made r x h = rw (eq-eqb r 0 h)

not_made : (r x : ℕ) → r ≢ 0 → when_made r x ≡ 0
unfolding when_made
not_made r x h = rw (ne_eqb r 0 h)

-- the numbers
module _ (sites : List Float) (entries halfedges hull : ℕ) (room : Type 0) where
  pub start_keep : {r : ℕ} → Finds (mend_start sites entries halfedges hull room) 0 r → r ≡ 0 → Keep (mend_start sites entries halfedges hull room)
  start_keep x z = finds_keep (λ r. r ≡ 0) (search rules) z x

  pub start_few : {r : ℕ} → Finds (mend_start sites entries halfedges hull room) 0 r → r < refused_triangle
  start_few x = finds_answers (λ r. r < refused_triangle) (omega arith) (search rules) x

pub work_late : (tri : List ℕ) (n : ℕ) {r : ℕ} → Finds (work_rules tri n) 0 r → r ≢ 0 → refused_triangle ≤ r
work_late tri n =
    finds_answers (λ r. r ≢ 0 → refused_triangle ≤ r) (λ z. absurd (z refl))
    (λ _ z. omega arith, (λ _ z. omega arith, (λ k z. omega arith, tt)))

module _ (tri he hull : List ℕ) (n : ℕ) (old : Lent) (r : ℕ) where
  abbrev table : List ℕ
  table = leftmost_in tri (pairs_of tri) n (length old.work)

  abbrev both : List ℕ
  both = flat_changes (pair_changes tri he ++ hull_changes tri hull n)

  module _ (some : r ≢ 0) (k p q : ℕ) (zk : k ≡ 0) (zp : p ≡ 0) (zq : q ≡ 0) where
    pub outcome_held : r < refused_triangle → MendOutcome tri he hull n old old r k p q
    outcome_held l = record {
      work = sym (exit_held EMPTY table old.work r some l);
      pairs = sym (exit_held EMPTY (filled (length old.pairs) (pairs_of tri)) old.pairs r some l);
      mended = sym (exit_held EMPTY (filled (length old.mended) (new_hull tri hull n)) old.mended r some l);
      changes = sym (exit_held EMPTY (filled (length old.changes) both) old.changes r some l);
      hull_length = zk ∙ sym (not_made r (length (new_hull tri hull n)) some);
      pair_changes_lem = zp ∙ sym (not_made r (length (pair_changes tri he)) some);
      hull_changes_lem = zq ∙ sym (not_made r (length (hull_changes tri hull n)) some);
    }

    module _ (mid new : Lent) (c : Cleared mid new) (w : length mid.work ≡ length old.work) (x : length mid.pairs ≡ length old.pairs)
        (y : length mid.mended ≡ length old.mended) (z : length mid.changes ≡ length old.changes) where
      pub outcome_cleared : refused_triangle ≤ r → MendOutcome tri he hull n old new r k p q
      outcome_cleared l = record {
        work = c.work ∙ ap (λ j. replicate j EMPTY) w ∙ sym (exit_blank EMPTY table old.work r l);
        pairs = c.pairs ∙ ap (λ j. replicate j EMPTY) x ∙ sym (exit_blank EMPTY (filled (length old.pairs) (pairs_of tri)) old.pairs r l);
        mended = c.mended ∙ ap (λ j. replicate j EMPTY) y ∙ sym (exit_blank EMPTY (filled (length old.mended) (new_hull tri hull n)) old.mended r l);
        changes = c.changes ∙ ap (λ j. replicate j EMPTY) z ∙ sym (exit_blank EMPTY (filled (length old.changes) both) old.changes r l);
        hull_length = zk ∙ sym (not_made r (length (new_hull tri hull n)) some);
        pair_changes_lem = zp ∙ sym (not_made r (length (pair_changes tri he)) some);
        hull_changes_lem = zq ∙ sym (not_made r (length (hull_changes tri hull n)) some);
      }

  pub outcome_made : r ≡ 0 → (new : Lent) (k p q : ℕ) → new.work ≡ table → new.pairs ≡ filled (length old.pairs) (pairs_of tri)
      → new.mended ≡ filled (length old.mended) (new_hull tri hull n) → new.changes ≡ filled (length old.changes) both
      → k ≡ length (new_hull tri hull n) → p ≡ length (pair_changes tri he) → q ≡ length (hull_changes tri hull n) → MendOutcome tri he hull n old new r k p q
  outcome_made z new k p q w x y c lk lp lq = record {
    work = w ∙ sym (exit_made EMPTY table old.work r z);
    pairs = x ∙ sym (exit_made EMPTY (filled (length old.pairs) (pairs_of tri)) old.pairs r z);
    mended = y ∙ sym (exit_made EMPTY (filled (length old.mended) (new_hull tri hull n)) old.mended r z);
    changes = c ∙ sym (exit_made EMPTY (filled (length old.changes) both) old.changes r z);
    hull_length = lk ∙ sym (made r (length (new_hull tri hull n)) z);
    pair_changes_lem = lp ∙ sym (made r (length (pair_changes tri he)) z);
    hull_changes_lem = lq ∙ sym (made r (length (hull_changes tri hull n)) z);
  }

-- refused by 19, 9 or 10
pub sound_refused : (tri he hull : List ℕ) (n : ℕ) (old mid new : Lent) (s : ℕ) → Finds (work_rules tri n) 0 s → s ≢ 0 → Cleared mid new
    → length mid.work ≡ length old.work → length mid.pairs ≡ length old.pairs → length mid.mended ≡ length old.mended
    → length mid.changes ≡ length old.changes → Finds (work_rules tri n) 0 s × MendOutcome tri he hull n old new s 0 0 0
sound_refused tri he hull n old mid new s f m c w x y z =
    (f, outcome_cleared tri he hull n old s m 0 0 0 refl refl refl mid new c w x y z (work_late tri n f m))

-- the whole call
module _ (m : Mesh) (old : Lent) where
  abbrev start : ℕ → Type 0
  start = Finds (mend_start m.sites (length m.triangles) (length m.halfedges) (length m.hull) (mend_room_of m.sites m.triangles old)) 0

  -- refused by 1, 2 or 6
  pub mends_held : (s : ℕ) → start s → s ≢ 0 → Mends m old old s 0 0 0
  mends_held s x n = record {
    number = finds_first (each (λ _. refused_triangle) (length m.triangles / 3) (SoundAt m.triangles (site_count m.sites)) ∷ work_rules m.triangles (site_count m.sites)) n x;
    outcome = outcome_held m.triangles m.halfedges m.hull (site_count m.sites) old s n 0 0 0 refl refl refl
        (start_few m.sites (length m.triangles) (length m.halfedges) (length m.hull) (mend_room_of m.sites m.triangles old) x);
  }

  module _ (s : ℕ) (x : start s) (z : s ≡ 0) where
    kept_start : Keep (mend_start m.sites (length m.triangles) (length m.halfedges) (length m.hull) (mend_room_of m.sites m.triangles old))
    kept_start = start_keep m.sites (length m.triangles) (length m.halfedges) (length m.hull) (mend_room_of m.sites m.triangles old) x z

    pub in_threes : length m.triangles % 3 ≡ 0
    in_threes = kept_start.0.threes

    module _ (t : ℕ) (g : First (SoundAt m.triangles (site_count m.sites)) (length m.triangles / 3) t) where
      pub mends_seven : t < length m.triangles / 3 → (new : Lent) → Cleared old new → Mends m old new refused_triangle 0 0 0
      mends_seven l new c = record {
        number = finds_after (mend_start m.sites (length m.triangles) (length m.halfedges) (length m.hull) (mend_room_of m.sites m.triangles old)) kept_start (offends g l);
        outcome = outcome_cleared m.triangles m.halfedges m.hull (site_count m.sites) old refused_triangle (λ z. omega arith) 0 0 0 refl refl refl old new c refl refl refl refl (omega arith);
      }

      module _ (l : length m.triangles / 3 ≤ t) where
        sound : AllSound m.triangles (site_count m.sites)
        sound = first_all g l

        pub ready : Ready m.triangles (site_count m.sites) old
        ready =
            let c = kept_start.0 in
            let room = kept_start.1.0 in
            record {
              named = record { threes = c.threes; small = few_entries c; named = sound_site m.triangles (site_count m.sites) c.threes sound };
              sound = sound;
              few = omega (arith, c.few_sites);
              for_work = room.for_work;
              for_pairs = room.for_pairs;
              for_hull = room.for_hull;
              for_chains = omega (arith, room.for_changes);
            }

        pub lists : Lists m.triangles m.halfedges m.hull (site_count m.sites) (length old.changes)
        lists =
            let c = kept_start.0 in
            record { same = c.same; some = omega (arith, c.three_on_hull); fits = c.hull_of_sites; for_changes = omega (arith, kept_start.1.0.for_changes) }

        pub mends_worked : (r k p q : ℕ) (new : Lent)
            → Finds (work_rules m.triangles (site_count m.sites)) 0 r × MendOutcome m.triangles m.halfedges m.hull (site_count m.sites) old new r k p q → Mends m old new r k p q
        mends_worked r k p q new (f, o) = record {
          number = finds_after (mend_start m.sites (length m.triangles) (length m.halfedges) (length m.hull) (mend_room_of m.sites m.triangles old)) kept_start (all_keep sound f);
          outcome = o;
        }
