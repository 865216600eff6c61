-- What a refused call leaves, by its promise: slices as they were up to 6, cleared from 7 on; an output slice as it was after 16 too; no count and no end.
use Rattle.std.specs.Prelude.{◌≡◌, List, ◌≢◌, ℕ, ◌≤◌, ◌<◌, Float, length, replicate}
use Rattle.std.proofs.Common.{◌∙◌, arith}
use borrow.Author.Tests.{ne_eqb, lt-ltb, le-ltb}
use Rattle.base.specs.numbers.Numbers.{EMPTY}
use Rattle.base.specs.common.Binary64 as R
use Rattle.mesh.specs.Accepted.{Mesh}
use Rattle.mesh_check.specs.whole.Answers.{work_after}
use Rattle.queries.specs.Answers.{out_after}
use Rattle.definition.specs.declared.Fault.{Fault}
use Rattle.definition.specs.Fault.{Outcome}
use Rattle.definition.specs.Build.{Built}
use Rattle.building.specs.answers.Promise.{BuildAnswer}
use Rattle.mesh_check.specs.whole.AtExit.{at_exit}
use Rattle.admission.specs.Slices.{Slices}
use Rattle.plane.specs.declared.given.Given.{Given}
use Rattle.cutting_calls.specs.cut_admission.CutSlices.{CutSlices}
use Rattle.voronoi.specs.Cuts.{Cut}
use Rattle.plane_calls.specs.Plane.{bit}
use Rattle.voronoi.specs.Walks.{Handed}
use Rattle.queries.specs.bulk_neighbours.Promise.{made_after}
use Rattle.voronoi.specs.Bulk.{AllNeighbours, EndsOfPaths}
use Rattle.flipping.specs.call.Flips.{FlipLists}
use Rattle.flipping.specs.call.FlipsTheorem.{flip_refused}
use Rattle.voronoi.specs.Flips.{Flip}
use Rattle.all_wkb.specs.Promise.{starts_after, images_after}
use Rattle.voronoi.specs.Maps.{AllWkb}
use Rattle.voronoi.specs.Outcomes.{SliceRefused, ListRefused, AllRefused, ImagesRefused, BuildRefused, CutRefused, FlipRefused}

module _ (r : ℕ) (n : r ≢ 0) where
  work_kept : (m : Mesh) (old : List ℕ) → r < 7 → work_after m old r ≡ old
  unfolding at_exit
  work_kept m old l = rw (ne_eqb r 0 n, lt-ltb r 7 l)

  work_cleared : (m : Mesh) (old : List ℕ) → 7 ≤ r → work_after m old r ≡ replicate (length old) EMPTY
  unfolding at_exit
  work_cleared m old l = rw (ne_eqb r 0 n, le-ltb r 7 l)

  after_kept : {A : Type 0} (blank : A) (made old : List A) → r < 7 → at_exit blank made old r ≡ old
  unfolding at_exit
  after_kept blank made old l = rw (ne_eqb r 0 n, lt-ltb r 7 l)

  after_cleared : {A : Type 0} (blank : A) (made old : List A) → 7 ≤ r → at_exit blank made old r ≡ replicate (length old) blank
  unfolding at_exit
  after_cleared blank made old l = rw (ne_eqb r 0 n, le-ltb r 7 l)

  out_kept : (whole old : List ℕ) → r < 7 → out_after whole old r ≡ old
  unfolding out_after at_exit
  out_kept whole old l = rw (ne_eqb r 16 (λ q. omega (arith, l, q)), ne_eqb r 0 n, lt-ltb r 7 l)

  out_cleared : (whole old : List ℕ) → r ≢ 16 → 7 ≤ r → out_after whole old r ≡ replicate (length old) EMPTY
  unfolding out_after at_exit
  out_cleared whole old m l = rw (ne_eqb r 16 m, ne_eqb r 0 n, le-ltb r 7 l)

  module _ {N : ℕ → Type 0} {m : Mesh} {whole w w' o o' : List ℕ} {k e : ℕ} (a : Handed N m whole w w' o o' k e r) where
    none_counted : k ≡ 0
    none_counted = a.count ∙ rw (ne_eqb r 0 n)

    not_ended : e ≡ 0
    unfolding bit
    not_ended = a.ended ∙ rw (ne_eqb r 0 n)

out_sixteen : (whole old : List ℕ) (r : ℕ) → r ≡ 16 → out_after whole old r ≡ old
unfolding out_after
out_sixteen whole old r q = rw q

-- ---- gathered
pub work_refused : (m : Mesh) {old new : List ℕ} {r : ℕ} → new ≡ work_after m old r → r ≢ 0 → SliceRefused EMPTY old new r
work_refused m {old} {new} {r} q z = record { kept = λ l. q ∙ work_kept r z m old l; cleared = λ l. q ∙ work_cleared r z m old l }

pub list_refused : {N : ℕ → Type 0} {m : Mesh} {whole w w' o o' : List ℕ} {k e r : ℕ}
    → Handed N m whole w w' o o' k e r → r ≢ 0 → ListRefused w w' o o' k e r
unfolding out_after
list_refused {m = m} {whole} {o = o} {r = r} a n = record {
  work = work_refused m a.work n;
  out = λ d. record { kept = λ l. a.out ∙ out_kept r n whole o l; cleared = λ l. a.out ∙ out_cleared r n whole o d l };
  out_16 = λ q. a.out ∙ out_sixteen whole o r q;
  count = none_counted r n a;
  ended = not_ended r n a;
}

pub slice_refused : {A : Type 0} (blank : A) (made old new : List A) (r : ℕ) → r ≢ 0 → new ≡ at_exit blank made old r → SliceRefused blank old new r
slice_refused blank made old new r n q = record { kept = λ l. q ∙ after_kept r n blank made old l; cleared = λ l. q ∙ after_cleared r n blank made old l }

pub slices_refused : {N : ℕ → Type 0} {table : List ℕ} {o : Outcome Fault Built} {old new : Slices} {r : ℕ} → BuildAnswer N table o old new r → r ≢ 0 → BuildRefused old new r
slices_refused a n = record {
  work = slice_refused EMPTY _ _ _ _ n a.work;
  vertices = slice_refused R.zero _ _ _ _ n a.vertices;
  indexes = slice_refused EMPTY _ _ _ _ n a.indexes;
  offsets = slice_refused EMPTY _ _ _ _ n a.offsets;
  counts = slice_refused EMPTY _ _ _ _ n a.counts;
}

pub cut_refused : {m : Mesh} {g : Given} {old new : CutSlices} {r k : ℕ} → Cut m g old new r k → r ≢ 0 → CutRefused old new r k
cut_refused {r = r} a n = record {
  work = slice_refused EMPTY _ _ _ _ n a.work;
  vertices = slice_refused R.zero _ _ _ _ n a.vertices;
  indexes = slice_refused EMPTY _ _ _ _ n a.indexes;
  offsets = slice_refused EMPTY _ _ _ _ n a.offsets;
  none = a.counted ∙ rw (ne_eqb r 0 n);
}

-- what was made of a slice of all sites' lists
module _ (made old : List ℕ) (r : ℕ) where
  made_refused : {new : List ℕ} → r ≢ 0 → new ≡ made_after made old r → r ≢ 16 → SliceRefused EMPTY old new r
  unfolding made_after at_exit
  made_refused n q d = record {
    kept = λ l. q ∙ rw (ne_eqb r 16 d, ne_eqb r 0 n, lt-ltb r 7 l);
    cleared = λ l. q ∙ rw (ne_eqb r 16 d, ne_eqb r 0 n, le-ltb r 7 l);
  }

  made_sixteen : r ≡ 16 → made_after made old r ≡ old
  unfolding made_after
  made_sixteen q = rw q

pub all_refused : (m : Mesh) (off ix : List ℕ) {w w' st st' o o' : List ℕ} {r : ℕ} → AllNeighbours m off ix w w' st st' o o' r → r ≢ 0 → AllRefused w w' st st' o o' r
all_refused m off ix {st = st} {o = o} {r = r} a n = record {
  work = work_refused m a.work n;
  starts = made_refused _ st r n a.starts;
  out = made_refused _ o r n a.out;
  kept_16 = λ q. (a.starts ∙ made_sixteen _ st r q, a.out ∙ made_sixteen _ o r q);
}

pub ends_refused : (m : Mesh) (s : ℕ) (points : List Float) {w w' o o' : List ℕ} {r : ℕ} → EndsOfPaths m s points w w' o o' r → r ≢ 0
    → SliceRefused EMPTY w w' r × SliceRefused EMPTY o o' r
ends_refused m s points a n = (work_refused m a.work n, slice_refused EMPTY _ _ _ _ n a.out)

pub lists_refused : (sites : ℕ) (hull : List ℕ) (a : ℕ) {old new : FlipLists} {r : ℕ} → Flip sites hull a old new r → r ≢ 0 → FlipRefused old new r
lists_refused sites hull a {old} {new} {r} x n =
    let k = flip_refused sites hull a old new r x n in
    record { triangles = k.0; halfedges = k.1; table = k.2; work = slice_refused EMPTY _ _ _ _ n x.work }

pub images_refused : {v : List Float} {off ix st st' o o' : List ℕ} {k r : ℕ} → AllWkb v off ix st st' o o' k r → r ≢ 0 → ImagesRefused st st' o o' k
unfolding starts_after images_after
images_refused {r = r} a n = record {
  starts = a.starts ∙ rw (ne_eqb r 0 n);
  out = a.output.list ∙ rw (ne_eqb r 0 n);
  written = a.output.place ∙ rw (ne_eqb r 0 n);
}
