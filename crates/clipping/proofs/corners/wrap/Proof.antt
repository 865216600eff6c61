-- `clipping::corners::wrap` meets its contract. What the definition still puts from corner c on, after the entries written, is the whole wrap;
-- each corner taken strikes out an owner, so that at most four are and the loop ends.
use Prim.Native.Nat.{ℕ, ◌+◌, ◌-◌, ◌≤◌, ◌<◌}
use mathlib.Core.Path.{◌≡◌, refl, sym, ◌∙◌}
use native.Mathlib.Omega.{arith}
use lib.ListN.{length, set, length-set}
use Rattle.base.specs.common.Count.{occ}
use Rattle.base.specs.common.laws.Count.{occ_length}
use Rattle.base.specs.numbers.Numbers.{EMPTY}
use Rattle.definition.specs.Cell.{wraps}
use Rattle.clipping.specs.corners.laws.CellEntries.{occ_set}
use Rattle.definition.proofs.laws.Puts.{goes_own}
use Rattle.clipping.specs.corners.laws.CornerWrap.{WrapLeft, going_start, going_on, going_end, wraps_go, wraps_stop}
use Rattle.clipping.proofs.corners.wrap.Statement.{statement}
use Rattle.clipping.proofs.corners.wrap.Tie as tie

abbrev invariant-loop : tie.invariant-loop-last
invariant-loop ix₀ centers site stop edge owners₀ end₀ last₀ c₀ ix owners end last c =
    (c < 4)
    × (length owners ≡ 4)
    × (end₀ ≤ end)
    × (end + occ site owners ≡ end₀ + occ site owners₀)
    × (length ix ≡ length ix₀)
    × WrapLeft ix₀ end₀ last₀ (wraps 4 centers site stop edge owners₀) ix end last (wraps (4 + end₀ - end) centers site stop c owners)
    × ((n : ℕ) → centers + 4 ≤ n → last₀ < n → last < n)

abbrev decreases-loop : tie.decreases-loop-last
decreases-loop ix₀ centers site stop edge owners₀ end₀ last₀ c₀ ix owners end last c = occ site owners

abbrev Start : tie.In-loop-last invariant-loop decreases-loop → tie.Start invariant-loop decreases-loop
Start c = c.before.before.before.before.before

loop-holds : tie.Need-loop-last-init invariant-loop decreases-loop
loop-holds c =
    let a = c.args in
    let e : 4 + a.cell.end - a.cell.end ≡ 4 = omega arith in
    (omega arith, omega arith, omega arith, refl, refl, rw e (going_start _ _ _ _), λ n h k. k)

-- a corner that is taken is one owner less
struck :
    (c : tie.In-loop-last invariant-loop decreases-loop)
    → occ (Start c).args.site (set c.loop-last.owners c.loop-last.c EMPTY) + 1
    ≡ occ (Start c).args.site c.loop-last.owners
struck c =
    let a = (Start c).args in
    let l = c.loop-last in
    occ_set a.site EMPTY l.owners l.c (omega arith)
    (goes_own a.site a.stop l.c l.owners (sym c.goes.ensures ∙ c.loop-last-test.true))
    (λ e. omega arith)

mul-indexes : tie.Need-offset_bounds-indexes-end invariant-loop decreases-loop
mul-indexes c = omega (arith, struck c)

slice_write-indexes : tie.Need-bounds-indexes-end invariant-loop decreases-loop
slice_write-indexes c = omega (arith, struck c)

add-end : tie.Need-overflow_add-end invariant-loop decreases-loop
add-end c = omega (arith, struck c)

loop-less : tie.Need-loop-last-smaller invariant-loop decreases-loop
loop-less c = omega (arith, struck c)

loop-again : tie.Need-loop-last-preserved invariant-loop decreases-loop
loop-again c =
    let a = (Start c).args in
    let l = c.loop-last in
    let few : occ a.site a.cell.owners ≤ length a.cell.owners = occ_length a.site a.cell.owners in
    let one = struck c in
    let e : 4 + a.cell.end - l.end - 1 ≡ 4 + a.cell.end - (l.end + 1) = omega arith in (
      omega arith,
      simp length-set l.invariant.1,
      omega arith,
      omega arith,
      simp length-set l.invariant.4,
      rw (← e) (going_on l.invariant.5 _ _ (wraps_go _ _ _ _ _ _ (omega arith) (sym c.goes.ensures ∙ c.loop-last-test.true))),
      λ n h k. omega arith,
    )

returns : tie.Need-returns invariant-loop decreases-loop
returns c =
    let a = c.args in
    let l = c.loop-last in (
      going_end l.invariant.5 a.site l.owners (wraps_stop _ _ _ _ _ _ (sym c.goes.ensures ∙ c.loop-last-test.false)) a.cell _ refl refl refl refl refl l.invariant.1 (omega arith),
      l.invariant.6,
    )

pub wrap_spec : {M : Type 1} → statement M
wrap_spec =
    tie.close
    (tie.spec invariant-loop decreases-loop loop-holds (λ c κs. omega arith) (λ c. omega arith) (λ c. omega arith) mul-indexes
    slice_write-indexes (λ c. omega arith) (λ c. omega arith) add-end (λ c. omega arith) loop-less loop-again
    (λ c. omega arith) returns)
