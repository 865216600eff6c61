-- How pairs, hull and changes that were worked out stand in the slices.
use Rattle.std.specs.Prelude.{◌≡◌, ◌≢◌, List, ◌++◌, Bool, true, false, ℕ, ◌≤◌, length, get_or, take, replicate}
use Rattle.std.proofs.Common.{sym, ap, ◌∙◌, arith}
use Rattle.base.specs.common.Refusals.{Finds}
use Rattle.base.specs.common.laws.Refusals.{breaks, keeps}
use Rattle.base.specs.numbers.Numbers.{EMPTY, refused_twice}
use Rattle.mesh.specs.Mesh.{AllPaired}
use Rattle.mending.specs.pairs.Pairs.{pairs_of}
use Rattle.mending.specs.pairs.Chains.{PairAnswer}
use Rattle.mending.specs.pairs.laws.Mates.{pairs_length}
use Rattle.mending.specs.pairs.laws.Marking.{said, denied}
use Rattle.mending.specs.pairs.PairTheorem.{pairs_right}
use Rattle.mending.specs.border.Loop.{lead_table, loop_begin, hull_of}
use Rattle.mending.specs.border.Answer.{TracedHull}
use Rattle.mending.specs.border.laws.Leads.{leads_length}
use Rattle.mending.specs.border.laws.Tracing.{loop_few}
use Rattle.mending.specs.changes.Changes.{longer, changes_of, flat_changes}
use Rattle.mending.specs.changes.laws.Listing.{changes_few}
use Rattle.mending.specs.Mending.{work_rules, new_hull, pair_changes, hull_changes, MendOutcome}
use Rattle.mending.specs.slices.Lent.{Lent, lent, filled}
use Rattle.mending.specs.slices.Steps.{ListedBoth}
use Rattle.mending.specs.slices.laws.Filled.{sets_filled, take_filled}
use Rattle.mending.specs.Steps.{WorkedOut}
use Rattle.mending.specs.laws.Outcomes.{outcome_made}

-- the hull fits into as many entries as there are sites
pub hull_fits : (tri he : List ℕ) (first n : ℕ) → length (hull_of tri he first n) ≤ n
hull_fits tri he first n =
    let t = lead_table tri he n in
    omega (arith, leads_length tri he n (length tri), loop_few t (loop_begin t first) (length t) (loop_begin t first))

-- the pairs in a slice of w entries
module _ (tri : List ℕ) (b : Bool) (h : b ≡ true) (s s' : List ℕ) (w : ℕ) (zs : s ≡ replicate w EMPTY) (ls : length s ≡ w) (a : PairAnswer tri s s' b) (room : length tri ≤ w) where
  pairs_filled : s' ≡ filled w (pairs_of tri)
  pairs_filled = sets_filled (pairs_of tri) s s' w zs ls (rw (pairs_length tri (length tri)) room) (a.pairs h)

  the_pairs : take (length tri) s' ≡ pairs_of tri
  the_pairs = take_filled (pairs_of tri) s' w (length tri) pairs_filled (pairs_length tri (length tri))

  pub pairs_long : length (take (length tri) s') ≡ length tri
  pairs_long = ap length the_pairs ∙ pairs_length tri (length tri)

  pub pairs_paired : AllPaired tri (take (length tri) s')
  pairs_paired = rw the_pairs (pairs_right tri (said b h a.single))

-- rules 19, 9 and 10
module _ (tri : List ℕ) (first n : ℕ) (old new : Lent) where
  pub worked_twice : (b : Bool) → b ≡ false → (s s' : List ℕ) → PairAnswer tri s s' b → WorkedOut tri first n old new refused_twice 0
  worked_twice b h s s' a = record {
    found = breaks (denied b h a.single);
    work = λ z. absurd (omega arith);
    pairs = λ z. absurd (omega arith);
    mended = λ z. absurd (omega arith);
    count = λ z. absurd (omega arith);
  }

  pub worked_hull : (b : Bool) (h : b ≡ true) (s : List ℕ) (zs : s ≡ replicate (length old.pairs) EMPTY) (ls : length s ≡ length old.pairs)
      (a : PairAnswer tri s new.pairs b) (room : length tri ≤ length old.pairs) (w₁ m : List ℕ) → length w₁ ≡ length old.work
      → m ≡ replicate (length old.mended) EMPTY → length m ≡ length old.mended → n ≤ length old.mended
      → (r k : ℕ) → TracedHull tri (take (length tri) new.pairs) first n w₁ new.work m new.mended r k → WorkedOut tri first n old new r k
  worked_hull b h s zs ls a room w₁ m lw zm lm fits r k x =
      let t = rw (the_pairs tri b h s new.pairs (length old.pairs) zs ls a room) at x in
      record {
        found = keeps (said b h a.single) t.found;
        work = λ z. rw (← lw) (t.table z);
        pairs = λ z. pairs_filled tri b h s new.pairs (length old.pairs) zs ls a room;
        mended = λ z. sets_filled (hull_of tri (pairs_of tri) first n) m new.mended (length old.mended) zm lm (omega (arith, hull_fits tri (pairs_of tri) first n)) t.mended;
        count = λ z. t.count;
      }

-- where it is refused no count is told
pub uncounted : {tri : List ℕ} {first n : ℕ} {old new : Lent} {r k : ℕ} → WorkedOut tri first n old new r k → r ≢ 0 → WorkedOut tri first n old new r 0
uncounted x z = record { found = x.found; work = x.work; pairs = x.pairs; mended = x.mended; count = λ e. absurd (z e) }

-- what was worked out, and the list of changes to it
module _ (tri he hull : List ℕ) (n : ℕ) (old mid : Lent) (s k : ℕ) (w : WorkedOut tri (get_or hull 0 0) n old mid s k) (z : s ≡ 0) where
  part_pairs : take (length tri) mid.pairs ≡ pairs_of tri
  part_pairs = take_filled (pairs_of tri) mid.pairs (length old.pairs) (length tri) (w.pairs z) (pairs_length tri (length tri))

  part_hull : take k mid.mended ≡ new_hull tri hull n
  part_hull = take_filled (new_hull tri hull n) mid.mended (length old.mended) k (w.mended z) (sym (w.count z))

  pub part_long : length (take (length tri) mid.pairs) ≡ length tri
  part_long = ap length part_pairs ∙ pairs_length tri (length tri)

  pub part_few : k ≤ n
  part_few = omega (arith, w.count z, hull_fits tri (pairs_of tri) (get_or hull 0 0) n)

  pub sound_made : (c : List ℕ) (p q : ℕ) → ListedBoth he (take (length tri) mid.pairs) hull (take k mid.mended) mid.changes c p q → length mid.changes ≡ length old.changes
      → Finds (work_rules tri n) 0 s × MendOutcome tri he hull n old (lent mid.work mid.pairs mid.mended c) s k p q
  sound_made c p q x long =
      let y = rw (part_pairs, part_hull) at x in (
        w.found,
        outcome_made tri he hull n old s z (lent mid.work mid.pairs mid.mended c) k p q (w.work z) (w.pairs z) (w.mended z)
            (y.changes ∙ ap (λ j. filled j (flat_changes (pair_changes tri he ++ hull_changes tri hull n))) long) (w.count z) y.first y.then,
      )

  pub pairs_few : (p : ℕ) → length he ≡ length tri → p ≡ length (changes_of he (take (length tri) mid.pairs)) → p ≤ length tri
  pairs_few p same e = omega (arith, changes_few he (take (length tri) mid.pairs) (longer he (take (length tri) mid.pairs)), part_long)

  pub places_few : (q : ℕ) → length hull ≤ n → q ≡ length (changes_of hull (take k mid.mended)) → q ≤ n
  places_few q fits e = omega (arith, changes_few hull (take k mid.mended) (longer hull (take k mid.mended)), ap length part_hull, hull_fits tri (pairs_of tri) (get_or hull 0 0) n)
