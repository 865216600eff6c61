-- The loop that writes list after list, and what is left of the slices cleared.
use Rattle.std.specs.Prelude.{◌≡◌, List, [], ◌∷◌, ◌++◌, ℕ, suc, ◌+◌, ◌-◌, ◌≤◌, ◌<◌, Bool, true, false, length, set, take, drop, replicate}
use Rattle.std.proofs.Math.Path.{refl, sym}
use Rattle.std.proofs.Common.{ap, ◌∙◌, append-nil, append_assoc, add-one, arith, length-drop, drop_of_length-le, take_all, take_at, drop-drop}
use Rattle.std.proofs.lemmas.List.Edits.{sets, sets-eq}
use Rattle.std.proofs.Math.Seq.{length-sets}
use borrow.Rule.Slice.PartMut.{mid_of, put_mid}
use Rattle.base.specs.common.laws.Stores.{sets_join, sets_all}
use Rattle.base.specs.numbers.Numbers.{EMPTY}
use Rattle.mesh.specs.Mesh.{whole_of}
use Rattle.walks.specs.shared.Cells.{share_edge_of}
use Rattle.walks.specs.neighbours.Neighbours.{starts_of}
use Rattle.walks.specs.neighbours.Fills.{Fills}
use Rattle.queries.specs.clipped.Clipped.{clipped_of}
use Rattle.cell_memory.specs.layout.Cleared.{cleared_from, padded}
use Rattle.cell_memory.specs.layout.Regions.{joined, offsets_from}
use Rattle.queries.specs.all_neighbours.Lists.{nothing_lent, list_from, lists_to}
use Rattle.queries.specs.all_neighbours.Steps.{Appended, WrittenLists, MadeLists}
use Rattle.queries.specs.all_neighbours.laws.Lists.{end_of_lists, joined_next, end_next, end_mono, cuts_next, cuts_length}

-- the list of a site as it is handed out
module _ (tri he off ix : List ℕ) (s e : ℕ) {old new : List ℕ} {count : ℕ} {b : Bool} where
  pub plain_list : nothing_lent (length off) (length ix) ≡ true → Fills (starts_of tri he (whole_of he e)) old new count b → Fills (list_from tri he off ix s e) old new count b
  unfolding list_from
  plain_list q f = rw q f

  pub clipped_list : nothing_lent (length off) (length ix) ≡ false → Fills (clipped_of tri he (share_edge_of off ix s) (whole_of he e)) old new count b
      → Fills (list_from tri he off ix s e) old new count b
  unfolding list_from
  clipped_list q f = rw q f

-- a list that fits, handed out into the slice from place n on
pub fills_whole : {list old new : List ℕ} {count : ℕ} {b : Bool} → Fills list old new count b → length list ≤ length old
    → (count ≡ length list) × (new ≡ list ++ drop (length list) old)
fills_whole {list} {old} f h =
    let t : take (length old) list ≡ list = take_all (length old) list h in
    let c = f.counted ∙ ap length t in
    (c, f.entries ∙ rw (t, c))

-- the same, the slice being a part of a longer one, from place n on
pub appended : (list old : List ℕ) (n : ℕ) {ys : List ℕ} {count : ℕ} {b : Bool} → n + length list ≤ length old → Fills list (mid_of n (length old - n) old) ys count b
    → Appended list old (put_mid n (length old - n) old ys) n (n + count)
appended list old n {ys} {count} room f =
    let k = length old - n in
    let mid : take k (drop n old) ≡ drop n old = take_all k (drop n old) (omega (arith, length-drop n old)) in
    let post : drop k (drop n old) ≡ [] = drop_of_length-le (drop n old) {i = k} (omega (arith, length-drop n old)) in
    let w = fills_whole f (rw mid (omega (arith, length-drop n old))) in
    let ys-are : ys ≡ list ++ drop (n + length list) old = w.1 ∙ ap (λ (l : List ℕ). list ++ drop (length list) l) mid ∙ ap (λ (l : List ℕ). list ++ l) (drop-drop (length list) n old) in
    record {
      end = ap (λ (c : ℕ). n + c) w.0;
      entries = rw (post, append-nil, ys-are) (sym (append_assoc (take n old) list (drop (n + length list) old)) ∙ sym (sets-eq list old n room));
    }

-- a store of 0 at the beginning that is written over
over_zero : (st cuts : List ℕ) → 0 < length st → 0 < length cuts → sets (set st 0 0) 0 cuts ≡ sets st 0 cuts
over_zero [] cuts h g = absurd (omega arith)
over_zero (x ∷ st) [] h g = absurd (omega arith)
over_zero (x ∷ st) (c ∷ cuts) h g = refl

module _ (f : ℕ → List ℕ) (n : ℕ) where
  -- s lists are written, st and o being the slices where the loop began
  pub record WritingLists (st o st' o' : List ℕ) (w s : ℕ) : Type 0 where
    pub low : s ≤ n
    pub end : w ≡ end_of_lists f s
    pub cuts : st' ≡ sets st 0 (offsets_from 0 (lists_to f s))
    pub entries : o' ≡ sets o 0 (joined (lists_to f s))
    pub long : length st' ≡ length st
    pub out_long : length o' ≡ length o

  pub writing_start : (st o : List ℕ) → 0 < length st → WritingLists (set st 0 0) o (set st 0 0) o 0 0
  unfolding lists_to joined offsets_from
  writing_start st o h =
      record { low = omega arith; end = refl; cuts = sym (over_zero st (0 ∷ []) h (omega arith)); entries = refl; long = refl; out_long = refl }

  module _ {st o st' o' : List ℕ} {w s : ℕ} (g : WritingLists st o st' o' w s) where
    -- room for the next
    pub next_fits : end_of_lists f n ≤ length o → s < n → w + length (f s) ≤ length o'
    next_fits room h = omega (arith, end_next f s, end_mono f (suc s) n h, g.end, g.out_long)

    pub next_few : end_of_lists f n < EMPTY → s < n → w + length (f s) < EMPTY
    next_few few h = omega (arith, end_next f s, end_mono f (suc s) n h, g.end)

    pub writing_step : {o'' : List ℕ} {r : ℕ} → s < n → Appended (f s) o' o'' w r → WritingLists st o (set st' (s + 1) r) o'' r (s + 1)
    writing_step {o''} {r} h a = rw (add-one s) (record {
      low = h;
      end = r_is;
      cuts = cuts_are;
      entries = entries_are;
      long = length-sets st' (suc s) (r ∷ []) ∙ g.long;
      out_long = ap length a.entries ∙ length-sets o' w (f s) ∙ g.out_long;
    })
      where
        r_is : r ≡ end_of_lists f (suc s)
        r_is = a.end ∙ ap (λ (k : ℕ). k + length (f s)) g.end ∙ sym (end_next f s)

        cuts_are : set st' (suc s) r ≡ sets st 0 (offsets_from 0 (lists_to f (suc s)))
        cuts_are =
            let l : suc s ≡ 0 + length (offsets_from 0 (lists_to f s)) = omega (arith, cuts_length f s) in
            ap (λ (l : List ℕ). set l (suc s) r) g.cuts
            ∙ ap (set (sets st 0 (offsets_from 0 (lists_to f s))) (suc s)) r_is
            ∙ sets_join (offsets_from 0 (lists_to f s)) (end_of_lists f (suc s) ∷ []) st 0 (suc s) l
            ∙ ap (sets st 0) (sym (cuts_next f s))

        entries_are : o'' ≡ sets o 0 (joined (lists_to f (suc s)))
        entries_are =
            let l : w ≡ 0 + length (joined (lists_to f s)) = omega (arith, g.end) in
            a.entries ∙ ap (λ (l : List ℕ). sets l w (f s)) g.entries
            ∙ sets_join (joined (lists_to f s)) (f s) o 0 w l ∙ ap (sets o 0) (sym (joined_next f s))

  pub writing_end : (st : List ℕ) {o st' o' : List ℕ} {w s : ℕ} → 0 < length st → WritingLists (set st 0 0) o st' o' w s → n ≤ s → WrittenLists (lists_to f n) st st' o o' w
  writing_end st {s = s} some g h =
      let q : s ≡ n = omega (arith, g.low) in
      let c = rw q at g.cuts in
      record {
        end = rw q at g.end;
        cuts = c ∙ over_zero st (offsets_from 0 (lists_to f n)) some (omega (arith, cuts_length f n));
        entries = rw q at g.entries;
      }

-- a list written at the beginning, and what is behind it cleared
written_cleared : (made old : List ℕ) {mid new : List ℕ} {n : ℕ} → length made ≤ length old → n ≡ length made → mid ≡ sets old 0 made → new ≡ cleared_from n EMPTY mid
    → new ≡ padded (length old) EMPTY made
written_cleared made old {mid} {new} {n} h q w e =
    e ∙ rw (w, q, length-sets, sets_all made old h)
    (ap (λ (l : List ℕ). l ++ replicate (length old - length made) EMPTY) (take_at made (drop (length made) old) (length made) refl))

pub made_lists : (f : ℕ → List ℕ) (n : ℕ) (st o : List ℕ) {st₁ st₂ o₁ o₂ : List ℕ} {w : ℕ} → n < length st → end_of_lists f n ≤ length o
    → WrittenLists (lists_to f n) st st₁ o o₁ w → st₂ ≡ cleared_from (n + 1) EMPTY st₁ → o₂ ≡ cleared_from w EMPTY o₁ → MadeLists (lists_to f n) st st₂ o o₂
made_lists f n st o one_more room x p q = record {
  cuts = written_cleared (offsets_from 0 (lists_to f n)) st (omega (arith, cuts_length f n)) (add-one n ∙ sym (cuts_length f n)) x.cuts p;
  entries = written_cleared (joined (lists_to f n)) o room x.end x.entries q;
}
