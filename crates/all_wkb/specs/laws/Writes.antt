-- The images written one after the other, and what is left of the starts filled.
use Rattle.std.specs.Prelude.{◌≡◌, refl, List, [], ◌++◌, Float, take, drop, replicate}
use Rattle.std.proofs.Common.{sym, ap, ◌∙◌, append-nil, append_assoc, arith, length-drop, drop_of_length-le, length-take-le, take_all, take_at, drop-drop}
use Prim.Native.Nat.{ℕ, suc, ◌+◌, ◌-◌, ◌/◌, ◌≤◌, ◌<◌}
use Rattle.std.proofs.Math.ListN.{length}
use Rattle.std.proofs.lemmas.List.Edits.{sets, sets-eq}
use Rattle.std.proofs.Math.Seq.{length-sets}
use borrow.Rule.Slice.PartMut.{mid_of, put_mid}
use Rattle.base.specs.common.laws.Stores.{sets_all}
use Rattle.walks.specs.shared.Cells.{cell_of}
use Rattle.arguments.specs.entries.Named.{EntriesNamed}
use Rattle.octets.specs.Wrote.{Wrote}
use Rattle.cell_memory.specs.layout.Regions.{offsets_from}
use Rattle.cell_memory.specs.layout.Cleared.{cleared_from, padded}
use Rattle.queries.specs.all_neighbours.Steps.{Appended, WrittenLists}
use Rattle.queries.specs.all_neighbours.laws.Lists.{cuts_length}
use Rattle.areas.specs.Promise.{entries_of_all}
use Rattle.areas.specs.laws.Entries.{cell_named}
use Rattle.wkb.specs.Polygon.{patterns}
use Rattle.wkb.specs.Promise.{image, ImageFits}
use Rattle.all_wkb.specs.Steps.{ImagesNamed}
use Rattle.all_wkb.specs.laws.Sizes.{image_fits}
use Rattle.all_wkb.specs.Promise.{image_at, images_of, no_start, starts_after, images_after, AllNumber, AllWkbAnswer}

-- a text written at the beginning of the part from place n on
pub appended : (text old : List ℕ) (n : ℕ) {ys : List ℕ} {w : ℕ} → n + length text ≤ length old → Wrote (mid_of n (length old - n) old) ys 0 w text
    → Appended text old (put_mid n (length old - n) old ys) n (n + w)
appended text old n {ys} {w} room p =
    let k = length old - n in
    let mid : take k (drop n old) ≡ drop n old = take_all k (drop n old) (omega (arith, length-drop n old)) in
    let post : drop k (drop n old) ≡ [] = drop_of_length-le (drop n old) {i = k} (omega (arith, length-drop n old)) in
    let fits : length text ≤ length (drop n old) = omega (arith, length-drop n old) in
    let ys-are : ys ≡ text ++ drop (n + length text) old =
    p.list ∙ ap (λ (l : List ℕ). sets l 0 text) mid ∙ sets_all text (drop n old) fits ∙ ap (λ (l : List ℕ). text ++ l) (drop-drop (length text) n old) in
    record {
      end = omega (arith, p.place);
      entries = rw (post, append-nil, ys-are) (sym (append_assoc (take n old) text (drop (n + length text) old)) ∙ sym (sets-eq text old n room));
    }

-- of cell s, `cell` being its entries as they are lent
module _ (v : List Float) (off ix : List ℕ) (s n : ℕ) (old : List ℕ) where
  part_long : n ≤ length old → length (mid_of n (length old - n) old) ≡ length old - n
  part_long h = length-take-le (length old - n) (drop n old) (omega (arith, length-drop n old))

  pub part_room : {cell : List ℕ} → ImagesNamed off ix → EntriesNamed (entries_of_all off ix) (length v / 2) → s + 1 < length off → n + length (image_at v off ix s) ≤ length old → cell ≡ cell_of off ix s
      → EntriesNamed cell (length v / 2) × ImageFits (length cell) (length (mid_of n (length old - n) old))
  part_room a b h room e = rw (e, part_long (omega arith)) (
    cell_named off ix a.cut s h b,
    image_fits v off ix s (length old - n) a.few (omega arith),
  )

  pub appended_cell : {cell ys : List ℕ} {w : ℕ} → n + length (image_at v off ix s) ≤ length old → cell ≡ cell_of off ix s
      → Wrote (mid_of n (length old - n) old) ys 0 w (image (patterns v) cell) → Appended (image_at v off ix s) old (put_mid n (length old - n) old ys) n (n + w)
  appended_cell room e p = appended (image_at v off ix s) old n room (rw e at p)

-- writing them changes no length
pub starts_kept : {lists : List (List ℕ)} {st st' o o' : List ℕ} {w : ℕ} → WrittenLists lists st st' o o' w → length st' ≡ length st
starts_kept {lists} {st} x = ap length x.cuts ∙ length-sets st 0 (offsets_from 0 lists)

-- the starts written at the beginning, and what is behind them filled
filled : (made old : List ℕ) {mid new : List ℕ} {n : ℕ} (value : ℕ) → length made ≤ length old → n ≡ length made → mid ≡ sets old 0 made → new ≡ cleared_from n value mid
    → new ≡ padded (length old) value made
filled made old {mid} {new} {n} value h q w e =
    e ∙ rw (w, q, length-sets, sets_all made old h)
    (ap (λ (l : List ℕ). l ++ replicate (length old - length made) value) (take_at made (drop (length made) old) (length made) refl))

module _ {v : List Float} {off ix st o : List ℕ} {r : ℕ} (a : AllNumber v off ix (length st) (length o) r) (some : 0 < length off) (one_more : length off ≤ length st) where
  pub given_all : {st₁ st₂ o₁ : List ℕ} {w : ℕ} → r ≡ 0 → WrittenLists (images_of v off ix) st st₁ o o₁ w → st₂ ≡ cleared_from (length off) no_start st₁
      → AllWkbAnswer v off ix st st₂ o o₁ w 0
  unfolding starts_after images_after
  given_all z x e =
      let long : length (offsets_from 0 (images_of v off ix)) ≡ suc (length off - 1) = cuts_length (image_at v off ix) (length off - 1) in
      let many : length off ≡ length (offsets_from 0 (images_of v off ix)) = omega (arith, long) in
      record {
        number = rw z at a;
        starts = filled (offsets_from 0 (images_of v off ix)) st no_start (omega (arith, long)) many x.cuts e;
        output = record { list = x.entries; place = omega (arith, x.end) };
      }
