-- Where the pieces begin is written over whatever stood there: what the offsets held before makes no difference (`sheet_anyhow`).
use Rattle.std.specs.Prelude.{◌≡◌, refl, Float, get_or, set, take, replicate}
use Rattle.std.proofs.Math.Path.{sym}
use Rattle.std.proofs.Common.{ap, ◌∙◌, ⊎_elim, length-take, get_or-set_same, get_or-set_other, get_or-take, ext_get_or}
use mathlib.Core.List.{List, [], ◌∷◌, ◌++◌}
use Prim.Native.Nat.{ℕ, suc, ◌+◌, ◌-◌, ◌<◌}
use native.Mathlib.Omega.{arith}
use Rattle.std.proofs.Math.ListN.{length, length-set}
use Rattle.base.specs.common.laws.Decide.{eq_or_ne}
use Rattle.cell_memory.specs.layout.Cleared.{cleared_from}
use Rattle.plane.specs.declared.boxes.BoundingBox.{BoundingBox}
use Rattle.cutting_writer.specs.sites.Pieces.{Sheet, site_cut, sheet_from}
use Rattle.cutting.specs.pen.Pen.{Page}

abbrev on : Page → List ℕ → Sheet
on g off = record { page = g; offsets = off }

pub record AlikeTo (n : ℕ) (x y : Sheet) : Type 0 where
  pub page : x.page ≡ y.page
  pub long : length x.offsets ≡ length y.offsets
  pub entries : (k : ℕ) → k < n → get_or x.offsets k 0 ≡ get_or y.offsets k 0

alike_set : (k s at : ℕ) (off other : List ℕ) → length off ≡ length other → s < length off → k < suc s → ((j : ℕ) → j < s → get_or off j 0 ≡ get_or other j 0)
    → get_or (set off s at) k 0 ≡ get_or (set other s at) k 0
alike_set k s at off other long room low same =
    ⊎_elim
    (λ z. ap (λ (j : ℕ). get_or (set off s at) j 0) z
    ∙ get_or-set_same off s at 0 room
    ∙ sym (ap (λ (j : ℕ). get_or (set other s at) j 0) z ∙ get_or-set_same other s at 0 (omega (arith, long))))
    (λ z. get_or-set_other off s k at 0 z ∙ same k (omega (arith, z)) ∙ sym (get_or-set_other other s k at 0 z))
    (eq_or_ne k s)

module _ (b : BoundingBox) (sites : List Float) (tri he : List ℕ) (centers : ℕ) where
  alike_from : (table : List ℕ) (s : ℕ) (g : Page) (off other : List ℕ) → length off ≡ length other → s + length table < length off
      → ((k : ℕ) → k < s → get_or off k 0 ≡ get_or other k 0)
      → AlikeTo (s + length table + 1) (sheet_from b sites tri he centers s table (on g off)) (sheet_from b sites tri he centers s table (on g other))
  unfolding sheet_from
  alike_from [] s g off other long room same = record {
    page = refl;
    long = length-set off s g.pen.at ∙ long ∙ sym (length-set other s g.pen.at);
    entries = λ k low. alike_set k s g.pen.at off other long (omega arith) (omega arith) same;
  }
  alike_from (t ∷ table) s g off other long room same =
      let z : suc s + length table + 1 ≡ s + suc (length table) + 1 = omega arith in
      rw z at (alike_from table (suc s) (site_cut b sites tri he centers g t) (set off s g.pen.at) (set other s g.pen.at)
      (length-set off s g.pen.at ∙ long ∙ sym (length-set other s g.pen.at)) (omega (arith, length-set off s g.pen.at))
      (λ k low. alike_set k s g.pen.at off other long (omega arith) low same))

  pub sheet_anyhow : (table : List ℕ) (g : Page) (off other : List ℕ) → length off ≡ length other → length table < length off
      → AlikeTo (length table + 1) (sheet_from b sites tri he centers 0 table (on g off)) (sheet_from b sites tri he centers 0 table (on g other))
  sheet_anyhow table g off other long room = let z : 0 + length table + 1 ≡ length table + 1 = omega arith in rw z at (alike_from table 0 g off other long (omega arith)
      (λ k low. absurd (omega arith)))

pub alike_cleared : (n a : ℕ) (l m : List ℕ) → length l ≡ length m → ((k : ℕ) → k < n → get_or l k 0 ≡ get_or m k 0) → cleared_from n a l ≡ cleared_from n a m
alike_cleared n a l m long same =
    let z : take n l ≡ take n m = ext_get_or 0 (take n l) (take n m) (omega (arith, length-take n l, length-take n m, long)) (λ k p.
    get_or-take n l k 0 (omega (arith, length-take n l)) ∙ same k (omega (arith, length-take n l)) ∙ sym (get_or-take n m k 0 (omega (arith, length-take n l)))) in
    λ i. z i ++ replicate (long i - n) a
