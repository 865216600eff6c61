-- Cells that stand one after the other in an index list, with their offsets: what goes by the offsets meets each of them.
use Rattle.std.specs.Prelude.{◌≡◌, refl, get_or, take, drop}
use Rattle.std.proofs.Common.{ap, ◌∙◌, take-suc, take_all}
use mathlib.Core.List.{List, [], ◌∷◌, ◌++◌, append_assoc}
use Prim.Native.Nat.{ℕ, zero, suc, ◌+◌, ◌-◌, ◌≤◌, ◌<◌}
use native.Mathlib.Omega.{arith}
use Rattle.std.proofs.Math.ListN.{length, length-append}
use Rattle.std.proofs.Math.Seq.{drop-append_seam, take-append_seam}
use Rattle.cell_memory.specs.layout.Regions.{joined, offsets_from}
use Rattle.cell_memory.specs.layout.laws.Compacted.{joined_snoc}
use Rattle.printing.specs.parts.Listed.{listed_cell}

-- the cells before cell k, cell k, and those after it
pub joined_split : (cs : List (List ℕ)) (k : ℕ) → k < length cs → joined cs ≡ joined (take k cs) ++ get_or cs k [] ++ joined (drop (suc k) cs)
unfolding joined
joined_split [] k h = absurd (omega arith)
joined_split (c ∷ cs) zero h = refl
joined_split (c ∷ cs) (suc k) h = ap (λ (l : List ℕ). c ++ l) (joined_split cs k (omega arith)) ∙ simp append_assoc

-- a part from x to y
part : (a b c : List ℕ) (x y : ℕ) → x ≡ length a → y ≡ length a + length b → take (y - x) (drop x (a ++ (b ++ c))) ≡ b
part a b c x y p q =
    let n : y - x ≡ length b = omega arith in
    rw (n, p, drop-append_seam a (b ++ c)) (take-append_seam b c)

-- the offsets and the index list may go on after the cells
module _ (cs : List (List ℕ)) (more rest : List ℕ) where
  abbrev off : List ℕ
  off = offsets_from 0 cs ++ more

  abbrev ix : List ℕ
  ix = joined cs ++ rest

  pub from : (ds : List (List ℕ)) (n k : ℕ) → k ≤ length ds → get_or (offsets_from n ds ++ more) k 0 ≡ n + length (joined (take k ds))
  unfolding offsets_from joined
  from [] n zero h = omega arith
  from [] n (suc k) h = absurd (omega arith)
  from (d ∷ ds) n zero h = omega arith
  from (d ∷ ds) n (suc k) h = from ds (n + length d) k (omega arith) ∙ omega (arith, length-append d (joined (take k ds)))

  -- offset k is where the first k cells end
  pub offset_at : (k : ℕ) → k ≤ length cs → get_or off k 0 ≡ length (joined (take k cs))
  offset_at k h = from cs 0 k h ∙ omega arith

  pub next_at : (k : ℕ) → k < length cs → get_or off (suc k) 0 ≡ length (joined (take k cs)) + length (get_or cs k [])
  next_at k h = offset_at (suc k) h ∙ ap length (ap joined (take-suc cs k [] h) ∙ joined_snoc (take k cs) (get_or cs k [])) ∙ length-append (joined (take k cs)) (get_or cs k [])

  pub cell_at : (k : ℕ) → k < length cs → listed_cell off ix k ≡ get_or cs k []
  cell_at k h =
      let a = joined (take k cs) in
      let b = get_or cs k [] in
      let c = joined (drop (suc k) cs) in
      let q : ix ≡ a ++ (b ++ (c ++ rest)) = ap (λ (l : List ℕ). l ++ rest) (joined_split cs k h) ∙ append_assoc (a ++ b) c rest ∙ append_assoc a b (c ++ rest) in
      rw q (part a b (c ++ rest) (get_or off k 0) (get_or off (suc k) 0) (offset_at k (omega arith)) (next_at k h))

  pub total : get_or off (length cs) 0 ≡ length (joined cs)
  total = offset_at (length cs) (omega arith) ∙ ap (λ (l : List (List ℕ)). length (joined l)) (take_all (length cs) cs (omega arith))
