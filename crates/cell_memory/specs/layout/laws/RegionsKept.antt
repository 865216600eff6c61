-- The regions end where the last one does, so they stand in every list that agrees up to there.
use Rattle.std.specs.Prelude.{◌≡◌, List, ℕ, zero, suc, ◌+◌, ◌-◌, ◌≤◌, ◌<◌, length, get_or}
use Rattle.std.proofs.Common.{◌∙◌, arith}
use Rattle.cell_memory.specs.layout.Regions.{Regions}
use Rattle.cell_memory.specs.layout.laws.Regions.{regions_rising}

-- where a region ends, all of them have not ended before
upto : (starts : List ℕ) (n k s : ℕ) → s + k ≡ n → ((t : ℕ) → t < n → get_or starts t 0 ≤ get_or starts (t + 1) 0) → get_or starts s 0 ≤ get_or starts n 0
upto starts n zero s q rise = let z : s ≡ n = omega arith in rw z (omega arith)
upto starts n (suc k) s q rise = omega (arith, rise s (omega arith), upto starts n k (s + 1) (omega arith) rise)

pub regions_agree :
    {ix new starts : List ℕ} {cells : List (List ℕ)}
    → Regions ix starts cells
    → get_or starts (length cells) 0 ≤ length new
    → ((k : ℕ) → k < get_or starts (length cells) 0 → get_or new k 0 ≡ get_or ix k 0)
    → Regions new starts cells
regions_agree {ix} {new} {starts} {cells} r l same = record {
  one_more = r.one_more;
  within = l;
  each = λ s h.
      let g = r.each s h in
      let q : s + 1 ≡ suc s = omega arith in
      let u : get_or starts (suc s) 0 ≤ get_or starts (length cells) 0 = rw q at (upto starts (length cells) (length cells - (s + 1)) (s + 1) (omega arith) (regions_rising ix starts cells r).rise) in
      record {
        fits = g.fits;
        entries = λ i k. same (get_or starts s 0 + i) (omega (arith, g.fits)) ∙ g.entries i k;
        real = g.real;
        after = λ k a b. same k (omega arith) ∙ g.after k a b;
      };
}
