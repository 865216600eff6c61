-- The tests as the code makes them, and what the lists name.
use Rattle.std.specs.Prelude.{◌≡◌, Bool, true, false, not, List, [], ◌⊎◌, ℕ, ◌+◌, ◌-◌, ◌*◌, ◌/◌, ◌%◌, ◌^◌, ◌≤◌, ◌<◌, T, eqb, Float, length, get_or}
use Rattle.std.proofs.Math.Path.{refl, sym, ap}
use Rattle.std.proofs.Common.{◌∙◌, subst, le_of_eq, arith, eqb-true}
use Rattle.std.proofs.Math.Logic.{inl, inr, ⊎_elim}
use Rattle.std.proofs.Math.Dec.{ltb}
use Rattle.std.specs.Float.{binary64}
use Rattle.std.specs.Float.Ieee.{nan_bits, lt}
use Rattle.std.proofs.Math.ListN.{drop_of_length-le}
use Rattle.base.specs.common.Binary64.{◌⊞◌, ◌⊟◌, ◌⊠◌}
use Rattle.base.specs.common.laws.And.{and_left, and_right}
use Rattle.ring_area.specs.rounded.laws.Patterns.{no_nan}
use Rattle.ring_area.specs.lowest.Lowest.{lowest}
use Rattle.ring_area.specs.lowest.laws.Loops.{no_both}
use Rattle.root.specs.Root.{magnitude}
use Rattle.plane.specs.points.Flat.{point_at}
use Rattle.plane.specs.declared.points.Point.{Point}
use Rattle.plane.specs.boxes.Box.{width_of, height_of}
use Rattle.plane.specs.declared.boxes.BoundingBox.{BoundingBox}
use Rattle.walks.specs.shared.Cells.{Cells, cell_of}
use Rattle.arguments.specs.entries.Named.{EntriesNamed}
use Rattle.areas.specs.laws.Entries.{cell_named}
use Rattle.auditing.specs.nearer.Nearer.{tolerance_of, far_of, beyond, no_lists, other_at, held_count, beyond_at, nearer_at, corner_nearer, cell_nearer, site_nearer}
use Rattle.auditing.specs.nearer.Steps.{HeldNames, HeldKept, PiecesKept}

-- ---- no lists: both are empty
module _ (starts others : List ℕ) where
  pub lists_empty : no_lists starts others ≡ true → (starts ≡ []) × (others ≡ [])
  unfolding no_lists
  lists_empty e = (
    drop_of_length-le starts {i = 0} (le_of_eq (eqb-true (length starts) 0 (and_left (eqb (length starts) 0) (eqb (length others) 0) e))),
    drop_of_length-le others {i = 0} (le_of_eq (eqb-true (length others) 0 (and_right (eqb (length starts) 0) (eqb (length others) 0) e))),
  )

  pub part_none : (s : ℕ) → no_lists starts others ≡ true → others ≡ cell_of starts others s
  unfolding cell_of
  part_none s e = let h = lists_empty e in rw (h.0, h.1) refl

  pub not_none : {b : Bool} {P : Type 0} → b ≡ no_lists starts others → b ≡ false → (no_lists starts others ≡ true) ⊎ P → P
  not_none e f (inl h) = absurd (no_both (sym h ∙ sym e ∙ f))
  not_none e f (inr p) = p

pub list_of : {b t : Bool} → b ≡ t → b ≡ true → t ≡ true
list_of e f = sym e ∙ f

-- ---- the tolerance
pub tolerance_number : (bits : ℕ) → bits ≤ 52 → T (not (nan_bits binary64 ((1023 - bits) * 2 ^ 52)))
tolerance_number bits h = no_nan ((1023 - bits) * 2 ^ 52) ((1023 - bits) * 2 ^ 52) (small bits) (less bits)
  where
    small : (b : ℕ) → (1023 - b) * 2 ^ 52 % 2 ^ 63 ≡ (1023 - b) * 2 ^ 52
    small b = omega arith

    less : (b : ℕ) → (1023 - b) * 2 ^ 52 < 0x7FF0_0000_0000_0000
    less b = omega arith

pub far_is : (b : BoundingBox) (bits : ℕ) {x y t : Float} → x ≡ width_of b → y ≡ height_of b → t ≡ tolerance_of bits → (x ⊞ y) ⊠ t ≡ far_of b bits
unfolding far_of
far_is b bits e f g = rw (e, f, g) refl

pub past_is : (far : Float) (v s o : Point) {x y : Float} → x ≡ magnitude (o.x ⊟ s.x) → y ≡ magnitude (o.y ⊟ s.y)
    → lt (far ⊠ (x ⊞ y)) ((o.x ⊟ s.x) ⊠ ((v.x ⊟ s.x) ⊞ (v.x ⊟ o.x)) ⊞ (o.y ⊟ s.y) ⊠ ((v.y ⊟ s.y) ⊞ (v.y ⊟ o.y))) ≡ beyond far v s o
unfolding beyond
past_is far v s o e f = rw (e, f) refl

-- ---- one other
pub other_all : (all : Bool) (part : List ℕ) (j : ℕ) → all ≡ true → j ≡ other_at all part j
unfolding other_at
other_all all part j e = rw e refl

pub other_listed : (all : Bool) (part : List ℕ) (j : ℕ) {w : ℕ} → all ≡ false → w ≡ get_or part j 0 → w ≡ other_at all part j
unfolding other_at
other_listed all part j e f = rw e f

pub other_listed_there : (all : Bool) {P : Type 0} → (all ≡ true) ⊎ P → all ≡ false → P
other_listed_there all (inl e) f = absurd (no_both (sym e ∙ f))
other_listed_there all (inr p) f = p

pub count_all : (all : Bool) (part : List ℕ) (n : ℕ) → all ≡ true → n ≡ held_count all part n
unfolding held_count
count_all all part n e = rw e refl

pub count_listed : (all : Bool) (part : List ℕ) (n : ℕ) → all ≡ false → length part ≡ held_count all part n
unfolding held_count
count_listed all part n e = rw e refl

both : (all : Bool) → (all ≡ true) ⊎ (all ≡ false)
both true = inl refl
both false = inr refl

module _ (all : Bool) (part : List ℕ) (n j : ℕ) {k : ℕ} (c : k ≡ held_count all part n) (h : j < k) where
  -- place j is there
  pub other_there : (all ≡ true) ⊎ (j < length part)
  unfolding held_count
  other_there = ⊎_elim inl (λ e. inr (subst (λ (m : ℕ). j < m) (c ∙ sym (count_listed all part n e)) h)) (both all)

  -- and names a site
  pub other_site : (all ≡ true) ⊎ EntriesNamed part n → other_at all part j < n
  other_site a = ⊎_elim (every all refl) (listed all refl) (both all)
    where
      every : (t : Bool) → all ≡ t → all ≡ true → other_at all part j < n
      every t _ e = subst (λ (m : ℕ). m < n) (other_all all part j e) (subst (λ (m : ℕ). j < m) (c ∙ sym (count_all all part n e)) h)

      listed : (t : Bool) → all ≡ t → all ≡ false → other_at all part j < n
      listed t _ e =
          subst (λ (m : ℕ). m < n) (other_listed all part j e refl)
          (⊎_elim (λ q. absurd (no_both (sym q ∙ e))) (λ q. q.each j (subst (λ (m : ℕ). j < m) (c ∙ sym (count_listed all part n e)) h)) a)

-- ---- the tests
pub beyond_is : (far : Float) (corner : Point) (sites : List Float) (s : ℕ) (part : List ℕ) (all : Bool) (j : ℕ) {t : Bool} {site other : Point} {w : ℕ}
    → site ≡ point_at sites s → w ≡ other_at all part j → other ≡ point_at sites w → t ≡ beyond far corner site other → t ≡ beyond_at far corner sites s part all j
unfolding beyond_at
beyond_is far corner sites s part all j {site = site} {other = other} x y z e =
    e
    ∙ ap (λ (p : Point). beyond far corner p other) x
    ∙ ap (beyond far corner (point_at sites s)) (z ∙ ap (point_at sites) y)

pub nearer_is : (far : Float) (corner : Point) (sites : List Float) (s : ℕ) (part : List ℕ) (all : Bool) {j k : ℕ}
    → j ≡ lowest (beyond_at far corner sites s part all) (held_count all part (length sites / 2)) → k ≡ held_count all part (length sites / 2)
    → ltb j k ≡ nearer_at far corner sites s part all
unfolding nearer_at
nearer_is far corner sites s part all {j} {k} e f = ap (λ (x : ℕ). ltb x k) e ∙ ap (λ (x : ℕ). ltb (lowest (beyond_at far corner sites s part all) (held_count all part (length sites / 2))) x) f

pub cell_is : (far : Float) (sites : List Float) (s : ℕ) (part : List ℕ) (all : Bool) (v : List Float) (cell : List ℕ) {k : ℕ}
    → k ≡ lowest (corner_nearer far sites s part all v cell) (length cell) → ltb k (length cell) ≡ cell_nearer far sites s part all v cell
unfolding cell_nearer
cell_is far sites s part all v cell e = ap (λ (k : ℕ). ltb k (length cell)) e

pub site_is : (far : Float) (sites : List Float) (starts others : List ℕ) (v : List Float) (off ix : List ℕ) (s : ℕ) {all t : Bool} {part cell : List ℕ}
    → all ≡ no_lists starts others → part ≡ cell_of starts others s → cell ≡ cell_of off ix s → t ≡ cell_nearer far sites s part all v cell
    → t ≡ site_nearer far sites starts others v off ix s
unfolding site_nearer
site_is far sites starts others v off ix s {all} {t} {part} {cell} x y z e = e ∙ rw (x, y, z) refl

-- ---- what the lists name
module _ {sites : List Float} {starts others : List ℕ} (a : HeldKept sites starts others) (s : ℕ) (h : s < length sites / 2) where
  pub held_cut : (no_lists starts others ≡ true) ⊎ (Cells starts (length others) × (s + 1 < length starts))
  held_cut = ⊎_elim inl (λ c. inr (c.cut, omega (arith, c.many))) a.cut

  pub held_names : {all : Bool} {part : List ℕ} → all ≡ no_lists starts others → part ≡ cell_of starts others s → HeldNames sites s part all
  held_names {all} {part} e f = record {
    own = h;
    named = ⊎_elim
        (λ q. inl (e ∙ q))
        (λ c. inr (subst (λ (l : List ℕ). EntriesNamed l (length sites / 2)) (sym f) (cell_named starts others c.cut s (omega (arith, c.many)) a.named)))
        a.cut;
  }

module _ {sites v : List Float} {off ix : List ℕ} (a : PiecesKept sites v off ix) (s : ℕ) (h : s < length sites / 2) where
  pub piece_names : {cell : List ℕ} → cell ≡ cell_of off ix s → EntriesNamed cell (length v / 2)
  piece_names f = subst (λ (l : List ℕ). EntriesNamed l (length v / 2)) (sym f) (cell_named off ix a.cut.cut s (omega (arith, a.cut.many)) a.named)
