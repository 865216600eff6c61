-- How the sides are laid and inserted, one after the other.
use Rattle.std.specs.Prelude.{◌≡◌, refl, List, ◌≢◌, ℕ, zero, suc, ◌+◌, ◌-◌, ◌*◌, ◌/◌, ◌^◌, ◌≤◌, ◌<◌, Float, length, get_or, set}
use Rattle.std.proofs.Common.{sym, ap, ◌∙◌, subst, ⊎_elim, arith, length-set, get_or-set_same, get_or-set_other, get_or-take, length-take-le, ext_get_or}
use Rattle.base.specs.common.laws.Decide.{lt_or_ge, eq_or_ne}
use Rattle.plane.specs.points.Flat.{point_at}
use Rattle.plane.specs.declared.points.Point.{Point}
use Rattle.walks.specs.shared.Cells.{Cells, cell_of}
use Rattle.areas.specs.Promise.{entries_of_all}
use Rattle.auditing.specs.places.Buckets.{LastIn}
use Rattle.auditing.specs.places.laws.Inserting.{none_yet, now_last, still_last}
use Rattle.certifying.specs.sides.Sides.{ring_ends, ends_of, side_count}
use Rattle.certifying.specs.sides.Chains.{bucket_at, laid_from, laid_ends, SideSafe, SidesIn, ChainedIn, ChainedTo, RingLaid, LaySafe, LaidTo, ChainedMore, InsertSafe, InsertsAll}
use Rattle.certifying.specs.sides.laws.Ends.{cell_long, ring_within, ends_at, ends_long, all_named}

-- ---- inserting
module _ (bucket : ℕ → ℕ) where
  -- side k, in front of the chain of its bucket m
  module _ {n k m : ℕ} {w : List ℕ} (room : 3 * n ≤ length w) (g : ChainedIn bucket n k w) (own : k < n) (e : m ≡ bucket k) (l : m < n) where
    abbrev linked : List ℕ
    linked = set w (3 * k + 1) (get_or w (3 * m) 0)

    abbrev chained : List ℕ
    chained = set linked (3 * m) (suc k)

    last_at : (j : ℕ) → j < n → LastIn bucket j (suc k) (get_or chained (3 * j) 0)
    last_at j i =
        ⊎_elim
        (λ z. rw (z, get_or-set_same linked (3 * m) (suc k) 0 (omega (arith, length-set w (3 * k + 1) (get_or w (3 * m) 0)))) (now_last bucket m k (sym e)))
        (λ z. rw (get_or-set_other linked (3 * m) (3 * j) (suc k) 0 (λ q. z (omega arith)), get_or-set_other w (3 * k + 1) (3 * j) (get_or w (3 * m) 0) 0 (λ q. omega arith))
        (still_last bucket j k (get_or w (3 * j) 0) (λ y. z (sym y ∙ sym e)) (g.lasts j i)))
        (eq_or_ne j m)

    next_at : (j : ℕ) → j < suc k → LastIn bucket (bucket j) j (get_or chained (3 * j + 1) 0)
    next_at j i =
        ⊎_elim
        (λ z. rw (z, get_or-set_other linked (3 * m) (3 * k + 1) (suc k) 0 (λ q. omega arith), get_or-set_same w (3 * k + 1) (get_or w (3 * m) 0) 0 (omega arith), ← e) (g.lasts m l))
        (λ z. rw (get_or-set_other linked (3 * m) (3 * j + 1) (suc k) 0 (λ q. omega arith), get_or-set_other w (3 * k + 1) (3 * j + 1) (get_or w (3 * m) 0) 0 (λ q. z (omega arith)))
        (g.nexts j (⊎_elim (λ x. x) (λ x. absurd (z (omega arith))) (lt_or_ge j k))))
        (eq_or_ne j k)

    chained_in : ChainedIn bucket n (suc k) chained
    chained_in = record { lasts = last_at; nexts = next_at }

pub chained_more : {v : List Float} {ix to : List ℕ} {n k m : ℕ} {w w' : List ℕ} → ChainedTo v ix to n k w → k < n → m ≡ bucket_at v ix to n k → m < n
    → w' ≡ set (set w (3 * k + 1) (get_or w (3 * m) 0)) (3 * m) (suc k) → ChainedTo v ix to n (k + 1) w'
chained_more {v} {ix} {to} {n} {k} {m} {w} {w'} h own e l f =
    let z : k + 1 ≡ suc k = omega arith in
    let a = h.lie in
    rw (f, z) (record {
      lie = record {
        few = a.few;
        room = omega (arith, a.room, length-set (set w (3 * k + 1) (get_or w (3 * m) 0)) (3 * m) (suc k), length-set w (3 * k + 1) (get_or w (3 * m) 0));
        entries = a.entries;
        from_named = a.from_named;
        to_named = a.to_named;
        ends = λ j i. get_or-set_other (set w (3 * k + 1) (get_or w (3 * m) 0)) (3 * m) (3 * j + 2) (suc k) 0 (λ q. omega arith)
            ∙ get_or-set_other w (3 * k + 1) (3 * j + 2) (get_or w (3 * m) 0) 0 (λ q. omega arith)
            ∙ a.ends j i;
      };
      chained = chained_in (bucket_at v ix to n) a.room h.chained own e l;
    })

-- ---- laying a ring
pub ring_start : (base : ℕ) (cell : List ℕ) {w : List ℕ} → RingLaid base cell 0 w w
ring_start base cell = record { most = omega arith; long = refl; ends = λ i h. absurd (omega arith); free = λ i h. absurd (omega arith); before = λ j h. refl }

pub ring_step : {base i e : ℕ} {cell old w : List ℕ} → RingLaid base cell i old w → i < length cell → 3 * (base + length cell) ≤ length old → e ≡ get_or (ring_ends cell) i 0
    → RingLaid base cell (i + 1) old (set (set w (3 * (base + i)) 0) (3 * (base + i) + 2) e)
ring_step {base} {i} {e} {cell} {old} {w} a h room f =
    let at = 3 * (base + i) in
    let one = set w at 0 in
    let l₁ = length-set w at 0 in
    let l₂ = length-set one (at + 2) e in
    record {
      most = omega arith;
      long = l₂ ∙ l₁ ∙ a.long;
      ends = λ j g. ⊎_elim
          (λ z. rw z (get_or-set_same one (at + 2) e 0 (omega (arith, a.long)) ∙ f))
          (λ z. get_or-set_other one (at + 2) (3 * (base + j) + 2) e 0 (λ q. z (omega arith)) ∙ get_or-set_other w at (3 * (base + j) + 2) 0 0 (λ q. omega arith) ∙ a.ends j (below j g z))
          (eq_or_ne j i);
      free = λ j g. ⊎_elim
          (λ z. rw z (get_or-set_other one (at + 2) at e 0 (λ q. omega arith) ∙ get_or-set_same w at 0 0 (omega (arith, a.long))))
          (λ z. get_or-set_other one (at + 2) (3 * (base + j)) e 0 (λ q. omega arith) ∙ get_or-set_other w at (3 * (base + j)) 0 0 (λ q. z (omega arith)) ∙ a.free j (below j g z))
          (eq_or_ne j i);
      before = λ j g. get_or-set_other one (at + 2) j e 0 (λ q. omega arith) ∙ get_or-set_other w at j 0 0 (λ q. omega arith) ∙ a.before j g;
    }
  where
    below : (j : ℕ) → j < i + 1 → j ≢ i → j < i
    below j g z = ⊎_elim (λ l. l) (λ l. absurd (z (omega arith))) (lt_or_ge j i)

pub ring_end : {base i : ℕ} {cell old w : List ℕ} → RingLaid base cell i old w → length cell ≤ i → RingLaid base cell (length cell) old w
ring_end {base} {i} {cell} {old} {w} a h = let q : i ≡ length cell = omega (arith, a.most) in subst (λ (n : ℕ). RingLaid base cell n old w) q a

-- ---- laying all
module _ {off ix : List ℕ} (cut : Cells off (length ix)) where
  pub laid_start : {w : List ℕ} → LaidTo off ix 0 w w
  laid_start = record { most = omega arith; long = refl; ends = λ k h. absurd (omega (arith, cut.start)); free = λ k h. absurd (omega (arith, cut.start)) }

  pub laid_step : {s : ℕ} {old w w' c : List ℕ} {base : ℕ} → LaidTo off ix s old w → s < length off - 1 → c ≡ cell_of off ix s → base ≡ get_or off s 0 → RingLaid base c (length c) w w'
      → LaidTo off ix (s + 1) old w'
  laid_step {s} {old} {w} {w'} {c} {base} a h e f r =
      let here : s + 1 < length off = omega arith in
      let long : length c ≡ get_or off (s + 1) 0 - base = ap length e ∙ cell_long off ix cut s here ∙ ap (λ (i : ℕ). get_or off (s + 1) 0 - i) (sym f) in
      record {
        most = omega arith;
        long = r.long ∙ a.long;
        ends = λ k g. ⊎_elim
            (λ i. r.before (3 * k + 2) (omega arith) ∙ a.ends k (omega arith))
            (λ i. let z : k ≡ base + (k - base) = omega arith in
            let j : k - base < length c = omega arith in
            subst (λ (x : ℕ). get_or w' (3 * x + 2) 0 ≡ get_or (ends_of off ix) x 0) (sym z)
            (r.ends (k - base) j ∙ ap (λ (l : List ℕ). get_or (ring_ends l) (k - base) 0) e
            ∙ sym (ends_at off ix cut s (k - base) here (subst (λ (l : List ℕ). k - base < length l) e j))
            ∙ ap (λ (i : ℕ). get_or (ends_of off ix) (i + (k - base)) 0) (sym f)))
            (lt_or_ge k base);
        free = λ k g. ⊎_elim
            (λ i. r.before (3 * k) (omega arith) ∙ a.free k (omega arith))
            (λ i. let z : k ≡ base + (k - base) = omega arith in
            subst (λ (x : ℕ). get_or w' (3 * x) 0 ≡ 0) (sym z) (r.free (k - base) (omega arith)))
            (lt_or_ge k base);
      }

pub laid_all : {off ix old w : List ℕ} {s : ℕ} → LaidTo off ix s old w → length off - 1 ≤ s → LaidTo off ix (length off - 1) old w
laid_all {off} {ix} {old} {w} {s} t h = let q : s ≡ length off - 1 = omega (arith, t.most) in subst (λ (i : ℕ). LaidTo off ix i old w) q t

pub ring_room : {off ix old w c : List ℕ} {s base : ℕ} → LaySafe off ix old → LaidTo off ix s old w → s < length off - 1 → c ≡ cell_of off ix s → base ≡ get_or off s 0
    → (3 * (base + length c) ≤ length w) × (base + length c ≤ 2 ^ 24)
ring_room {off} {ix} {old} {w} {c} {s} {base} a t h e f =
    let r : base + length c ≤ side_count off = rw (e, f) (ring_within off ix a.cut s (omega arith)) in
    (omega (arith, a.room, t.long), omega (arith, a.few))

-- ---- the ends as they lie
laid_long : (w : List ℕ) (i n : ℕ) → length (laid_from w i n) ≡ n
unfolding laid_from
laid_long w i zero = refl
laid_long w i (suc n) = ap suc (laid_long w (suc i) n)

laid_at : (w : List ℕ) (n i k : ℕ) → k < n → get_or (laid_from w i n) k 0 ≡ get_or w (3 * (i + k) + 2) 0
unfolding laid_from
laid_at w zero i k h = absurd (omega arith)
laid_at w (suc n) i zero h = let q : i + 0 ≡ i = omega arith in rw q refl
laid_at w (suc n) i (suc k) h = let q : i + suc k ≡ suc i + k = omega arith in rw q (laid_at w n (suc i) k (omega arith))

pub laid_end : (w : List ℕ) (n k : ℕ) → k < n → get_or w (3 * k + 2) 0 ≡ get_or (laid_ends w n) k 0
laid_end w n k h = sym (laid_at w n 0 k h ∙ ap (λ (i : ℕ). get_or w (3 * i + 2) 0) (plain k))
  where
    plain : (k : ℕ) → 0 + k ≡ k
    plain k = omega arith

laid_same : (w w' : List ℕ) (n : ℕ) → ((k : ℕ) → k < n → get_or w' (3 * k + 2) 0 ≡ get_or w (3 * k + 2) 0) → laid_ends w' n ≡ laid_ends w n
laid_same w w' n a =
    ext_get_or 0 (laid_ends w' n) (laid_ends w n) (laid_long w' 0 n ∙ sym (laid_long w 0 n))
    (λ k h. let g : k < n = omega (arith, laid_long w' 0 n) in sym (laid_end w' n k g) ∙ a k g ∙ laid_end w n k g)

-- ---- a side can be read
module _ {v : List Float} {ix to : List ℕ} {n k : ℕ} {w : List ℕ} (a : SidesIn v ix to n w) (h : k < n) where
  pub side_safe : SideSafe v ix k w
  side_safe = record {
    few = omega (arith, a.few);
    entry = omega (arith, a.entries);
    from_named = a.from_named k h;
    room = omega (arith, a.room);
    to_named = subst (λ (e : ℕ). e < length v / 2) (sym (a.ends k h)) (a.to_named k h);
  }

  pub side_to : {p : Point} → p ≡ point_at v (get_or w (3 * k + 2) 0) → p ≡ point_at v (get_or to k 0)
  side_to e = e ∙ ap (point_at v) (a.ends k h)

-- ---- one more is chained
pub inserts_one : {v : List Float} {ix : List ℕ} {n k m : ℕ} {w w' : List ℕ} → ChainedTo v ix (laid_ends w n) n k w → k < n → m ≡ bucket_at v ix (laid_ends w n) n k → m < n
    → w' ≡ set (set w (3 * k + 1) (get_or w (3 * m) 0)) (3 * m) (suc k) → ChainedMore v ix n (k + 1) w w'
inserts_one {v} {ix} {n} {k} {m} {w} {w'} h own e l f =
    let one = set w (3 * k + 1) (get_or w (3 * m) 0) in
    let g = chained_more h own e l f in
    let same = laid_same w w' n (λ j i. ap (λ (u : List ℕ). get_or u (3 * j + 2) 0) f
    ∙ get_or-set_other one (3 * m) (3 * j + 2) (suc k) 0 (λ q. omega arith) ∙ get_or-set_other w (3 * k + 1) (3 * j + 2) (get_or w (3 * m) 0) 0 (λ q. omega arith)) in
    record {
      chained = subst (λ (to : List ℕ). ChainedTo v ix to n (k + 1) w') (sym same) g;
      ends = same;
      long = ap length f ∙ length-set one (3 * m) (suc k) ∙ length-set w (3 * k + 1) (get_or w (3 * m) 0);
    }

-- ---- all
-- the first k are chained
pub record InsertsTo (v : List Float) (off ix : List ℕ) (n k : ℕ) (old w : List ℕ) : Type 0 where
  pub most : k ≤ n
  pub chained : ChainedTo v ix (laid_ends w n) n k w
  pub ends : laid_ends w n ≡ ends_of off ix
  pub long : length w ≡ length old

module _ {v : List Float} {off ix : List ℕ} {n : ℕ} {old : List ℕ} (a : InsertSafe v off ix n old) where
  pub inserts_start : {w : List ℕ} → LaidTo off ix (length off - 1) old w → InsertsTo v off ix n 0 w w
  inserts_start {w} l =
      let cut = a.lay.cut in
      let same : laid_ends w n ≡ ends_of off ix = ext_get_or 0 (laid_ends w n) (ends_of off ix) (laid_long w 0 n ∙ a.count ∙ sym (ends_long off ix cut))
      (λ k h. let g : k < n = omega (arith, laid_long w 0 n) in sym (laid_end w n k g) ∙ l.ends k (omega (arith, a.count))) in
      let whole : length (entries_of_all off ix) ≡ side_count off = length-take-le (side_count off) ix (cut.within (length off - 1) (omega (arith, cut.some))) in
      record {
        most = omega arith;
        chained = record {
          lie = record {
            few = omega (arith, a.count, a.lay.few);
            room = omega (arith, a.count, a.lay.room, l.long);
            entries = omega (arith, a.count, cut.within (length off - 1) (omega (arith, cut.some)));
            from_named = λ k h. subst (λ (e : ℕ). e < length v / 2) (get_or-take (side_count off) ix k 0 (omega (arith, a.count))) (a.named.each k (omega (arith, a.count)));
            to_named = λ k h. rw same (all_named off ix cut a.named k (omega (arith, a.count)));
            ends = laid_end w n;
          };
          chained = record {
            lasts = λ j h. let z : get_or w (3 * j) 0 ≡ 0 = l.free j (omega (arith, a.count)) in rw z (none_yet (bucket_at v ix (laid_ends w n) n) j);
            nexts = λ k h. absurd (omega arith);
          };
        };
        ends = same;
        long = refl;
      }

module _ {v : List Float} {off ix : List ℕ} {n k : ℕ} {old w : List ℕ} (t : InsertsTo v off ix n k old w) where
  pub inserts_step : {w' : List ℕ} → k < n → ChainedMore v ix n (k + 1) w w' → InsertsTo v off ix n (k + 1) old w'
  inserts_step h m = record { most = omega arith; chained = m.chained; ends = m.ends ∙ t.ends; long = m.long ∙ t.long }

  pub inserts_end : {first : List ℕ} → n ≤ k → length old ≡ length first → InsertsAll v off ix n first w
  inserts_end h e =
      let q : k ≡ n = omega (arith, t.most) in
      record { chained = subst (λ (j : ℕ). ChainedTo v ix (laid_ends w n) n j w) q t.chained; ends = t.ends; long = t.long ∙ e }
