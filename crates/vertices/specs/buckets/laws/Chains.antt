-- How the vertices in the bucket of what is near p are passed, from the last one back: what was found from an entry's number on is what the definition finds there, as nothing in another bucket
-- is near, and nothing before an entry that has not p's mark.
use Rattle.std.specs.Prelude.{◌≡◌, Bool, cond, List, ◌∷◌, ◌≢◌, Float, length, get_or, drop}
use Rattle.std.proofs.Math.Path.{refl}
use Rattle.std.proofs.Common.{sym, ap, ap₂, ◌∙◌, ⊎_elim, add-zero, add-one, length-drop, get_or-drop}
use Rattle.std.proofs.Math.Bool.{true, false}
use Prim.Native.Nat.{ℕ, zero, suc, ◌+◌, ◌-◌, ◌*◌, ◌/◌, ◌%◌, ◌^◌, ◌≤◌, ◌<◌, min}
use native.Mathlib.Omega.{arith}
use Rattle.std.proofs.lemmas.Nat.{shr_le}
use Rattle.plane.specs.points.Flat.{point_at, points_from}
use Rattle.plane.specs.declared.points.Point.{Point}
use Rattle.vertices.specs.declared.buckets.Home.{Home}
use Rattle.vertices.specs.Add.{near_pt, find_near}
use Rattle.base.specs.common.laws.And.{and_left, and_right}
use Rattle.base.specs.common.laws.Decide.{lt_or_ge}
use Rattle.vertices.specs.Store.{Holds}
use Rattle.vertices.specs.buckets.Buckets.{narrow_of, bucket_by, bucket_from, mark_by, mark_from, heads_of, inserted_of, number_in, LastChained}
use Rattle.vertices.specs.buckets.Steps.{HomeOf, BucketChain}
use Rattle.vertices.specs.buckets.laws.Inserting.{home_in}
use Rattle.vertices.specs.buckets.laws.Keys.{near_places}
use Rattle.vertices.specs.laws.Points.{near_hit, near_miss, near_end}

-- ---- the definition's search from place i on, up to n
module _ (v : List Float) (p : Point) where
  abbrev from : ℕ → ℕ → ℕ
  from n i = find_near p (points_from v i (n - i)) i

  -- what is not near is left out
  pub skip : (d n i : ℕ) → i + d ≤ n → ((j : ℕ) → i ≤ j → j < i + d → near_pt (point_at v j) p ≡ false) → from n i ≡ from n (i + d)
  skip zero n i h f = rw (add-zero i)
  skip (suc d) n i h f =
      let e : i + 1 + d ≡ i + suc d = omega arith in
      near_miss v p i n (omega arith) (f i (omega arith) (omega arith)) ∙ rw (← e) (skip d n (i + 1) (omega arith) (λ j a b. f j (omega arith) (omega arith)))

  -- a search that stops before the end is found again by a longer one, which else goes on from there
  pub longer : (h n i : ℕ) → i + h ≤ n → (find_near p (points_from v i h) i < i + h → from n i ≡ find_near p (points_from v i h) i) × (i + h ≤ find_near p (points_from v i h) i → from n i ≡ from n (i + h))
  unfolding points_from find_near
  longer zero n i l = (λ a. absurd (omega arith), λ a. rw (add-zero i))
  longer (suc h) n i l = go (near_pt (point_at v i) p) refl (longer h n (suc i) (omega arith))
    where
      go : (b : Bool) → near_pt (point_at v i) p ≡ b
          → (find_near p (points_from v (suc i) h) (suc i) < suc i + h → from n (suc i) ≡ find_near p (points_from v (suc i) h) (suc i))
          × (suc i + h ≤ find_near p (points_from v (suc i) h) (suc i) → from n (suc i) ≡ from n (suc i + h))
          → (find_near p (point_at v i ∷ points_from v (suc i) h) i < i + suc h → from n i ≡ find_near p (point_at v i ∷ points_from v (suc i) h) i)
          × (i + suc h ≤ find_near p (point_at v i ∷ points_from v (suc i) h) i → from n i ≡ from n (i + suc h))
      go true e t = rw e (λ a. near_hit v p i n (omega arith) e, λ a. absurd (omega arith))
      go false e t =
          let s : suc i + h ≡ i + suc h = omega arith in
          let m = near_miss v p i n (omega arith) e in
          rw (e, ← s) (λ a. m ∙ rw (add-one i) (t.0 a), λ a. m ∙ rw (add-one i) (t.1 a))

-- ---- the vertices of one bucket, m

-- best is what is found from entry e on; the one before is chained in the bucket, and of all before the marks are there
pub record ChainPassed (v : List Float) (ix : List ℕ) (limit nc inserted m : ℕ) (p : Point) (e best : ℕ) : Type 0 where
  pub within : number_in e ≤ inserted
  pub there : (k : ℕ) → number_in e ≡ suc k → bucket_from (heads_of (length (drop limit ix))) v nc k ≡ m
  pub marked : (k : ℕ) → k < number_in e → bucket_from (heads_of (length (drop limit ix))) v nc k ≡ m → e / 2 ^ mark_from v nc k % 2 ≡ 1
  pub none : number_in e ≡ 0 → e ≡ 0
  pub found : best ≡ from v p (nc + inserted) (nc + number_in e)

module _ {v : List Float} {ix : List ℕ} {limit heads nc inserted m mark : ℕ} {p : Point} (c : BucketChain v ix limit heads nc inserted m mark p) where
  abbrev bucket : ℕ → ℕ
  bucket = bucket_from (heads_of (length (drop limit ix))) v nc

  near_home : (k : ℕ) → near_pt (point_at v (nc + k)) p ≡ true → (bucket k ≡ m) × (mark_from v nc k ≡ mark)
  near_home k e =
      let (x, y) = near_places (point_at v (nc + k)) p c.x_narrow c.y_narrow e in
      (ap₂ (bucket_by (heads_of (length (drop limit ix)))) x y ∙ sym (rw c.heads_is at c.bucket), ap₂ mark_by x y ∙ sym c.mark_is)

  -- what belongs elsewhere is not near
  elsewhere : (k : ℕ) → (bucket k ≡ m → mark_from v nc k ≡ mark → ⊥) → near_pt (point_at v (nc + k)) p ≡ false
  elsewhere k h = go (near_pt (point_at v (nc + k)) p) refl
    where
      go : (b : Bool) → near_pt (point_at v (nc + k)) p ≡ b → b ≡ false
      go true e = let (x, y) = near_home k e in absurd (h x y)
      go false e = refl

  -- so where all between two places belong elsewhere nothing between them is found
  jump : (x y : ℕ) → y ≤ x → x ≤ inserted → ((k : ℕ) → y ≤ k → k < x → bucket k ≡ m → mark_from v nc k ≡ mark → ⊥) → from v p (nc + inserted) (nc + y) ≡ from v p (nc + inserted) (nc + x)
  jump x y l h f =
      let e : nc + y + (x - y) ≡ nc + x = omega arith in
      let g = skip v p (x - y) (nc + inserted) (nc + y) (omega arith)
      (λ j a b. rw (let q : nc + (j - nc) ≡ j = omega arith in q) at (elsewhere (j - nc) (f (j - nc) (omega arith) (omega arith)))) in
      rw e at g

  pub chain_start : {e : ℕ} → e ≡ get_or ix (limit + m) 0 → ChainPassed v ix limit nc inserted m p e (nc + inserted)
  chain_start {e} q =
      let l : LastChained bucket (mark_from v nc) m inserted e = rw (q, ← get_or-drop limit ix m 0) (c.in_chains.lasts m (rw c.heads_is at c.below)) in
      record {
        within = l.within;
        there = l.there;
        marked = λ k i o. l.marked k (omega (arith, l.within)) o;
        none = l.none;
        found = sym (jump inserted (number_in e) l.within (omega arith) (λ k i j o _. l.after k i j o) ∙ near_end v p (nc + inserted) (nc + inserted) (omega arith));
      }

  module _ {e x best : ℕ} (g : ChainPassed v ix limit nc inserted m p e best) (o : e / 2 ^ mark % 2 ≡ 1) (w : x ≡ number_in e) where
    -- an entry with a mark has a number
    pub chain_some : 0 < x
    chain_some = ⊎_elim (λ l. l) (λ l. absurd (bare (g.none (omega arith)))) (lt_or_ge 0 x)
      where
        bare : e ≡ 0 → ⊥
        bare z = let l = shr_le 0 mark in let q : 0 / 2 ^ mark % 2 ≡ 1 = rw (← z) o in omega arith

    pub chain_before : x - 1 < inserted
    chain_before = omega (arith, g.within, chain_some)

    last : {y : ℕ} → y ≡ get_or ix (limit + (heads + (x - 1))) 0 → LastChained bucket (mark_from v nc) (bucket (x - 1)) (x - 1) y
    last q = rw (q, c.heads_is, ← get_or-drop limit ix (heads_of (length (drop limit ix)) + (x - 1)) 0) (c.in_chains.nexts (x - 1) chain_before)

    pub chain_less : {y : ℕ} → y ≡ get_or ix (limit + (heads + (x - 1))) 0 → number_in y < number_in e
    chain_less q = omega (arith, (last q).within, chain_some)

    pub chain_step : {y r : ℕ} {near : Bool} → near ≡ near_pt (point_at v (nc + (x - 1))) p → r ≡ cond near (nc + (x - 1)) best → y ≡ get_or ix (limit + (heads + (x - 1))) 0
        → ChainPassed v ix limit nc inserted m p y r
    chain_step {y} {r} {near} n f q =
        let l = last q in
        let s : bucket (x - 1) ≡ m = g.there (x - 1) (omega (arith, chain_some)) in
        record {
          within = omega (arith, l.within, g.within);
          there = λ k z. l.there k z ∙ s;
          marked = λ k i z. l.marked k (omega (arith, l.within)) (z ∙ sym s);
          none = l.none;
          found = f ∙ one near (sym n) ∙ sym (jump (x - 1) (number_in y) l.within (omega (arith, g.within)) (λ k a b z _. l.after k a b (z ∙ sym s)));
        }
      where
        one : (b : Bool) → near_pt (point_at v (nc + (x - 1))) p ≡ b → cond b (nc + (x - 1)) best ≡ from v p (nc + inserted) (nc + (x - 1))
        one true z = sym (near_hit v p (nc + (x - 1)) (nc + inserted) (omega (arith, g.within, chain_some)) z)
        one false z =
            let k : nc + (x - 1) + 1 ≡ nc + number_in e = omega (arith, chain_some) in
            g.found ∙ sym (rw k at (near_miss v p (nc + (x - 1)) (nc + inserted) (omega (arith, g.within, chain_some)) z))

  -- without p's mark there is none of it before
  pub chain_end : {e best : ℕ} → ChainPassed v ix limit nc inserted m p e best → (e / 2 ^ mark % 2 ≡ 1 → ⊥) → best ≡ find_near p (points_from v nc inserted) nc
  chain_end {e} {best} g o =
      let w : nc + inserted - nc ≡ inserted = omega arith in
      let j = jump (number_in e) 0 (omega arith) g.within (λ k a b x y. o (rw y at (g.marked k b x))) in
      g.found ∙ sym (rw (add-zero nc, w) at j)

-- ---- the search among those that are chained, and one by one from there on
module _ (v : List Float) (p : Point) {nc count inserted i : ℕ} (h : nc ≤ count) (q : inserted ≤ count - nc) (e : i ≡ find_near p (points_from v nc inserted) nc) where
  pub found_inserted : i < nc + inserted → i ≡ find_near p (points_from v nc (count - nc)) nc
  found_inserted l = e ∙ sym ((longer v p inserted count nc (omega arith)).0 (omega arith))

  pub found_past : {r : ℕ} → nc + inserted ≤ i → r ≡ find_near p (points_from v (nc + inserted) (count - (nc + inserted))) (nc + inserted) → r ≡ find_near p (points_from v nc (count - nc)) nc
  found_past l k = k ∙ sym ((longer v p inserted count nc (omega arith)).1 (omega arith))

-- ---- what the chain needs, from what the functions give
few_of : (h c l : ℕ) → h ≡ min c l → h ≤ l
few_of h c l e = omega arith

room_of : (h nc count l : ℕ) → h ≡ min (count - nc) l → nc ≤ count → nc + h ≤ count
room_of h nc count l e g = omega arith

twice_of : (a b n : ℕ) → a ≤ b → 2 * b ≤ n → 2 * a ≤ n
twice_of a b n h g = omega arith

pub chained :
    {v : List Float} {ix : List ℕ} {limit nc count heads inserted : ℕ} {p : Point} {r : Home}
    → Holds nc count v (drop limit ix)
    → HomeOf (heads_of (length ix - limit)) p r
    → heads ≡ heads_of (length ix - limit)
    → heads ≢ 0
    → inserted ≡ min (count - nc) (3 * heads)
    → r.narrow ≡ true
    → BucketChain v ix limit heads nc inserted r.bucket r.mark p
chained {v} {ix} {limit} {nc} {count} {heads} {inserted} {p} {r} h o e z w t =
    let g : heads ≡ heads_of (length (drop limit ix)) = e ∙ ap heads_of (sym (length-drop limit ix)) in
    let u : inserted ≡ inserted_of (count - nc) (length (drop limit ix)) = w ∙ ap (λ (n : ℕ). min (count - nc) (3 * n)) g in
    let i = home_in (heads_of (length ix - limit)) p o in
    let both = sym o.narrow ∙ t in
    record {
      heads_is = g;
      few = few_of inserted (count - nc) (3 * heads) w;
      room = twice_of (nc + inserted) count (length v) (room_of inserted nc count (3 * heads) w h.centers) h.room;
      in_chains = rw u h.in_chains;
      x_narrow = and_left (narrow_of p.x) (narrow_of p.y) both;
      y_narrow = and_right (narrow_of p.x) (narrow_of p.y) both;
      bucket = rw e o.bucket;
      mark_is = o.mark;
      below = rw e (i.below (⊎_elim (λ a. a) (λ a. absurd (z (omega arith))) (lt_or_ge 0 (heads_of (length ix - limit)))));
      digit = i.digit;
    }
