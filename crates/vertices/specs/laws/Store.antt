-- The store's laws: what is poured is held, and pouring goes on from where it was; the vertices that were there stay; what a reused and an added
-- vertex leave.
use Rattle.std.specs.Prelude.{ℕ, suc, ◌+◌, ◌-◌, ◌*◌, ◌≤◌, ◌<◌, ◌≡◌, refl, Bool, true, false, List, [], ◌∷◌, ◌++◌, ltb, Float, length, get_or, take, drop, set}
use Rattle.std.proofs.Common.{sym, ap, ap₂, ◌∙◌, append-nil, append_assoc, ⊎_elim, arith, add-one, add-zero, length-set, length-append, length-drop, take-suc, take_all, take_at, get_or-take, length-take-le, get_or-drop, get_or-set_same, get_or-set_other}
use Rattle.std.specs.Float.{nan}
use Rattle.std.proofs.lemmas.List.{take-set-le, drop-set-add}
use Rattle.base.specs.common.Pick.{pick}
use Rattle.base.specs.common.laws.Decide.{lt_or_ge}
use Rattle.plane.specs.points.Plane.{at}
use Rattle.plane.specs.declared.points.Point.{Point}
use Rattle.plane.specs.points.Flat.{point_at, points, points_from, flat, pour}
use Rattle.vertices.specs.Add.{find_near, add_vertex}
use Rattle.vertices.specs.Store.{Holds, Poured, Leaves, PlacedAs}
use Rattle.vertices.specs.declared.buckets.Home.{Home}
use Rattle.vertices.specs.buckets.Buckets.{mid_of, bucket_by, bucket_from, mark_by, mark_from, heads_of, entry_with, inserted_of, InChains}
use Rattle.vertices.specs.buckets.Steps.{BucketsFree, HomeOf, InsertsIn}
use Rattle.vertices.specs.buckets.laws.Inserting.{home_in, in_chains_none, in_chains_kept, in_chains_more}
use Rattle.vertices.specs.laws.Points.{add_old, add_new, length_points, points_pour, pour_points, pour_pour, pour_snoc, length_pour, flat_append, flat_points, get_d_points}

-- ---- poured vertices

pub poured_points : {vs : List Point} {v v₁ : List Float} {n : ℕ} → Poured vs v n v₁ → points n v₁ ≡ vs
poured_points {vs} {v} h = rw (h.slice, h.counted) (points_pour vs v)

pub poured_none : (n : ℕ) (v : List Float) → 2 * n ≤ length v → Poured (points n v) v n v
poured_none n v h = record { slice = sym (pour_points v n h); counted = sym (length_points v 0 n) }

pub poured_then :
    {vs ws : List Point} {v v₁ v₂ : List Float} {n m : ℕ}
    → Poured vs v n v₁ → Poured ws v₁ m v₂ → n ≤ m → 2 * n ≤ length v → Poured ws v m v₂
poured_then {vs} {ws} {v} a b h k =
    record {
      slice =
          (let e = a.counted in
          let f = b.counted in
          b.slice ∙ ap (pour ws) a.slice ∙ pour_pour vs ws v (omega arith) (omega arith));
      counted = b.counted;
    }

pub poured_snoc :
    {vs : List Point} {v v₁ : List Float} {n : ℕ} (p : Point)
    → Poured vs v n v₁ → 2 * n + 2 ≤ length v → Poured (vs ++ p ∷ []) v (n + 1) (set (set v₁ (2 * n) p.x) (2 * n + 1) p.y)
poured_snoc {vs} {v} {v₁} {n} p a h =
    let e = a.counted in
    let l : length v₁ ≡ length v = ap length a.slice ∙ length_pour vs v (omega arith) in
    let one : Poured (vs ++ p ∷ []) v₁ (n + 1) (set (set v₁ (2 * n) p.x) (2 * n + 1) p.y) =
    record {
      slice = sym (ap (λ (ps : List Point). pour (ps ++ p ∷ []) v₁) (sym (poured_points a)) ∙ pour_snoc v₁ n p (omega arith));
      counted = rw (length-append vs (p ∷ [])) (omega arith);
    } in
    poured_then a one (omega arith) (omega arith)

-- ---- what is kept

pub poured_kept : (ws : List Point) (v v₁ : List Float) (m n : ℕ) → Poured (points n v ++ ws) v m v₁ → 2 * n ≤ length v → take (2 * n) v₁ ≡ take (2 * n) v
unfolding pour
poured_kept ws v v₁ m n h k =
    rw (h.slice, flat_append (points n v) ws, flat_points v 0 n (omega arith), append_assoc (take (2 * n) v) (flat ws) _)
    (take_at (take (2 * n) v) _ (2 * n) (length-take-le (2 * n) v k))

pub added_kept : (nc n : ℕ) (p : Point) (v v₁ : List Float) (m : ℕ) → Poured (add_vertex nc (points n v) p).verts v m v₁ → 2 * n ≤ length v → take (2 * n) v₁ ≡ take (2 * n) v
unfolding add_vertex
added_kept nc n p v v₁ m = go (ltb (find_near p (drop nc (points n v)) nc) (length (points n v)))
  where
    go : (old : Bool) → Poured (pick old (λ _. points n v) (λ _. points n v ++ p ∷ [])) v m v₁ → 2 * n ≤ length v → take (2 * n) v₁ ≡ take (2 * n) v
    go true h k = poured_kept [] v v₁ m n (rw (append-nil (points n v)) h) k
    go false h k = poured_kept (p ∷ []) v v₁ m n h k

kept_at_lem : (v v₁ : List Float) (n i : ℕ) → take (2 * n) v₁ ≡ take (2 * n) v → i < 2 * n → get_or v₁ i nan ≡ get_or v i nan
kept_at_lem v v₁ n i e h = sym (get_or-take (2 * n) v₁ i nan h) ∙ ap (λ (l : List Float). get_or l i nan) e ∙ get_or-take (2 * n) v i nan h

-- a vertex that is kept, among more of them
pub kept_vertex : (v v₁ : List Float) (n m i : ℕ) (d : Point) → take (2 * n) v₁ ≡ take (2 * n) v → n ≤ m → i < n → get_or (points m v₁) i d ≡ get_or (points n v) i d
kept_vertex v v₁ n m i d e h k =
    get_d_points v₁ m i d (omega arith)
    ∙ ap (λ (x : Float). at x (get_or v₁ (2 * i + 1) nan)) (kept_at_lem v v₁ n (2 * i) e (omega arith))
    ∙ ap (λ (y : Float). at (get_or v (2 * i) nan) y) (kept_at_lem v v₁ n (2 * i + 1) e (omega arith))
    ∙ sym (get_d_points v n i d (omega arith))

-- ---- one point more after the vertices

module _ (nc limit n : ℕ) (p : Point) (v : List Float) (ix ix₁ : List ℕ) {s : Home} (h : Holds nc n v (drop limit ix)) (r : 2 * n + 2 ≤ length v)
    (o : HomeOf (heads_of (length ix - limit)) p s) (g : InsertsIn limit (n - nc) s.bucket s.mark ix ix₁) where
  abbrev after : List Float
  after = set (set v (2 * n) p.x) (2 * n + 1) p.y

  abbrev heads : ℕ
  heads = heads_of (length (drop limit ix))

  tail_long : length (drop limit ix) ≡ length ix - limit
  tail_long = length-drop limit ix

  -- what stood before n stands there still, and p at n
  other : (j : ℕ) → j < n → point_at after j ≡ point_at v j
  other j l =
      rw (
        get_or-set_other (set v (2 * n) p.x) (2 * n + 1) (2 * j) p.y nan (λ q. omega arith),
        get_or-set_other v (2 * n) (2 * j) p.x nan (λ q. omega arith),
        get_or-set_other (set v (2 * n) p.x) (2 * n + 1) (2 * j + 1) p.y nan (λ q. omega arith),
        get_or-set_other v (2 * n) (2 * j + 1) p.x nan (λ q. omega arith),
      )

  there : point_at after n ≡ p
  there =
      rw (
        get_or-set_other (set v (2 * n) p.x) (2 * n + 1) (2 * n) p.y nan (λ q. omega arith),
        get_or-set_same v (2 * n) p.x nan (omega arith),
        get_or-set_same (set v (2 * n) p.x) (2 * n + 1) p.y nan (rw (length-set v (2 * n) p.x) (omega arith)),
      )

  before : InChains nc (inserted_of (n - nc) (length (drop limit ix))) after (drop limit ix)
  before = in_chains_kept (λ k l. other (nc + k) (omega (arith, h.centers))) h.in_chains

  some : (k h : ℕ) → k < 3 * h → 0 < h
  some k h l = omega arith

  -- with a link, and without one
  module _ (l : n - nc < 3 * heads) where
    abbrev m : ℕ
    m = s.bucket

    abbrev front : ℕ
    front = entry_with (get_or ix (limit + m) 0) (n - nc) s.mark

    written : ix₁ ≡ set (set ix (limit + (heads + (n - nc))) (get_or ix (limit + m) 0)) (limit + m) front
    written = let w = g.linked (omega (arith, tail_long)) in rw (← tail_long) at w

    tail_is : drop limit ix₁ ≡ set (set (drop limit ix) (heads + (n - nc)) (get_or (drop limit ix) m 0)) m (entry_with (get_or (drop limit ix) m 0) (n - nc) s.mark)
    tail_is =
        ap (drop limit) written
        ∙ drop-set-add limit (set ix (limit + (heads + (n - nc))) (get_or ix (limit + m) 0)) m front
        ∙ ap₂ (λ (t : List ℕ) (x : ℕ). set t m (entry_with x (n - nc) s.mark))
        (drop-set-add limit ix (heads + (n - nc)) (get_or ix (limit + m) 0) ∙ ap (set (drop limit ix) (heads + (n - nc))) (sym (get_or-drop limit ix m 0)))
        (sym (get_or-drop limit ix m 0))

    same_tail : length (drop limit ix₁) ≡ length (drop limit ix)
    same_tail =
        ap length tail_is
        ∙ length-set (set (drop limit ix) (heads + (n - nc)) (get_or (drop limit ix) m 0)) m (entry_with (get_or (drop limit ix) m 0) (n - nc) s.mark)
        ∙ length-set (drop limit ix) (heads + (n - nc)) (get_or (drop limit ix) m 0)

    linked_in_chains : InChains nc (inserted_of (n + 1 - nc) (length (drop limit ix₁))) after (drop limit ix₁)
    linked_in_chains =
        let a : inserted_of (n - nc) (length (drop limit ix)) ≡ n - nc = omega arith in
        let b : inserted_of (n + 1 - nc) (length (drop limit ix₁)) ≡ suc (n - nc) = omega (arith, same_tail, h.centers) in
        let c : nc + (n - nc) ≡ n = omega (arith, h.centers) in
        let q : point_at after (nc + (n - nc)) ≡ p = ap (point_at after) c ∙ there in
        let w : HomeOf heads p s = rw (← tail_long) at o in
        let d : bucket_from heads after nc (n - nc) ≡ m = ap (λ (q : Point). bucket_by heads (mid_of q.x) (mid_of q.y)) q ∙ sym w.bucket in
        let e : mark_from after nc (n - nc) ≡ s.mark = ap (λ (q : Point). mark_by (mid_of q.x) (mid_of q.y)) q ∙ sym o.mark in
        rw (b, tail_is, ← e) (in_chains_more (rw a at before) l d ((home_in heads p w).below (some (n - nc) heads l)))

    linked_body : take limit ix₁ ≡ take limit ix
    linked_body =
        ap (take limit) written
        ∙ take-set-le limit (set ix (limit + (heads + (n - nc))) (get_or ix (limit + m) 0)) (limit + m) front (omega arith)
        ∙ take-set-le limit ix (limit + (heads + (n - nc))) (get_or ix (limit + m) 0) (omega arith)

  module _ (l : 3 * heads ≤ n - nc) where
    same : ix₁ ≡ ix
    same = g.past (omega (arith, tail_long))

    past_in_chains : InChains nc (inserted_of (n + 1 - nc) (length (drop limit ix₁))) after (drop limit ix₁)
    past_in_chains =
        let a : inserted_of (n - nc) (length (drop limit ix)) ≡ inserted_of (n + 1 - nc) (length (drop limit ix)) = omega arith in
        rw (same, ← a) before

  pub appended : Leaves nc limit (points n v ++ p ∷ []) v ix (n + 1) after ix₁
  appended =
      let c = h.centers in
      record {
        verts = poured_snoc p (poured_none n v h.room) r;
        body = ⊎_elim linked_body (λ l. ap (take limit) (same l)) (lt_or_ge (n - nc) (3 * heads));
        holds = record { centers = omega arith; room = simp length-set (omega arith); in_chains = ⊎_elim linked_in_chains past_in_chains (lt_or_ge (n - nc) (3 * heads)) };
      }

-- one after what was there
pub leaves_then :
    {nc limit n : ℕ} {vs : List Point} {v v₁ v₂ : List Float} {ix ix₁ ix₂ : List ℕ} (p : Point)
    → Leaves nc limit vs v ix n v₁ ix₁ → 2 * n ≤ length v → Leaves nc limit (points n v₁ ++ p ∷ []) v₁ ix₁ (n + 1) v₂ ix₂ → Leaves nc limit (vs ++ p ∷ []) v ix (n + 1) v₂ ix₂
leaves_then {n = n} {vs} {v} {v₁} {v₂} p a h b = record {
  verts = poured_then a.verts (rw (poured_points a.verts) at b.verts) (omega arith) h;
  body = b.body ∙ a.body;
  holds = b.holds;
}

-- ---- one point added

module _ (nc limit n : ℕ) (p : Point) (v : List Float) (ix : List ℕ) (h : Holds nc n v (drop limit ix)) (i : ℕ) (e : i ≡ find_near p (points_from v nc (n - nc)) nc) where
  pub reused :
      i < n
      → PlacedAs n (add_vertex nc (points n v) p) (record { at = i; fresh = false; count = n })
      × Leaves nc limit (add_vertex nc (points n v) p).verts v ix n v ix
  reused k =
      rw (add_old v nc n i p h.centers k e) (
        record { at = refl; fresh = refl; below = k; low = omega arith; high = omega arith },
        record { verts = poured_none n v h.room; body = refl; holds = h },
      )

  pub fresh :
      {v₁ : List Float} {ix₁ : List ℕ}
      → i ≡ n
      → Leaves nc limit (points n v ++ p ∷ []) v ix (n + 1) v₁ ix₁
      → PlacedAs n (add_vertex nc (points n v) p) (record { at = n; fresh = true; count = n + 1 })
      × Leaves nc limit (add_vertex nc (points n v) p).verts v ix (n + 1) v₁ ix₁
  fresh k l = rw (add_new v nc n i p h.centers k e) (record { at = refl; fresh = refl; below = omega arith; low = omega arith; high = omega arith }, l)

-- ---- the corners

module _ (nc limit : ℕ) (v : List Float) (ix : List ℕ) (corners : List Point) where
  pub corner_none : {old : List ℕ} → 2 * nc ≤ length v → BucketsFree limit old ix → Leaves nc limit (points nc v ++ take 0 corners) v ix (nc + 0) v ix
  corner_none h g =
      rw (append-nil (points nc v), add-zero nc) (record {
        verts = poured_none nc v h;
        body = refl;
        holds = record {
          centers = omega arith;
          room = h;
          in_chains =
              (let z : inserted_of (nc - nc) (length (drop limit ix)) ≡ 0 = omega arith in
              rw z (in_chains_none nc v (drop limit ix) (λ m l. get_or-drop limit ix m 0 ∙ g.free m (rw (length-drop limit ix) at l))));
        };
      })

  pub corner_more :
      (k : ℕ) {v₁ v₂ : List Float} {ix₁ ix₂ : List ℕ} (d : Point)
      → Leaves nc limit (points nc v ++ take k corners) v ix (nc + k) v₁ ix₁
      → k < length corners
      → 2 * (nc + k) ≤ length v
      → Leaves nc limit (points (nc + k) v₁ ++ get_or corners k d ∷ []) v₁ ix₁ (nc + k + 1) v₂ ix₂
      → Leaves nc limit (points nc v ++ take (k + 1) corners) v ix (nc + (k + 1)) v₂ ix₂
  corner_more k d h l r g =
      let e : nc + (k + 1) ≡ nc + k + 1 = omega arith in
      rw (e, add-one k, take-suc corners k d l, ← append_assoc (points nc v) (take k corners) (get_or corners k d ∷ [])) (leaves_then (get_or corners k d) h r g)

  pub corner_all : (k : ℕ) {v₁ : List Float} {old ix₁ : List ℕ} → BucketsFree limit old ix → Leaves nc limit (points nc v ++ take k corners) v ix (nc + k) v₁ ix₁ → k ≡ 4 → length corners ≡ 4
      → Leaves nc limit (points nc v ++ corners) v old (nc + 4) v₁ ix₁
  corner_all k {v₁} {old} {ix₁} g h e l =
      let all : Leaves nc limit (points nc v ++ corners) v ix (nc + 4) v₁ ix₁ = rw (← e) (rw (take_all k corners (omega arith)) at h) in
      record { verts = all.verts; body = all.body ∙ g.body; holds = all.holds }
