-- The loop that walks a cell to its place from both ends: a step on undoes a step back, since pairs are mutual, so both ends are on the one walk. A walk back comes to its first
-- half-edge again at its last step and not before, so no half-edge is met twice, and the two ends meet exactly where the walk has as many steps as there are places; then all
-- of it is written.
use Rattle.std.specs.Prelude.{◌≡◌, Bool, List, [], ◌∷◌, ◌⊎◌, ◌≢◌, ℕ, zero, suc, ◌+◌, ◌-◌, ◌*◌, ◌/◌, ◌%◌, ◌≤◌, ◌<◌, get_or, set, drop}
use Rattle.std.proofs.Math.Path.{refl}
use Rattle.std.proofs.Common.{sym, ap, ◌∙◌, inl, inr, ⊎_elim, arith, length-set, length-drop, get_or-set_same, get_or-set_other}
use Rattle.std.proofs.Math.Bool.{true, false}
use Rattle.std.proofs.Math.Nat.{sub-zero}
use Rattle.std.proofs.Math.Dec.{eqb}
use Rattle.std.proofs.Math.ListN.{length}
use borrow.Author.Tests.{eqb-true, eqb-false}
use Rattle.base.specs.common.Pick.{pick}
use Rattle.base.specs.common.Decide.{Says}
use Rattle.base.specs.common.laws.Decide.{lt_or_ge, eq_or_ne}
use Rattle.base.specs.common.laws.Stores.{sets_ext}
use Rattle.mesh.specs.Mesh.{next_of, pair_of, around}
use Rattle.mesh.specs.laws.Next.{next_sum}
use Rattle.build_laws.specs.laws.Runs.{true_false}
use Rattle.cell_memory.specs.staging.Staging.{Staged}
use Rattle.cell_builder.specs.placed.Placed.{previous_of, back_of, InPair, is_nil, Backs, back_triangles, Mutual, BackCell, meets_of, WalkedRound}

-- ---- one step

pub previous_sum : (e : ℕ) → previous_of e + 1 ≡ e + 3 * ((3 - e % 3) / 3)
unfolding previous_of
previous_sum e = go (eqb (e % 3) 0) refl
  where
    go : (b : Bool) → eqb (e % 3) 0 ≡ b → pick b (λ _. e + 2) (λ _. e - 1) + 1 ≡ e + 3 * ((3 - e % 3) / 3)
    go true h = omega (arith, eqb-true (e % 3) 0 h)
    go false h = omega (arith, eqb-false (e % 3) 0 h)

next_previous : (e : ℕ) → next_of (previous_of e) ≡ e
next_previous e = omega (arith, previous_sum e, next_sum (previous_of e))

-- ---- the walk by its places: half-edge k of it is the one after k steps back

abbrev pub stepped : ℕ → List ℕ → ℕ → ℕ
stepped x l k = get_or (x ∷ l) k 0

module _ (he : List ℕ) (s : ℕ) where
  back_there : (x : ℕ) (l : List ℕ) → Backs he s x l → (k : ℕ) → k < length l → InPair he (stepped x l k) × (back_of he (stepped x l k) ≡ stepped x l (suc k))
  back_there x [] b k h = absurd (omega arith)
  back_there x (y ∷ ys) b zero h = (b.0, b.1)
  back_there x (y ∷ ys) b (suc k) h = back_there y ys b.3 k (omega arith)

  back_last : (x : ℕ) (l : List ℕ) → Backs he s x l → 0 < length l → stepped x l (length l) ≡ s
  back_last x [] b h = absurd (omega arith)
  back_last x (y ∷ []) b h = eqb-true y s b.2
  back_last x (y ∷ z ∷ ys) b h = back_last y (z ∷ ys) b.3 (omega arith)

-- there is one walk back to s
pub one_walk : (he : List ℕ) (s x : ℕ) (ys zs : List ℕ) → is_nil ys ≡ is_nil zs → Backs he s x ys → Backs he s x zs → ys ≡ zs
one_walk he s x [] [] q b d = refl
one_walk he s x [] (z ∷ zs) q b d = absurd (true_false refl q)
one_walk he s x (y ∷ ys) [] q b d = absurd (true_false q refl)
one_walk he s x (y ∷ ys) (z ∷ zs) q b d =
    let e : y ≡ z = sym b.1 ∙ d.1 in
    let d' : (eqb y s ≡ is_nil zs) × Backs he s y zs = rw e (d.2, d.3) in
    rw (← e) (ap (λ (l : List ℕ). y ∷ l) (one_walk he s y ys zs (sym b.2 ∙ d'.0) b.3 d'.1))

-- what is left of a walk after k + 1 steps
module _ (he : List ℕ) (s : ℕ) where
  after : (x : ℕ) (l : List ℕ) → Backs he s x l → (k : ℕ) → k < length l
      → Backs he s (stepped x l (suc k)) (drop (suc k) l) × (eqb (stepped x l (suc k)) s ≡ is_nil (drop (suc k) l))
  after x [] b k h = absurd (omega arith)
  after x (y ∷ ys) b zero h = (b.3, b.2)
  after x (y ∷ ys) b (suc k) h = after y ys b.3 k (omega arith)

  -- no half-edge is come to twice
  stepped_once : (x : ℕ) (l : List ℕ) → Backs he s x l → (i k : ℕ) → i < length l → k < length l → stepped x l (suc i) ≡ stepped x l (suc k) → i ≡ k
  stepped_once x l b i k hi hk q =
      let u = after x l b i hi in
      let w : Backs he s (stepped x l (suc i)) (drop (suc k) l) × (eqb (stepped x l (suc i)) s ≡ is_nil (drop (suc k) l)) = rw q (after x l b k hk) in
      let one : drop (suc i) l ≡ drop (suc k) l = one_walk he s (stepped x l (suc i)) _ _ (sym u.1 ∙ w.1) u.0 w.0 in
      omega (arith, ap length one, length-drop (suc i) l, length-drop (suc k) l)

pub walked_length : (x : ℕ) (ys : List ℕ) → length (back_triangles x ys) ≡ length ys
walked_length x [] = refl
walked_length x (y ∷ ys) = ap suc (walked_length y ys)

walked_at : (x : ℕ) (l : List ℕ) (k : ℕ) → k < length l → get_or (back_triangles x l) k 0 ≡ stepped x l k / 3
walked_at x [] k h = absurd (omega arith)
walked_at x (y ∷ ys) zero h = refl
walked_at x (y ∷ ys) (suc k) h = walked_at y ys k (omega arith)

-- ---- the loop

module _ (he : List ℕ) (t at end : ℕ) (old : List ℕ) where
  -- so many steps were made back and as many on, and none came to t; with room for all, the places before n and those from m on are written
  pub record RoundEnds (l : List ℕ) (new : List ℕ) (n m e f : ℕ) : Type 0 where
    pub steps : ℕ
    pub long : length new ≡ length old
    pub low : n ≡ at + 1 + steps
    pub high : m + steps ≡ end
    pub near : n ≤ m + 1
    pub short : steps < length l
    pub back : e ≡ stepped t l steps
    pub on : f ≡ stepped t l (length l - steps)
    pub each : end - at ≤ length l → (j : ℕ) → at ≤ j → j < end → (j < n) ⊎ (m ≤ j) → get_or new j 0 ≡ stepped t l (j - at) / 3
    pub rest : (j : ℕ) → (j < at) ⊎ (end ≤ j) → get_or new j 0 ≡ get_or old j 0

  -- whatever walk there is
  abbrev pub WalkingRound : List ℕ → ℕ → ℕ → ℕ → ℕ → Type 0
  WalkingRound new n m e f = (c : List ℕ) (b : BackCell he t (end - at) c) → RoundEnds b.along new n m e f

  module _ (pairs : Mutual he) (within : end ≤ length old) where
    pub round_start : (new : List ℕ) → new ≡ set old at (t / 3) → WalkingRound new (at + 1) end t t
    round_start new q c b =
        let l = b.along in
        let some : at < end = omega (arith, b.some, b.short) in
        rw q (record {
          steps = 0;
          long = length-set old at (t / 3);
          low = omega arith;
          high = omega arith;
          near = omega arith;
          short = omega (arith, b.some);
          back = refl;
          on = rw sub-zero (sym (back_last he t t l b.backs b.some));
          each = λ full j a z w.
              let j-is : j ≡ at = ⊎_elim (λ x. omega arith) (λ x. absurd (omega arith)) w in
              let none : at - at ≡ 0 = omega arith in
              rw (j-is, none) (get_or-set_same old at (t / 3) 0 (omega arith));
          rest = λ j w. get_or-set_other old at j (t / 3) 0 (λ z. ⊎_elim (λ x. omega arith) (λ x. omega arith) w);
        })

    module _ (new : List ℕ) (n m e f : ℕ) where
      module _ {c : List ℕ} (b : BackCell he t (end - at) c) (w : RoundEnds b.along new n m e f) where
        abbrev l : List ℕ
        l = b.along

        there : (k : ℕ) → k < length l → InPair he (stepped t l k) × (back_of he (stepped t l k) ≡ stepped t l (suc k))
        there k h = back_there he t t l b.backs k h

        last : stepped t l (length l) ≡ t
        last = back_last he t t l b.backs b.some

        pub back_in : InPair he e
        back_in = rw w.back (there w.steps w.short).0

        back_is : back_of he e ≡ stepped t l (suc w.steps)
        back_is = ap (back_of he) w.back ∙ (there w.steps w.short).1

        -- a step back that does not come to t leaves more of the walk
        more : back_of he e ≢ t → suc w.steps < length l
        more ne =
            ⊎_elim
            (λ h. h)
            (λ h. let q : suc w.steps ≡ length l = omega (arith, w.short) in absurd (ne (back_is ∙ ap (stepped t l) q ∙ last)))
            (lt_or_ge (suc w.steps) (length l))

        -- one step less far on
        before : (k : ℕ) → k + suc w.steps ≡ length l → (length l - w.steps ≡ suc k) × (length l - suc w.steps ≡ k)
        before k q = (omega arith, omega arith)

        on_suc : (k : ℕ) → k + suc w.steps ≡ length l → f ≡ stepped t l (suc k)
        on_suc k q = w.on ∙ ap (stepped t l) (before k q).0

        -- how far the walk on still is from its beginning
        left : (k : ℕ) × (k + suc w.steps ≡ length l)
        left = (length l - suc w.steps, omega (arith, w.short))

        -- the half-edge after f is the pair of the one that f was stepped back from
        next_is : next_of f ≡ pair_of he (stepped t l left.0)
        next_is =
            ap next_of (on_suc left.0 left.1 ∙ sym (there left.0 (omega (arith, left.1))).1) ∙ next_previous (pair_of he (stepped t l left.0))

        on_is : around he f ≡ stepped t l left.0
        on_is = ap (pair_of he) next_is ∙ pairs (stepped t l left.0) (there left.0 (omega (arith, left.1))).0

        pub next_low : next_of f < length he
        next_low = rw next_is (there left.0 (omega (arith, left.1))).0.1

        pub on_low : around he f < length he
        on_low = rw on_is (there left.0 (omega (arith, left.1))).0.0

        pub back_low : back_of he e ≢ t → back_of he e < length he
        back_low ne = rw back_is (there (suc w.steps) (more ne)).0.0

        module _ (go : n < m) where
          -- one that does leaves none, and there are fewer steps than places
          pub comes_early : back_of he e ≡ t → end - at ≤ length l → ⊥
          comes_early q full =
              let k : (k : ℕ) × (suc k ≡ length l) = (length l - 1, omega (arith, b.some)) in
              let here : stepped t l (suc w.steps) ≡ stepped t l (suc k.0) = sym back_is ∙ q ∙ sym last ∙ ap (stepped t l) (sym k.1) in
              omega (arith, stepped_once he t t l b.backs w.steps k.0 w.short (omega (arith, k.1)) here, k.1, w.low, w.high)

          stored : (x y j : ℕ) → end - at ≤ length l → x ≡ back_of he e / 3 → y ≡ around he f / 3 → at ≤ j → j < end → (j < n + 1) ⊎ (m - 1 ≤ j)
              → get_or (set (set new n x) (m - 1) y) j 0 ≡ stepped t l (j - at) / 3
          stored x y j full qx qy a z o =
              let back : n - at ≡ suc w.steps = omega (arith, w.low) in
              let on : m - 1 - at ≡ left.0 = omega (arith, left.1, b.short, w.low, w.high) in
              ⊎_elim
              (λ q. rw q (get_or-set_same (set new n x) (m - 1) y 0 (rw (length-set new n x) (omega (arith, w.long, w.high))) ∙ qy
              ∙ ap (λ (h : ℕ). h / 3) (on_is ∙ ap (stepped t l) (sym on))))
              (λ p. get_or-set_other (set new n x) (m - 1) j y 0 p ∙ ⊎_elim
              (λ q. rw q (get_or-set_same new n x 0 (omega (arith, w.long, w.high)) ∙ qx ∙ ap (λ (h : ℕ). h / 3) (back_is ∙ ap (stepped t l) (sym back))))
              (λ r. get_or-set_other new n j x 0 r ∙ w.each full j a z (⊎_elim (λ u. inl (omega arith)) (λ u. inr (omega arith)) o))
              (eq_or_ne j n))
              (eq_or_ne j (m - 1))

          stepping : (x y g h : ℕ) → x ≡ g / 3 → y ≡ h / 3 → g ≡ back_of he e → h ≡ around he f → g ≢ t → RoundEnds b.along (set (set new n x) (m - 1) y) (n + 1) (m - 1) g h
          stepping x y g h qx qy qg qh ne = record {
            steps = suc w.steps;
            long = length-set (set new n x) (m - 1) y ∙ length-set new n x ∙ w.long;
            low = omega (arith, w.low);
            high = omega (arith, w.high);
            near = omega (arith, w.near);
            short = more (λ q. ne (qg ∙ q));
            back = qg ∙ back_is;
            on = qh ∙ on_is ∙ ap (stepped t l) (sym (before left.0 left.1).1);
            each = λ full j a p o. stored x y j full (rw (← qg) qx) (rw (← qh) qy) a p o;
            rest = λ j o.
                get_or-set_other (set new n x) (m - 1) j y 0 (λ q. ⊎_elim (λ u. omega (arith, w.low)) (λ u. omega (arith, w.high)) o)
                ∙ get_or-set_other new n j x 0 (λ q. ⊎_elim (λ u. omega (arith, w.low)) (λ u. omega (arith, w.high)) o)
                ∙ w.rest j o;
          }

        -- come by each other
        module _ (past : m ≤ n) where
          -- where a step back of the one end is where the other end is
          one_says : (i : ℕ) (x : ℕ) → i < length l → x ≡ stepped t l (suc i) → (end - at ≤ length l → i ≡ left.0) → (i ≡ left.0 → end - at ≤ length l)
              → (r : Bool) → r ≡ eqb x f → Says r (end - at ≤ length l)
          one_says i x h q there back true z =
              back (stepped_once he t t l b.backs i left.0 h (omega (arith, left.1)) (sym q ∙ eqb-true _ _ (sym z) ∙ on_suc left.0 left.1))
          one_says i x h q there back false z =
              λ full. eqb-false _ _ (sym z) (q ∙ ap (λ (k : ℕ). stepped t l (suc k)) (there full) ∙ sym (on_suc left.0 left.1))

          -- one step apart
          apart_says : n ≡ m → (r : Bool) → r ≡ eqb (back_of he e) f → Says r (end - at ≤ length l)
          apart_says q =
              one_says w.steps (back_of he e) w.short back_is
              (λ full. omega (arith, left.1, b.short, w.low, w.high)) (λ s. omega (arith, left.1, w.low, w.high))

          -- together
          joined_says : n ≡ m + 1 → (r : Bool) → r ≡ eqb e f → Says r (end - at ≤ length l)
          joined_says q =
              let some : at < end = omega (arith, b.some, b.short) in
              let i : (i : ℕ) × (suc i ≡ w.steps) = (w.steps - 1, omega (arith, w.low, w.high)) in
              one_says i.0 e (omega (arith, i.1, w.short)) (w.back ∙ ap (stepped t l) (sym i.1))
              (λ full. omega (arith, i.1, left.1, b.short, w.low, w.high)) (λ s. omega (arith, i.1, left.1, w.low, w.high))

          meets_says : (r : Bool) → r ≡ meets_of he e f (eqb n m) → Says r (end - at ≤ length l)
          unfolding meets_of
          meets_says r z = by (eqb n m) refl z
            where
              by : (x : Bool) → eqb n m ≡ x → r ≡ pick x (λ _. eqb (back_of he e) f) (λ _. eqb e f) → Says r (end - at ≤ length l)
              by true q = apart_says (eqb-true n m q) r
              by false q = joined_says (omega (arith, eqb-false n m q, w.near)) r

          all_written : end - at ≤ length l → Staged c at old new end
          all_written full =
              let wide : length c ≡ end - at = ap length b.is ∙ walked_length t l ∙ omega (arith, b.short) in
              let some : at < end = omega (arith, b.some, b.short) in
              record {
                ended = omega arith;
                written = sets_ext 0 c old new at (omega arith) w.long
                    (λ k h. w.rest k (inl h))
                    (λ k h.
                    let z : at + k - at ≡ k = omega arith in
                    w.each full (at + k) (omega arith) (omega arith) (⊎_elim (λ u. inl u) (λ u. inr (omega arith)) (lt_or_ge (at + k) n))
                    ∙ rw z (sym (walked_at t l k (omega (arith, b.short))) ∙ ap (λ (d : List ℕ). get_or d k 0) (sym b.is)))
                    (λ k h. w.rest k (inr (omega arith)));
              }

      pub round_step : n < m → WalkingRound new n m e f → (x y g h : ℕ) → x ≡ g / 3 → y ≡ h / 3 → g ≡ back_of he e → h ≡ around he f → g ≢ t
          → WalkingRound (set (set new n x) (m - 1) y) (n + 1) (m - 1) g h
      round_step go w x y g h qx qy qg qh ne c b = stepping b (w c b) go x y g h qx qy qg qh ne

      -- back at the first half-edge too early
      pub round_early : n < m → WalkingRound new n m e f → (g : ℕ) → g ≡ back_of he e → g ≡ t → (left : List ℕ) (c : List ℕ) (b : BackCell he t (end - at) c)
          → WalkedRound at end old left c (length b.along) false
      round_early go w g qg q left c b =
          let no = comes_early b (w c b) go (sym qg ∙ q) in
          record { says = no; written = λ full. absurd (no full) }

      pub round_all : m ≤ n → WalkingRound new n m e f → (r : Bool) → r ≡ meets_of he e f (eqb n m) → (c : List ℕ) (b : BackCell he t (end - at) c)
          → WalkedRound at end old new c (length b.along) r
      round_all past w r q c b = record { says = meets_says b (w c b) past r q; written = all_written b (w c b) past }
