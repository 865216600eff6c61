-- Where a line from site s to site t begins and ends: an exit of a triangle of s ahead of it and one of a triangle of t behind it, or a border edge along the line with the mesh on its right.
use Rattle.std.specs.Prelude.{◌≡◌, List, ◌⊎◌, ◌≢◌, ℕ, ◌<◌, length}
use Rattle.std.proofs.Common.{sym, ap, ◌∙◌, subst, inl, inr, ⊎_elim, arith}
use Rattle.base.specs.common.laws.Decide.{eq_or_ne}
use Rattle.base.specs.numbers.Numbers.{EMPTY}
use Rattle.mesh.specs.Mesh.{next_of, start_of, end_of, pair_of, around, Mates, Paired}
use Rattle.mesh.specs.laws.Next.{next_lt, next_thrice}
use Rattle.nearest_laws.specs.laws.Area.{◌⊖◌, Null, more}
use Rattle.grid.specs.Raised.{area_of}
use Rattle.grid.specs.declared.Raised.{Raised}
use Rattle.grid.specs.declared.Signed.{Signed}
use Rattle.nearest_laws.specs.laws.Signs.{Pos, Neg, NonNeg, NonPos}
use Rattle.nearest_laws.specs.laws.Strip.{Exit}
use Rattle.grid.specs.scan.Judged.{apex_of}
use Rattle.nearest_laws.specs.laws.Turns.{comes, mate}
use Rattle.nearest_laws.specs.laws.Sides.{Apart, not_both, three_ways, pos_or, nonneg_or, at_end, lower, open_or}

module _ (tri he : List ℕ) (ok : Paired tri he) (P : ℕ → Raised)
    (ccw : (e : ℕ) → e < length he → Pos (area_of (P (start_of tri e)) (P (end_of tri e)) (P (apex_of tri e))))
    (left_all : (d n : ℕ) → d < length he → pair_of he d ≡ EMPTY → n < length he → NonNeg (area_of (P (start_of tri d)) (P (end_of tri d)) (P (start_of tri n))))
    (incoming : (d : ℕ) → d < length he → pair_of he d ≡ EMPTY → (e : ℕ) × (e < length he) × (pair_of he e ≡ EMPTY) × (end_of tri e ≡ start_of tri d))
    (s t : ℕ) (apart : Apart (P s) (P t))
    (es et : ℕ) (les : es < length he) (let' : et < length he) (qs : end_of tri es ≡ s) (qt : end_of tri et ≡ t)
  where
    abbrev A : Raised
    A = P s

    abbrev B : Raised
    B = P t

    abbrev S : ℕ → Signed
    S n = area_of A B (P n)

    pub record Bad : Type 0 where
      pub way : ℕ
      pub inside : way < length he
      pub open' : pair_of he way ≡ EMPTY
      pub from : Null (S (start_of tri way))
      pub to : Null (S (end_of tri way))
      pub right : Neg (S (apex_of tri way))

    pub record Ahead : Type 0 where
      pub x : ℕ
      pub exit : Exit tri he ok P A B x
      pub apex : apex_of tri x ≡ s

    pub record Behind : Type 0 where
      pub y : ℕ
      pub exit : Exit tri he ok P A B y
      pub start : start_of tri y ≡ t
      pub back : NonPos (S (apex_of tri y))

    thrice : (e : ℕ) → start_of tri (next_of (next_of (next_of e))) ≡ start_of tri e
    thrice e = ap (start_of tri) (next_thrice e)

    -- the two turns that are looked for
    ahead : (e : ℕ) → e < length he → end_of tri e ≡ s → Pos (S (start_of tri e)) → NonPos (S (apex_of tri e)) → Ahead
    ahead e l q h k = record {
      x = next_of (next_of e);
      exit = (next_lt ok.threes (next_lt ok.threes l), k, subst (λ v. Pos (S v)) (sym (thrice e)) h);
      apex = ap (λ j. start_of tri (next_of j)) (next_thrice e) ∙ q;
    }

    behind : (e : ℕ) → e < length he → end_of tri e ≡ t → NonPos (S (start_of tri e)) → Pos (S (apex_of tri e)) → Behind
    behind e l q h k = record {
      y = next_of e;
      exit = (next_lt ok.threes l, subst (λ v. NonPos (S v)) (sym q) (on_line A B), k);
      start = q;
      back = subst (λ v. NonPos (S v)) (sym (thrice e)) h;
    }
      where
        on_line : (a b : Raised) → NonPos (area_of a b b)
        on_line a b = omega arith

    -- the side of a neighbour, and how much farther left it lies than s or t
    a_more : (a b n : Raised) → Pos (area_of a b n) → Pos (more a b a n)
    a_more a b n h = omega arith

    a_more' : (a b n : Raised) → NonPos (more a b a n) → NonPos (area_of a b n)
    a_more' a b n h = omega arith

    a_more'' : (a b n : Raised) → Pos (more a b a n) → Pos (area_of a b n)
    a_more'' a b n h = omega arith

    a_less : (a b n : Raised) → Neg (more b a a n) → Pos (area_of a b n)
    a_less a b n h = omega arith

    b_more : (a b n : Raised) → Neg (area_of a b n) → Pos (more b a b n)
    b_more a b n h = omega arith

    b_more' : (a b n : Raised) → NonNeg (more b a b n) → NonPos (area_of a b n)
    b_more' a b n h = omega arith

    b_more'' : (a b n : Raised) → Neg (more b a b n) → Pos (area_of a b n)
    b_more'' a b n h = omega arith

    b_less : (a b n : Raised) → Neg (more a b b n) → Neg (area_of a b n)
    b_less a b n h = omega arith

    -- t is on the left of each border edge at s, and s of each at t
    out_s : (e : ℕ) → e < length he → end_of tri e ≡ s → pair_of he (next_of e) ≡ EMPTY → NonPos (S (apex_of tri e))
    out_s e l q u =
        flip A (P (apex_of tri e)) B (subst (λ v. NonNeg (area_of (P v) (P (apex_of tri e)) B)) q
        (subst (λ v. NonNeg (area_of (P (end_of tri e)) (P (apex_of tri e)) (P v))) (thrice' qt) (left_all (next_of e) (next_of et) (next_lt ok.threes l) u (next_lt ok.threes let'))))
      where
        thrice' : {v : ℕ} → end_of tri et ≡ v → start_of tri (next_of et) ≡ v
        thrice' z = z

        flip : (a n b : Raised) → NonNeg (area_of a n b) → NonPos (area_of a b n)
        flip a n b h = omega arith

    in_s : (e : ℕ) → e < length he → end_of tri e ≡ s → pair_of he e ≡ EMPTY → NonNeg (S (start_of tri e))
    in_s e l q u =
        flip (P (start_of tri e)) A B (subst (λ v. NonNeg (area_of (P (start_of tri e)) (P v) B)) q
        (subst (λ v. NonNeg (area_of (P (start_of tri e)) (P (end_of tri e)) (P v))) qt (left_all e (next_of et) l u (next_lt ok.threes let'))))
      where
        flip : (n a b : Raised) → NonNeg (area_of n a b) → NonNeg (area_of a b n)
        flip n a b h = omega arith

    out_t : (e : ℕ) → e < length he → end_of tri e ≡ t → pair_of he (next_of e) ≡ EMPTY → NonNeg (S (apex_of tri e))
    out_t e l q u =
        flip A B (P (apex_of tri e)) (subst (λ v. NonNeg (area_of (P v) (P (apex_of tri e)) A)) q
        (subst (λ v. NonNeg (area_of (P (end_of tri e)) (P (apex_of tri e)) (P v))) qs (left_all (next_of e) (next_of es) (next_lt ok.threes l) u (next_lt ok.threes les))))
      where
        flip : (a b n : Raised) → NonNeg (area_of b n a) → NonNeg (area_of a b n)
        flip a b n h = omega arith

    in_t : (e : ℕ) → e < length he → end_of tri e ≡ t → pair_of he e ≡ EMPTY → NonPos (S (start_of tri e))
    in_t e l q u =
        flip A B (P (start_of tri e)) (subst (λ v. NonNeg (area_of (P (start_of tri e)) (P v) A)) q
        (subst (λ v. NonNeg (area_of (P (start_of tri e)) (P (end_of tri e)) (P v))) qs (left_all e (next_of es) l u (next_lt ok.threes les))))
      where
        flip : (a b n : Raised) → NonNeg (area_of n b a) → NonPos (area_of a b n)
        flip a b n h = omega arith

    -- from a neighbour of s on the left
    ahead_from : (e : ℕ) → e < length he → end_of tri e ≡ s → Pos (S (start_of tri e)) → Ahead
    ahead_from e l q h =
        let r = comes tri he ok P ccw s A B Pos NonPos pos_or (λ z k. weak z k) e (l, q, a_more A B (P (start_of tri e)) h) (a_more A B (P (start_of tri e)) h) in
        ahead r.0 r.1.0 r.1.1 (a_more'' A B (P (start_of tri r.0)) r.1.2) (⊎_elim (λ k. a_more' A B (P (apex_of tri r.0)) k) (λ k. out_s r.0 r.1.0 r.1.1 k) r.2)
      where
        weak : (z : Signed) → Pos z → NonNeg z
        weak z k = omega arith

    off₁ : (z : Signed) → Neg z → NonNeg z → ⊥
    off₁ z h k = omega arith

    off₂ : (z : Signed) → Pos z → NonPos z → ⊥
    off₂ z h k = omega arith

    null_s : Null (S s)
    null_s = flat A B
      where
        flat : (a b : Raised) → Null (area_of a b a)
        flat a b = omega arith

    null_t : Null (S t)
    null_t = flat A B
      where
        flat : (a b : Raised) → Null (area_of a b b)
        flat a b = omega arith

    -- the next two neighbours are not signedSum on the line
    not_both_at : (v e : ℕ) → Null (S v) → e < length he → end_of tri e ≡ v → Null (S (apex_of tri e)) → Null (S (start_of tri e)) → ⊥
    not_both_at v e n l q h k =
        not_both A B (P v) (P (apex_of tri e)) (P (start_of tri e)) apart (subst (λ u. Pos (area_of (P u) (P (apex_of tri e)) (P (start_of tri e)))) q (at_end tri he ok P ccw e l))
        (less (S (apex_of tri e)) (S v) h n) (less (S (start_of tri e)) (S v) k n)
      where
        less : (x y : Signed) → Null x → Null y → Null (x ⊖ y)
        less x y p q = omega arith

    after : (e : ℕ) → e < length he → pair_of he (next_of e) ≢ EMPTY → Mates tri he (next_of e) (around he e)
    after e l n = mate tri he ok P ccw s A B Pos NonPos pos_or (λ z k. weak z k) e l n
      where
        weak : (z : Signed) → Pos z → NonNeg z
        weak z k = omega arith

    ahead_border : (e : ℕ) → e < length he → end_of tri e ≡ s → pair_of he e ≡ EMPTY → Ahead ⊎ Bad
    ahead_border e l q u =
        ⊎_elim
        (λ h. absurd (off₁ _ h (in_s e l q u)))
        (λ g. ⊎_elim
        (λ h. ⊎_elim
        (λ k. inr (record { way = e; inside = l; open' = u; from = h; to = subst (λ v. Null (S v)) (sym q) null_s; right = k }))
        (λ i. ⊎_elim
        (λ k. absurd (not_both_at s e null_s l q k h))
        (λ k. ⊎_elim
        (λ z. absurd (off₂ _ k (out_s e l q z)))
        (λ z. let m = after e l z in inl (ahead_from (around he e) m.inside (m.to ∙ q) (subst (λ v. Pos (S v)) (sym m.from) k)))
        (eq_or_ne (pair_of he (next_of e)) EMPTY))
        i)
        (three_ways (S (apex_of tri e))))
        (λ h. inl (ahead_from e l q h))
        g)
        (three_ways (S (start_of tri e)))

    pub ahead_or_bad : Ahead ⊎ Bad
    ahead_or_bad =
        ⊎_elim
        (λ d. let e = incoming d.0 d.1 d.2 in ahead_border e.0 e.1 (e.3 ∙ d.3) e.2)
        (λ inner. let n = lower tri he ok P ccw s inner B A (λ p q. apart (sym p) (sym q)) es les qs in inl (ahead_from n.0 n.1 n.2 (a_less A B (P (start_of tri n.0)) n.3)))
        (open_or tri he ok P ccw s (length he))

    behind_from : (e : ℕ) → e < length he → end_of tri e ≡ t → Neg (S (start_of tri e)) → Behind ⊎ Bad
    behind_from e l q h =
        let b = b_more A B (P (start_of tri e)) h in
        let r = comes tri he ok P ccw t B A NonNeg Neg nonneg_or (λ z k. k) e (l, q, weak _ b) b in
        let z = r.0 in
        let lz = r.1.0 in
        let qz = r.1.1 in
        let right-z = b_more' A B (P (start_of tri z)) r.1.2 in
        ⊎_elim
        (λ k. inl (behind z lz qz right-z (b_more'' A B (P (apex_of tri z)) k)))
        (λ k. ⊎_elim
        (λ i. absurd (off₁ _ i (out_t z lz qz k)))
        (λ g. ⊎_elim
        (λ i. ⊎_elim
        (λ j. inr (record {
          way = next_of z;
          inside = next_lt ok.threes lz;
          open' = k;
          from = subst (λ v. Null (S v)) (sym qz) null_t;
          to = i;
          right = subst (λ v. Neg (S v))
              (sym (thrice z)) j;
        }))
        (λ f. ⊎_elim (λ j. absurd (not_both_at t z null_t lz qz i j)) (λ j. absurd (off₂ _ j right-z)) f)
        (three_ways (S (start_of tri z))))
        (λ i. inl (behind z lz qz right-z i))
        g)
        (three_ways (S (apex_of tri z))))
        r.2
      where
        weak : (z : Signed) → Pos z → NonNeg z
        weak z k = omega arith

    behind_border : (e : ℕ) → e < length he → end_of tri e ≡ t → pair_of he e ≡ EMPTY → Behind ⊎ Bad
    behind_border e l q u =
        ⊎_elim
        (λ h. behind_from e l q h)
        (λ g. ⊎_elim
        (λ h. ⊎_elim
        (λ k. ⊎_elim
        (λ z. absurd (off₁ _ k (out_t e l q z)))
        (λ z. let m = after e l z in behind_from (around he e) m.inside (m.to ∙ q) (subst (λ v. Neg (S v)) (sym m.from) k))
        (eq_or_ne (pair_of he (next_of e)) EMPTY))
        (λ i. ⊎_elim
        (λ k. absurd (not_both_at t e null_t l q k h))
        (λ k. inl (behind e l q (in_t e l q u) k))
        i)
        (three_ways (S (apex_of tri e))))
        (λ h. absurd (off₂ _ h (in_t e l q u)))
        g)
        (three_ways (S (start_of tri e)))

    pub behind_or_bad : Behind ⊎ Bad
    behind_or_bad =
        ⊎_elim
        (λ d. let e = incoming d.0 d.1 d.2 in behind_border e.0 e.1 (e.3 ∙ d.3) e.2)
        (λ inner. let n = lower tri he ok P ccw t inner A B apart et let' qt in behind_from n.0 n.1 n.2 (b_less A B (P (start_of tri n.0)) n.3))
        (open_or tri he ok P ccw t (length he))
