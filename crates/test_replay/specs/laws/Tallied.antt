-- Arrays of 7 lent to their exact room, the lists as they were read, and the tally of one record more.
use Rattle.std.specs.Prelude.{◌≡◌, List, [], ◌∷◌, ◌≢◌, ℕ, zero, suc, ◌+◌, ◌*◌, ◌≤◌, ◌<◌, Float, length, take, replicate}
use Rattle.std.proofs.Math.Path.{refl}
use Rattle.std.proofs.Common.{ap, subst, ◌∙◌, ⊎_elim, arith}
use Rattle.std.specs.Float.{nan, binary64}
use Rattle.std.specs.Float.Ieee.{of_bits}
use borrow.Author.Tests.{eq-eqb, ne_eqb, le-leb, lt-leb}
use Rattle.base.specs.common.laws.Decide.{eq_or_ne}
use Rattle.mesh.specs.Accepted.{Mesh}
use Rattle.admission.specs.Slices.{slices}
use Rattle.test_replay.specs.words.Words.{word_of, after_of, pattern_of, float_of, place_of, Loaded}
use Rattle.test_replay.specs.declared.Tally.{Tally}
use Rattle.test_replay.specs.Judged.{BuildReplayed}
use Rattle.test_replay.specs.Tallied.{sevens, sevens_of, ListRead, hull_place, Replayed, RecordVerdict, NextRead, three_counts, tally_with, tally_of, RecordsTallied}

take_same : {A : Type 0} (a : A) (n m : ℕ) → n ≤ m → take n (replicate m a) ≡ replicate n a
take_same a zero m h = refl
take_same a (suc n) zero h = absurd (omega arith)
take_same {A} a (suc n) (suc m) h = ap {B = List A} (λ l. a ∷ l) (take_same a n m (omega arith))

pub sevens_lent : {m : Mesh} {b : List ℕ} {k r : ℕ} (n t h w v ix off : ℕ) → n ≤ w → 2 * (7 * t + 5 * h + 4) ≤ v → 12 * t + 8 * h + 4 ≤ ix → n + 1 ≤ off
    → BuildReplayed m b k (slices (take n (replicate w 7)) (take (2 * (7 * t + 5 * h + 4)) (replicate v (of_bits binary64 0x401C_0000_0000_0000)))
    (take (12 * t + 8 * h + 4) (replicate ix 7)) (take (n + 1) (replicate off 7)) (replicate 9 7)) r
    → BuildReplayed m b k (sevens n t h) r
unfolding sevens
sevens_lent n t h w v ix off p q u o a =
    rw (
      ← take_same {A = ℕ} 7 n w p,
      ← take_same (of_bits binary64 0x401C_0000_0000_0000) (2 * (7 * t + 5 * h + 4)) v q,
      ← take_same {A = ℕ} 7 (12 * t + 8 * h + 4) ix u,
      ← take_same {A = ℕ} 7 (n + 1) off o,
    ) a

-- ---- the mesh

listed : {A : Type 0} (d : A) (value other : ℕ → A) (old l : List A) → ((i : ℕ) → value i ≡ other i) → Loaded d value old l → ListRead d other (length old) l
listed d value other old l q g = record { long = g.long; each = λ i h. g.each i (rw g.long h) ∙ q i }

pub replayed_mesh : (b : List ℕ) (sites : List Float) (tri he hull : List ℕ) (m : Mesh) (from pairs border k : ℕ) {r : ℕ}
    → from ≡ after_of 13 (2 * length sites) → pairs ≡ after_of from (length tri) → border ≡ after_of pairs (length he) → k ≡ after_of border (length m.hull)
    → Loaded nan (λ i. float_of (pattern_of b (place_of 13 i))) sites m.sites → Loaded 0 (λ i. word_of b (after_of from i)) tri m.triangles
    → Loaded 0 (λ i. word_of b (after_of pairs i)) he m.halfedges → Loaded 0 (λ i. word_of b (after_of border i)) hull m.hull
    → BuildReplayed m b k (sevens_of m) r → Replayed b (length sites) (length tri) (length he) (length hull) r
replayed_mesh b sites tri he hull m from pairs border k {r} pf pp pb pk ls lt lh lu a =
    let p1 = pp ∙ ap (λ c. after_of c (length tri)) pf in
    let p2 = pb ∙ ap (λ c. after_of c (length he)) p1 in
    let p3 = pk ∙ ap (λ c. after_of c (length m.hull)) p2 ∙ ap (after_of (hull_place (length sites) (length tri) (length he))) lu.long in
    record {
      mesh = m;
      stored = record {
        sites = listed nan _ _ sites m.sites (λ i. refl) ls;
        triangles = listed 0 _ _ tri m.triangles (λ i. ap (λ c. word_of b (after_of c i)) pf) lt;
        halfedges = listed 0 _ _ he m.halfedges (λ i. ap (λ c. word_of b (after_of c i)) p1) lh;
        hull = listed 0 _ _ hull m.hull (λ i. ap (λ c. word_of b (after_of c i)) p2) lu;
      };
      answered = subst (λ c. BuildReplayed m b c (sevens_of m) r) p3 a;
    }

pub replayed_as : {b : List ℕ} {s s' t t' e e' h h' r : ℕ} → Replayed b s t e h r → s ≡ s' → t ≡ t' → e ≡ e' → h ≡ h' → Replayed b s' t' e' h' r
replayed_as {b} {s} {s'} {t} {t'} {e} {e'} {h} {h'} {r} a p q u v =
    subst (λ c. Replayed b s' t' e' c r) v
    (subst (λ c. Replayed b s' t' c h r) u (subst (λ c. Replayed b s' c e h r) q (subst (λ c. Replayed b c t e h r) p a)))

-- ---- the record

module _ (b : List ℕ) (s t e h : ℕ) (ps : s ≡ word_of b 1) (pt : t ≡ word_of b 2) (pe : e ≡ word_of b 3) (ph : h ≡ word_of b 4) where
  pub long_sites : 128 < s → RecordVerdict b 2
  unfolding RecordVerdict
  long_sites l = rw (lt-leb (word_of b 1) 128 (omega arith)) refl

  module _ (fs : s ≤ 128) where
    pub long_triangles : 128 < t → RecordVerdict b 2
    unfolding RecordVerdict
    long_triangles l = rw (le-leb (word_of b 1) 128 (omega arith), lt-leb (word_of b 2) 128 (omega arith)) refl

    module _ (ft : t ≤ 128) where
      pub long_halfedges : 128 < e → RecordVerdict b 2
      unfolding RecordVerdict
      long_halfedges l = rw (le-leb (word_of b 1) 128 (omega arith), le-leb (word_of b 2) 128 (omega arith), lt-leb (word_of b 3) 128 (omega arith)) refl

      module _ (fe : e ≤ 128) where
        pub long_hull : 64 < h → RecordVerdict b 2
        unfolding RecordVerdict
        long_hull l =
            rw (
              le-leb (word_of b 1) 128 (omega arith),
              le-leb (word_of b 2) 128 (omega arith),
              le-leb (word_of b 3) 128 (omega arith),
              lt-leb (word_of b 4) 64 (omega arith),
            ) refl

        pub within : {r : ℕ} → h ≤ 64 → Replayed b s t e h r → RecordVerdict b r
        unfolding RecordVerdict
        within l a =
            rw (
              le-leb (word_of b 1) 128 (omega arith),
              le-leb (word_of b 2) 128 (omega arith),
              le-leb (word_of b 3) 128 (omega arith),
              le-leb (word_of b 4) 64 (omega arith),
            ) (replayed_as a ps pt pe ph)

-- ---- the tally

pub counts_built : (t : Tally) (r : ℕ) → r ≡ 0 → three_counts (t.built + 1) t.refused t.different ≡ tally_with t r
unfolding tally_with
counts_built t r z = rw (eq-eqb r 0 z) refl

pub counts_refused : (t : Tally) (r : ℕ) → r ≢ 0 → r ≡ 1 → three_counts t.built (t.refused + 1) t.different ≡ tally_with t r
unfolding tally_with
counts_refused t r n z = rw (ne_eqb r 0 n, eq-eqb r 1 z) refl

pub counts_different : (t : Tally) (r : ℕ) → r ≢ 0 → r ≢ 1 → three_counts t.built t.refused (t.different + 1) ≡ tally_with t r
unfolding tally_with
counts_different t r n o = rw (ne_eqb r 0 n, ne_eqb r 1 o) refl

abbrev total : Tally → ℕ
total t = t.built + t.refused + t.different

total_counted : (t : Tally) (r : ℕ) → total (tally_with t r) ≡ total t + 1
total_counted t r =
    ⊎_elim (λ z. rw (← counts_built t r z) (omega arith))
    (λ n. ⊎_elim (λ z. rw (← counts_refused t r n z) (omega arith)) (λ o. rw (← counts_different t r n o) (omega arith)) (eq_or_ne r 1)) (eq_or_ne r 0)

total_of : (rs : List ℕ) → total (tally_of rs) ≡ length rs
total_of [] = refl
total_of (r ∷ rs) = omega (arith, total_counted (tally_of rs) r, total_of rs)

pub tallied_none : RecordsTallied 0 (three_counts 0 0 0)
tallied_none = record { verdicts = []; many = refl; read = tt; counts = refl }

pub tallied_next : {n : ℕ} {t u : Tally} {r : ℕ} → RecordsTallied n t → NextRead r → u ≡ tally_with t r → RecordsTallied (n + 1) u
tallied_next {n} {t} {u} {r} g a q = record {
  verdicts = r ∷ g.verdicts;
  many = omega (arith, g.many);
  read = (a, g.read);
  counts = q ∙ ap (λ c. tally_with c r) g.counts;
}

pub tallied_total : {n : ℕ} {t : Tally} → RecordsTallied n t → t.built + t.refused + t.different ≡ n
tallied_total g = ap total g.counts ∙ total_of g.verdicts ∙ g.many

pub tallied_all : {n k : ℕ} {t : Tally} → RecordsTallied n t → n ≡ k → RecordsTallied k t
tallied_all {t = t} g e = subst (λ c. RecordsTallied c t) e g
