-- The bytes of a list's records grow at their end by a record; a triangle's record is made of a part of each list.
use Rattle.std.specs.Prelude.{◌≡◌, get_or, take}
use Rattle.std.proofs.Math.Path.{refl, sym, ap}
use Rattle.std.proofs.Common.{◌∙◌, add-one, zero-add, suc-add, take-append-drop, take-suc}
use mathlib.Core.List.{List, [], ◌∷◌, ◌++◌, append_assoc, append-nil}
use Prim.Native.Nat.{ℕ, zero, suc, ◌+◌, ◌-◌, ◌*◌, ◌^◌, ◌≤◌, ◌<◌}
use native.Mathlib.Omega.{arith}
use Rattle.std.proofs.Math.Nat.{add-zero}
use Rattle.std.proofs.Math.ListN.{length, drop}
use Rattle.std.proofs.Math.Seq.{take-length, drop-length}
use Rattle.octets.specs.Bytes.{each, All}
use Rattle.octets.specs.laws.Bytes.{each_append}
use Rattle.form.specs.Form.{Triangle, triangle_bytes, TriangleFits}
use Rattle.mend.specs.writer.Written.{links, triangle_at, triangles_from, triangle_records}

-- ---- the bytes of each

module _ {A : Type 0} (f : A → List ℕ) where
  pub each_more : (l : List A) (i : ℕ) (z : A) → i < length l → each f (take (i + 1) l) ≡ each f (take i l) ++ f (get_or l i z)
  each_more l i z h =
      ap (λ (k : ℕ). each f (take k l)) (add-one i)
      ∙ ap (each f) (take-suc l i z h)
      ∙ each_append f (take i l) (get_or l i z ∷ [])
      ∙ ap (λ (s : List ℕ). each f (take i l) ++ s) (append-nil (f (get_or l i z)))

  pub each_whole : (l : List A) (i : ℕ) → each f (take (length l) l) ≡ each f (take i l) ++ each f (drop i l)
  each_whole l i = ap (each f) (take-length l ∙ sym (take-append-drop i l)) ∙ each_append f (take i l) (drop i l)

-- ---- triangles

-- three entries from the place k on, and what comes after them
drop_three : (l : List ℕ) (k : ℕ) → k + 3 ≤ length l → drop k l ≡ get_or l k 0 ∷ get_or l (k + 1) 0 ∷ get_or l (k + 2) 0 ∷ drop (k + 3) l
drop_three [] k h = absurd (omega arith)
drop_three (x ∷ []) zero h = absurd (omega arith)
drop_three (x ∷ y ∷ []) zero h = absurd (omega arith)
drop_three (x ∷ y ∷ z ∷ l) zero h = refl
drop_three (x ∷ l) (suc k) h = rw (suc-add k 1, suc-add k 2, suc-add k 3) (drop_three l k (omega arith))

three : (l : List ℕ) (k : ℕ) → k + 3 ≤ length l → take 3 (drop k l) ≡ get_or l k 0 ∷ get_or l (k + 1) 0 ∷ get_or l (k + 2) 0 ∷ []
three l k h = ap (take 3) (drop_three l k h)

module _ (tri he : List ℕ) where
  -- the record of triangle i, from the parts of the lists
  pub record_is : (i from to : ℕ) → from ≡ 3 * i → to ≡ 3 * i + 3 → 3 * i + 3 ≤ length tri → length he ≡ length tri
      → 3 ∷ links (take (to - from) (drop from tri)) ++ links (take (to - from) (drop from he)) ≡ triangle_bytes (triangle_at tri he i)
  record_is i from to p q h e =
      let n : to - from ≡ 3 = omega arith in
      rw (n, p, three tri (3 * i) h, three he (3 * i) (omega arith))

  records_append : (m n i : ℕ) → triangle_records tri he i (m + n) ≡ triangle_records tri he i m ++ triangle_records tri he (i + m) n
  unfolding triangle_records triangles_from
  records_append zero n i = rw (zero-add n, add-zero i)
  records_append (suc m) n i =
      let e : suc i + m ≡ i + suc m = omega arith in
      let c = triangle_bytes (triangle_at tri he i) in
      rw (suc-add m n)
      (ap (λ (t : List ℕ). c ++ t) (records_append m n (suc i) ∙ ap (λ (k : ℕ). triangle_records tri he (suc i) m ++ triangle_records tri he k n) e)
      ∙ sym (append_assoc c (triangle_records tri he (suc i) m) (triangle_records tri he (i + suc m) n)))

  pub records_none : triangle_records tri he 0 0 ≡ []
  unfolding triangle_records triangles_from
  records_none = refl

  pub records_more : (n : ℕ) → triangle_records tri he 0 (n + 1) ≡ triangle_records tri he 0 n ++ triangle_bytes (triangle_at tri he n)
  unfolding triangle_records triangles_from
  records_more n =
      records_append n 1 0
      ∙ ap (λ (k : ℕ). triangle_records tri he 0 n ++ triangle_records tri he k 1) (zero-add n)
      ∙ ap (λ (t : List ℕ). triangle_records tri he 0 n ++ t) (append-nil (triangle_bytes (triangle_at tri he n)))

  pub records_split : (m n : ℕ) → m ≤ n → triangle_records tri he 0 n ≡ triangle_records tri he 0 m ++ triangle_records tri he m (n - m)
  records_split m n h =
      let e : n ≡ m + (n - m) = omega arith in
      ap (triangle_records tri he 0) e ∙ records_append m (n - m) 0 ∙ ap (λ (k : ℕ). triangle_records tri he 0 m ++ triangle_records tri he k (n - m)) (zero-add m)

  -- n triangles from triangle i on have the numbers of a list from there on
  pub numbers_from_lem : (f : Triangle → List ℕ) (l : List ℕ) → ((k : ℕ) → f (triangle_at tri he k) ≡ get_or l (3 * k) 0 ∷ get_or l (3 * k + 1) 0 ∷ get_or l (3 * k + 2) 0 ∷ [])
      → (n i : ℕ) → 3 * (i + n) ≡ length l → each f (triangles_from tri he i n) ≡ drop (3 * i) l
  unfolding triangles_from
  numbers_from_lem f l q zero i h = let e : 3 * i ≡ length l = omega arith in sym (ap (λ (k : ℕ). drop k l) e ∙ drop-length l)
  numbers_from_lem f l q (suc n) i h =
      let e : 3 * suc i ≡ 3 * i + 3 = omega arith in
      rw (q i, numbers_from_lem f l q n (suc i) (omega arith), e) (sym (drop_three l (3 * i) (omega arith)))

  pub triangles_count : (n i : ℕ) → length (triangles_from tri he i n) ≡ n
  unfolding triangles_from
  triangles_count zero i = refl
  triangles_count (suc n) i = ap suc (triangles_count n (suc i))

  -- numbers of four bytes make triangles that have a form
  pub triangles_fit : ((k : ℕ) → get_or tri k 0 < 2 ^ 32) → ((k : ℕ) → get_or he k 0 < 2 ^ 32) → (n i : ℕ) → All TriangleFits (triangles_from tri he i n)
  unfolding triangles_from
  triangles_fit p q zero i = tt
  triangles_fit p q (suc n) i = ((p _, p _, p _, q _, q _, q _), triangles_fit p q n (suc i))
