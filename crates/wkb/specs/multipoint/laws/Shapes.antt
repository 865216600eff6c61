-- The fields of a file that was written from marks and patterns, and such a file from the fields of one that has the shape.
use Rattle.std.specs.Prelude.{◌≡◌, Bool, true, false, ℕ, zero, suc, ◌+◌, ◌*◌, ◌/◌, ◌%◌, ◌^◌, ◌≤◌, ◌<◌, eqb, get_or}
use Rattle.std.proofs.Math.Path.{refl, sym, ap, subst}
use Rattle.std.proofs.Common.{◌∙◌, add-one, take-append-drop, take_at, drop-drop, take-add, take_all}
use mathlib.Core.List.{List, [], ◌∷◌, ◌++◌, append_assoc}
use native.Mathlib.Omega.{arith}
use Rattle.std.proofs.Math.ListN.{length, take, drop, length-append, length-drop}
use Rattle.std.proofs.Math.Seq.{drop_at, drop-append-add, length-take-le}
use Rattle.octets.specs.Bytes.{Bytes, each}
use Rattle.octets.specs.Orders.{spelt, word_in}
use Rattle.octets.specs.laws.Bytes.{bytes_take, bytes_drop}
use Rattle.octets.specs.laws.Orders.{length_spelt, word_spelt, spelt_word, word_in_small}
use Rattle.wkb.specs.multipoint.MultiPoint.{FilePoint, file_point, Patterned, mark, start_bytes, file_point_bytes, multi_point}
use Rattle.wkb.specs.multipoint.Fields.{little_of, field, StartsAs, point_count, point_place, Shape, file_pattern}
use Rattle.wkb.specs.multipoint.Promise.{firsts}
use Rattle.wkb.specs.multipoint.laws.Firsts.{length_firsts, get_d_firsts, each_firsts}
use Rattle.wkb.specs.multipoint.laws.Points.{point_length, points_length}

-- ---- of what was written

mark_little : (little : Bool) → eqb (mark little) 1 ≡ little
mark_little true = refl
mark_little false = refl

mark_small : (little : Bool) → mark little < 2
mark_small true = omega arith
mark_small false = omega arith

read_there : (little : Bool) (n x : ℕ) (r : List ℕ) → x < 256 ^ n → word_in little (take n (spelt little n x ++ r)) ≡ x
read_there little n x r h = ap (word_in little) (take_at (spelt little n x) r n (length_spelt little n x)) ∙ word_spelt little n x h

-- a structure begins with its mark and its type
module _ (little : Bool) (kind : ℕ) (r : List ℕ) where
  pub starts_so : kind < 256 ^ 4 → StartsAs (start_bytes little kind ++ r) kind
  unfolding field
  starts_so h = record { marked = mark_small little; typed = rw (mark_little little) (read_there little 4 kind r h) }

  after_start : drop 5 (start_bytes little kind ++ r) ≡ r
  after_start = drop_at (spelt little 4 kind) r 4 (length_spelt little 4 kind)

  -- a number after them
  pub field_after : (n x : ℕ) (q : List ℕ) → x < 256 ^ n → r ≡ spelt little n x ++ q → field (start_bytes little kind ++ r) 5 n ≡ x
  unfolding field
  field_after n x q h e =
      ap (λ (t : List ℕ). word_in (eqb (mark little) 1) (take n t)) (after_start ∙ e) ∙ ap (λ (b : Bool). word_in b (take n (spelt little n x ++ q))) (mark_little little) ∙ read_there little n x q h

module _ (p : FilePoint) (r : List ℕ) where
  abbrev first : List ℕ
  first = spelt p.little 8 p.x

  abbrev second : List ℕ
  second = spelt p.little 8 p.y

  as_point : file_point_bytes p ++ r ≡ start_bytes p.little 1 ++ (first ++ (second ++ r))
  unfolding file_point_bytes
  as_point =
      append_assoc (start_bytes p.little 1) (first ++ second) r ∙ ap (λ (t : List ℕ). start_bytes p.little 1 ++ t) (append_assoc first second r)

  pub point_starts : StartsAs (file_point_bytes p ++ r) 1
  point_starts = rw as_point (starts_so p.little 1 (first ++ (second ++ r)) (omega arith))

  pub point_x : p.x < 2 ^ 64 → field (file_point_bytes p ++ r) 5 8 ≡ p.x
  point_x h = ap (λ (t : List ℕ). field t 5 8) as_point ∙ field_after p.little 1 (first ++ (second ++ r)) 8 p.x (second ++ r) h refl

  pub point_y : p.y < 2 ^ 64 → field (file_point_bytes p ++ r) 13 8 ≡ p.y
  unfolding field
  point_y h =
      let t = start_bytes p.little 1 ++ (first ++ (second ++ r)) in
      let rest = ap (drop 8) (after_start p.little 1 (first ++ (second ++ r))) in
      let there : drop 13 t ≡ second ++ r = sym (drop-drop 8 5 t) ∙ rest ∙ drop_at first (second ++ r) 8 (length_spelt p.little 8 p.x) in
      ap (λ (u : List ℕ). field u 13 8) as_point
      ∙ ap (λ (u : List ℕ). word_in (eqb (mark p.little) 1) (take 8 u)) there
      ∙ ap (λ (b : Bool). word_in b (take 8 (second ++ r))) (mark_little p.little)
      ∙ read_there p.little 8 p.y r h

drop_points : (ps : List FilePoint) (i : ℕ) (z : FilePoint) → i < length ps
    → drop (21 * i) (each file_point_bytes ps) ≡ file_point_bytes (get_or ps i z) ++ each file_point_bytes (drop (suc i) ps)
drop_points [] i z h = absurd (omega arith)
drop_points (p ∷ ps) zero z h = refl
drop_points (p ∷ ps) (suc i) z h =
    let e : 21 * suc i ≡ length (file_point_bytes p) + 21 * i = omega (arith, point_length p) in
    ap (λ (k : ℕ). drop k (file_point_bytes p ++ each file_point_bytes ps)) e
    ∙ drop-append-add (file_point_bytes p) (each file_point_bytes ps) (21 * i)
    ∙ drop_points ps i z (omega arith)

module _ (little : Bool) (ps : List FilePoint) where
  pub file_starts : StartsAs (multi_point little ps) 4
  unfolding multi_point
  file_starts = starts_so little 4 (spelt little 4 (length ps) ++ each file_point_bytes ps) (omega arith)

  pub file_length : length (multi_point little ps) ≡ point_place (length ps)
  unfolding multi_point
  file_length =
      omega (
        arith,
        length-append (start_bytes little 4) (spelt little 4 (length ps) ++ each file_point_bytes ps),
        length-append (spelt little 4 (length ps)) (each file_point_bytes ps),
        length_spelt little 4 4,
        length_spelt little 4 (length ps),
        points_length ps,
      )

  pub file_count : length ps < 2 ^ 32 → point_count (multi_point little ps) ≡ length ps
  unfolding multi_point
  file_count h = field_after little 4 (spelt little 4 (length ps) ++ each file_point_bytes ps) 4 (length ps) (each file_point_bytes ps) h refl

  after_head : drop 9 (multi_point little ps) ≡ each file_point_bytes ps
  unfolding multi_point
  after_head =
      let r = spelt little 4 (length ps) ++ each file_point_bytes ps in
      sym (drop-drop 4 5 (start_bytes little 4 ++ r)) ∙ ap (drop 4) (after_start little 4 r) ∙ drop_at (spelt little 4 (length ps)) (each file_point_bytes ps) 4 (length_spelt little 4 (length ps))

  pub file_point_lem : (i : ℕ) (z : FilePoint) → i < length ps → drop (point_place i) (multi_point little ps) ≡ file_point_bytes (get_or ps i z) ++ each file_point_bytes (drop (suc i) ps)
  file_point_lem i z h = sym (drop-drop (21 * i) 9 (multi_point little ps)) ∙ ap (drop (21 * i)) after_head ∙ drop_points ps i z h

  pub file_shape : length ps < 2 ^ 32 → Shape (multi_point little ps)
  file_shape h =
      record {
        long = omega (arith, file_length);
        starts = file_starts;
        whole = file_length ∙ ap point_place (sym (file_count h));
        points = λ i l. rw (file_point_lem i (file_point true 0 0) (omega (arith, file_count h))) (point_starts (get_or ps i (file_point true 0 0)) (each file_point_bytes (drop (suc i) ps)));
      }

  module _ (i : ℕ) (z : FilePoint) (h : i < length ps) (f : Patterned (get_or ps i z)) where
    pub pattern_x : file_pattern (multi_point little ps) (2 * i) ≡ (get_or ps i z).x
    unfolding file_pattern
    pattern_x =
        let e : 2 * i / 2 ≡ i = omega arith in
        let g : 2 * i % 2 ≡ 0 = omega arith in
        rw (e, g, file_point_lem i z h) (point_x (get_or ps i z) (each file_point_bytes (drop (suc i) ps)) f.0)

    pub pattern_y : file_pattern (multi_point little ps) (2 * i + 1) ≡ (get_or ps i z).y
    unfolding file_pattern
    pattern_y =
        let e : (2 * i + 1) / 2 ≡ i = omega arith in
        let g : (2 * i + 1) % 2 ≡ 1 = omega arith in
        rw (e, g, file_point_lem i z h) (point_y (get_or ps i z) (each file_point_bytes (drop (suc i) ps)) f.1)

-- ---- of what has the shape

part_back : (t : List ℕ) (from n : ℕ) → Bytes t → from + n ≤ length t → take n (drop from t) ≡ spelt (little_of t) n (field t from n)
unfolding field
part_back t from n b h =
    let u = take n (drop from t) in
    let e : length u ≡ n = length-take-le n (drop from t) (omega (arith, length-drop from t)) in
    sym (spelt_word (little_of t) u (bytes_take n (drop from t) (bytes_drop from t b))) ∙ ap (λ (k : ℕ). spelt (little_of t) k (word_in (little_of t) u)) e

mark_back : (b : ℕ) → b < 2 → b ≡ mark (eqb b 1)
mark_back zero h = refl
mark_back (suc zero) h = refl
mark_back (suc (suc b)) h = absurd (omega arith)

start_back : (t : List ℕ) (kind : ℕ) → Bytes t → 5 ≤ length t → StartsAs t kind → take 5 t ≡ start_bytes (little_of t) kind
start_back [] kind b h p = absurd (omega arith)
start_back (m ∷ t) kind b h p =
    let typed : take 4 t ≡ spelt (little_of (m ∷ t)) 4 kind = part_back (m ∷ t) 1 4 b (omega arith) ∙ ap (spelt (little_of (m ∷ t)) 4) p.typed in
    ap (λ (s : List ℕ). m ∷ s) typed ∙ ap (λ (k : ℕ). k ∷ spelt (little_of (m ∷ t)) 4 kind) (mark_back m p.marked)

-- the point that stands at a place, and the points of a file
unfoldable pub point_here : List ℕ → FilePoint
point_here t = file_point (little_of t) (field t 5 8) (field t 13 8)

point_back : (t : List ℕ) → Bytes t → 21 ≤ length t → StartsAs t 1 → take 21 t ≡ file_point_bytes (point_here t)
unfolding file_point_bytes point_here
point_back t b h p =
    take-add 5 16 t
    ∙ ap (λ (s : List ℕ). s ++ take 16 (drop 5 t)) (start_back t 1 b (omega arith) p)
    ∙ ap (λ (s : List ℕ). start_bytes (little_of t) 1 ++ s)
    (take-add 8 8 (drop 5 t)
    ∙ ap (λ (s : List ℕ). s ++ take 8 (drop 8 (drop 5 t))) (part_back t 5 8 b (omega arith))
    ∙ ap (λ (s : List ℕ). spelt (little_of t) 8 (field t 5 8) ++ s) (ap (take 8) (drop-drop 8 5 t) ∙ part_back t 13 8 b (omega arith)))

abbrev pub point_of : List ℕ → ℕ → FilePoint
point_of s i = point_here (drop (point_place i) s)

abbrev pub file_points : List ℕ → List FilePoint
file_points s = firsts (point_of s) (point_count s)

module _ (s : List ℕ) (i : ℕ) where
  pub here_x : file_pattern s (2 * i) ≡ (point_of s i).x
  unfolding file_pattern point_here
  here_x =
      let e : 2 * i / 2 ≡ i = omega arith in
      let g : 2 * i % 2 ≡ 0 = omega arith in
      rw (e, g) refl

  pub here_y : file_pattern s (2 * i + 1) ≡ (point_of s i).y
  unfolding file_pattern point_here
  here_y =
      let e : (2 * i + 1) / 2 ≡ i = omega arith in
      let g : (2 * i + 1) % 2 ≡ 1 = omega arith in
      rw (e, g) refl

module _ (s : List ℕ) (b : Bytes s) (p : Shape s) where
  points_back : (i : ℕ) → i ≤ point_count s → take (21 * i) (drop 9 s) ≡ each file_point_bytes (firsts (point_of s) i)
  points_back zero h = refl
  points_back (suc i) h =
      let e : 21 * suc i ≡ 21 * i + 21 = omega arith in
      let here : drop (21 * i) (drop 9 s) ≡ drop (point_place i) s = drop-drop (21 * i) 9 s in
      let long : 21 ≤ length (drop (point_place i) s) = omega (arith, length-drop (point_place i) s, p.whole) in
      ap (λ (k : ℕ). take k (drop 9 s)) e
      ∙ take-add (21 * i) 21 (drop 9 s)
      ∙ ap (λ (t : List ℕ). t ++ take 21 (drop (21 * i) (drop 9 s))) (points_back i (omega arith))
      ∙ ap (λ (t : List ℕ). each file_point_bytes (firsts (point_of s) i) ++ t)
      (ap (take 21) here ∙ point_back (drop (point_place i) s) (bytes_drop (point_place i) s b) long (p.points i (omega arith)))
      ∙ sym (each_firsts (point_of s) file_point_bytes i)
      ∙ ap (λ (k : ℕ). each file_point_bytes (firsts (point_of s) k)) (add-one i)

  pub shape_file : s ≡ multi_point (little_of s) (file_points s)
  unfolding multi_point
  shape_file =
      let n = point_count s in
      let behind : length (drop 9 s) ≤ 21 * n = omega (arith, length-drop 9 s, p.whole) in
      let tail : drop 9 s ≡ each file_point_bytes (file_points s) = sym (take_all (21 * n) (drop 9 s) behind) ∙ points_back n (omega arith) in
      let counted : take 4 (drop 5 s) ≡ spelt (little_of s) 4 (length (file_points s)) =
      part_back s 5 4 b p.long ∙ ap (spelt (little_of s) 4) (sym (length_firsts (point_of s) n)) in
      sym (take-append-drop 5 s)
      ∙ ap (λ (t : List ℕ). t ++ drop 5 s) (start_back s 4 b (omega (arith, p.long)) p.starts)
      ∙ ap (λ (t : List ℕ). start_bytes (little_of s) 4 ++ t)
      (sym (take-append-drop 4 (drop 5 s))
      ∙ ap (λ (t : List ℕ). t ++ drop 4 (drop 5 s)) counted
      ∙ ap (λ (t : List ℕ). spelt (little_of s) 4 (length (file_points s)) ++ t) (drop-drop 4 5 s ∙ tail))

  -- their patterns fit
  pub points_fit : (i : ℕ) (z : FilePoint) → i < point_count s → Patterned (get_or (file_points s) i z)
  unfolding field point_here
  points_fit i z h =
      let t = drop (point_place i) s in
      let long : 21 ≤ length t = omega (arith, length-drop (point_place i) s, p.whole) in
      let small : (from : ℕ) → from + 8 ≤ length t → word_in (little_of t) (take 8 (drop from t)) < 2 ^ 64 =
      λ from g.
      let e : length (take 8 (drop from t)) ≡ 8 = length-take-le 8 (drop from t) (omega (arith, length-drop from t)) in
      subst (λ (n : ℕ). word_in (little_of t) (take 8 (drop from t)) < 256 ^ n) e
      (word_in_small (little_of t) (take 8 (drop from t)) (bytes_take 8 (drop from t) (bytes_drop from t (bytes_drop (point_place i) s b)))) in
      rw (get_d_firsts (point_of s) (point_count s) i z h) (small 5 (omega arith), small 13 (omega arith))
