-- Runs of bytes that a record cuts: a body is there whole, or the form does not end; and its bytes are those of one record.
use Rattle.std.specs.Prelude.{◌≡◌, refl, true, false, List, [], ◌∷◌, ◌++◌, ◌≢◌, ℕ, suc, ◌+◌, ◌^◌, ◌≤◌, ◌<◌, length, take, drop}
use Rattle.std.proofs.Common.{sym, ap, ◌∙◌, subst, ⊎_elim, arith, take-append-drop, length-drop, length-take-le}
use Rattle.base.specs.common.laws.Decide.{lt_or_ge}
use Rattle.octets.specs.Bytes.{Bytes, word, le}
use Rattle.form.specs.Form.{Outline, SiteFits, TriangleFits, HullFits, outline_bytes, site_bytes, triangle_bytes, hull_bytes}
use Rattle.form.specs.step.Reader.{broken, inside, step, steps}
use Rattle.form.specs.step.laws.Steps.{step_broken, step_inside}
use Rattle.octets.specs.laws.Bytes.{le_word, word_small, bytes_take, bytes_drop}
use Rattle.form.specs.declared.step.Reader.{Reader}

pub record Ended (r : Reader) : Type 0 where
  pub unbroken : broken r ≡ false
  pub stage : r.stage ≡ 5

-- ---- runs of bytes

pub steps_append : (s t : List ℕ) (r : Reader) → steps r (s ++ t) ≡ steps (steps r s) t
unfolding steps
steps_append [] t r = refl
steps_append (b ∷ s) t r = steps_append s t (step r b)

pub steps_broken : (s : List ℕ) (r : Reader) → broken r ≡ true → steps r s ≡ r
unfolding steps
steps_broken [] r e = refl
steps_broken (b ∷ s) r e = ap (λ (n : Reader). steps n s) (step_broken r b e) ∙ steps_broken s r e

pub true_false : {A : Type 0} → true ≡ false → A
true_false e = let z : ◌≡◌ {A = ℕ} 0 1 = cc in absurd (omega arith)

-- bytes of a body, not more than it has
pub record Partway (r n : Reader) (l : ℕ) : Type 0 where
  pub unbroken : broken n ≡ false
  pub stage : n.stage ≡ r.stage
  pub left : n.left + l ≡ r.left

pub partway : (t : List ℕ) (r : Reader) → broken r ≡ false → length t ≤ r.left → Partway r (steps r t) (length t)
unfolding steps inside
partway [] r e h = record { unbroken = e; stage = refl; left = omega arith }
partway (b ∷ t) r e h =
    let p = partway t (inside r b) refl (omega arith) in
    let j : steps (inside r b) t ≡ steps r (b ∷ t) = ap (λ (n : Reader). steps n t) (sym (step_inside r b e (omega arith))) in
    subst (λ (n : Reader). Partway r n (suc (length t))) j (record { unbroken = p.unbroken; stage = p.stage; left = omega (arith, p.left) })

-- a body that is not the end's is there whole if the form ends
pub body_there : (t : List ℕ) (r : Reader) → broken r ≡ false → r.stage ≢ 5 → Ended (steps r t) → r.left ≤ length t
body_there t r e d f = ⊎_elim (λ h. absurd (d (sym (partway t r e (omega arith)).stage ∙ f.stage))) (λ h. h) (lt_or_ge (length t) r.left)

-- ---- a number cut off

pub record Cut (n : ℕ) (t : List ℕ) : Type 0 where
  pub number : ℕ
  pub rest : List ℕ
  pub small : number < 256 ^ n
  pub joined : t ≡ le n number ++ rest
  pub bytes : Bytes rest
  pub long : length t ≡ n + length rest

pub cut : (n : ℕ) (t : List ℕ) → Bytes t → n ≤ length t → Cut n t
cut n t h l =
    let s = take n t in
    let e : length s ≡ n = length-take-le n t l in
    record {
      number = word s;
      rest = drop n t;
      small = rw e at (word_small s (bytes_take n t h));
      joined = sym (take-append-drop n t) ∙ ap (λ (z : List ℕ). z ++ drop n t) (sym (le_word s (bytes_take n t h)) ∙ ap (λ (k : ℕ). le k (word s)) e);
      bytes = bytes_drop n t h;
      long = omega (arith, length-drop n t);
    }

-- a record of kind k cut off, by its bytes f
pub record CutOff {A : Type 0} (f : A → List ℕ) (P : A → Type 0) (k : ℕ) (t : List ℕ) : Type 0 where
  pub value : A
  pub rest : List ℕ
  pub fits : P value
  pub joined : k ∷ t ≡ f value ++ rest
  pub bytes : Bytes rest
  pub shorter : length rest ≤ length t

record Two (n : ℕ) (t : List ℕ) : Type 0 where
  a : ℕ
  b : ℕ
  rest : List ℕ
  a_small : a < 256 ^ n
  b_small : b < 256 ^ n
  joined : t ≡ le n a ++ (le n b ++ rest)
  bytes : Bytes rest
  long : length t ≡ n + (n + length rest)

two : (n : ℕ) (t : List ℕ) → Bytes t → n + n ≤ length t → Two n t
two n t h l = go (cut n t h (omega arith))
  where
    on : (x : Cut n t) → Cut n x.rest → Two n t
    on x y =
        record {
          a = x.number;
          b = y.number;
          rest = y.rest;
          a_small = x.small;
          b_small = y.small;
          joined = x.joined ∙ ap (λ (z : List ℕ). le n x.number ++ z) y.joined;
          bytes = y.bytes;
          long = omega (arith, x.long, y.long);
        }

    go : Cut n t → Two n t
    go x = on x (cut n x.rest x.bytes (omega (arith, x.long)))

pub cut_site : (t : List ℕ) → Bytes t → 16 ≤ length t → CutOff site_bytes SiteFits 2 t
cut_site t h l = go (two 8 t h l)
  where
    go : Two 8 t → CutOff site_bytes SiteFits 2 t
    go p =
        record {
          value = record { x = p.a; y = p.b };
          rest = p.rest;
          fits = (p.a_small, p.b_small);
          joined = ap (λ (z : List ℕ). 2 ∷ z) p.joined;
          bytes = p.bytes;
          shorter = omega (arith, p.long);
        }

-- a first record of four floats, made of them by c
pub cut_four_lem :
    (P : Outline → Type 0) (k : ℕ) (c : ℕ → ℕ → ℕ → ℕ → Outline)
    → ((x y z v : ℕ) → outline_bytes (c x y z v) ≡ k ∷ le 8 x ++ le 8 y ++ le 8 z ++ le 8 v)
    → ((x y z v : ℕ) → (x < 2 ^ 64) × (y < 2 ^ 64) × (z < 2 ^ 64) × (v < 2 ^ 64) → P (c x y z v))
    → (t : List ℕ) → Bytes t → 32 ≤ length t → CutOff outline_bytes P k t
cut_four_lem P k c is fit t h l = go (two 8 t h (omega arith))
  where
    on : (p : Two 8 t) → Two 8 p.rest → CutOff outline_bytes P k t
    on p q =
        record {
          value = c p.a p.b q.a q.b;
          rest = q.rest;
          fits = fit p.a p.b q.a q.b (p.a_small, p.b_small, q.a_small, q.b_small);
          joined =
              ap (λ (z : List ℕ). k ∷ z) (p.joined ∙ ap (λ (z : List ℕ). le 8 p.a ++ (le 8 p.b ++ z)) q.joined)
              ∙ sym (ap (λ (z : List ℕ). z ++ q.rest) (is p.a p.b q.a q.b));
          bytes = q.bytes;
          shorter = omega (arith, p.long, q.long);
        }

    go : Two 8 t → CutOff outline_bytes P k t
    go p = on p (two 8 p.rest p.bytes (omega (arith, p.long)))

pub cut_triangle : (t : List ℕ) → Bytes t → 24 ≤ length t → CutOff triangle_bytes TriangleFits 3 t
cut_triangle t h l = go (two 4 t h (omega arith))
  where
    last : (p : Two 4 t) (q : Two 4 p.rest) → Two 4 q.rest → CutOff triangle_bytes TriangleFits 3 t
    last p q r =
        record {
          value = record { a = p.a; b = p.b; c = q.a; pair_a = q.b; pair_b = r.a; pair_c = r.b };
          rest = r.rest;
          fits = (p.a_small, p.b_small, q.a_small, q.b_small, r.a_small, r.b_small);
          joined =
              ap (λ (z : List ℕ). 3 ∷ z)
              (p.joined ∙ ap (λ (z : List ℕ). le 4 p.a ++ (le 4 p.b ++ z)) (q.joined ∙ ap (λ (z : List ℕ). le 4 q.a ++ (le 4 q.b ++ z)) r.joined));
          bytes = r.bytes;
          shorter = omega (arith, p.long, q.long, r.long);
        }

    on : (p : Two 4 t) → Two 4 p.rest → CutOff triangle_bytes TriangleFits 3 t
    on p q = last p q (two 4 q.rest q.bytes (omega (arith, p.long, q.long)))

    go : Two 4 t → CutOff triangle_bytes TriangleFits 3 t
    go p = on p (two 4 p.rest p.bytes (omega (arith, p.long)))

pub cut_hull : (t : List ℕ) → Bytes t → 4 ≤ length t → CutOff hull_bytes HullFits 4 t
cut_hull t h l = go (cut 4 t h l)
  where
    go : Cut 4 t → CutOff hull_bytes HullFits 4 t
    go x =
        record {
          value = x.number;
          rest = x.rest;
          fits = x.small;
          joined = ap (λ (z : List ℕ). 4 ∷ z) x.joined;
          bytes = x.bytes;
          shorter = omega (arith, x.long);
        }
