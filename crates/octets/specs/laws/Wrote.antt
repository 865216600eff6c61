-- Texts written one after the other, and loops that write.
use Rattle.std.specs.Prelude.{◌≡◌, refl, List, [], ◌∷◌, ◌++◌, ℕ, ◌+◌, ◌≤◌, ◌<◌, length, get_or, take, drop, set}
use Rattle.std.proofs.Common.{sym, ap, ◌∙◌, subst, arith, add-one, length-append, take-suc, take_all}
use Rattle.std.proofs.lemmas.List.Edits.{sets}
use Rattle.std.proofs.Math.Seq.{length-sets, take-append_seam}
use Rattle.base.specs.common.laws.Stores.{sets_join, sets_all}
use Rattle.octets.specs.Wrote.{Wrote, HasRoom}

pub wrote_then : {l m n : List ℕ} {a b c : ℕ} {s t : List ℕ} → Wrote l m a b s → Wrote m n b c t → Wrote l n a c (s ++ t)
wrote_then {l} {m} {n} {a} {b} {c} {s} {t} p q =
    record {
      list = q.list ∙ ap (λ (z : List ℕ). sets z b t) p.list ∙ sets_join s t l a b p.place;
      place = omega (arith, p.place, q.place, length-append s t);
    }

pub fits_left : (l : List ℕ) (at : ℕ) (s t : List ℕ) → HasRoom l at (s ++ t) → HasRoom l at s
fits_left l at s t h = omega (arith, length-append s t)

pub fits_then : {l m : List ℕ} {a b : ℕ} (s t : List ℕ) → Wrote l m a b s → HasRoom l a (s ++ t) → HasRoom m b t
fits_then {l} {m} {a} {b} s t p h =
    let e : length m ≡ length l = ap length p.list ∙ length-sets l a s in
    omega (arith, p.place, length-append s t)

pub wrote_none : (l : List ℕ) (at : ℕ) → Wrote l l at at []
wrote_none l at = record { list = refl; place = omega arith }

pub wrote_one : (l : List ℕ) (at v : ℕ) → Wrote l (set l at v) at (at + 1) (v ∷ [])
wrote_one l at v = record { list = refl; place = refl }

pub wrote_length : {l m : List ℕ} {a b : ℕ} {s : List ℕ} → Wrote l m a b s → length m ≡ length l
wrote_length {l} {m} {a} {b} {s} p = ap length p.list ∙ length-sets l a s

pub wrote_as : {l m : List ℕ} {a b : ℕ} {s t : List ℕ} → Wrote l m a b s → s ≡ t → Wrote l m a b t
wrote_as {l} {m} {a} {b} p e = subst (Wrote l m a b) e p

-- the loop that copies a text
pub record Putting (l m : List ℕ) (at : ℕ) (text : List ℕ) (i : ℕ) : Type 0 where
  pub within : i ≤ length text
  pub wrote : Wrote l m at (at + i) (take i text)

pub putting_start : (l : List ℕ) (at : ℕ) (text : List ℕ) → Putting l l at text 0
putting_start l at text = record { within = omega arith; wrote = record { list = refl; place = refl } }

pub putting_step : {l m : List ℕ} {at : ℕ} {text : List ℕ} {i : ℕ} → Putting l m at text i → i < length text → Putting l (set m (at + i) (get_or text i 0)) at text (i + 1)
putting_step {l} {m} {at} {text} {i} p h =
    let w : Wrote l (set m (at + i) (get_or text i 0)) at (at + i + 1) (take i text ++ get_or text i 0 ∷ []) = wrote_then p.wrote (wrote_one m (at + i) (get_or text i 0)) in
    let e : at + i + 1 ≡ at + (i + 1) = omega arith in
    record {
      within = omega arith;
      wrote = subst (λ (k : ℕ). Wrote l (set m (at + i) (get_or text i 0)) at k (take (i + 1) text)) e (wrote_as w (sym (ap (λ (k : ℕ). take k text) (add-one i) ∙ take-suc text i 0 h)));
    }

pub putting_end : {l m : List ℕ} {at : ℕ} {text : List ℕ} {i : ℕ} → Putting l m at text i → length text ≤ i → Wrote l m at (at + i) text
putting_end {l} {m} {at} {text} {i} p h = wrote_as p.wrote (take_all i text h)

-- a text written from the beginning on
pub wrote_all : {l m : List ℕ} {r : ℕ} {s : List ℕ} → Wrote l m 0 r s → length s ≤ length l → take r m ≡ s
wrote_all {l} {m} {r} {s} p h =
    let e : r ≡ length s = omega (arith, p.place) in
    ap (λ (k : ℕ). take k m) e ∙ ap (take (length s)) (p.list ∙ sets_all s l h) ∙ take-append_seam s (drop (length s) l)

-- ---- a loop that writes piece after piece: F i is the text of the first i of n pieces

pub record Lined (F : ℕ → List ℕ) (n : ℕ) (l m : List ℕ) (at end i : ℕ) : Type 0 where
  pub within : i ≤ n
  pub wrote : Wrote l m at end (F i)

pub lined_start : (F : ℕ → List ℕ) (n : ℕ) (l : List ℕ) (at : ℕ) → F 0 ≡ [] → Lined F n l l at at 0
lined_start F n l at e = record { within = omega arith; wrote = wrote_as (wrote_none l at) (sym e) }

module _ {F : ℕ → List ℕ} {n : ℕ} {l m : List ℕ} {at end i : ℕ} (p : Lined F n l m at end i) where
  pub lined_fits : (g r : List ℕ) → F (i + 1) ≡ F i ++ g → F n ≡ F (i + 1) ++ r → HasRoom l at (F n) → HasRoom m end g
  lined_fits g r e f h = fits_then (F i) g p.wrote (subst (HasRoom l at) e (fits_left l at (F (i + 1)) r (subst (HasRoom l at) f h)))

  pub lined_step : {m' : List ℕ} {end' : ℕ} (g : List ℕ) → i < n → F (i + 1) ≡ F i ++ g → Wrote m m' end end' g → Lined F n l m' at end' (i + 1)
  lined_step g h e w = record { within = omega arith; wrote = wrote_as (wrote_then p.wrote w) (sym e) }

  pub lined_end : n ≤ i → Wrote l m at end (F n)
  lined_end h =
      let e : i ≡ n = omega (arith, p.within) in
      wrote_as p.wrote (ap F e)
