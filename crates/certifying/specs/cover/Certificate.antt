-- Theorem: the certificate, in one place: what kinds 2, 3 and 4 ask of pieces on whole numbers, and what they then are. A place of the box that is nearer to one site than to every
-- other by more than the bound lies in the piece of that site, exactly once, and in no other; and all pieces together have exactly the area of the box.
use Rattle.std.specs.Prelude.{◌≡◌, List, [], ℕ, ◌+◌, ◌*◌, ◌≤◌, ◌<◌, length, get_or}
use Rattle.certifying.specs.cover.Sums.{WholePlace, sum_ring, sum_all, EveryCorner}
use Rattle.certifying.specs.cover.Cover.{comes_up, leaves}
use Rattle.certifying.specs.cover.Certified as C
use Rattle.certifying.specs.cover.Certified.{Near}
use Rattle.certifying.specs.cover.Kinds.{along_edge, sure, NoSurplus, sides_cancel}
use Rattle.certifying.specs.cover.Whole as W

-- the box from (l, t), w wide and h high
module _ (l t w h : ℕ) (wide : 0 < w) (high : 0 < h) (across : l < l + w) (down : t < t + h) (site : ℕ → WholePlace) (bound : ℕ → ℕ → ℕ) (rings : List (List WholePlace)) where
  pub record Passes : Type 0 where
    pub sides : NoSurplus (along_edge l t (l + w) (t + h)) rings
    pub border : sum_all (leaves l t (l + w) (t + h)) rings ≡ sum_all (λ p q. leaves l t (l + w) (t + h) q p) rings + 1
    pub nearest : (s o : ℕ) → o < length rings → EveryCorner (Near (site s) (site o) (bound s o)) (get_or rings s [])

  pub whole : Passes → sum_all (λ p q. p.y * q.x) rings ≡ sum_all (λ p q. q.y * p.x) rings + 2 * (w * h)
  whole ok = W.whole l t w h wide high (along_edge l t (l + w) (t + h)) (sure l t (l + w) (t + h)) rings (sides_cancel (along_edge l t (l + w) (t + h)) rings ok.sides) ok.border

  module _ (X Y : ℕ) (hl : l ≤ X) (hr : X < l + w) (ht : t ≤ Y) (hb : Y < t + h) (ok : Passes) (s : ℕ) (is : s < length rings)
      (clear : (o : ℕ) → o < length rings → (o ≡ s → ⊥) → Near (site o) (site s) (bound o s) (record { x = X; y = Y }) → ⊥) where
    sound : C.SoundRings l t (l + w) (t + h) X Y across down hl hr ht hb (along_edge l t (l + w) (t + h)) (sure l t (l + w) (t + h)) site bound rings
    sound = record { cancelled = sides_cancel (along_edge l t (l + w) (t + h)) rings ok.sides; corner = ok.border; near = ok.nearest }

    pub in_its_piece : sum_ring (comes_up X Y) (get_or rings s []) ≡ sum_ring (λ p q. comes_up X Y q p) (get_or rings s []) + 1
    in_its_piece = C.certified l t (l + w) (t + h) X Y across down hl hr ht hb (along_edge l t (l + w) (t + h)) (sure l t (l + w) (t + h)) site bound rings sound s is clear

    pub in_no_other : (o : ℕ) → (o ≡ s → ⊥) → sum_ring (comes_up X Y) (get_or rings o []) ≡ sum_ring (λ p q. comes_up X Y q p) (get_or rings o [])
    in_no_other = C.other_pieces l t (l + w) (t + h) X Y across down hl hr ht hb (along_edge l t (l + w) (t + h)) (sure l t (l + w) (t + h)) site bound rings sound s is clear
