-- A ring cut by a side as a stream: a stage keeps the ring's first corner and the last one that came, and hands on what is left of each edge as it comes. Theorem: what a stage
-- hands on, to its close, is the ring cut by the side (`stage_cut`).
use Rattle.std.specs.Prelude.{◌≡◌, refl, Bool, true, false, cond, List, [], ◌∷◌, ◌++◌}
use Rattle.std.proofs.Common.{sym, ap, ◌∙◌, append-nil}
use Rattle.cutting.specs.cuts.Rings.{At}
use Rattle.cutting.specs.cuts.Cut.{Side, kept, cut_to, cut_by}

-- whether any corner came, the first of them, and the last with the carrier of the edge from it on
pub record Held (C K : Type 0) : Type 0 where
  pub any : Bool
  pub first : C
  pub last : At C K

abbrev pub held_after : {C K : Type 0} → Held C K → At C K → Held C K
held_after h v = record { any = true; first = cond h.any h.first v.corner; last = v }

-- what is left of the edge from the last corner to q; nothing where none came
abbrev pub given : {C K : Type 0} → Side C K → Held C K → C → List (At C K)
given s h q = cond h.any (kept s h.last q) []

-- what a stage keeps, and the state of what it hands on to
pub record Stage (C K X : Type 0) : Type 0 where
  pub held : Held C K
  pub next : X

abbrev pub feed_all : {A X : Type 0} → (X → A → X) → X → List A → X
feed_all f x [] = x
feed_all f x (v ∷ l) = feed_all f (f x v) l

abbrev pub feed : {C K X : Type 0} → Side C K → (X → At C K → X) → Stage C K X → At C K → Stage C K X
feed s f t v = record { held = held_after t.held v; next = feed_all f t.next (given s t.held v.corner) }

-- the last edge, back to the first corner
abbrev pub closed : {C K X : Type 0} → Side C K → (X → At C K → X) → Stage C K X → X
closed s f t = feed_all f t.next (given s t.held t.held.first)

pub feed_append : {A X : Type 0} (f : X → A → X) (x : X) (l m : List A) → feed_all f x (l ++ m) ≡ feed_all f (feed_all f x l) m
feed_append f x [] m = refl
feed_append f x (v ∷ l) m = feed_append f (f x v) l m

module _ {C K X : Type 0} (s : Side C K) (f : X → At C K → X) where
  -- from a stage whose last corner is v on
  stage_on : (e : C) (v : At C K) (x : X) (l : List (At C K))
      → closed s f (feed_all (feed s f) (record { held = record { any = true; first = e; last = v }; next = x }) l) ≡ feed_all f x (cut_to s e (v ∷ l))
  stage_on e v x [] = ap (feed_all f x) (sym (append-nil (kept s v e)))
  stage_on e v x (w ∷ l) = stage_on e w (feed_all f x (kept s v w.corner)) l ∙ sym (feed_append f x (kept s v w.corner) (cut_to s e (w ∷ l)))

  pub stage_cut : (t : Stage C K X) → t.held.any ≡ false → (ring : List (At C K)) → closed s f (feed_all (feed s f) t ring) ≡ feed_all f t.next (cut_by s ring)
  stage_cut t none [] = rw none refl
  stage_cut t none (v ∷ l) = rw none (stage_on v.corner v t.next l)
