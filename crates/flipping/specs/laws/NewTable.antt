-- The table with four entries stored is the one worked out afresh.
use Rattle.std.specs.Prelude.{◌≡◌, refl, List, ◌≢◌, ℕ, ◌<◌, length, get_or, set}
use Rattle.std.proofs.Common.{sym, ◌∙◌, subst, ⊎_elim, arith, length-set, get_or-set_same, get_or-set_other, ext_get_or}
use Rattle.base.specs.common.laws.Decide.{eq_or_ne}
use Rattle.mesh.specs.Mesh.{start_of, leftmost_of, Leftmost}
use Rattle.mesh.specs.Accepted.{Topology}
use Rattle.mesh.specs.laws.Table.{table_length, table_leftmost, leftmost_one}
use Rattle.mesh.specs.laws.Facts.{paired, end_site}
use Rattle.flipping.specs.Flip.{turned_sites, relinked}
use Rattle.flipping.specs.Entries.{Four, flip_corners, entries_of, stored_four}
use Rattle.flipping.specs.laws.Quad.{Quad, quad_turn}
use Rattle.flipping.specs.laws.Sites.{turned_length, turned_turn}
use Rattle.flipping.specs.laws.Pairs.{relinked_turn}
use Rattle.flipping.specs.laws.NewEntries.{left_else, left_gained, left_lost}
use Rattle.flipping.specs.laws.Rule10.{leftmost_again}

-- ---- four stores at different places
module _ (t : List ℕ) (s v : Four) where
  abbrev one : List ℕ
  one = set t s.0 v.0

  abbrev two : List ℕ
  two = set one s.1 v.1

  abbrev three : List ℕ
  three = set two s.2 v.2

  one_length : length one ≡ length t
  one_length = length-set t s.0 v.0

  two_length : length two ≡ length t
  two_length = length-set one s.1 v.1 ∙ one_length

  three_length : length three ≡ length t
  three_length = length-set two s.2 v.2 ∙ two_length

  pub four_length : length (stored_four t s v) ≡ length t
  four_length = length-set three s.3 v.3 ∙ three_length

  at_fourth : s.3 < length t → get_or (stored_four t s v) s.3 0 ≡ v.3
  at_fourth h = get_or-set_same three s.3 v.3 0 (rw three_length h)

  at_third : s.2 < length t → s.2 ≢ s.3 → get_or (stored_four t s v) s.2 0 ≡ v.2
  at_third h n = get_or-set_other three s.3 s.2 v.3 0 n ∙ get_or-set_same two s.2 v.2 0 (rw two_length h)

  at_second : s.1 < length t → s.1 ≢ s.3 → s.1 ≢ s.2 → get_or (stored_four t s v) s.1 0 ≡ v.1
  at_second h n m =
      get_or-set_other three s.3 s.1 v.3 0 n
      ∙ get_or-set_other two s.2 s.1 v.2 0 m
      ∙ get_or-set_same one s.1 v.1 0 (rw one_length h)

  at_first : s.0 < length t → s.0 ≢ s.3 → s.0 ≢ s.2 → s.0 ≢ s.1 → get_or (stored_four t s v) s.0 0 ≡ v.0
  at_first h n m k =
      get_or-set_other three s.3 s.0 v.3 0 n
      ∙ get_or-set_other two s.2 s.0 v.2 0 m
      ∙ get_or-set_other one s.1 s.0 v.1 0 k
      ∙ get_or-set_same t s.0 v.0 0 h

  pub at_none : (i : ℕ) → i ≢ s.3 → i ≢ s.2 → i ≢ s.1 → i ≢ s.0 → get_or (stored_four t s v) i 0 ≡ get_or t i 0
  at_none i n m k j =
      get_or-set_other three s.3 i v.3 0 n
      ∙ get_or-set_other two s.2 i v.2 0 m
      ∙ get_or-set_other one s.1 i v.1 0 k
      ∙ get_or-set_other t s.0 i v.0 0 j

module _ {tri he hull : List ℕ} {sites : ℕ} (ok : Topology tri he hull sites) {a b r l : ℕ} (q : Quad tri he a b r l) where
  abbrev tri' : List ℕ
  tri' = turned_sites tri a b r l

  abbrev he' : List ℕ
  he' = relinked he a b r l

  abbrev table : List ℕ
  table = leftmost_of tri he sites

  abbrev corners : Four
  corners = flip_corners tri a b r l

  abbrev entries : Four
  entries = entries_of he table corners a b r l

  long : length table ≡ sites
  long = table_length tri he sites (length tri)

  left : (s : ℕ) → s < sites → Leftmost tri he (length tri) s (get_or table s 0)
  left s h = table_leftmost tri he sites (length tri) s (omega (arith, ok.small)) (λ e k. end_site ok e (omega (arith, ok.same))) h

  -- the leftmost half-edge of the flipped mesh is one
  afresh : (s t : ℕ) → s < sites → Leftmost tri' he' (length tri) s t → t ≡ get_or (leftmost_of tri' he' sites) s 0
  afresh s t h x =
      leftmost_one tri' he' (length tri) s t _ x (subst (λ k. Leftmost tri' he' k s (get_or (leftmost_of tri' he' sites) s 0)) (turned_length tri a b r l) (leftmost_again ok q s h))

  turn_back : (s t : ℕ) → Leftmost (turned_sites tri b a l r) (relinked he b a l r) (length tri) s t → Leftmost tri' he' (length tri) s t
  turn_back s t x =
      subst (λ h. Leftmost tri' h (length tri) s t) (sym (relinked_turn (paired ok) q))
      (subst (λ k. Leftmost k (relinked he b a l r) (length tri) s t) (sym (turned_turn ok.same q)) x)

  -- site by site
  abbrev Right : ℕ → Type 0
  Right s = get_or (stored_four table corners entries) s 0 ≡ get_or (leftmost_of tri' he' sites) s 0

  at_y : start_of tri l < sites → Right (start_of tri l)
  at_y h =
      at_fourth table corners entries (rw long h)
      ∙ afresh (start_of tri l) _ h (turn_back (start_of tri l) _ (left_gained ok (quad_turn q) (start_of tri l) _ (left (start_of tri l) h) refl))

  at_x : start_of tri r < sites → Right (start_of tri r)
  at_x h = at_third table corners entries (rw long h) q.xy ∙ afresh (start_of tri r) _ h (left_gained ok q (start_of tri r) _ (left (start_of tri r) h) refl)

  at_q : start_of tri b < sites → Right (start_of tri b)
  at_q h =
      at_second table corners entries (rw long h) (λ z. q.yq (sym z)) q.qx
      ∙ afresh (start_of tri b) _ h (turn_back (start_of tri b) _ (left_lost ok (quad_turn q) (start_of tri b) _ (left (start_of tri b) h) refl h refl))

  at_p : start_of tri a < sites → Right (start_of tri a)
  at_p h =
      at_first table corners entries (rw long h) q.py (λ z. q.xp (sym z)) q.pq
      ∙ afresh (start_of tri a) _ h (left_lost ok q (start_of tri a) _ (left (start_of tri a) h) refl h refl)

  at : (s : ℕ) → s < sites → Right s
  at s h =
      ⊎_elim (λ is. subst Right (sym is) (at_y (rw (← is) h))) (λ ny.
      ⊎_elim (λ is. subst Right (sym is) (at_x (rw (← is) h))) (λ nx.
      ⊎_elim (λ is. subst Right (sym is) (at_q (rw (← is) h))) (λ nq.
      ⊎_elim (λ is. subst Right (sym is) (at_p (rw (← is) h))) (λ np.
      at_none table corners entries s ny nx nq np ∙ afresh s _ h (left_else ok q s _ (left s h) np nq nx ny))
      (eq_or_ne s (start_of tri a))) (eq_or_ne s (start_of tri b))) (eq_or_ne s (start_of tri r))) (eq_or_ne s (start_of tri l))

  pub table_again : stored_four table corners entries ≡ leftmost_of tri' he' sites
  table_again =
      ext_get_or 0 (stored_four table corners entries) (leftmost_of tri' he' sites)
      (four_length table corners entries ∙ long ∙ sym (table_length tri' he' sites (length tri')))
      (λ s h. at s (omega (arith, four_length table corners entries, long)))
