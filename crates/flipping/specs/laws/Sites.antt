-- Where the half-edges start and end after a flip: a and b start elsewhere, r and l end elsewhere, and nothing else does. So the two new triangles
-- have three different sites each (rule 7).
use Rattle.std.specs.Prelude.{◌≡◌, List, ◌≢◌, ℕ, ◌+◌, ◌*◌, ◌%◌, ◌<◌, length, set}
use Rattle.std.proofs.Common.{sym, ap, ◌∙◌, subst, ⊎_elim, arith, length-set, get_or-set_same, get_or-set_other}
use Rattle.std.proofs.lemmas.List.{set_comm}
use Rattle.base.specs.common.laws.Decide.{eq_or_ne}
use Rattle.mesh.specs.Mesh.{next_of, start_of, end_of, AllSound}
use Rattle.mesh.specs.laws.Next.{next_sum, next_inj}
use Rattle.mesh.specs.laws.Facts.{sound_site}
use Rattle.flipping.specs.Flip.{turned_sites}
use Rattle.mesh_check.specs.pairing.laws.Threes.{sound_ends}
use Rattle.flipping.specs.laws.Quad.{Quad}

pub turned_length : (tri : List ℕ) (a b r l : ℕ) → length (turned_sites tri a b r l) ≡ length tri
turned_length tri a b r l = length-set (set tri a (start_of tri l)) b (start_of tri r) ∙ length-set tri a (start_of tri l)

pub start_kept : (tri : List ℕ) (a b r l : ℕ) {e : ℕ} → e ≢ a → e ≢ b → start_of (turned_sites tri a b r l) e ≡ start_of tri e
start_kept tri a b r l {e} na nb = get_or-set_other (set tri a (start_of tri l)) b e (start_of tri r) 0 nb ∙ get_or-set_other tri a e (start_of tri l) 0 na

-- three sites that differ in turn are a triangle's
pub ends_sound : (tri : List ℕ) (sites : ℕ) → length tri % 3 ≡ 0 → ((e : ℕ) → e < length tri → start_of tri e < sites)
    → ((e : ℕ) → e < length tri → start_of tri e ≢ end_of tri e) → AllSound tri sites
ends_sound tri sites threes named differ t l =
    let n0 : next_of (3 * t) ≡ 3 * t + 1 = omega (arith, next_sum (3 * t)) in
    let n1 : next_of (3 * t + 1) ≡ 3 * t + 2 = omega (arith, next_sum (3 * t + 1)) in
    let n2 : next_of (3 * t + 2) ≡ 3 * t = omega (arith, next_sum (3 * t + 2)) in
    record {
      a_site = named (3 * t) (omega arith);
      b_site = named (3 * t + 1) (omega arith);
      c_site = named (3 * t + 2) (omega arith);
      ab = λ z. differ (3 * t) (omega arith) (z ∙ ap (start_of tri) (sym n0));
      bc = λ z. differ (3 * t + 1) (omega arith) (z ∙ ap (start_of tri) (sym n1));
      ca = λ z. differ (3 * t + 2) (omega arith) (z ∙ ap (start_of tri) (sym n2));
    }

module _ {tri he : List ℕ} (same : length he ≡ length tri) {a b r l : ℕ} (q : Quad tri he a b r l) where
  a_b : a ≢ b
  a_b z = q.pq (ap (start_of tri) z)

  pub r_a : r ≢ a
  r_a z = q.xp (ap (start_of tri) z)

  pub r_b : r ≢ b
  r_b z = q.qx (sym (ap (start_of tri) z))

  pub l_a : l ≢ a
  l_a z = q.py (sym (ap (start_of tri) z))

  pub l_b : l ≢ b
  l_b z = q.yq (ap (start_of tri) z)

  pub start_a : start_of (turned_sites tri a b r l) a ≡ start_of tri l
  start_a =
      get_or-set_other (set tri a (start_of tri l)) b a (start_of tri r) 0 a_b
      ∙ get_or-set_same tri a (start_of tri l) 0 (rw (← same) q.a_in)

  pub start_b : start_of (turned_sites tri a b r l) b ≡ start_of tri r
  start_b = get_or-set_same (set tri a (start_of tri l)) b (start_of tri r) 0 (rw (length-set tri a (start_of tri l), ← same) q.b_in)

  pub start_r : start_of (turned_sites tri a b r l) r ≡ start_of tri r
  start_r = start_kept tri a b r l r_a r_b

  pub start_l : start_of (turned_sites tri a b r l) l ≡ start_of tri l
  start_l = start_kept tri a b r l l_a l_b

  pub now_r : end_of (turned_sites tri a b r l) r ≡ start_of tri l
  now_r = ap (start_of (turned_sites tri a b r l)) q.after_r ∙ start_a

  pub now_l : end_of (turned_sites tri a b r l) l ≡ start_of tri r
  now_l = ap (start_of (turned_sites tri a b r l)) q.after_l ∙ start_b

  pub end_kept : {e : ℕ} → e ≢ r → e ≢ l → end_of (turned_sites tri a b r l) e ≡ end_of tri e
  end_kept {e} nr nl = start_kept tri a b r l (λ z. nr (next_inj (z ∙ sym q.after_r))) (λ z. nl (next_inj (z ∙ sym q.after_l)))

  pub turned_turn : turned_sites tri a b r l ≡ turned_sites tri b a l r
  turned_turn = set_comm tri a b (start_of tri l) (start_of tri r) a_b

-- rule 7
pub sound_again : {tri he : List ℕ} (sites : ℕ) → length he ≡ length tri → length tri % 3 ≡ 0 → AllSound tri sites → {a b r l : ℕ} → Quad tri he a b r l
    → AllSound (turned_sites tri a b r l) sites
sound_again {tri} {he} sites same threes all {a} {b} {r} {l} q =
    ends_sound tri' sites (rw long threes) (λ e h. named e (rw long at h)) (λ e h. differ e (rw long at h))
  where
    tri' : List ℕ
    tri' = turned_sites tri a b r l

    long : length tri' ≡ length tri
    long = turned_length tri a b r l

    old : (e : ℕ) → e < length tri → start_of tri e < sites
    old = sound_site tri sites threes all

    named : (e : ℕ) → e < length tri → start_of tri' e < sites
    named e h =
        ⊎_elim (λ z. subst (λ k. k < sites) (sym (ap (start_of tri') z ∙ start_a same q)) (old l (rw (← same) q.l_in))) (λ na.
        ⊎_elim (λ z. subst (λ k. k < sites) (sym (ap (start_of tri') z ∙ start_b same q)) (old r (rw (← same) q.r_in))) (λ nb.
        subst (λ k. k < sites) (sym (start_kept tri a b r l na nb)) (old e h))
        (eq_or_ne e b)) (eq_or_ne e a)

    differ : (e : ℕ) → e < length tri → start_of tri' e ≢ end_of tri' e
    differ e h z =
        ⊎_elim (λ y. q.yq (sym (start_a same q) ∙ sym (ap (start_of tri') y) ∙ z ∙ ap (end_of tri') y ∙ end_kept same q (λ w. r_a same q (sym w)) (λ w. l_a same q (sym w)) ∙ q.end_a)) (λ na.
        ⊎_elim (λ y. q.xp (sym (start_b same q) ∙ sym (ap (start_of tri') y) ∙ z ∙ ap (end_of tri') y ∙ end_kept same q (λ w. r_b same q (sym w)) (λ w. l_b same q (sym w)) ∙ q.end_b)) (λ nb.
        ⊎_elim (λ y. q.xy (sym (start_r same q) ∙ sym (ap (start_of tri') y) ∙ z ∙ ap (end_of tri') y ∙ now_r same q)) (λ nr.
        ⊎_elim (λ y. q.xy (sym (sym (start_l same q) ∙ sym (ap (start_of tri') y) ∙ z ∙ ap (end_of tri') y ∙ now_l same q))) (λ nl.
        sound_ends tri sites threes all e h (sym (start_kept tri a b r l na nb) ∙ z ∙ end_kept same q nr nl))
        (eq_or_ne e l)) (eq_or_ne e r)) (eq_or_ne e b)) (eq_or_ne e a)
