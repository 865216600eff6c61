-- Theorem: no ring and no border has another name than those of half-edges (`out_absent`, `ray_none_in`, `far_none_in`, `border_absent`).
use Rattle.std.specs.Prelude.{◌≡◌, refl, Bool, true, false, cond, List, [], ◌∷◌, ℕ, zero, suc, ◌+◌, ◌-◌, ◌≤◌, ◌<◌, eqb, length, get_or}
use Rattle.std.proofs.Common.{sym, ap, ◌∙◌, ⊎_elim, arith, eqb-true, le-leb}
use Rattle.std.proofs.lemmas.Bool.{false≢true}
use Rattle.base.specs.common.Count.{same, occ}
use Rattle.base.specs.common.laws.Count.{same_cases}
use Rattle.base.specs.common.laws.Decide.{lt_or_ge}
use Rattle.base.specs.numbers.Numbers.{EMPTY}
use Rattle.mesh.specs.Mesh.{next_of, end_of, pair_of, turn_of, walk_of, whole_of}
use Rattle.mesh.specs.Hull.{next_place, next_site}
use Rattle.mesh.specs.Accepted.{Topology}
use Rattle.mesh.specs.laws.Border.{after_cases, after_lt}
use Rattle.mesh.specs.laws.Next.{next_thrice}
use Rattle.mesh.specs.laws.Facts.{paired, next_in, tab_cases, start_used, tab_used, leftmost_unpaired, walk_only}
use Rattle.cutting.specs.cuts.Pairs.{once_if, often, often_append}
use Rattle.cutting.specs.cuts.Named.{EdgeName, out, ray, far, by_name}
use Rattle.cutting.specs.rings.Linked.{whole_linked}
use Rattle.cutting.specs.rings.Names.{on_hull, last_names, names_from, ring_names}
use Rattle.cutting.specs.rings.Rings.{starts_at}
use Rattle.cutting.specs.rings.Counts.{site_names, all_names, ring_ray, ring_far, begins, no_ring_lem, out_none_in}
use Rattle.cutting.specs.rings.Border.{arrives, border_names}

-- what is not there
unlike_once : (o t : ℕ) → (o ≡ t → ⊥) → once_if (eqb o t) ≡ 0
unlike_once o t n = go (eqb o t) refl
  where
    go : (b : Bool) → eqb o t ≡ b → once_if b ≡ 0
    go true q = absurd (n (eqb-true o t q))
    go false q = refl

last_no_far : (he : List ℕ) (o e : ℕ) → on_hull he o ≡ false → often by_name (far o) (last_names he e) ≡ 0
last_no_far he o e h = go (on_hull he (next_of e)) refl
  where
    go : (b : Bool) → on_hull he (next_of e) ≡ b → often by_name (far o) (cond b (far (next_of e) ∷ []) []) ≡ 0
    go true q = omega (arith, unlike_once o (next_of e) (λ z. false≢true (sym h ∙ ap (on_hull he) z ∙ q)))
    go false q = refl

names_no_far : (he : List ℕ) (o : ℕ) → on_hull he o ≡ false → (l : List ℕ) → often by_name (far o) (names_from he l) ≡ 0
names_no_far he o h [] = refl
names_no_far he o h (e ∷ []) = omega (arith, last_no_far he o e h)
names_no_far he o h (e ∷ f ∷ r) = omega (arith, names_no_far he o h (f ∷ r))

ring_no_far : (he : List ℕ) (t o : ℕ) → on_hull he o ≡ false → (l : List ℕ) → often by_name (far o) (ring_names he t l) ≡ 0
ring_no_far he t o h [] = refl
ring_no_far he t o h (e ∷ r) = go (on_hull he t)
  where
    go : (b : Bool) → often by_name (far o) (cond b (ray t ∷ names_from he (e ∷ r)) (names_from he (e ∷ r))) ≡ 0
    go true = omega (arith, names_no_far he o h (e ∷ r))
    go false = names_no_far he o h (e ∷ r)

module _ {tri he hull : List ℕ} {sites : ℕ} (ok : Topology tri he hull sites) where
  pub everywhere : (n : EdgeName) → ((s : ℕ) → s < sites → often by_name n (site_names ok s) ≡ 0) → (order : List ℕ) → ((s : ℕ) → 0 < occ s order → s < sites)
      → often by_name n (all_names ok order) ≡ 0
  everywhere n none [] below = refl
  everywhere n none (s ∷ r) below =
      omega (arith, often_append by_name n (site_names ok s) (all_names ok r), none s (below s here), everywhere n none r (λ z p. below z (omega arith)))
    where
      here : 0 < same s s + occ s r
      here = ⊎_elim (λ v. omega (arith, v.1)) (λ v. absurd (v.0 refl)) (same_cases s s)

  pub out_absent : (o : ℕ) → length he ≤ o → (order : List ℕ) → ((s : ℕ) → 0 < occ s order → s < sites) → often by_name (out o) (all_names ok order) ≡ 0
  out_absent o l = everywhere (out o) (λ s ls. out_none_in ok o s l ls)

  -- o is no half-edge on the hull
  module _ (o : ℕ) (not_hull : o < length he → on_hull he o ≡ true → ⊥) where
    pub ray_none_in : (s : ℕ) → s < sites → often by_name (ray o) (site_names ok s) ≡ 0
    ray_none_in s ls = ⊎_elim (no_ring_lem ok s o) some (tab_cases ok s ls)
      where
        some : (starts_at ok s < length he) × (end_of tri (starts_at ok s) ≡ s) → often by_name (ray o) (site_names ok s) ≡ 0
        some there = rw (begins he (starts_at ok s) there.0)
            (ring_ray he (starts_at ok s) o (starts_at ok s) (walk_of he (starts_at ok s) (length he - 1) (turn_of he (starts_at ok s) (starts_at ok s))) ∙ go (on_hull he (starts_at ok s)) refl)
          where
            go : (b : Bool) → on_hull he (starts_at ok s) ≡ b → cond b (once_if (eqb o (starts_at ok s))) 0 ≡ 0
            go true q = unlike_once o (starts_at ok s) (λ z. not_hull (rw z there.0) (ap (on_hull he) z ∙ q))
            go false q = refl

    pub far_none_in : (s : ℕ) → s < sites → often by_name (far o) (site_names ok s) ≡ 0
    far_none_in s ls = go (on_hull he o) refl
      where
        go : (b : Bool) → on_hull he o ≡ b → often by_name (far o) (site_names ok s) ≡ 0
        go false h = ring_no_far he (starts_at ok s) o h (whole_of he (starts_at ok s))
        go true h =
            ring_far he (starts_at ok s) o h (whole_of he (starts_at ok s)) (whole_linked he (starts_at ok s) (paired ok).small tri (paired ok)) ∙ ⊎_elim
            (λ p. (let i : o < length he = rw next_thrice at (next_in ok (walk_only ok s ls (next_of (next_of o)) p).0) in absurd (not_hull i h)))
            (λ p. omega arith)
            (lt_or_ge 0 (occ (next_of (next_of o)) (whole_of he (starts_at ok s))))

    arrives_in : (i : ℕ) → i < length hull → arrives ok i < length he
    arrives_in i l =
        let e = ok.border.edges i l in
        (tab_used ok (get_or hull i 0) (ok.border.fresh i l).0 (rw e.3 at (start_used ok e.0 e.1))).0

    open_after : (i : ℕ) → i < length hull → pair_of he (arrives ok (next_place (length hull) i)) ≡ EMPTY
    open_after i l =
        let e = ok.border.edges i l in
        let there = (ok.border.fresh (next_place (length hull) i) (after_lt (length hull) i l)).0 in
        ap (pair_of he) (leftmost_unpaired ok (next_site hull i) there e.0 e.1 e.4 e.2) ∙ e.2

    arrives_open : (i : ℕ) → i < length hull → pair_of he (arrives ok i) ≡ EMPTY
    arrives_open zero l = ⊎_elim
        (λ w. ap (λ (k : ℕ). pair_of he (arrives ok k)) (sym w.1) ∙ open_after (length hull - 1) (omega arith))
        (λ w. absurd (w.0 (omega arith)))
        (after_cases (length hull) (length hull - 1))
    arrives_open (suc i) l = ⊎_elim
        (λ w. absurd (omega (arith, w.0)))
        (λ w. (let q : next_place (length hull) i ≡ suc i = w.1 ∙ omega arith in ap (λ (k : ℕ). pair_of he (arrives ok k)) (sym q) ∙ open_after i (omega arith)))
        (after_cases (length hull) i)

    pub border_absent : (k : ℕ) → k ≤ length hull → often by_name (far o) (border_names ok k) ≡ 0
    border_absent zero l = refl
    border_absent (suc k) l = omega (
      arith,
      border_absent k (omega arith),
      unlike_once o (arrives ok k) (λ z.
          not_hull (rw z (arrives_in k l)) (ap (on_hull he) z ∙ le-leb (length he) (pair_of he (arrives ok k)) (omega (arith, arrives_open k l, (paired ok).small)))),
    )
