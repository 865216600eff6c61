-- How the sites are inserted, one after the other.
use Rattle.std.specs.Prelude.{◌≡◌, refl, Bool, false, List, ◌≢◌, ℕ, suc, ◌+◌, ◌*◌, ◌/◌, ◌≤◌, ◌<◌, Float, length, get_or, set}
use Rattle.std.proofs.Common.{sym, ap, ◌∙◌, ⊎_elim, arith, length-set, get_or-set_same, get_or-set_other}
use Rattle.base.specs.common.laws.Decide.{lt_or_ge, eq_or_ne}
use Rattle.plane.specs.points.Flat.{point_at}
use Rattle.plane.specs.declared.points.Point.{Point}
use Rattle.ring_area.specs.lowest.laws.Loops.{NoneTo, passed_start, passed_step}
use Rattle.auditing.specs.places.Places.{has_twin}
use Rattle.auditing.specs.places.Buckets.{LastIn}
use Rattle.auditing.specs.places.laws.Inserting.{none_yet, now_last, still_last}
use Rattle.certifying.specs.twins.Buckets.{site_bucket, bucket_at, SitesChained, SiteHeld}

-- ---- emptying the buckets
pub record EmptyTo (n m : ℕ) (old w : List ℕ) : Type 0 where
  pub most : m ≤ n
  pub long : length w ≡ length old
  pub free : (j : ℕ) → j < m → get_or w (2 * j) 0 ≡ 0

pub empty_start : {n : ℕ} {w : List ℕ} → EmptyTo n 0 w w
empty_start = record { most = omega arith; long = refl; free = λ j h. absurd (omega arith) }

pub empty_step : {n m : ℕ} {old w : List ℕ} → EmptyTo n m old w → m < n → 2 * n ≤ length old → EmptyTo n (m + 1) old (set w (2 * m) 0)
empty_step {n} {m} {old} {w} a h room = record {
  most = omega arith;
  long = length-set w (2 * m) 0 ∙ a.long;
  free = λ j g. ⊎_elim
      (λ z. rw z (get_or-set_same w (2 * m) 0 0 (omega (arith, a.long))))
      (λ z. get_or-set_other w (2 * m) (2 * j) 0 0 (λ q. z (omega arith)) ∙ a.free j (below j g z))
      (eq_or_ne j m);
}
  where
    below : (j : ℕ) → j < m + 1 → j ≢ m → j < m
    below j g z = ⊎_elim (λ l. l) (λ l. absurd (z (omega arith))) (lt_or_ge j m)

pub empty_end : {sites : List Float} {m : ℕ} {old w : List ℕ} → EmptyTo (length sites / 2) m old w → length sites / 2 ≤ m → 2 * (length sites / 2) ≤ length old
    → length sites / 2 ≤ 65536 → SitesChained sites 0 w
empty_end {sites} {m} {old} {w} a h room few = record {
  few = few;
  room = omega (arith, a.long);
  lasts = λ j l. let z : get_or w (2 * j) 0 ≡ 0 = a.free j (omega arith) in rw z (none_yet (bucket_at sites) j);
  nexts = λ k l. absurd (omega arith);
}

-- ---- s goes in front of the chain of its bucket m
module _ {sites : List Float} {s m : ℕ} {w : List ℕ} (h : SiteHeld sites s m w) where
  abbrev linked : List ℕ
  linked = set w (2 * s + 1) (get_or w (2 * m) 0)

  abbrev chained : List ℕ
  chained = set linked (2 * m) (suc s)

  long : length linked ≡ length w
  long = length-set w (2 * s + 1) (get_or w (2 * m) 0)

  last_at : (j : ℕ) → j < length sites / 2 → LastIn (bucket_at sites) j (suc s) (get_or chained (2 * j) 0)
  last_at j i =
      ⊎_elim
      (λ z. rw (z, get_or-set_same linked (2 * m) (suc s) 0 (omega (arith, long, h.below, h.chained.room))) (now_last (bucket_at sites) m s (sym h.bucket)))
      (λ z. rw (get_or-set_other linked (2 * m) (2 * j) (suc s) 0 (λ q. z (omega arith)), get_or-set_other w (2 * s + 1) (2 * j) (get_or w (2 * m) 0) 0 (λ q. omega arith))
      (still_last (bucket_at sites) j s (get_or w (2 * j) 0) (λ y. z (sym y ∙ sym h.bucket)) (h.chained.lasts j i)))
      (eq_or_ne j m)

  next_at : (j : ℕ) → j < suc s → LastIn (bucket_at sites) (bucket_at sites j) j (get_or chained (2 * j + 1) 0)
  next_at j i =
      ⊎_elim
      (λ z. rw (z, get_or-set_other linked (2 * m) (2 * s + 1) (suc s) 0 (λ q. omega arith), get_or-set_same w (2 * s + 1) (get_or w (2 * m) 0) 0 (omega (arith, h.site, h.chained.room)), ← h.bucket)
      (h.chained.lasts m h.below))
      (λ z. rw (get_or-set_other linked (2 * m) (2 * j + 1) (suc s) 0 (λ q. omega arith), get_or-set_other w (2 * s + 1) (2 * j + 1) (get_or w (2 * m) 0) 0 (λ q. z (omega arith)))
      (h.chained.nexts j (⊎_elim (λ x. x) (λ x. absurd (z (omega arith))) (lt_or_ge j s))))
      (eq_or_ne j s)

  pub chained_long : {w' : List ℕ} → w' ≡ chained → length w' ≡ length w
  chained_long f = ap length f ∙ length-set linked (2 * m) (suc s) ∙ long

  pub chained_more : {w' : List ℕ} → w' ≡ chained → SitesChained sites (s + 1) w'
  chained_more f =
      let z : s + 1 ≡ suc s = omega arith in
      rw (f, z) (record { few = h.chained.few; room = omega (arith, chained_long refl, h.chained.room); lasts = last_at; nexts = next_at })

-- ---- the sites before s have no twin before them, and are chained
pub record HeldTo (sites : List Float) (s : ℕ) (old w : List ℕ) : Type 0 where
  pub none : NoneTo (has_twin sites) (length sites / 2) s
  pub chained : SitesChained sites s w
  pub long : length w ≡ length old

pub held_start : {sites : List Float} {w : List ℕ} → SitesChained sites 0 w → HeldTo sites 0 w w
held_start a = record { none = passed_start _ _; chained = a; long = refl }

module _ {sites : List Float} {s : ℕ} {old w : List ℕ} (a : HeldTo sites s old w) where
  pub held_at : {p : Point} {m : ℕ} → s < length sites / 2 → p ≡ point_at sites s → (m ≡ site_bucket (length sites / 2) p) × (m < length sites / 2) → SiteHeld sites s m w
  held_at l e (f, g) = record { site = l; bucket = f ∙ ap (site_bucket (length sites / 2)) e; below = g; chained = a.chained }

  pub held_step : {m : ℕ} {w' : List ℕ} {b : Bool} (h : SiteHeld sites s m w) → b ≡ has_twin sites s → b ≡ false → w' ≡ set (set w (2 * s + 1) (get_or w (2 * m) 0)) (2 * m) (suc s)
      → HeldTo sites (s + 1) old w'
  held_step h e f g = record { none = passed_step a.none h.site e f; chained = chained_more h g; long = chained_long h g ∙ a.long }
