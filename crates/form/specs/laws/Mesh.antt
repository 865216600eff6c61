-- Every mesh that has a form is read back from it: sound forms are accepted, with their numbers.
use Rattle.std.specs.Prelude.{◌≡◌, Bool, Float}
use Rattle.std.proofs.Math.Path.{refl, subst}
use Rattle.std.proofs.Common.{ap, ◌∙◌, lt-ltb}
use mathlib.Core.List.{List, [], ◌∷◌, ◌++◌, append_assoc}
use Prim.Native.Nat.{ℕ, suc, ◌+◌, ◌*◌, ◌≤◌}
use native.Mathlib.Omega.{arith}
use Rattle.std.proofs.Math.Nat.{mul-suc}
use Rattle.std.proofs.Math.ListN.{length}
use Rattle.std.proofs.lemmas.List.Edits.{sets}
use Rattle.base.specs.common.laws.Stores.{sets_join}
use Rattle.octets.specs.Bytes.{each, All}
use Rattle.form.specs.Limits.{most_sites, most_triangles, most_hull}
use Rattle.form.specs.Form.{FormMesh, Site, Triangle, MeshFits, MayBegin, SiteFits, TriangleFits, HullFits, outline_bytes, site_bytes, triangle_bytes}
use Rattle.form.specs.Form.{hull_bytes, form_of, outline_floats, site_floats, triangle_sites, triangle_pairs, kind_of}
use Rattle.form.specs.step.Reader.{opens, room_left, start, begun, Reading, reading, takes, verdict, sound_of}
use Rattle.form.specs.laws.Run.{AtRecord, Goes, Opening, ready_up, takes_append, kind_follows, kind_run, site_run, triangle_run, hull_run, opening}
use Rattle.form.specs.declared.step.Reader.{Reader}

-- ---- runs, one after the other

goes_both :
    {r : Reader} {k a b c k' a' b' c' : ℕ} {bs ss bs₁ ss₁ bs₂ ss₂ : List Float} {ts es hs ts₁ es₁ hs₁ ts₂ es₂ hs₂ s t : List ℕ}
    (g : Goes r k a b c bs ss ts es hs bs₁ ss₁ ts₁ es₁ hs₁ s)
    → Goes g.to k' a' b' c' bs₁ ss₁ ts₁ es₁ hs₁ bs₂ ss₂ ts₂ es₂ hs₂ t
    → Goes r k' (a + a') (b + b') (c + c') bs ss ts es hs bs₂ ss₂ ts₂ es₂ hs₂ (s ++ t)
goes_both {r = r} {bs = bs} {ss = ss} {ts = ts} {es = es} {hs = hs} {s = s} {t = t} g h =
    record {
      to = h.to;
      ran =
          record {
            ready = h.ran.ready;
            clip = h.ran.clip ∙ g.ran.clip;
            sites = omega (arith, g.ran.sites, h.ran.sites);
            triangles = omega (arith, g.ran.triangles, h.ran.triangles);
            hull = omega (arith, g.ran.hull, h.ran.hull);
          };
      lists = takes_append s t (reading r bs ss ts es hs) ∙ ap (λ (d : Reading). takes d t) g.lists ∙ h.lists;
    }

goes_as :
    {r : Reader} {k a b c a' b' c' : ℕ} {bs ss bs' ss₁ ss₂ : List Float} {ts es hs ts₁ es₁ hs₁ ts₂ es₂ hs₂ s : List ℕ}
    → Goes r k a b c bs ss ts es hs bs' ss₁ ts₁ es₁ hs₁ s
    → a ≡ a' → b ≡ b' → c ≡ c' → ss₁ ≡ ss₂ → ts₁ ≡ ts₂ → es₁ ≡ es₂ → hs₁ ≡ hs₂
    → Goes r k a' b' c' bs ss ts es hs bs' ss₂ ts₂ es₂ hs₂ s
goes_as {bs' = bs'} g ea eb ec es et ee eh =
    record {
      to = g.to;
      ran =
          record {
            ready = g.ran.ready;
            clip = g.ran.clip;
            sites = omega (arith, g.ran.sites);
            triangles = omega (arith, g.ran.triangles);
            hull = omega (arith, g.ran.hull);
          };
      lists = g.lists ∙ (λ i. reading g.to bs' (es i) (et i) (ee i) (eh i));
    }

-- ---- records of one kind

-- one record, by its bytes f and by its numbers for each list; i, j and h of it count as site, triangle and hull site
module _
    {A : Type 0} (f : A → List ℕ) (P : A → Type 0) (k i j h : ℕ)
    (fs : A → List Float) (ft fe fh : A → List ℕ)
    (ls : (a : A) → length (fs a) ≡ 2 * i)
    (lt : (a : A) → length (ft a) ≡ 3 * j)
    (le : (a : A) → length (fe a) ≡ 3 * j)
    (lh : (a : A) → length (fh a) ≡ h)
    (one :
    (a : A) (r : Reader) (bs ss : List Float) (ts es hs : List ℕ)
    → P a → AtRecord r k → r.sites + i ≤ most_sites → r.triangles + j ≤ most_triangles → r.hull + h ≤ most_hull
    → Goes r k i j h bs ss ts es hs bs (sets ss (2 * r.sites) (fs a)) (sets ts (3 * r.triangles) (ft a)) (sets es (3 * r.triangles) (fe a)) (sets hs r.hull (fh a)) (f a))
  where
    abbrev Runs : List A → Type 0
    Runs l =
        (r : Reader) (bs ss : List Float) (ts es hs : List ℕ)
        → All P l → AtRecord r k → r.sites + i * length l ≤ most_sites → r.triangles + j * length l ≤ most_triangles → r.hull + h * length l ≤ most_hull
        → Goes r k (i * length l) (j * length l) (h * length l) bs ss ts es hs bs (sets ss (2 * r.sites) (each fs l))
        (sets ts (3 * r.triangles) (each ft l)) (sets es (3 * r.triangles) (each fe l)) (sets hs r.hull (each fh l)) (each f l)

    more :
        (x : A) (l : List A) → Runs l → (r : Reader) (bs ss : List Float) (ts es hs : List ℕ)
        → All P l → r.sites + i * suc (length l) ≤ most_sites → r.triangles + j * suc (length l) ≤ most_triangles → r.hull + h * suc (length l) ≤ most_hull
        → Goes r k i j h bs ss ts es hs bs (sets ss (2 * r.sites) (fs x)) (sets ts (3 * r.triangles) (ft x)) (sets es (3 * r.triangles) (fe x)) (sets hs r.hull (fh x)) (f x)
        → Goes r k (i * suc (length l)) (j * suc (length l)) (h * suc (length l)) bs ss ts es hs bs (sets ss (2 * r.sites) (each fs (x ∷ l)))
        (sets ts (3 * r.triangles) (each ft (x ∷ l))) (sets es (3 * r.triangles) (each fe (x ∷ l))) (sets hs r.hull (each fh (x ∷ l))) (each f (x ∷ l))
    more x l runs r bs ss ts es hs p a b c g =
        let i' : i * suc (length l) ≡ i * length l + i = mul-suc i (length l) in
        let j' : j * suc (length l) ≡ j * length l + j = mul-suc j (length l) in
        let h' : h * suc (length l) ≡ h * length l + h = mul-suc h (length l) in
        goes_as
        (goes_both g (runs g.to bs _ _ _ _ p g.ran.ready (omega (arith, g.ran.sites)) (omega (arith, g.ran.triangles)) (omega (arith, g.ran.hull))))
        (omega arith)
        (omega arith)
        (omega arith)
        (sets_join (fs x) (each fs l) ss (2 * r.sites) (2 * g.to.sites) (omega (arith, ls x, g.ran.sites)))
        (sets_join (ft x) (each ft l) ts (3 * r.triangles) (3 * g.to.triangles) (omega (arith, lt x, g.ran.triangles)))
        (sets_join (fe x) (each fe l) es (3 * r.triangles) (3 * g.to.triangles) (omega (arith, le x, g.ran.triangles)))
        (sets_join (fh x) (each fh l) hs r.hull g.to.hull (omega (arith, lh x, g.ran.hull)))

    all_run : (l : List A) → Runs l
    unfolding takes
    all_run [] r bs ss ts es hs p q a b c =
        record {
          to = r;
          ran = record { ready = q; clip = refl; sites = omega arith; triangles = omega arith; hull = omega arith };
          lists = refl;
        }
    all_run (x ∷ l) r bs ss ts es hs p q a b c =
        let i' : i * suc (length l) ≡ i * length l + i = mul-suc i (length l) in
        let j' : j * suc (length l) ≡ j * length l + j = mul-suc j (length l) in
        let h' : h * suc (length l) ≡ h * length l + h = mul-suc h (length l) in
        more x l (all_run l) r bs ss ts es hs p.1 a b c (one x r bs ss ts es hs p.0 q (omega arith) (omega arith) (omega arith))

abbrev none : {A B : Type 0} → A → List B
none a = []

no_numbers : {A B : Type 0} (l : List A) → each {B = B} none l ≡ []
no_numbers [] = refl
no_numbers (a ∷ l) = no_numbers l

-- a list into which nothing is stored
same : {A B : Type 0} (l : List A) (z : List B) (i : ℕ) → sets z i (each none l) ≡ z
same l z i = ap (sets z i) (no_numbers l)

numbers_each : (l : List ℕ) → each (λ v. v ∷ []) l ≡ l
numbers_each [] = refl
numbers_each (v ∷ l) = ap (λ (t : List ℕ). v ∷ t) (numbers_each l)

module _ (r : Reader) (bs ss : List Float) (ts es hs : List ℕ) where
  pub sites_run :
      (l : List Site) → All SiteFits l → AtRecord r 2 → r.sites + length l ≤ most_sites → r.triangles ≤ most_triangles → r.hull ≤ most_hull
      → Goes r 2 (length l) 0 0 bs ss ts es hs bs (sets ss (2 * r.sites) (each site_floats l)) ts es hs (each site_bytes l)
  sites_run l f q a b c =
      goes_as
      (all_run site_bytes SiteFits 2 1 0 0 site_floats none none none (λ _. refl) (λ _. refl) (λ _. refl) (λ _. refl)
      (λ s r bs ss ts es hs f q a b c. site_run r bs ss ts es hs s f q (omega arith))
      l r bs ss ts es hs f q (omega arith) (omega arith) (omega arith))
      (omega arith) (omega arith) (omega arith) refl (same l ts _) (same l es _) (same l hs _)

  pub triangles_run :
      (l : List Triangle) → All TriangleFits l → AtRecord r 3 → r.sites ≤ most_sites → r.triangles + length l ≤ most_triangles → r.hull ≤ most_hull
      → Goes r 3 0 (length l) 0 bs ss ts es hs bs ss (sets ts (3 * r.triangles) (each triangle_sites l)) (sets es (3 * r.triangles) (each triangle_pairs l)) hs (each triangle_bytes l)
  triangles_run l f q a b c =
      goes_as
      (all_run triangle_bytes TriangleFits 3 0 1 0 none triangle_sites triangle_pairs none (λ _. refl) (λ _. refl) (λ _. refl) (λ _. refl)
      (λ t r bs ss ts es hs f q a b c. triangle_run r bs ss ts es hs t f q (omega arith))
      l r bs ss ts es hs f q (omega arith) (omega arith) (omega arith))
      (omega arith) (omega arith) (omega arith) (same l ss _) refl refl (same l hs _)

  pub hulls_run :
      (l : List ℕ) → All HullFits l → AtRecord r 4 → r.sites ≤ most_sites → r.triangles ≤ most_triangles → r.hull + length l ≤ most_hull
      → Goes r 4 0 0 (length l) bs ss ts es hs bs ss ts es (sets hs r.hull l) (each hull_bytes l)
  hulls_run l f q a b c =
      goes_as
      (all_run hull_bytes HullFits 4 0 0 1 none none none (λ v. v ∷ []) (λ _. refl) (λ _. refl) (λ _. refl) (λ _. refl)
      (λ v r bs ss ts es hs f q a b c. hull_run r bs ss ts es hs v f q (omega arith))
      l r bs ss ts es hs f q (omega arith) (omega arith) (omega arith))
      (omega arith) (omega arith) (omega arith) (same l ss _) (same l ts _) (same l es _) (ap (sets hs r.hull) (numbers_each l))

-- ---- a whole form

-- what the lists and the answer are once the form of m is read
pub record WholeRead (m : FormMesh) (bs ss : List Float) (ts es hs : List ℕ) (d : Reading) : Type 0 where
  pub answer : verdict d.reader ≡ sound_of (length m.sites) (length m.triangles) (length m.hull) (kind_of m.clip)
  pub bounds : d.bounds ≡ sets bs 0 (outline_floats m.clip)
  pub sites : d.sites ≡ sets ss 0 (each site_floats m.sites)
  pub triangles : d.triangles ≡ sets ts 0 (each triangle_sites m.triangles)
  pub halfedges : d.halfedges ≡ sets es 0 (each triangle_pairs m.triangles)
  pub hull : d.hull ≡ sets hs 0 m.hull

ended : (r : Reader) (a b c k : ℕ) → r.sites ≡ a → r.triangles ≡ b → r.hull ≡ c → r.clip ≡ k → verdict (begun r 5) ≡ sound_of a b c k
unfolding verdict begun opens
ended r a b c k p q s t = cc

-- the first record, all others, and the end
closed :
    (old : Bool) (m : FormMesh) (bs ss : List Float) (ts es hs : List ℕ) (ss' : List Float) (ts' es' hs' : List ℕ) (s : List ℕ)
    (o : Opening old m.clip bs ss ts es hs)
    → Goes o.to 4 (length m.sites) (length m.triangles) (length m.hull) (sets bs 0 (outline_floats m.clip)) ss ts es hs (sets bs 0 (outline_floats m.clip)) ss' ts' es' hs' s
    → ss' ≡ sets ss 0 (each site_floats m.sites)
    → ts' ≡ sets ts 0 (each triangle_sites m.triangles)
    → es' ≡ sets es 0 (each triangle_pairs m.triangles)
    → hs' ≡ sets hs 0 m.hull
    → WholeRead m bs ss ts es hs (takes (reading (start old) bs ss ts es hs) (outline_bytes m.clip ++ s ++ 5 ∷ []))
unfolding room_left takes
closed old m bs ss ts es hs ss' ts' es' hs' s o g es₁ et ee eh =
    let d = reading (start old) bs ss ts es hs in
    let r = g.to in
    let q = g.ran.ready in
    let p = o.opens in
    let bs' = sets bs 0 (outline_floats m.clip) in
    let e : takes d (outline_bytes m.clip ++ s ++ 5 ∷ []) ≡ reading (begun r 5) bs' ss' ts' es' hs' =
    takes_append (outline_bytes m.clip ++ s) (5 ∷ []) d
    ∙ ap (λ (x : Reading). takes x (5 ∷ [])) (takes_append (outline_bytes m.clip) s d ∙ ap (λ (x : Reading). takes x s) o.lists ∙ g.lists)
    ∙ kind_run r bs' ss' ts' es' hs' 5 [] q.unbroken q.left (kind_follows r 5 q.low (omega (arith, q.high)) (lt-ltb r.stage 5 (omega (arith, q.high))))
    in
    record {
      answer =
          ap (λ (x : Reading). verdict x.reader) e
          ∙ ended r _ _ _ _ (omega (arith, p.sites, g.ran.sites)) (omega (arith, p.triangles, g.ran.triangles)) (omega (arith, p.hull, g.ran.hull)) (g.ran.clip ∙ p.clip);
      bounds = ap (λ (x : Reading). x.bounds) e;
      sites = ap (λ (x : Reading). x.sites) e ∙ es₁;
      triangles = ap (λ (x : Reading). x.triangles) e ∙ et;
      halfedges = ap (λ (x : Reading). x.halfedges) e ∙ ee;
      hull = ap (λ (x : Reading). x.hull) e ∙ eh;
    }

module _ (m : FormMesh) (fit : MeshFits m) (bs ss : List Float) (ts es hs : List ℕ) where
  sites_part : (r : Reader) → AtRecord r 1 → r.sites ≡ 0 → r.triangles ≡ 0 → r.hull ≡ 0
      → Goes r 2 (length m.sites) 0 0 bs ss ts es hs bs (sets ss 0 (each site_floats m.sites)) ts es hs (each site_bytes m.sites)
  sites_part r q zs zt zh =
      let z : 2 * r.sites ≡ 0 = omega arith in
      goes_as (sites_run r bs ss ts es hs m.sites fit.sites (ready_up 2 (omega arith) q) (omega (arith, fit.few_sites)) (omega arith) (omega arith))
      refl refl refl (ap (λ (i : ℕ). sets ss i (each site_floats m.sites)) z) refl refl refl

  triangles_part :
      (r : Reader) → AtRecord r 2 → r.sites ≤ most_sites → r.triangles ≡ 0 → r.hull ≡ 0
      → Goes r 3 0 (length m.triangles) 0 bs ss ts es hs bs ss (sets ts 0 (each triangle_sites m.triangles))
      (sets es 0 (each triangle_pairs m.triangles)) hs (each triangle_bytes m.triangles)
  triangles_part r q ls zt zh =
      let z : 3 * r.triangles ≡ 0 = omega arith in
      goes_as (triangles_run r bs ss ts es hs m.triangles fit.triangles (ready_up 3 (omega arith) q) ls (omega (arith, fit.few_triangles)) (omega arith))
      refl refl refl refl (ap (λ (i : ℕ). sets ts i (each triangle_sites m.triangles)) z) (ap (λ (i : ℕ). sets es i (each triangle_pairs m.triangles)) z) refl

  hull_part : (r : Reader) → AtRecord r 3 → r.sites ≤ most_sites → r.triangles ≤ most_triangles → r.hull ≡ 0
      → Goes r 4 0 0 (length m.hull) bs ss ts es hs bs ss ts es (sets hs 0 m.hull) (each hull_bytes m.hull)
  hull_part r q ls lt zh =
      goes_as (hulls_run r bs ss ts es hs m.hull fit.hull (ready_up 4 (omega arith) q) ls lt (omega (arith, fit.few_hull)))
      refl refl refl refl refl refl (ap (λ (i : ℕ). sets hs i m.hull) zh)

module _ (m : FormMesh) (fit : MeshFits m) (bs ss : List Float) (ts es hs : List ℕ) where
  middle :
      (r : Reader) → AtRecord r 1 → r.sites ≡ 0 → r.triangles ≡ 0 → r.hull ≡ 0
      → Goes r 4 (length m.sites) (length m.triangles) (length m.hull) bs ss ts es hs bs
      (sets ss 0 (each site_floats m.sites)) (sets ts 0 (each triangle_sites m.triangles)) (sets es 0 (each triangle_pairs m.triangles)) (sets hs 0 m.hull)
      (each site_bytes m.sites ++ each triangle_bytes m.triangles ++ each hull_bytes m.hull)
  middle r q zs zt zh =
      let g = sites_part m fit bs ss ts es hs r q zs zt zh in
      let ls : g.to.sites ≤ most_sites = omega (arith, fit.few_sites, g.ran.sites) in
      let h = goes_both g (triangles_part m fit bs _ ts es hs g.to g.ran.ready ls (omega (arith, g.ran.triangles)) (omega (arith, g.ran.hull))) in
      goes_as
      (goes_both h (hull_part m fit bs _ _ _ hs h.to h.ran.ready (omega (arith, fit.few_sites, h.ran.sites))
      (omega (arith, fit.few_triangles, h.ran.triangles)) (omega (arith, h.ran.hull))))
      (omega arith) (omega arith) (omega arith) refl refl refl refl

regroup : (a b c d e : List ℕ) → a ++ (b ++ c ++ d) ++ e ≡ a ++ b ++ c ++ d ++ e
regroup a b c d e = simp append_assoc

module _ (bs ss : List Float) (ts es hs : List ℕ) where
  pub complete : (old : Bool) (m : FormMesh) → MeshFits m → MayBegin old m.clip → WholeRead m bs ss ts es hs (takes (reading (start old) bs ss ts es hs) (form_of m))
  unfolding form_of
  complete old m fit a =
      let o = opening old m.clip a fit.clip bs ss ts es hs in
      let p = o.opens in
      let s = each site_bytes m.sites in
      let t = each triangle_bytes m.triangles in
      let h = each hull_bytes m.hull in
      subst (λ (z : List ℕ). WholeRead m bs ss ts es hs (takes (reading (start old) bs ss ts es hs) z)) (regroup (outline_bytes m.clip) s t h (5 ∷ []))
      (closed old m bs ss ts es hs _ _ _ _ (s ++ t ++ h) o (middle m fit _ ss ts es hs o.to p.ready p.sites p.triangles p.hull) refl refl refl refl)
