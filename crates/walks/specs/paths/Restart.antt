-- Theorem: a path that was cut may be asked for again from the last site got. The two lists joined, without the repeated site, are the undivided path where the
-- second runs to its end, and else its beginning. It rests on one law alone: the path from a site on a path is the rest of that path.
use Rattle.std.specs.Prelude.{◌≡◌, true, List, ◌∷◌, ◌++◌, ℕ, zero, suc, ◌+◌, ◌-◌, ◌≤◌, ◌<◌, length, get_or, take, drop}
use Rattle.std.proofs.Common.{sym, ap, ◌∙◌, append-nil, arith, length-drop, take_all, take-add}
use Rattle.std.proofs.Math.Seq.{split_at}
use Rattle.plane.specs.points.Rules.{ok_site}
use Rattle.plane.specs.declared.points.Point.{Point}
use Rattle.mesh.specs.Mesh.{Used}
use Rattle.mesh.specs.Accepted.{Mesh, table_of, Accepted, site_count}
use Rattle.mesh.specs.laws.Facts.{topology, entry_site}
use Rattle.mesh.specs.laws.Occurs.{occ_there}
use Rattle.walks.specs.paths.Path.{whole_path}
use Rattle.walks.specs.paths.PathTheorem.{path_holds}
use Rattle.walks.specs.paths.laws.Parts.{rule_some}
use Rattle.walks.specs.paths.laws.PathNeeds.{ready, towards}
use Rattle.walks.specs.paths.laws.WholePath.{whole_below}

-- two lists, joined without the repeated site
abbrev pub rejoined : List ℕ → List ℕ → List ℕ
rejoined a b = a ++ drop 1 b

-- of any list: its beginning, and a beginning of the rest that starts with the last entry got
join : (l : List ℕ) (v k j : ℕ) → rejoined (take k l) (take j (v ∷ drop k l)) ≡ take (k + (j - 1)) l
join l v k zero =
    let e : k ≡ k + (0 - 1) = omega arith in
    append-nil (take k l) ∙ ap (λ (i : ℕ). take i l) e
join l v k (suc j) =
    let e : k + (suc j - 1) ≡ k + j = omega arith in
    sym (take-add k j l) ∙ ap (λ (i : ℕ). take i l) (sym e)

module _ {m : Mesh} (a : Accepted m) (p : Point) (to : ok_site p ≡ true) (s : ℕ) (used : Used m.triangles s) where
  abbrev whole : ℕ → List ℕ
  whole v = whole_path m.sites m.triangles m.halfedges (table_of m) p v

  -- it has a site, and each of its entries is one
  pub path_some : 0 < length (whole s)
  path_some = rule_some (path_holds a p to s used).rule

  pub path_site : (i : ℕ) → i < length (whole s) → get_or (whole s) i 0 < site_count m.sites
  path_site i l =
      let s_below : s < site_count m.sites = rw used.2 at (entry_site (topology a) used.0 used.1) in
      whole_below m.sites m.triangles m.halfedges (table_of m) p (site_count m.sites) (ready (topology a)) (towards m.sites p a.coordinates to) s (get_or (whole s) i 0)
      s_below (occ_there (whole s) i l)

  -- from the k-th site on: the path from there is the rest
  pub path_again : (k : ℕ) → 0 < k → k ≤ length (whole s) → whole (get_or (whole s) (k - 1) 0) ≡ get_or (whole s) (k - 1) 0 ∷ drop k (whole s)
  path_again k some l =
      let q : suc (k - 1) ≡ k = omega arith in
      (path_holds a p to s used).rest (take (k - 1) (whole s)) (drop k (whole s)) (get_or (whole s) (k - 1) 0)
      (split_at (whole s) (k - 1) 0 (omega arith) ∙ ap (λ (i : ℕ). take (k - 1) (whole s) ++ (get_or (whole s) (k - 1) 0 ∷ drop i (whole s))) q)

  -- k entries got, 1 or more; then up to j from the last of them
  pub restart : (k j : ℕ) → 0 < k → k ≤ length (whole s) → rejoined (take k (whole s)) (take j (whole (get_or (whole s) (k - 1) 0))) ≡ take (k + (j - 1)) (whole s)
  restart k j some l = ap (λ (r : List ℕ). rejoined (take k (whole s)) (take j r)) (path_again k some l) ∙ join (whole s) (get_or (whole s) (k - 1) 0) k j

  -- where the second ended, that is the undivided path
  pub restart_whole : (k j : ℕ) → 0 < k → k ≤ length (whole s) → length (whole (get_or (whole s) (k - 1) 0)) ≤ j
      → rejoined (take k (whole s)) (take j (whole (get_or (whole s) (k - 1) 0))) ≡ whole s
  restart_whole k j some l ended =
      restart k j some l ∙ take_all (k + (j - 1)) (whole s) (omega (arith, ap length (path_again k some l), length-drop k (whole s)))
