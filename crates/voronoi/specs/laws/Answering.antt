-- A query answers 0 exactly where it may: its number is that of the first rule that is broken, and no rule has the number 0.
use Rattle.std.specs.Prelude.{◌≡◌, true, List, [], ◌++◌, ◌↔◌, ℕ, ◌+◌, ◌/◌, ◌%◌, ◌≤◌, ◌<◌, Float, length}
use Rattle.std.proofs.Common.{rules as by_rules}
use Rattle.base.specs.common.Refusals.{Rule, Keep, Finds}
use Rattle.base.specs.common.laws.Refusals.{Answers, finds_one, finds_none, finds_keep}
use Rattle.plane.specs.points.Rules.{ok_site}
use Rattle.plane.specs.declared.points.Point.{Point}
use Rattle.mesh.specs.Accepted.{Mesh, site_count}
use Rattle.mesh.specs.Rules.{call_rules}
use Rattle.mesh.specs.laws.Verdicts.{accepted_keep, keep_accepted}
use Rattle.arguments.specs.asking.Asks.{CellsOf, site_rules, path_rules, cell_rules}
use Rattle.queries.specs.bulk_neighbours.Promise.{RoomFor, CellsLent, lent_rules}
use Rattle.queries.specs.bulk_ends.Promise.{ends_room, PointsKept, all_rules}
use Rattle.queries.specs.bulk_ends.laws.Answers.{room_table, room_ends, room_both}
use Rattle.voronoi.specs.Meshes.{Check}
use Rattle.queries.specs.Answers.{Number}
use Rattle.voronoi.specs.Leaves.{QueryAllowed}

exactly : {rules : List (Rule ℕ)} {r : ℕ} (P : Type 0) → Answers (λ b. b ≡ 0 → ⊥) rules → (Keep rules → P) → (P → Keep rules) → Finds rules 0 r → (r ≡ 0) ↔ P
exactly P t f g x = (λ z. f (finds_keep (λ b. b ≡ 0) t z x), λ p. finds_one x (finds_none (g p)))

module _ (m : Mesh) (w : List ℕ) {r : ℕ} where
  pub site_answers : (s : ℕ) → Number m w (site_rules (site_count m.sites) s) [] r → (r ≡ 0) ↔ QueryAllowed m w (s < site_count m.sites)
  site_answers s =
      exactly _ (search by_rules)
      (λ k. record { mesh = keep_accepted m (site_count m.sites ≤ length w) (k.0, (k.1.0, k.1.1.1)); room = k.1.0; arguments = k.1.1.0 })
      (λ p. let k = accepted_keep m (site_count m.sites ≤ length w) p.mesh p.room in (k.0, (k.1.0, (p.arguments, k.1.1))))

  pub path_answers : (s : ℕ) (p : Point) → Number m w (path_rules (site_count m.sites) s p) [] r
      → (r ≡ 0) ↔ QueryAllowed m w ((s < site_count m.sites) × (ok_site p ≡ true))
  path_answers s p =
      exactly _ (search by_rules)
      (λ k. record { mesh = keep_accepted m (site_count m.sites ≤ length w) (k.0, (k.1.0, k.1.1.1.1)); room = k.1.0; arguments = (k.1.1.0, k.1.1.1.0) })
      (λ x. let k = accepted_keep m (site_count m.sites ≤ length w) x.mesh x.room in (k.0, (k.1.0, (x.arguments.0, (x.arguments.1, k.1.1)))))

  pub edge_answers : Number m w [] [] r → (r ≡ 0) ↔ QueryAllowed m w (Unit {0})
  edge_answers =
      exactly _ (search by_rules)
      (λ k. record { mesh = keep_accepted m (site_count m.sites ≤ length w) k; room = k.1.0; arguments = tt })
      (λ p. accepted_keep m (site_count m.sites ≤ length w) p.mesh p.room)

  pub cells_answers : (off ix : List ℕ) (s : ℕ) → Number m w (site_rules (site_count m.sites) s) (cell_rules off ix (site_count m.sites)) r
      → (r ≡ 0) ↔ QueryAllowed m w ((s < site_count m.sites) × CellsOf off ix (site_count m.sites))
  cells_answers off ix s =
      exactly _ (search by_rules)
      (λ k. let u = k.1.1.1 in let t = u.1 in
      let sound = keep_accepted m (site_count m.sites ≤ length w) (k.0, (k.1.0, (u.0, (t.0, (t.1.0, (t.1.1.0, (t.1.1.1.0, (t.1.1.1.1.0, tt)))))))) in
      record { mesh = sound; room = k.1.0; arguments = (k.1.1.0, t.1.1.1.1.1.0) })
      (λ p. let k = accepted_keep m (site_count m.sites ≤ length w) p.mesh p.room in let u = k.1.1 in let t = u.1 in
      (k.0, (k.1.0, (p.arguments.0, (u.0, (t.0, (t.1.0, (t.1.1.0, (t.1.1.1.0, (t.1.1.1.1.0, (p.arguments.1, tt)))))))))))

  -- the neighbours of all sites: room for the starts and the lists, and 16 on cells that are lent
  pub all_answers : (off ix st o : List ℕ) → Finds (call_rules m (RoomFor m (length w) (length st) (length o)) [] ++ lent_rules off ix (site_count m.sites)) 0 r
      → (r ≡ 0) ↔ QueryAllowed m w ((site_count m.sites < length st) × (length m.triangles + length m.hull ≤ length o) × CellsLent off ix (site_count m.sites))
  all_answers off ix st o =
      let room = RoomFor m (length w) (length st) (length o) in
      exactly _ (search by_rules)
      (λ k. let u = k.1.1 in let t = u.1 in
      let sound = keep_accepted m room (k.0, (k.1.0, (u.0, (t.0, (t.1.0, (t.1.1.0, (t.1.1.1.0, (t.1.1.1.1.0, tt)))))))) in
      record { mesh = sound; room = k.1.0.table; arguments = (k.1.0.cuts, k.1.0.lists, t.1.1.1.1.1.0) })
      (λ p. let fits : room = record { table = p.room; cuts = p.arguments.0; lists = p.arguments.1 } in
      let k = accepted_keep m room p.mesh fits in let u = k.1.1 in let t = u.1 in
      (k.0, (k.1.0, (u.0, (t.0, (t.1.0, (t.1.1.0, (t.1.1.1.0, (t.1.1.1.1.0, (p.arguments.2, tt))))))))))

  -- the ends of paths: an even list of points, room for their ends, 4, and 5 on every point
  pub ends_answers : (s : ℕ) (points : List Float) (o : List ℕ) → Finds (all_rules m s points (length w) (length o)) 0 r
      → (r ≡ 0) ↔ QueryAllowed m w ((length points % 2 ≡ 0) × (length points / 2 ≤ length o) × (s < site_count m.sites) × PointsKept points)
  ends_answers s points o =
      let n = site_count m.sites in
      let room = ends_room n (length points / 2) (length w) (length o) ≡ true in
      exactly _ (search by_rules)
      (λ k. let c = k.1 in record {
        mesh = keep_accepted m room (c.0, (c.1.0, c.1.1.1.1));
        room = room_table n (length points / 2) (length w) (length o) c.1.0;
        arguments = (k.0, room_ends n (length points / 2) (length w) (length o) c.1.0, c.1.1.0, c.1.1.1.0);
      })
      (λ x. let a = x.arguments in
      let c = accepted_keep m room x.mesh (room_both n (length points / 2) (length w) (length o) x.room a.1) in
      (a.0, (c.0, (c.1.0, (a.2, (a.3, c.1.1))))))

  pub check_answers : {w' : List ℕ} → Check m w w' r → (r ≡ 0) ↔ QueryAllowed m w (Unit {0})
  check_answers c = edge_answers c.number
