-- `test_replay::judge` meets its contract: the number, then every slice, then the four lists where they are stored, to the first that differs.
use mathlib.Core.Path.{ap}
use mathlib.Core.Bool.{not, true, false}
use mathlib.Core.List.{List}
use Prim.Native.Nat.{ℕ}
use borrow.Author.Rules.{rules}
use Rattle.mesh.specs.Accepted.{Mesh, mesh}
use Rattle.admission.specs.Slices.{Slices, slices}
use Rattle.test_replay.specs.laws.Judged.{other_number, build_differs, build_lists, refusal_differs, refusal_early, refusal_lists}
use Rattle.test_replay.proofs.judge.Statement.{statement}
use Rattle.test_replay.proofs.judge.Tie as tie

abbrev Begin : tie.After-word → tie.Start
Begin c = c.before.before.before.before.before.before.before.before.before.before.before

abbrev Lent : tie.After-word → Mesh
Lent c = let a = (Begin c).args in mesh a.sites.now a.triangles.now a.halfedges.now a.hull.now

abbrev Left : tie.After-word → Slices
Left c = let a = (Begin c).args in slices a.work.now a.vertices.now a.indexes.now a.offsets.now a.counts.now

abbrev Bytes : tie.After-word → List ℕ
Bytes c = (Begin c).args.b.now

returns : tie.Need-returns-then-number-word
returns c =
    let w = c in
    other_number (Lent w.before) (Bytes w.before) (Begin w.before).args.k (Begin w.before).args.number (Left w.before) w.word.result w.word.ensures c.if-number-word.true

returns-2 : tie.Need-returns-then-not-accepted
returns-2 c =
    let a = c in
    let f = a in
    let z = f in
    let e = z in
    let w = e in
    build_differs (Lent w.before.before.before.before.before) (Bytes w.before.before.before.before.before) (Begin w.before.before.before.before.before).args.k (Begin w.before.before.before.before.before).args.number (Left w.before.before.before.before.before) w.word.result w.word.ensures e.if-number-word.false
    f.after-from.result f.after-from.ensures z.if-number-eq0.true a.accepted.result a.accepted.ensures (ap not c.if-not-accepted.true)

returns-3 : tie.Need-returns-then-lists
returns-3 c =
    let l = c in
    let q = l in
    let n = q in
    let o = n in
    let a = o in
    let f = a in
    let z = f in
    let e = z in
    let w = e in
    build_lists (Lent w.before.before.before.before.before.before.before.before.before.before.before.before) (Bytes w.before.before.before.before.before.before.before.before.before.before.before.before) (Begin w.before.before.before.before.before.before.before.before.before.before.before.before).args.k (Begin w.before.before.before.before.before.before.before.before.before.before.before.before).args.number (Left w.before.before.before.before.before.before.before.before.before.before.before.before) w.word.result w.word.ensures e.if-number-word.false
    f.after-from.result f.after-from.ensures z.if-number-eq0.true a.accepted.result a.accepted.ensures n.end.result q.after_list-q.result
    l.lists.result true (ap not o.if-not-accepted.false) n.end.ensures q.after_list-q.ensures l.lists.ensures c.if-lists.true

returns-4 : tie.Need-returns-then-number-eq0
returns-4 c =
    let l = c in
    let q = l in
    let n = q in
    let o = n in
    let a = o in
    let f = a in
    let z = f in
    let e = z in
    let w = e in
    build_lists (Lent w.before.before.before.before.before.before.before.before.before.before.before.before) (Bytes w.before.before.before.before.before.before.before.before.before.before.before.before) (Begin w.before.before.before.before.before.before.before.before.before.before.before.before).args.k (Begin w.before.before.before.before.before.before.before.before.before.before.before.before).args.number (Left w.before.before.before.before.before.before.before.before.before.before.before.before) w.word.result w.word.ensures e.if-number-word.false
    f.after-from.result f.after-from.ensures z.if-number-eq0.true a.accepted.result a.accepted.ensures n.end.result q.after_list-q.result
    l.lists.result false (ap not o.if-not-accepted.false) n.end.ensures q.after_list-q.ensures l.lists.ensures c.if-lists.false

returns-5 : tie.Need-returns-then-not-refused
returns-5 c =
    let a = c in
    let z = a in
    let e = z in
    let w = e in
    refusal_differs (Lent w.before.before.before.before) (Bytes w.before.before.before.before) (Begin w.before.before.before.before).args.k (Begin w.before.before.before.before).args.number (Left w.before.before.before.before) w.word.result w.word.ensures e.if-number-word.false
    z.if-number-eq0.false a.refused.result a.refused.ensures (ap not c.if-not-refused.true)

returns-6 : tie.Need-returns-then-number-le-REFUSED_FAN
returns-6 c =
    let o = c in
    let a = o in
    let z = a in
    let e = z in
    let w = e in
    refusal_early (Lent w.before.before.before.before.before) (Bytes w.before.before.before.before.before) (Begin w.before.before.before.before.before).args.k (Begin w.before.before.before.before.before).args.number (Left w.before.before.before.before.before) w.word.result w.word.ensures e.if-number-word.false
    z.if-number-eq0.false a.refused.result a.refused.ensures (ap not o.if-not-refused.false) c.if-number-le-REFUSED_FAN.true

returns-7 : tie.Need-returns-then-lists-2
returns-7 c =
    let l = c in
    let f = l in
    let g = f in
    let o = g in
    let a = o in
    let z = a in
    let e = z in
    let w = e in
    refusal_lists (Lent w.before.before.before.before.before.before.before.before.before.before.before) (Bytes w.before.before.before.before.before.before.before.before.before.before.before) (Begin w.before.before.before.before.before.before.before.before.before.before.before).args.k (Begin w.before.before.before.before.before.before.before.before.before.before.before).args.number (Left w.before.before.before.before.before.before.before.before.before.before.before) w.word.result w.word.ensures e.if-number-word.false
    z.if-number-eq0.false a.refused.result a.refused.ensures f.after.result l.lists-2.result true (ap not o.if-not-refused.false) g.if-number-le-REFUSED_FAN.false
    f.after.ensures l.lists-2.ensures c.if-lists-2.true

returns-8 : tie.Need-returns
returns-8 c =
    let l = c in
    let f = l in
    let g = f in
    let o = g in
    let a = o in
    let z = a in
    let e = z in
    let w = e in
    refusal_lists (Lent w.before.before.before.before.before.before.before.before.before.before.before) (Bytes w.before.before.before.before.before.before.before.before.before.before.before) (Begin w.before.before.before.before.before.before.before.before.before.before.before).args.k (Begin w.before.before.before.before.before.before.before.before.before.before.before).args.number (Left w.before.before.before.before.before.before.before.before.before.before.before) w.word.result w.word.ensures e.if-number-word.false
    z.if-number-eq0.false a.refused.result a.refused.ensures f.after.result l.lists-2.result false (ap not o.if-not-refused.false) g.if-number-le-REFUSED_FAN.false
    f.after.ensures l.lists-2.ensures c.if-lists-2.false

pub judge_spec : {M : Type 1} → statement M
judge_spec =
    tie.close
    (tie.spec (λ c κs. search rules) returns (λ c κs. search rules) (λ c κs. search rules) (λ c. search rules) returns-2
    (λ c κs. search rules) (λ c κs. search rules) (λ c κs. search rules) (λ c. search rules) returns-3 (λ c. search rules)
    returns-4 (λ c κs. search rules) (λ c. search rules) returns-5 (λ c. search rules) returns-6 (λ c κs. search rules)
    (λ c κs. search rules) (λ c. search rules) returns-7 (λ c. search rules) returns-8)
