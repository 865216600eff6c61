-- `mend::of_form`: the first records that are put in and kept lie within their bytes, and their lengths are the definition's.
use mathlib.Core.Path.{sym, subst}
use native.Mathlib.Omega.{arith}
use Prim.Native.Nat.{ℕ}
use lib.ListN.{take}
use lib.Seq.{length-take-le}
use Rattle.mend.specs.boxes.Option.{IsOption}
use Rattle.mend.specs.laws.Heads.{put_option, put_bounded, heads_short}
use borrow.Author.Rules.{rules}
use Rattle.mend.proofs.of_form.Statement.{statement}
use Rattle.mend.proofs.of_form.Tie as tie

-- the function's entry
abbrev begin : tie.After-first_length → tie.Start
begin c = c.before.before.before.before.before.before.before.before.before.before

slice_aggregate-of_mesh : tie.Need-slice_bounds-of_mesh-end
slice_aggregate-of_mesh c =
    let w = c in
    let p = w in
    sym (length-take-le _ _ (put_bounded (begin w.before).args.option.now _ _ p.put_length-put.ensures))

of_mesh-requires : tie.Need-of_mesh-requires
of_mesh-requires c κs =
    let w = c in
    let s = begin w.before.before in
    let option = s.args.option.now in
    let p = w in (
      subst (λ (k : ℕ). IsOption (take k option)) (sym p.put_length-put.ensures) (put_option option _ s.requires.0),
      record {
        head = heads_short option s.args.bytes.now _ _ _ _ _ s.requires.0 (omega (arith, s.requires.2.few_sites))
            p.put_length-put.ensures w.kept_from-from.ensures.0 w.first_length.ensures.0;
        few_sites = s.requires.2.few_sites;
        few_triangles = s.requires.2.few_triangles;
        few_on_hull = s.requires.2.few_on_hull;
        room = s.requires.3;
      },
    )

returns : tie.Need-returns
returns c =
    let at-of-mesh = c in
    let w = at-of-mesh in
    let p = w in
    rw (← p.put_length-put.ensures, ← w.kept_from-from.ensures.0, ← w.first_length.ensures.0)
    (at-of-mesh.of_mesh.ensures.0, at-of-mesh.of_mesh.ensures.1)

pub of_form_spec : {M : Type 1} → statement M
of_form_spec =
    tie.close
    (tie.spec (λ c κs. search rules) (λ c κs. search rules) (λ c κs. search rules) (λ c. search rules) (λ c. search rules) slice_aggregate-of_mesh
    (λ c. search rules) (λ c. search rules) (λ c. search rules) of_mesh-requires (λ c. search rules) returns)
