-- In a box: refused with its reason, or what was asked is answered over the slices.
use mathlib.Core.Path.{sym, ap, ◌∙◌}
use lib.Seq.{length-take-le}
use native.Mathlib.Omega.{arith}
use borrow.Author.Rules.{rules}
use Rattle.mesh.specs.Accepted.{site_count}
use Rattle.build_laws.specs.laws.CellCount.{cell_count}
use Rattle.build_laws.specs.LateRefusals.{build_late}
use Rattle.reasons.specs.declared.ReasonNumbers.{ReasonNumbers}
use Rattle.reasons.specs.explaining.laws.Asked.{own_arguments, asked_keep, question_below}
use Rattle.reasons.specs.explaining.laws.Why.{why_refused, why_settled, settled_work_lem, settled_offsets, settled_asks, settled_below, why_answered}
use Rattle.reasons.proofs.explaining.why.Statement.{statement}
use Rattle.reasons.proofs.explaining.why.Tie as tie

abbrev Built : tie.After-slice_known-10-1 → tie.After-explain_build-r
Built c = c.before.before.before.before.before.before.before.before.before.before

abbrev Ask : tie.After-explain_build-r → tie.After-ask_arguments-asked
Ask c = c.before.before.before.before.before.before

abbrev Begin : tie.After-ask_arguments-asked → tie.Start
Begin c = c.before.before.before.before.before.before.before.before.before.before

abbrev Tell : tie.Else-t-ne0 → tie.After-tell-t
Tell c = c.before.before

explain_build-requires : tie.Need-explain_build-r-requires
explain_build-requires c κs =
    let at = c in
    let start = Begin at.before.before.before.before.before in
    let a = start.args in
    let k = at.ask_arguments-asked.ensures in
    (k.small, λ z. (asked_keep (own_arguments _ (site_count a.sites.now) a.q) k z).0, start.requires)

returns : tie.Need-returns-then-t-ne0
returns c =
    let b = Built c.before.before.before in
    let a = (Begin (Ask b)).args in
    why_refused _ (own_arguments _ (site_count a.sites.now) a.q) (Ask b).ask_arguments-asked.ensures _ _ b.explain_build-r.ensures
    (λ z. c.if-t-ne0.true (ap (λ (t : ReasonNumbers). t.number) c.tell-t.ensures ∙ z))

add-end : tie.Need-overflow_add-end
add-end c =
    let b = Built (Tell c).before in
    let a = (Begin (Ask b)).args in
    let z = sym (ap (λ (t : ReasonNumbers). t.number) (Tell c).tell-t.ensures) ∙ c.if-t-ne0.false in
    let s = why_settled _ (own_arguments _ (site_count a.sites.now) a.q) (Ask b).ask_arguments-asked.ensures (build_late _ _) _ b.explain_build-r.ensures z in
    record { fits = omega (arith, s.mesh.counts.few_sites) }

slice_reshare_prefix-answer : tie.Need-slice_bounds-answer-end
slice_reshare_prefix-answer c =
    let b = Built (Tell c).before in
    let a = (Begin (Ask b)).args in
    let z = sym (ap (λ (t : ReasonNumbers). t.number) (Tell c).tell-t.ensures) ∙ c.if-t-ne0.false in
    let s = why_settled _ (own_arguments _ (site_count a.sites.now) a.q) (Ask b).ask_arguments-asked.ensures (build_late _ _) _ b.explain_build-r.ensures z in
    settled_work_lem s (cell_count _ _)

slice_aggregate-answer : tie.Need-slice_bounds-answer-end-2
slice_aggregate-answer c =
    let b = Built (Tell c).before in
    let a = (Begin (Ask b)).args in
    let z = sym (ap (λ (t : ReasonNumbers). t.number) (Tell c).tell-t.ensures) ∙ c.if-t-ne0.false in
    let s = why_settled _ (own_arguments _ (site_count a.sites.now) a.q) (Ask b).ask_arguments-asked.ensures (build_late _ _) _ b.explain_build-r.ensures z in
    sym (length-take-le _ _ (settled_work_lem s (cell_count _ _)))

slice_reshare_prefix-answer-2 : tie.Need-slice_bounds-answer-end-3
slice_reshare_prefix-answer-2 c =
    let b = Built (Tell c).before in
    let a = (Begin (Ask b)).args in
    let z = sym (ap (λ (t : ReasonNumbers). t.number) (Tell c).tell-t.ensures) ∙ c.if-t-ne0.false in
    let s = why_settled _ (own_arguments _ (site_count a.sites.now) a.q) (Ask b).ask_arguments-asked.ensures (build_late _ _) _ b.explain_build-r.ensures z in
    settled_offsets s (cell_count _ _)

slice_aggregate-answer-2 : tie.Need-slice_bounds-answer-end-4
slice_aggregate-answer-2 c =
    let e = c in
    let b = Built (Tell e).before in
    let a = (Begin (Ask b)).args in
    let z = sym (ap (λ (t : ReasonNumbers). t.number) (Tell e).tell-t.ensures) ∙ e.if-t-ne0.false in
    let s = why_settled _ (own_arguments _ (site_count a.sites.now) a.q) (Ask b).ask_arguments-asked.ensures (build_late _ _) _ b.explain_build-r.ensures z in
    sym (length-take-le _ _ (settled_offsets s (cell_count _ _)))

answer-requires : tie.Need-answer-requires
answer-requires c κs =
    let e = c in
    let b = Built (Tell e).before in
    let a = (Begin (Ask b)).args in
    let z = sym (ap (λ (t : ReasonNumbers). t.number) (Tell e).tell-t.ensures) ∙ e.if-t-ne0.false in
    let s = why_settled _ (own_arguments _ (site_count a.sites.now) a.q) (Ask b).ask_arguments-asked.ensures (build_late _ _) _ b.explain_build-r.ensures z in
    let q = question_below (site_count a.sites.now) a.q s.kept.1 in (settled_asks s (cell_count _ _), settled_below s (cell_count _ _) a.q q)

returns-2 : tie.Need-returns
returns-2 c =
    let e = c in
    let b = Built (Tell e.before).before in
    let a = (Begin (Ask b)).args in
    let z = sym (ap (λ (t : ReasonNumbers). t.number) (Tell e.before).tell-t.ensures) ∙ e.if-t-ne0.false in
    let s = why_settled _ (own_arguments _ (site_count a.sites.now) a.q) (Ask b).ask_arguments-asked.ensures (build_late _ _) _ b.explain_build-r.ensures z in
    why_answered s (cell_count _ _) _ c.answer.ensures

pub why_spec : {M : Type 1} → statement M
why_spec =
    tie.close
    (tie.spec (λ c κs. search rules) explain_build-requires (λ c κs. search rules) (λ c. search rules) (λ c. search rules)
    (λ c. search rules) (λ c. search rules) (λ c. search rules) returns add-end slice_reshare_prefix-answer
    slice_aggregate-answer slice_reshare_prefix-answer-2 slice_aggregate-answer-2 answer-requires (λ c. search rules)
    (λ c. search rules) (λ c. search rules) (λ c. search rules) (λ c. search rules) returns-2)
