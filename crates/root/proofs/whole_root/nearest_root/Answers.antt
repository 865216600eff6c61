-- `root::whole_root::nearest_root` meets its contract: each turn makes the next page, and after 53 the schoolbook's identity holds on it.
use Rattle.std.proofs.Common.{ℕ, ◌+◌, ◌^◌, ◌≤◌, ◌≡◌, refl, sym, ap, ◌∙◌, subst, add-one, arith}
use Rattle.root.specs.declared.whole_root.Page.{Page}
use Rattle.root.specs.whole_root.Turn.{next_page, after, Schoolbook}
use Rattle.root.specs.whole_root.Schoolbook.{schoolbook}
use Rattle.root.specs.whole_root.Widths.{last_widths}
use Rattle.root.specs.whole_root.laws.Turns.{narrow, stays, goes_up_lem}
use Rattle.root.proofs.whole_root.nearest_root.Goals as goal

stands : {m i : ℕ} {page : Page} → m + 2 ≤ 2 ^ 54 → page ≡ after m i → Schoolbook m i page
stands {m} {i} h e = subst (Schoolbook m i) (sym e) (schoolbook m i (omega arith))

ended : {m i : ℕ} {page : Page} → m + 2 ≤ 2 ^ 54 → page ≡ after m i → i ≡ 53 → Schoolbook m 53 page
ended {m} {i} {page} h v e = subst (λ (k : ℕ). Schoolbook m k page) e (stands h v)

pub loop-init : goal.loop-init
unfolding after
loop-init c = refl

pub turn-page-requires : goal.turn-page-requires
turn-page-requires c = narrow (stands c.requires.m_bound c.loop.invariant) c.loop-test.true

pub loop-preserved : goal.loop-preserved
unfolding after
loop-preserved c = rw (add-one c.loop.counter) (c.turn-page.ensures ∙ ap next_page c.loop.invariant)

pub overflow_add-result : goal.overflow_add-result
overflow_add-result c = omega (arith, (last_widths (ended c.requires.m_bound c.loop.invariant (omega arith))).rounded_up)

pub returns-then-page : goal.returns-then-page
returns-then-page c = goes_up_lem (ended c.requires.m_bound c.loop.invariant (omega arith)) c.if-page.true

pub returns : goal.returns
returns c = stays (ended c.requires.m_bound c.loop.invariant (omega arith)) c.requires.bound c.if-page.false
