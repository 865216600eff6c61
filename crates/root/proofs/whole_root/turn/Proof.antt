-- `root::whole_root::turn` meets its contract: a pair brought down, then the digit settled.
use mathlib.Core.Path.{sym, subst, ap, ◌∙◌}
use Prim.Native.Nat.{◌^◌, ◌<◌}
use borrow.Author.Rules.{rules}
use Rattle.root.specs.declared.whole_root.Page.{Page}
use Rattle.root.specs.whole_root.Turn.{settled}
use Rattle.root.specs.whole_root.Widths.{widths}
use Rattle.root.proofs.whole_root.turn.Statement.{statement}
use Rattle.root.proofs.whole_root.turn.Tie as tie

settle-requires : tie.Need-settle-requires
settle-requires c κs = subst (λ (q : Page). q.root < 2 ^ 53) (sym c.bring_down.ensures) (widths c.before.requires).root_moved

returns : tie.Need-returns
returns c = c.settle.ensures ∙ ap settled c.before.bring_down.ensures

pub turn_spec : {M : Type 1} → statement M
turn_spec = tie.close (tie.spec (λ c κs. search rules) settle-requires returns)
