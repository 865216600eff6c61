-- `certifying::windows::is_window` meets its contract.
use mathlib.Core.Path.{sym}
use Rattle.ring_area.specs.lowest.laws.Loops.{no_both}
use borrow.Author.Rules.{rules}
use Rattle.certifying.proofs.windows.is_window.Statement.{statement}
use Rattle.certifying.proofs.windows.is_window.Tie as tie

all_kept-requires : tie.Need-all_kept-requires
all_kept-requires c κs = c.requires

returns : tie.Need-returns-then-has_edges
returns c = λ e. record { edges = c.has_edges.ensures c.if-has_edges.true; each = c.all_kept.ensures e }

returns-2 : tie.Need-returns
returns-2 c = λ e. absurd (no_both (sym e))

pub is_window_spec : {M : Type 1} → statement M
is_window_spec =
    tie.close (tie.spec (λ c κs. search rules) all_kept-requires returns returns-2)
