-- `certifying::tree::piece_nearer` meets its contract.
use mathlib.Core.Path.{sym, subst}
use Rattle.ring_area.specs.lowest.laws.Loops.{named_twice}
use Rattle.audit_truth.specs.Held.{HeldPoint}
use Rattle.certifying.specs.tree.laws.Search.{empty_none}
use Rattle.certifying.proofs.tree.piece_nearer.Statement.{statement}
use Rattle.certifying.proofs.tree.piece_nearer.Tie as tie

abbrev Start : tie.Else-entries-eq0 → tie.Start
Start c = c.before.before.before.before.before

returns : tie.Need-returns-then-entries-eq0
returns c =
    let s = c in
    empty_none s.args.far s.args.sites.now s.args.s s.args.vertices.now s.args.entries.now c.if-entries-eq0.true

point_at-requires : tie.Need-point_at-site-requires
point_at-requires c κs = named_twice _ _ (Start c).requires.1

window_of-requires : tie.Need-window_of-w-requires
window_of-requires c κs = (Start c.before).requires.0.named

is_window-requires : tie.Need-is_window-requires
is_window-requires c κs = (Start c.before.before).requires.0.named

ring_nearer-requires : tie.Need-ring_nearer-requires
ring_nearer-requires c κs =
    let at-point-at = c in
    let s = Start at-point-at.before.before.before.before in (
      record {
        plus = s.requires.0.plus;
        tree = s.requires.0.tree;
        held = s.requires.0.held;
        own = subst HeldPoint (sym at-point-at.point_at-site.ensures) (s.requires.0.held.each s.args.s s.requires.1);
        keeps = c.is_window.ensures c.if-is_window.true;
        named = s.requires.0.named;
        corners = s.requires.0.corners;
      },
      at-point-at.point_at-site.ensures,
    )

returns-2 : tie.Need-returns-then-is_window
returns-2 c = c.ring_nearer.ensures

all_nearer-requires : tie.Need-all_nearer-requires
all_nearer-requires c κs =
    let s = Start c.before.before.before.before in
    (s.requires.1, s.requires.0.named)

returns-3 : tie.Need-returns
returns-3 c = c.all_nearer.ensures

pub piece_nearer_spec : {M : Type 1} → statement M
piece_nearer_spec =
    tie.close (tie.spec returns point_at-requires window_of-requires is_window-requires ring_nearer-requires returns-2 all_nearer-requires returns-3)
