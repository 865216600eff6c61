-- `certifying::tree::site_nearer` meets its contract.
use mathlib.Core.Path.{sym, subst}
use Rattle.auditing.specs.nearer.laws.Pieces.{piece_names}
use Rattle.certifying.specs.tree.Steps.{CornersHeld}
use Rattle.certifying.specs.tree.laws.Search.{piece_is}
use native.Mathlib.Omega.{arith}
use Rattle.certifying.proofs.tree.site_nearer.Statement.{statement}
use Rattle.certifying.proofs.tree.site_nearer.Tie as tie

cell-requires : tie.Need-cell-entries-requires
cell-requires c κs =
    let s = c in
    (s.requires.0.pieces.cut.cut, omega (arith, s.requires.0.pieces.cut.many, s.requires.4))

piece_nearer-requires : tie.Need-piece_nearer-requires
piece_nearer-requires c κs =
    let s = c in (
      record {
        plus = s.requires.0.plus;
        tree = s.requires.1;
        held = s.requires.2;
        named = piece_names s.requires.0.pieces s.args.s s.requires.4 c.cell-entries.ensures;
        corners = subst (CornersHeld s.args.vertices.now) (sym c.cell-entries.ensures) (s.requires.3 s.args.s s.requires.4);
      },
      s.requires.4,
    )

returns : tie.Need-returns
returns c =
    let s = c in
    piece_is s.args.far s.args.sites.now s.args.vertices.now s.args.offsets.now s.args.indexes.now s.args.s c.cell-entries.ensures c.piece_nearer.ensures

pub site_nearer_spec : {M : Type 1} → statement M
site_nearer_spec =
    tie.close (tie.spec cell-requires piece_nearer-requires returns)
