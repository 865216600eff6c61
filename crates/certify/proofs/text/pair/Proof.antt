-- `certify::text::pair` meets its contract: the labelled number, then the last.
use mathlib.Core.List.{List, [], ◌∷◌, ◌++◌}
use Prim.Native.Nat.{ℕ}
use Rattle.printing.specs.parts.Labelled.{entries}
use Rattle.octets.specs.laws.Wrote.{fits_left, fits_then, wrote_then}
use Rattle.certify.specs.text.CertifyLine.{last_text, pair_text}
use borrow.Author.Rules.{rules}
use Rattle.certify.proofs.text.pair.Statement.{statement}
use Rattle.certify.proofs.text.pair.Tie as tie

abbrev first : tie.Start → List ℕ
first s = s.args.label.now ++ entries (s.args.m ∷ [])

labelled-requires : tie.Need-labelled-end-requires
unfolding pair_text
labelled-requires c κs = let s = c in fits_left s.args.out.now 0 (first s.before.before.before) (last_text s.args.n) s.requires

last-requires : tie.Need-last-requires
unfolding pair_text
last-requires c κs =
    let at_first = c in
    let s = at_first in
    fits_then (first s.before.before.before.before.before.before.before) (last_text s.args.n) at_first.labelled-end.ensures s.requires

returns : tie.Need-returns
unfolding pair_text
returns c =
    let at_last = c in
    wrote_then at_last.labelled-end.ensures at_last.last.ensures

pub pair_spec : {M : Type 1} → statement M
pair_spec = tie.close (tie.spec labelled-requires last-requires (λ c. search rules) returns)
