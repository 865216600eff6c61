-- `cutting_writer::turn::turn_round`: the part the other way round, between what is before it and what is after.
use Rattle.std.proofs.Common.{List, ℕ, ◌-◌, ◌++◌, ◌∙◌, sym, ap, take, drop}
use borrow.Rule.Slice.PartMut.{Post-is, post_of}
use Rattle.cutting.specs.cuts.Written.{backward}
use Rattle.cutting_writer.specs.turn.laws.Turning.{backward_is}
use Rattle.cutting_writer.proofs.turn.turn_round.Goals as goal

pub returns : goal.returns
returns c =
    let l = c.args.indexes.now in
    let from = c.args.from in
    let to = c.args.to in
    ap (λ (part : List ℕ). take from l ++ (part ++ post_of from (to - from) l)) (c.reverse.ensures.after ∙ sym (backward_is (take (to - from) (drop from l))))
    ∙ ap (λ (after : List ℕ). take from l ++ (backward (take (to - from) (drop from l)) ++ after)) (Post-is from to l c.requires.0)
