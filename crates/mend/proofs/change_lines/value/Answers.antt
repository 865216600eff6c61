-- `mend::change_lines::value` meets its contract: by cases on the value.
use mathlib.Core.Path.{sym, subst}
use Rattle.octets.specs.Wrote.{HasRoom}
use Rattle.octets.specs.laws.Wrote.{wrote_as}
use Rattle.mend.specs.change_lines.laws.ChangeLines.{is_none_lem, is_some}
use Rattle.mend.proofs.change_lines.value.Goals as goal

pub put-requires : goal.put-requires
put-requires c =
    let a = c.args in
    subst (HasRoom a.out.now a.at) (is_none_lem a.v c.if-v-eq-EMPTY.true) c.requires

pub returns-then-v-eq-EMPTY : goal.returns-then-v-eq-EMPTY
returns-then-v-eq-EMPTY c =
    let a = c.args in
    wrote_as c.put.ensures (sym (is_none_lem a.v c.if-v-eq-EMPTY.true))

pub entry-requires : goal.entry-requires
entry-requires c =
    let a = c.args in
    subst (HasRoom a.out.now a.at) (is_some a.v c.if-v-eq-EMPTY.false) c.requires

pub returns : goal.returns
returns c =
    let a = c.args in
    wrote_as c.entry.ensures (sym (is_some a.v c.if-v-eq-EMPTY.false))
