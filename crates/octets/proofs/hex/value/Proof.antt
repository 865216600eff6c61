-- `octets::hex::value` meets its contract: by cases on the character.
use borrow.Author.Tests.{lt-ltb, le-ltb}
use borrow.Author.Rules.{rules}
use Rattle.octets.specs.hex.Hex.{digit_value}
use Rattle.octets.proofs.hex.value.Statement.{statement}
use Rattle.octets.proofs.hex.value.Tie as tie

returns : tie.Need-returns-then-d-lt48
unfolding digit_value
returns c = rw (lt-ltb c.args.d 48 c.if-d-lt48.true)

returns-2 : tie.Need-returns-then-d-lt58
unfolding digit_value
returns-2 c = let d = c.args.d in rw (le-ltb d 48 c.if-d-lt48.false, lt-ltb d 58 c.if-d-lt58.true)

returns-3 : tie.Need-returns-then-d-lt97
unfolding digit_value
returns-3 c =
    let d = c.args.d in
    rw (le-ltb d 48 c.if-d-lt48.false, le-ltb d 58 c.if-d-lt58.false, lt-ltb d 97 c.if-d-lt97.true)

returns-4 : tie.Need-returns-then-d-lt103
unfolding digit_value
returns-4 c =
    let d = c.args.d in
    rw (le-ltb d 48 c.if-d-lt48.false, le-ltb d 58 c.if-d-lt58.false, le-ltb d 97 c.if-d-lt97.false, lt-ltb d 103 c.if-d-lt103.true)

returns-5 : tie.Need-returns
unfolding digit_value
returns-5 c =
    let d = c.args.d in
    rw (le-ltb d 48 c.if-d-lt48.false, le-ltb d 58 c.if-d-lt58.false, le-ltb d 97 c.if-d-lt97.false, le-ltb d 103 c.if-d-lt103.false)

pub value_spec : {M : Type 1} → statement M
value_spec = tie.close (tie.spec returns returns-2 returns-3 (λ c. search rules) returns-4 returns-5)
