-- Rows: what arguments ask for. By computation.
use Rattle.std.specs.Prelude.{◌≡◌, refl, Some, None}
use Rattle.base.specs.numbers.Numbers.{EMPTY}
use Rattle.printing.specs.parts.Text.{ascii}
use Rattle.reasons.specs.declared.Question.TheVariants.{Nothing, About, Between}
use Rattle.why.specs.site_words.Words.{number_from, command_of}

pub commands :
    (command_of 1 (ascii "") (ascii "") ≡ Some Nothing)
    × (command_of 2 (ascii "4") (ascii "") ≡ Some (About 4))
    × (command_of 2 (ascii "0010") (ascii "") ≡ Some (About 10))
    × (command_of 2 (ascii "4294967295") (ascii "") ≡ Some (About EMPTY))
    × (command_of 2 (ascii "4294967296") (ascii "") ≡ None)
    × (command_of 2 (ascii "") (ascii "") ≡ None)
    × (command_of 2 (ascii "-1") (ascii "") ≡ None)
    × (command_of 2 (ascii "1x") (ascii "") ≡ None)
    × (command_of 3 (ascii "2") (ascii "0") ≡ Some (Between 2 0))
    × (command_of 3 (ascii "2") (ascii "") ≡ None)
    × (command_of 4 (ascii "2") (ascii "0") ≡ None)
unfolding number_from command_of
commands = (refl, refl, refl, refl, refl, refl, refl, refl, refl, refl, refl)
