-- What the arguments of `why` ask for: nothing, one site's number, or two. Definitions only.
use Rattle.std.specs.Prelude.{Option, Some, None, Bool, true, ◌&&◌, List, [], ◌∷◌, ℕ, eqb, leb, ltb}
use Rattle.base.specs.common.Pick.{pick}
use Rattle.printing.specs.parts.Text.{value}
use Rattle.reasons.specs.declared.Question.{Question}
use Rattle.reasons.specs.declared.Question.TheVariants.{Nothing, About, Between}

-- 48 is the digit 0
abbrev pub is_digit : ℕ → Bool
is_digit c = leb 48 c && leb c 57

abbrev pub all_digits : List ℕ → Bool
all_digits [] = true
all_digits (c ∷ s) = is_digit c && all_digits s

-- decimal digits alone, after some of the value v, with a value below 2^32
unfoldable pub number_from : ℕ → List ℕ → Option ℕ
number_from v s = pick (all_digits s && ltb (value v s) 4294967296) (λ _. Some (value v s)) (λ _. None)

-- at least one digit
abbrev pub site_word : List ℕ → Option ℕ
site_word [] = None
site_word (c ∷ s) = number_from 0 (c ∷ s)

abbrev pub ask_one : Option ℕ → Option Question
ask_one (Some s) = Some (About s)
ask_one None = None

abbrev pub ask_two : Option ℕ → Option ℕ → Option Question
ask_two (Some s) (Some t) = Some (Between s t)
ask_two (Some s) None = None
ask_two None a = None

-- how many words there are, the program's own name among them, and the two after it
unfoldable pub command_of : ℕ → List ℕ → List ℕ → Option Question
command_of count first second =
    pick (ltb count 2) (λ _. Some Nothing)
    (λ _. pick (eqb count 2) (λ _. ask_one (site_word first)) (λ _. pick (eqb count 3) (λ _. ask_two (site_word first) (site_word second)) (λ _. None)))
