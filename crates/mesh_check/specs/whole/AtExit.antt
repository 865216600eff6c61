-- What a lent slice holds at exit, by the number r that the call answers: after 0 what was made; after 1 to 6 what it held; from 7 on `blank` throughout.
use Rattle.std.specs.Prelude.{List, ℕ, eqb, ltb, length, replicate}
use Rattle.base.specs.common.Pick.{pick}
use Rattle.base.specs.numbers.Numbers.{refused_triangle}

abbrev pub when_refused : {A : Type 0} → A → List A → ℕ → List A
when_refused blank old r = pick (ltb r refused_triangle) (λ _. old) (λ _. replicate (length old) blank)

unfoldable pub at_exit : {A : Type 0} → A → List A → List A → ℕ → List A
at_exit blank made old r = pick (eqb r 0) (λ _. made) (λ _. when_refused blank old r)
