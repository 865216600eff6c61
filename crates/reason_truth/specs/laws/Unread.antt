-- A list of rules whose answers are read by their numbers keeps what the list itself keeps.
use Rattle.std.specs.Prelude.{List, [], ◌∷◌}
use Rattle.base.specs.common.Refusals.{Rule, once, each, Keep, reads}

pub keep_unread : {A B : Type 0} (g : A → B) (rs : List (Rule A)) → Keep (reads g rs) → Keep rs
keep_unread g [] k = tt
keep_unread g (once a P ∷ rs) k = (k.0, keep_unread g rs k.1)
keep_unread g (each f n P ∷ rs) k = (k.0, keep_unread g rs k.1)
