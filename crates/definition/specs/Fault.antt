-- Outcomes of the builder's steps: a value, or a refusal. Within one edge that is the refusal's number alone, outside it is a fault: the number and the place.
use Rattle.std.specs.Prelude.{ℕ}
use Rattle.definition.specs.declared.Fault.{Fault}

pub data Outcome (F A : Type 0) : Type 0 where
  ok : A → Outcome F A
  refused : F → Outcome F A

unfoldable pub and_then : {F A B : Type 0} → Outcome F A → (A → Outcome F B) → Outcome F B
and_then (ok a) k = k a
and_then (refused f) k = refused f

-- 11 has the triangle for its place, 12 the hull place whose edge to the next one is extended; 13 and 14 are met in the cell of a site, at the edge from vertex p to vertex q
unfoldable pub at_edge : {A : Type 0} → ℕ → ℕ → ℕ → Outcome ℕ A → Outcome Fault A
at_edge site p q (ok a) = ok a
at_edge site p q (refused n) = refused (record { number = n; place = site; from = p; to = q })
