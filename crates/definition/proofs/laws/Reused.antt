-- Reused points of two lists of steps, one after the other; that there are no more of them than steps, and with the new points as many.
use Rattle.std.specs.Prelude.{◌≡◌, refl, Bool, true, false, List, [], ◌∷◌, ◌++◌, ℕ, ◌+◌, ◌^◌, ◌≤◌, length}
use Rattle.std.proofs.Common.{add-zero, arith, length-append}
use Rattle.definition.specs.Cell.{StepKind, extension, firstCrossing, secondCrossing, Taken}
use Rattle.definition.specs.declared.Reused.{Reused}
use Rattle.definition.specs.Reused.{is_kind, if_old, reused_of, reused, reused_in, together, Addable, CountsReused}
use Rattle.definition.specs.Measures.{count_if, new_points}

pub reused_append : (k : StepKind) (ts us : List Taken) → reused_of k (ts ++ us) ≡ reused_of k ts + reused_of k us
reused_append k [] us = omega arith
reused_append k (t ∷ ts) us = omega (arith, reused_append k ts us)

pub reused_join : (ts us : List Taken) → reused_in (ts ++ us) ≡ together (reused_in ts) (reused_in us)
reused_join ts us = rw (reused_append extension ts us, reused_append firstCrossing ts us, reused_append secondCrossing ts us) refl

kind_le : (k j : StepKind) → is_kind k j ≤ 1
kind_le extension extension = omega arith
kind_le extension firstCrossing = omega arith
kind_le extension secondCrossing = omega arith
kind_le firstCrossing extension = omega arith
kind_le firstCrossing firstCrossing = omega arith
kind_le firstCrossing secondCrossing = omega arith
kind_le secondCrossing extension = omega arith
kind_le secondCrossing firstCrossing = omega arith
kind_le secondCrossing secondCrossing = omega arith

old_le : (b : Bool) (n : ℕ) → if_old b n ≤ n
old_le true n = omega arith
old_le false n = omega arith

pub reused_le : (k : StepKind) (ts : List Taken) → reused_of k ts ≤ length ts
reused_le k [] = omega arith
reused_le k (t ∷ ts) = omega (arith, old_le t.fresh (is_kind k t.kind), kind_le k t.kind, reused_le k ts)

pub together_none : (a : Reused) → together a (reused 0 0 0) ≡ a
together_none a = rw (add-zero a.extensions, add-zero a.firsts, add-zero a.seconds) refl

-- ---- the numbers that the code has

pub counts_none : CountsReused 0 [] (reused 0 0 0)
counts_none = record { is = refl; few = omega arith }

pub counts_then : {m n : ℕ} {ts us : List Taken} {a b : Reused} → CountsReused m ts a → CountsReused n us b → CountsReused (m + n) (ts ++ us) (together a b)
counts_then {m} {n} {ts} {us} {a} {b} h g = record { is = rw (h.is, g.is, reused_join ts us) refl; few = omega (arith, length-append ts us, h.few, g.few) }

-- each of them is at most as many as there are steps
pub counts_small : {m : ℕ} {ts : List Taken} {a : Reused} → CountsReused m ts a → m ≤ 2 ^ 33 → Addable a
counts_small {m} {ts} {a} h l =
    rw h.is (omega (arith, h.few, reused_le extension ts), omega (arith, h.few, reused_le firstCrossing ts), omega (arith, h.few, reused_le secondCrossing ts))

-- ---- added and reused points are all the steps

one_kind : (k : StepKind) → is_kind extension k + is_kind firstCrossing k + is_kind secondCrossing k ≡ 1
one_kind extension = refl
one_kind firstCrossing = refl
one_kind secondCrossing = refl

each_step : (b : Bool) (k : StepKind) → count_if b + (if_old b (is_kind extension k) + if_old b (is_kind firstCrossing k) + if_old b (is_kind secondCrossing k)) ≡ 1
each_step true k = omega arith
each_step false k = omega (arith, one_kind k)

pub taken_list : (ts : List Taken) → new_points ts + (reused_of extension ts + reused_of firstCrossing ts + reused_of secondCrossing ts) ≡ length ts
taken_list [] = refl
taken_list (t ∷ ts) = omega (arith, each_step t.fresh t.kind, taken_list ts)
