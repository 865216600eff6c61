-- The buckets that were passed are empty.
use Rattle.std.proofs.Common.{◌/◌, length}
use Rattle.certifying.specs.twins.laws.Inserting.{EmptyTo}
use Rattle.certifying.proofs.twins.empty.Given as goal

abbrev pub invariant-loop-m : goal.invariant-loop-m
invariant-loop-m l = EmptyTo (length l.sites / 2) l.m l.fn.work l.work
