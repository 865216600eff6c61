-- `Pouring`, which each entry carries one further.
use Rattle.wkb.specs.multipoint.Promise.{entry_of}
use Rattle.wkb.specs.multipoint.laws.Firsts.{Pouring}
use Rattle.wkb.proofs.multipoint.put_sites.Given as goal

abbrev pub invariant-loop-k : goal.invariant-loop-k
invariant-loop-k l = Pouring (entry_of l.file) l.fn.sites l.sites l.k
