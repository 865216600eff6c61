-- The numbers of each reason.
use borrow.Author.Rules.{rules}
use Rattle.reasons.proofs.tell.Statement.{statement}
use Rattle.reasons.proofs.tell.Tie as tie

returns : tie.Need-returns-in-NoFault
returns c = rw c.in-NoFault.is c.with_place.ensures

returns-2 : tie.Need-returns-in-Number
returns-2 c = rw c.in-Number.is c.with_place-in-Number.ensures

returns-3 : tie.Need-returns-in-AtSite
returns-3 c = rw c.in-AtSite.is c.with_place-in-AtSite.ensures

returns-4 : tie.Need-returns-in-AtTriangle
returns-4 c = rw c.in-AtTriangle.is c.with_place-in-AtTriangle.ensures

returns-5 : tie.Need-returns-in-AtHalfEdge
returns-5 c = rw c.in-AtHalfEdge.is c.with_place-in-AtHalfEdge.ensures

returns-6 : tie.Need-returns-in-AtHullPlace
returns-6 c = rw c.in-AtHullPlace.is c.with_place-in-AtHullPlace.ensures

returns-7 : tie.Need-returns-in-AtEdge
returns-7 c = rw c.in-AtEdge.is

returns-8 : tie.Need-returns-in-Unused
returns-8 c = rw c.in-Unused.is c.with_place-in-Unused.ensures

returns-9 : tie.Need-returns-in-TriesEmpty
returns-9 c = rw c.in-TriesEmpty.is c.with_place-in-TriesEmpty.ensures

returns-10 : tie.Need-returns-in-Dropped
returns-10 c = rw c.in-Dropped.is c.with_place-in-Dropped.ensures

pub tell_spec : {M : Type 1} → statement M
tell_spec =
    tie.close
    (tie.spec (λ c. search rules) (λ c κs. search rules) (λ c. search rules) (λ c κs. search rules) (λ c. search rules)
    (λ c κs. search rules) (λ c. search rules) (λ c κs. search rules) (λ c. search rules) (λ c κs. search rules)
    (λ c. search rules) (λ c κs. search rules) (λ c. search rules) (λ c. search rules) (λ c κs. search rules)
    (λ c. search rules) (λ c κs. search rules) (λ c. search rules) (λ c κs. search rules)
    returns returns-2 returns-3 returns-4 returns-5 returns-6 returns-7 returns-8 returns-9 returns-10)
