-- Four areas, each times a height, in two sums.
use borrow.Author.Rules.{rules}
use Rattle.grid.proofs.lift.Statement.{statement}
use Rattle.grid.proofs.lift.Tie as tie

returns : tie.Need-returns
returns c =
    let at-area3 = c in
    rw (
      c.four-plus.ensures,
      c.four-minus.ensures,
      c.area-t.ensures.0,
      at-area3.area-s.ensures.0,
      at-area3.area-q.ensures.0,
      at-area3.area-p.ensures.0,
    )

pub lift_spec : {M : Type 1} → statement M
lift_spec =
    tie.close
    (tie.spec (λ c κs. search rules) (λ c κs. search rules) (λ c κs. search rules) (λ c κs. search rules) (λ c κs. search rules) (λ c κs. search rules) returns)
