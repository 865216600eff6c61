-- A staged ring, and what clipping it gives.
use Rattle.std.specs.Prelude.{◌≡◌, List, ℕ, ◌-◌, ◌<◌, Float, length, get_or}
use Rattle.plane.specs.points.Flat.{points}
use Rattle.definition.specs.Cell as Def
use Rattle.definition.specs.declared.Reused.{Reused}
use Rattle.definition.specs.Reused.{together, Addable}
use Rattle.clipping.specs.RingWalk.{Steps, ring_of, empty_at, RingRoom}
use Rattle.clipping.specs.declared.edges.Env.{Env}
use Rattle.clipping.specs.declared.RingStepped.{RingStepped}
use Rattle.cell_builder.specs.declared.tried.Frame.{Frame}
use Rattle.cell_builder.specs.declared.finish.Progress.{Progress}

abbrev pub env_of : Frame → ℕ → Env
env_of f site = record { site = site; bounds = f.bounds; centers = f.centers; limit = f.limit }

-- after a ring, where so many points had been taken again before it
abbrev pub progress_of : Reused → RingStepped → Progress
progress_of u s = record { fault = s.fault; count = s.tip.count; owners = s.tip.cell.owners; reused = together u s.reused }

-- a ring stands from the stage to `end`, and the site's region has room for its cell
pub record Ringed (f : Frame) (site : ℕ) (p : Progress) (end : ℕ) (v : List Float) (ix off : List ℕ) : Type 0 where
  pub place : site < length off
  pub some : f.stage < end
  pub few : Addable p.reused
  pub room : RingRoom (env_of f site) p.count (empty_at p.owners (get_or off site 0)) f.stage (end - f.stage) (end - f.stage) v ix

-- the definition's cell of that ring
pub record Tried (f : Frame) (site : ℕ) (p : Progress) (end : ℕ) (v : List Float) (ix off : List ℕ) (r : Progress) (v₁ : List Float) (ix₁ : List ℕ) : Type 0 where
  pub stepped : RingStepped
  pub faulty : r.fault ≡ stepped.fault
  pub is : stepped.fault.number ≡ 0 → r ≡ progress_of p.reused stepped
  pub steps : Steps (env_of f site) (end - f.stage) (Def.clip_cell f.bounds f.centers site (ring_of ix f.stage (end - f.stage))
      (points p.count v) p.owners) p.count (empty_at p.owners (get_or off site 0)) v ix stepped v₁ ix₁
