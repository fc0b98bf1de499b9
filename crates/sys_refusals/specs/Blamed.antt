-- Which file a refusal is told of.
use Rattle.std.specs.Prelude.{◌≡◌, Option, None}
use Rattle.sys_refusals.specs.declared.place.FileArg.{FileArg}
use Rattle.sys_refusals.specs.declared.refusal.Sides.{Sides}
use Rattle.sys_refusals.specs.declared.told.Side.{Side}
use Rattle.sys_refusals.specs.declared.told.Side.TheVariants as sides

-- of the files in use, the one that is read
abbrev pub input_of : Sides → Option FileArg
input_of s = s.input.place

-- the one that a fault on this side is about; it is about none of them where the words are wrong, or a call has failed
abbrev pub place_on : Sides → Side → Option FileArg
place_on s sides.Input = s.input.place
place_on s sides.Output = s.output.place
place_on s sides.Spool = s.spool.place
place_on s sides.Words = None
place_on s sides.Call = None

-- A fault on this side is told of this file where it is of what is read, and of none where it is of the words.
pub record TellsRead (side : Side) (place input : Option FileArg) : Type 0 where
  pub read : side ≡ sides.Input → place ≡ input
  pub words : side ≡ sides.Words → place ≡ None

-- And of the other file where it is of what is written.
pub record TellsOf (side : Side) (place input output : Option FileArg) : Type 0 where
  pub reads : TellsRead side place input
  pub written : side ≡ sides.Output → place ≡ output
