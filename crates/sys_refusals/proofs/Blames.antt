-- Which file a refusal is told of, from the files in use.
use Rattle.std.proofs.Common.{◌≡◌, ap, sym, ◌∙◌}
use Rattle.std.specs.Prelude.{Option, Some}
use Rattle.sys_refusals.specs.Blamed.{TellsOf, TellsRead, input_of, place_on}
use Rattle.sys_refusals.specs.declared.place.FileArg.{FileArg}
use Rattle.sys_refusals.specs.declared.refusal.Sides.{Sides}
use Rattle.sys_refusals.specs.declared.told.Side.{Side}
use Rattle.sys_refusals.specs.declared.told.Side.TheVariants as sides

-- where an output was begun beside what is read
pub tells_begun : (s t : Sides) (output : FileArg) (side : Side) (place : Option FileArg) → place ≡ place_on t side
    → t.output.place ≡ Some output → t ≡ record s { output = t.output; unfinished = t.unfinished }
    → TellsOf side place (input_of s) (Some output)
tells_begun s t output side place is begun same = record {
  reads = record {
    read = λ at. is ∙ ap (place_on t) at ∙ ap (λ k. k.input.place) same;
    words = λ at. is ∙ ap (place_on t) at;
  };
  written = λ at. is ∙ ap (place_on t) at ∙ begun;
}

-- a fault of one of the files in use
pub tells_refused : (s : Sides) (side side' : Side) (place input : Option FileArg) → place ≡ place_on s side
    → side' ≡ side → s.input.place ≡ input → TellsRead side' place input
tells_refused s side side' place input is same reads = record {
  read = λ at. is ∙ ap (place_on s) (sym same ∙ at) ∙ reads;
  words = λ at. is ∙ ap (place_on s) (sym same ∙ at);
}

-- the same of a file that is this one
pub reads_of_input : (side : Side) (place input input' : Option FileArg) → input ≡ input' → TellsRead side place input
    → TellsRead side place input'
reads_of_input side place input input' is tells = record {
  read = λ at. tells.read at ∙ is;
  words = tells.words;
}

pub told_of_input : (side : Side) (place input input' output : Option FileArg) → input ≡ input'
    → TellsOf side place input output → TellsOf side place input' output
told_of_input side place input input' output is tells = record {
  reads = reads_of_input side place input input' is tells.reads;
  written = tells.written;
}

-- the sides differ
pub input≢output : sides.Input ≡ sides.Output → ⊥
input≢output e = cc

pub words≢input : sides.Words ≡ sides.Input → ⊥
words≢input e = cc

pub words≢output : sides.Words ≡ sides.Output → ⊥
words≢output e = cc

pub call≢input : sides.Call ≡ sides.Input → ⊥
call≢input e = cc

pub call≢output : sides.Call ≡ sides.Output → ⊥
call≢output e = cc

pub call≢words : sides.Call ≡ sides.Words → ⊥
call≢words e = cc

-- of a call that failed nothing is said
pub reads_call : (side : Side) (place input : Option FileArg) → side ≡ sides.Call → TellsRead side place input
reads_call side place input is = record {
  read = λ at. absurd (call≢input (sym is ∙ at));
  words = λ at. absurd (call≢words (sym is ∙ at));
}

pub tells_call : (side : Side) (place input output : Option FileArg) → side ≡ sides.Call
    → TellsOf side place input output
tells_call side place input output is = record {
  reads = reads_call side place input is;
  written = λ at. absurd (call≢output (sym is ∙ at));
}
