-- What a report shows.
use Rattle.std.specs.Prelude.{◌≡◌, ◌<◌, ◌≤◌, ◌+◌, ◌||◌, ◌⊎◌, ℕ, List, [], ◌∷◌, ◌++◌, Bool, IsTrue, true, false}
use Rattle.std.specs.Prelude.{codes}
use Rattle.sys_report.specs.declared.report.Report.{Report}

-- these bytes more were written to one stream, and none to the other: of standard output and of standard error what was
-- given before and what is now
abbrev pub GoesOut : Bool → List ℕ → List ℕ → List ℕ → List ℕ → List ℕ → Type 0
GoesOut true out out' err err' told = (err' ≡ err ++ told) × (out' ≡ out)
GoesOut false out out' err err' told = (out' ≡ out ++ told) × (err' ≡ err)

-- Over reports of which only the streams count, so that progress makes no difference:

-- These bytes more were written, and nothing else: to standard error if data goes to standard output, and else to
-- standard output. If data went there before, it still does.
abbrev pub Shows : Report → Report → List ℕ → Type 0
Shows old new told =
    GoesOut new.is_data_on_output old.out.log.state.bytes new.out.log.state.bytes old.err.log.state.bytes
    new.err.log.state.bytes told × (IsTrue old.is_data_on_output → IsTrue new.is_data_on_output)

-- They were written beside an output: from now on data goes to standard output if this output does.
abbrev pub ShowsBeside : Bool → Report → Report → List ℕ → Type 0
ShowsBeside is_on_output old new told =
    Shows old new told × (new.is_data_on_output ≡ (old.is_data_on_output || is_on_output))

-- They were written to the stream of the last line.
abbrev pub ShowsHere : Report → Report → List ℕ → Type 0
ShowsHere old new told = ShowsBeside false old new told

-- nothing was written to standard output
abbrev pub IsNoted : Report → Report → Type 0
IsNoted old new =
    (new.out.log.state.bytes ≡ old.out.log.state.bytes) × (new.is_data_on_output ≡ old.is_data_on_output)

-- nor to standard error
abbrev pub IsSilent : Report → Report → Type 0
IsSilent old new = IsNoted old new × (new.err.log.state.bytes ≡ old.err.log.state.bytes)

-- these bytes more were written to standard error, and nothing is counted; or they could not be, which is counted
abbrev pub Notes : Report → Report → List ℕ → Type 0
Notes old new told =
    ((new.err.log.state.bytes ≡ old.err.log.state.bytes ++ told) × (new.unshown.number ≡ old.unshown.number))
    ⊎ (old.unshown.number < new.unshown.number)

-- the same of one of these texts
abbrev pub NotesOne : Report → Report → (List ℕ → Type 0) → Type 0
NotesOne old new IsText =
    ((told : List ℕ) × IsText told × (new.err.log.state.bytes ≡ old.err.log.state.bytes ++ told)
    × (new.unshown.number ≡ old.unshown.number))
    ⊎ (old.unshown.number < new.unshown.number)

-- a line: the program's name, a colon and a space, and what is said of a fault
abbrev pub IsFirstLine : List ℕ → (List ℕ → Type 0) → List ℕ → Type 0
IsFirstLine program Says line =
    (told : List ℕ) × Says told × (line ≡ program ++ (codes ": " ++ (told ++ (10 ∷ []))))

-- how often a line failed: in standard output, in standard error, or because it is no text of a line
abbrev pub refusals : Report → ℕ
refusals report = report.out.faults.number + report.err.faults.number + report.unshown.number

-- nothing was written to standard output, and what failed before is not forgotten
abbrev pub IsTold : Report → Report → Type 0
IsTold old new = IsNoted old new × (refusals old ≤ refusals new)

-- a line could not be printed
abbrev pub CannotPrint : Report → Report → Type 0
CannotPrint old new = refusals old < refusals new

-- the same, of whatever line it was
abbrev pub Unprinted : Report → Report → List ℕ → Type 0
Unprinted old new line = CannotPrint old new
