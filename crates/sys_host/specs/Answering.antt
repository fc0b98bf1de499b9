-- What a message adds to a report.
use Rattle.std.specs.Prelude.{◌≡◌, ℕ, ℤ, pos, negsuc, List, [], ◌∷◌, ◌++◌, ◌==◌, ◌||◌, Bool, true, false, Option}
use Rattle.std.specs.Prelude.{Some, None, IfSome, codes, decimal}
use Rattle.sys_refusals.specs.Paths.{shown_place}
use Rattle.sys_refusals.specs.declared.place.FileArg.{FileArg}
use Rattle.sys_refusals.specs.declared.refusal.About.{About}
use Rattle.sys_report.specs.Shows.{IsFirstLine, NotesOne}
use Rattle.sys_report.specs.declared.report.Report.{Report}
use Rattle.sys_host.specs.declared.answering.Telling.{Telling}

-- nothing was printed: only the line of progress may have been erased
abbrev pub PrintsNothing : Report → Report → Type 0
PrintsNothing old new = new ≡ record old { progress = new.progress }

-- the word of the usage line and the file's name, and why
abbrev pub of_place : Option FileArg → List ℕ → List ℕ
of_place None why = codes "  " ++ why
of_place (Some place) why =
    codes "  " ++ (place.role.now ++ (codes " " ++ (shown_place place ++ (codes ": " ++ why))))

-- the system's number of an error says that there is no room: on the device, in a quota, or in a file of that length
abbrev pub is_of_room : Option ℤ → Bool
is_of_room None = false
is_of_room (Some (pos n)) = n == 28 || (n == 122 || n == 27)
is_of_room (Some (negsuc n)) = false

-- from which piece a stopped flash continues
abbrev pub mending : Option ℕ → Bool → List ℕ
mending None room = []
mending (Some piece) true = codes "; make room, then --from " ++ (decimal piece ++ codes " mends it")
mending (Some piece) false = codes "; --from " ++ (decimal piece ++ codes " mends it")

-- the file that is not complete
abbrev pub unfinished_text : Option FileArg → List ℕ
unfinished_text None = []
unfinished_text (Some place) =
    codes "; " ++ (place.role.now ++ (codes " " ++ (shown_place place ++ codes " is broken off")))

-- The second line: the file, why, what mends it, and the file that is not complete. Why is the advice, if it is given.
pub record IsSecondLine (piece : Option ℕ) (about : About) (line : List ℕ) : Type 0 where
  pub why : List ℕ
  pub advised : IfSome about.advice (λ advice. why ≡ advice.now)
  pub whole :
      line ≡ of_place about.place why ++ mending piece (is_of_room about.why) ++ unfinished_text about.unfinished

-- it is asked for, or not
abbrev pub IsSecond : Bool → Option ℕ → About → List ℕ → Type 0
IsSecond false piece about told = told ≡ []
IsSecond true piece about told = (line : List ℕ) × IsSecondLine piece about line × (told ≡ line ++ (10 ∷ []))

-- the whole message
pub record IsMessage (Says : Option FileArg → List ℕ → Type 0) (piece : Option ℕ) (how : Telling) (about : About)
    (told : List ℕ) : Type 0 where
  pub first : List ℕ
  pub second : List ℕ
  pub is_first : IsFirstLine how.program.now (Says about.place) first
  pub is_second : IsSecond how.is_verbose piece about second
  pub whole : told ≡ first ++ second

-- What a refusal adds: nothing, where its message would go into a file of the run; else its message.
abbrev pub Answers : Bool → Report → Report → (List ℕ → Type 0) → Type 0
Answers true old new IsText = PrintsNothing old new
Answers false old new IsText = NotesOne old new IsText
