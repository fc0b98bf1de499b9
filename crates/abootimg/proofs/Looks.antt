-- Files that are opened once before the orders of a tool begin.
use Rattle.std.proofs.Common.{arith, ◌≡◌, ◌<◌, ◌+◌, ℕ, List, [], ◌∷◌, ◌++◌, Bool, refl, sym, ◌∙◌, ap, subst}
use Rattle.std.proofs.Common.{append_assoc}
use Rattle.std.specs.Prelude.{Contains, IfSome, IsTrue, None, Option, Some, get_or, length, take}
use Rattle.std.proofs.lemmas.List.Elements.{All-more, All-nil, All-weaker, Contains-append_left}
use Rattle.words_orders.specs.declared.order.Given.{Given}
use Rattle.std.proofs.lemmas.List.{append-nil}
use Rattle.sys_disk.specs.World.{World, OpenFiles, OpensFile, HasFailed, counting}
use Rattle.sys_disk.specs.Counts.{Cause, call, of_reading, reading, reads, writing}
use Rattle.cmd_common_boot.proofs.Calls.{same_counting}
use std.Path.{fun_ext}
use Rattle.abootimg.specs.OrderDone.{IsReadyForOrder}
use Rattle.abootimg.specs.LooksAhead.{IsReadAhead, LooksAhead, OpensThese, file_word}

pub reads_none : (h : OpenFiles) → OpensThese h h
reads_none h = record { files = []; taken = ap (λ (l : List ℕ). record h { read = l }) (sym (append-nil h.read)) }

pub no_reading : (cause : Cause) → of_reading 0 cause ≡ 0
no_reading (call fault) = refl
no_reading reading = refl
no_reading writing = refl

-- a device was opened and is closed, and nothing was read
counting_unread : (given faults : ℕ) (h : OpenFiles) → given ≡ 0 → faults ≡ 0 → counting (reads given faults) h ≡ h
counting_unread given faults h unread clean =
    let none : of_reading 0 ≡ (λ cause. 0) = fun_ext no_reading in
    ap (λ n. counting (reads n faults) h) unread ∙ ap (λ n. counting (reads 0 n) h) clean
    ∙ ap (λ (f : Cause → ℕ). counting (record { failed = f; given = 0 }) h) none ∙ same_counting h

-- a file is opened, and closed again
pub reads_one : (w : World) (path bytes : List ℕ) (h h' h'' : OpenFiles) (given faults : ℕ)
    → OpensFile w path bytes h h' → given ≡ 0 → faults ≡ 0 → h'' ≡ counting (reads given faults) h'
    → OpensThese h h''
reads_one w path bytes h h' h'' given faults opens unread clean let_go = record {
  files = opens.file ∷ [];
  taken = let_go ∙ counting_unread given faults h' unread clean ∙ opens.taken;
}

pub reads_on : (h h' h'' : OpenFiles) → OpensThese h h' → OpensThese h' h'' → OpensThese h h''
reads_on h h' h'' first more = record {
  files = first.files ++ more.files;
  taken = more.taken ∙ ap (λ (k : OpenFiles). record k { read = k.read ++ more.files }) first.taken
      ∙ ap (λ (l : List ℕ). record h { read = l }) (append_assoc h.read first.files more.files);
}

pub reads_begun : (h h' : OpenFiles) → OpensThese h h' → h.begun ≡ [] → h'.begun ≡ []
reads_begun h h' reads none = ap (λ k. k.begun) reads.taken ∙ none

pub reads_failed : (cause : Cause) (h h' h'' : OpenFiles) → OpensThese h h' → HasFailed cause h' h''
    → HasFailed cause h h''
reads_failed cause h h' h'' opened failed =
    let same : h'.counts.failed cause ≡ h.counts.failed cause = ap (λ k. k.counts.failed cause) opened.taken in
    omega (arith, same, failed)

pub reads_ready : (h h' : OpenFiles) → OpensThese h h' → IsReadyForOrder h → IsReadyForOrder h'
reads_ready h h' reads ready = record {
  reading = record {
    begun = ap (λ k. k.begun) reads.taken ∙ ready.reading.begun;
    output = ap (λ k. k.output) reads.taken ∙ ready.reading.output;
  };
  part = ap (λ k. k.part) reads.taken ∙ ready.part;
  spool = ap (λ k. k.spool) reads.taken ∙ ready.spool;
}

-- ---- the files of options

-- a file that is read is read behind others, too
read_on : (h h' : OpenFiles) (file : ℕ) → OpensThese h h' → Contains h.read file → Contains h'.read file
read_on h h' file reads is = subst (λ (k : OpenFiles). Contains k.read file) (sym reads.taken)
    (Contains-append_left h.read reads.files file is)

word_on : (is_file : List ℕ → Bool) (w : World) (h h' : OpenFiles) (word : Option (List ℕ)) → OpensThese h h'
    → IfSome word (λ path. IsTrue (is_file path) → (file : ℕ) → w.at path ≡ Some file → Contains h.read file)
    → IfSome word (λ path. IsTrue (is_file path) → (file : ℕ) → w.at path ≡ Some file → Contains h'.read file)
word_on is_file w h h' None reads is = tt
word_on is_file w h h' (Some path) reads is = λ regular file at. read_on h h' file reads (is regular file at)

ahead_on : (is_file : List ℕ → Bool) (w : World) (h h' : OpenFiles) → OpensThese h h' → (given : Given)
    → IsReadAhead is_file w h given → IsReadAhead is_file w h' given
ahead_on is_file w h h' reads given is = word_on is_file w h h' (file_word given) reads is

pub looks_at_none : (is_file : List ℕ → Bool) (w : World) (h : OpenFiles) → LooksAhead is_file [] w h h
looks_at_none is_file w h = record { reads = reads_none h; ahead = All-nil (IsReadAhead is_file w h) }

-- one more
pub looks_on : (is_file : List ℕ → Bool) (w w' : World) (h h' h'' : OpenFiles) (all : List Given) (i : ℕ)
    (d given : Given)
    → i < length all → given ≡ get_or all i d → w' ≡ w → LooksAhead is_file (take i all) w h h' → OpensThese h' h''
    → IsReadAhead is_file w' h'' given → LooksAhead is_file (take (i + 1) all) w h h''
looks_on is_file w w' h h' h'' all i d given below is same first reads own =
    let here : IsReadAhead is_file w h'' given = subst (λ (x : World). IsReadAhead is_file x h'' given) same own in
    record {
      reads = reads_on h h' h'' first.reads reads;
      ahead = All-more (IsReadAhead is_file w h'') all i d below
          (All-weaker (IsReadAhead is_file w h') (IsReadAhead is_file w h'') (ahead_on is_file w h' h'' reads)
          (take i all) first.ahead)
          (subst (IsReadAhead is_file w h'') is here);
    }

-- all of them
pub looks_all : (is_file : List ℕ → Bool) (all : List Given) (i : ℕ) (w : World) (h h' : OpenFiles)
    → LooksAhead is_file (take i all) w h h' → take i all ≡ all → LooksAhead is_file all w h h'
looks_all is_file all i w h h' looks end = subst (λ l. LooksAhead is_file l w h h') end looks
