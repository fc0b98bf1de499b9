-- Files that are opened to be read, one after another.
use Rattle.std.proofs.Common.{inl, inr, arith, ◌⊎◌, ◌<◌, ◌≡◌, ℕ, List, [], ◌∷◌, ◌++◌, sym}
use Rattle.std.proofs.Common.{◌∙◌, ap, append_assoc, subst}
use Rattle.std.proofs.lemmas.List.{append-nil}
use Rattle.std.proofs.lemmas.List.Elements.{Contains-append_left, Contains-push}
use Rattle.std.specs.Prelude.{Bool, Contains, IsTrue, unwrap_or, Result, Ok, Err, IfErr}
use Rattle.sys_disk.specs.DiskCalls.{FailsOnly}
use Rattle.sys_disk.specs.World.{World, OpenFiles, OpensFile, HasFailed, counting}
use Rattle.sys_disk.specs.Counts.{Cause, Counts, call, call_of, failure_of}
use Rattle.sys_refusals.specs.declared.refusal.HostRefusal.{HostRefusal}
use Rattle.cmd_common_boot.proofs.Causes.{source_failed}
use Rattle.sys_refusals.specs.declared.refusal.HostFault.{HostFault}
use Rattle.sys_refusals.specs.declared.refusal.HostFault.TheVariants as hosts
use Rattle.cmd_pack_inputs.specs.Opening.{OnlyOpens, OpensMore, StopsOpening, failed, no_memory, no_text, reading_all}

same_reading : (h : OpenFiles) → h ≡ reading_all [] h
same_reading h = ap (λ r. record h { read = r }) (sym (append-nil h.read))

-- nothing was opened
pub opens_none : (named : List ℕ → Type 0) (w : World) (h h' : OpenFiles) → h' ≡ h → ((path : List ℕ) → named path → ⊥)
    → OpensMore named w h h'
opens_none named w h h' same none = record {
  files = [];
  taken = same ∙ same_reading h;
  listed = λ path file is there. absurd (none path is);
}

-- one file was
pub opens_file : (named : List ℕ → Type 0) (w : World) (path bytes : List ℕ) (h h' : OpenFiles)
    → OpensFile w path bytes h h' → ((p : List ℕ) → named p → p ≡ path) → OpensMore named w h h'
opens_file named w path bytes h h' o only = record {
  files = o.file ∷ [];
  taken = o.taken;
  listed = λ p file is there.
      let one : o.file ≡ file = ap (λ q. unwrap_or q 0) (sym o.there ∙ ap w.at (sym (only p is)) ∙ there) in
      subst (λ f. Contains h'.read f) one
      (subst (λ (k : OpenFiles). Contains k.read o.file) (sym o.taken) (Contains-push h.read o.file));
}

-- and then more
pub opens_then : (A B C : List ℕ → Type 0) (w w' : World) (h h' h'' : OpenFiles) → w' ≡ w → OpensMore A w h h'
    → OpensMore B w' h' h'' → ((p : List ℕ) → C p → A p ⊎ B p) → OpensMore C w h h''
opens_then A B C w w' h h' h'' same a b split = record {
  files = a.files ++ b.files;
  taken = b.taken ∙ ap (reading_all b.files) a.taken
      ∙ ap (λ r. record h { read = r }) (append_assoc h.read a.files b.files);
  listed = λ path file is there. elim (split path is) [
    | inl x ↦ subst (λ (k : OpenFiles). Contains k.read file) (sym b.taken)
        (Contains-append_left h'.read b.files file (a.listed path file x there))
    | inr y ↦ b.listed path file y (ap (λ (v : World). v.at path) same ∙ there)
  ];
}

-- no file has changed
pub only_more : {A : List ℕ → Type 0} {v w w' : World} {h h' : OpenFiles} → OpensMore A v h h' → w' ≡ w
    → OnlyOpens h h' w w'
only_more a same = record { world = same; output = ap (λ k. k.output) a.taken }

pub only_counting : {models : Bool} {n : Counts} {w w' : World} {h h' : OpenFiles} → FailsOnly models n h h' w w'
    → IsTrue models
    → OnlyOpens h h' w w'
only_counting f t = record { world = f.world t; output = ap (λ k. k.output) (f.held t) }

pub only_then : {w w' w'' : World} {h h' h'' : OpenFiles} → OnlyOpens h h' w w' → OnlyOpens h' h'' w' w''
    → OnlyOpens h h'' w w''
only_then a b = record { world = b.world ∙ a.world; output = b.output ∙ a.output }

pub failed_still : (A : List ℕ → Type 0) (w : World) (h h' : OpenFiles) (cause : Cause) → OpensMore A w h h'
    → h'.counts.failed cause ≡ h.counts.failed cause
failed_still A w h h' cause a = ap (λ k. k.counts.failed cause) a.taken

-- ---- why a file was not opened

-- a call of the disk failed
pub stops_once : (A : List ℕ → Type 0) (h h' : OpenFiles) (f : HostFault) → h' ≡ counting (call_of f) h
    → StopsOpening A h h' f
stops_once A h h' f now = failed (source_failed h h' f now)

pub stops_call : {X : Type 0} (A : List ℕ → Type 0) (r : Result X HostRefusal) (h h' : OpenFiles)
    → h' ≡ counting (failure_of r) h → IfErr r (λ refusal. StopsOpening A h h' refusal.fault)
stops_call A (Ok x) h h' now = tt
stops_call A (Err e) h h' now = stops_once A h h' e.fault now

-- memory was refused
pub stops_memory : (A : List ℕ → Type 0) (h h' : OpenFiles) (f : HostFault) → f ≡ hosts.Memory
    → h' ≡ counting (call_of hosts.Memory) h → StopsOpening A h h' f
stops_memory A h h' f told now = no_memory told (source_failed h h' hosts.Memory now)

pub stops_more : (A B : List ℕ → Type 0) (h h' : OpenFiles) (f : HostFault) → StopsOpening A h h' f
    → ((p : List ℕ) → A p → B p) → StopsOpening B h h' f
stops_more A B h h' f (failed more) wider = failed more
stops_more A B h h' f (no_text path is bad told) wider = no_text path (wider path is) bad told
stops_more A B h h' f (no_memory told more) wider = no_memory told more

-- after others that were
pub failed_then : (A : List ℕ → Type 0) (w : World) (h h' h'' : OpenFiles) (cause : Cause) → OpensMore A w h h'
    → HasFailed cause h' h'' → HasFailed cause h h''
failed_then A w h h' h'' cause a more =
    let e : h'.counts.failed cause ≡ h.counts.failed cause = failed_still A w h h' cause a in
    let rises : h'.counts.failed cause < h''.counts.failed cause = more in
    omega (arith, e, rises)

pub stops_then : (A B C : List ℕ → Type 0) (w : World) (h h' h'' : OpenFiles) (f : HostFault) → OpensMore A w h h'
    → StopsOpening B h' h'' f → ((p : List ℕ) → B p → C p) → StopsOpening C h h'' f
stops_then A B C w h h' h'' f a (failed more) wider = failed (failed_then A w h h' h'' (call f) a more)
stops_then A B C w h h' h'' f a (no_text path is bad told) wider = no_text path (wider path is) bad told
stops_then A B C w h h' h'' f a (no_memory told more) wider =
    no_memory told (failed_then A w h h' h'' (call hosts.Memory) a more)

-- files were opened, and then memory was refused
pub stops_lacking : (A : List ℕ → Type 0) (w : World) (h h' h'' : OpenFiles) (f : HostFault) → OpensMore A w h h'
    → f ≡ hosts.Memory → h'' ≡ counting (call_of hosts.Memory) h' → StopsOpening A h h'' f
stops_lacking A w h h' h'' f opens told now =
    stops_then A A A w h h' h'' f opens (stops_memory A h' h'' f told now) (λ p is. is)
