-- What the first line says of a fault of files.
use Rattle.std.proofs.Common.{◌≡◌, ℕ, List, ◌++◌, Option, Some, Result, Ok, Err, OnOk, true, ap, sym}
use Rattle.std.proofs.Common.{◌∙◌, take}
use Rattle.std.specs.Prelude.{if◌then◌else◌}
use Rattle.sys_refusals.specs.Paths.{shown_place}
use Rattle.sys_refusals.specs.Said.{host_said, host_words, names_its_file}
use Rattle.sys_refusals.specs.declared.place.FileArg.{FileArg}
use Rattle.sys_refusals.specs.declared.refusal.HostFault.{HostFault}

-- what is wrong, and the file's name
pub said_named : {A E : Type 0} (r : Result A E) (fault : HostFault) (place : FileArg) (at : Option FileArg)
    (words name : List ℕ) → at ≡ Some place → words ≡ host_words fault → names_its_file fault ≡ true
    → OnOk r (name ≡ take 8192 (shown_place place)) → OnOk r (words ++ name ≡ host_said fault at)
said_named (Err e) fault place at words name here wrong names told = tt
said_named (Ok x) fault place at words name here wrong names told =
    ap (λ w. w ++ name) wrong ∙ ap (λ l. host_words fault ++ l) told
    ∙ sym (ap (λ b. if b then host_words fault ++ take 8192 (shown_place place) else host_words fault) names)
    ∙ ap (host_said fault) (sym here)
