-- Lines that were shown one after another.
use Rattle.std.proofs.Common.{◌≡◌, ℕ, suc, ◌+◌, ◌<◌, ◌≤◌, Bool, IsTrue, true, false, List, [], ◌∷◌, ◌++◌, Result, Ok}
use Rattle.std.proofs.Common.{Err, map, ◌||◌}
use Rattle.std.proofs.Common.{take, length, get_or, refl, sym, ◌∙◌, ap, subst, arith}
use Rattle.std.specs.Prelude.{IsOk, IfOk, slice_index_or}
use Rattle.std.proofs.Math.Seq.{take-suc}
use Rattle.std.proofs.lemmas.Bool.{false≢true, true≢false}
use Rattle.std.proofs.lemmas.List.{get_or_default, map-append}
use Rattle.abt_headers.specs.declared.sections.SectionPlace.{SectionPlace}
use Rattle.abt_headers.specs.declared.sections.Section.TheVariants as kinds
use Rattle.sys_report.specs.Shows.{CannotPrint, GoesOut, IsSilent, ShowsBeside, refusals}
use Rattle.sys_report.specs.declared.report.Report.{Report}
use Rattle.abt_sections.specs.Header.{Header, places_of, fragment_count}
use Rattle.abt_sections.specs.declared.fault.SectionFault.{SectionFault}
use Rattle.cmd_common_boot.specs.declared.part_names.ImagePart.{ImagePart}
use Rattle.cmd_common_texts.specs.Words.{image_words, words_text}
use Rattle.cmd_unpack.specs.Lines.{ShowsEach, ShowsLineOf, ToldPart, told_fragment, told_fragments, told_part}
use Rattle.cmd_unpack.specs.Lines.{told_parts, told_section, told_text}

pub silent : (a : Report) → IsSilent a a
silent a = ((refl, refl), refl)

silent_then : (a b c : Report) → IsSilent a b → IsSilent b c → IsSilent a c
silent_then a b c first next =
    ((next.0.0 ∙ first.0.0, next.0.1 ∙ first.0.1), next.1 ∙ first.1)

shows_behind : (on : Bool) (a b c : Report) (line : List ℕ) → IsSilent a b → ShowsBeside on b c line
    → ShowsBeside on a c line
shows_behind on a b c line quiet shows =
    let out' = c.out.log.state.bytes in
    let err' = c.err.log.state.bytes in (
      (
        subst (λ e. GoesOut c.is_data_on_output a.out.log.state.bytes out' e err' line) quiet.1
            (subst (λ o. GoesOut c.is_data_on_output o out' b.err.log.state.bytes err' line) quiet.0.0 shows.0.0),
        λ t. shows.0.1 (subst IsTrue (sym quiet.0.1) t),
      ),
      shows.1 ∙ ap (λ k. k || on) quiet.0.1,
    )

-- what could not be printed after lines that were
pub cannot_behind : (a b c : Report) → refusals a ≤ refusals b → CannotPrint b c → CannotPrint a c
cannot_behind a b c rises cannot = omega (arith, rises, cannot)

pub rises_then : (a b c : Report) → refusals a ≤ refusals b → refusals b ≤ refusals c → refusals a ≤ refusals c
rises_then a b c first next = omega (arith, first, next)

each_behind : (on : ImagePart → Bool) (lines : List ToldPart) (a b c : Report) → IsSilent a b → ShowsEach on lines b c
    → ShowsEach on lines a c
each_behind on [] a b c quiet each = silent_then a b c quiet each
each_behind on (line ∷ lines) a b c quiet each =
    (each.0, shows_behind (on line.part) a b each.0 (told_part line.part line.bytes) quiet each.1, each.2)

pub each_then : (on : ImagePart → Bool) (lines more : List ToldPart) (a b c : Report) → ShowsEach on lines a b
    → ShowsEach on more b c → ShowsEach on (lines ++ more) a c
each_then on [] more a b c first next = each_behind on more a b c first next
each_then on (line ∷ lines) more a b c first next =
    (first.0, first.1, each_then on lines more first.0 b c first.2 next)

pub each_one : (on : ImagePart → Bool) (line : ToldPart) (a b : Report) → ShowsLineOf on line a b
    → ShowsEach on (line ∷ []) a b
each_one on line a b shows = (b, shows, silent b)

pub one_more : (on : ImagePart → Bool) (lines : List ToldPart) (line : ToldPart) (a b c : Report)
    → ShowsEach on lines a b → ShowsLineOf on line b c → ShowsEach on (lines ++ (line ∷ [])) a c
one_more on lines line a b c each shows = each_then on lines (line ∷ []) a b c each (each_one on line b c shows)

-- ---- of a part

pub shown_part : (on : ImagePart → Bool) (beside : Bool) (answer : Result ℕ SectionFault) (a b : Report)
    (part : ImagePart) (m : ℕ) → beside ≡ on part → IsOk answer
    → IfOk answer (λ n. ShowsBeside beside a b (told_part part n)) → IfOk answer (λ n. n ≡ m)
    → ShowsLineOf on (record { part = part; bytes = m }) a b
shown_part on beside (Ok n) a b part m same done shows count =
    subst (λ k. ShowsBeside k a b (told_part part m)) same
    (subst (λ k. ShowsBeside beside a b (told_part part k)) count shows)
shown_part on beside (Err e) a b part m same done shows count = absurd (false≢true done)

some_place : SectionPlace
some_place = record { kind = kinds.Kernel; at = 0; size = 0 }

-- one section more
pub section_shown : (on : ImagePart → Bool) (h : Header) (i : ℕ) (a b c : Report) → i < length (places_of h)
    → ShowsEach on (map told_section (take i (places_of h))) a b
    → ((p : SectionPlace) → p ≡ slice_index_or (places_of h) i p → ShowsLineOf on (told_section p) b c)
    → ShowsEach on (map told_section (take (i + 1) (places_of h))) a c
section_shown on h i a b c there each shows =
    let places = places_of h in
    let p : SectionPlace = get_or places i some_place in
    let found : p ≡ slice_index_or places i p = get_or_default places i some_place p there in
    let next : suc i ≡ i + 1 = omega arith in
    let more : map told_section (take i places) ++ (told_section p ∷ []) ≡ map told_section (take (i + 1) places) =
    sym (map-append told_section (take i places) (p ∷ []))
    ∙ ap (map told_section) (sym (take-suc places i some_place there))
    ∙ ap (λ k. map told_section (take k places)) next in
    subst (λ l. ShowsEach on l a c) more
    (one_more on (map told_section (take i places)) (told_section p) a b c each (shows p found))

-- one fragment more
pub fragment_shown : (on : ImagePart → Bool) (x y : List ℕ) (h : Header) (n : ℕ) (a b c : Report) → y ≡ x
    → ShowsEach on (told_fragments x h n) a b → ShowsLineOf on (told_fragment y h n) b c
    → ShowsEach on (told_fragments x h (n + 1)) a c
fragment_shown on x y h n a b c same each shows =
    let next : suc n ≡ n + 1 = omega arith in
    subst (λ k. ShowsEach on (told_fragments x h k) a c) next
    (one_more on (told_fragments x h n) (told_fragment x h n) a b c each
    (subst (λ z. ShowsLineOf on (told_fragment z h n) b c) same shows))

-- ---- all parts

sections_then : (on : ImagePart → Bool) (x y : List ℕ) (h : Header) (more : List ToldPart) (a b c d : Report) → y ≡ x
    → ShowsEach on (map told_section (places_of h)) a b → ShowsEach on (told_fragments y h (fragment_count h)) b c
    → ShowsEach on more c d
    → ShowsEach on (map told_section (places_of h) ++ (told_fragments x h (fragment_count h) ++ more)) a d
sections_then on x y h more a b c d same sections fragments rest =
    each_then on (map told_section (places_of h)) (told_fragments x h (fragment_count h) ++ more) a b d sections
    (each_then on (told_fragments x h (fragment_count h)) more b c d
    (subst (λ z. ShowsEach on (told_fragments z h (fragment_count h)) b c) same fragments) rest)

pub all_but_words : (on : ImagePart → Bool) (x y : List ℕ) (h : Header) (with_words : Bool) (text : List ℕ)
    (a b c : Report) → y ≡ x → with_words ≡ false → ShowsEach on (map told_section (places_of h)) a b
    → ShowsEach on (told_fragments y h (fragment_count h)) b c → ShowsEach on (told_parts x h with_words text) a c
all_but_words on x y h true text a b c same none sections fragments = absurd (true≢false none)
all_but_words on x y h false text a b c same none sections fragments =
    sections_then on x y h [] a b c c same sections fragments (silent c)

pub all_shown : (on : ImagePart → Bool) (folder x y z : List ℕ) (h : Header) (with_words : Bool) (a b c d : Report)
    → y ≡ x → z ≡ x → with_words ≡ true → ShowsEach on (map told_section (places_of h)) a b
    → ShowsEach on (told_fragments y h (fragment_count h)) b c
    → ShowsLineOf on (told_text (words_text (image_words folder z h))) c d
    → ShowsEach on (told_parts x h with_words (words_text (image_words folder x h))) a d
all_shown on folder x y z h true a b c d same still wanted sections fragments words =
    let last = told_text (words_text (image_words folder x h)) in
    sections_then on x y h (last ∷ []) a b c d same sections fragments (each_one on last c d
    (subst (λ q. ShowsLineOf on (told_text (words_text (image_words folder q h))) c d) still words))
all_shown on folder x y z h false a b c d same still wanted sections fragments words =
    absurd (true≢false (sym wanted))
