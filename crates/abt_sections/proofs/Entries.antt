-- Entries at the beginning of the window.
use Rattle.std.proofs.Common.{◌≡◌, ℕ, ◌+◌, ◌-◌, ◌*◌, ◌≤◌, ◌<◌, List, take, drop, sym, ap, ◌∙◌, arith, drop-drop, None}
use Rattle.std.proofs.lemmas.List.{take-take, drop-take}
use Rattle.abt_sections.specs.Entries.{EntriesStand}
use Rattle.abt_sections.specs.Header.{Header, HasWholeTable, places_of, fragment_count, table_at}
use Rattle.abt_sections.specs.Open.{beyond}
use Rattle.abt_sections.proofs.Tables.{entry_there}

inner_part : (d n : ℕ) (z : List ℕ) → d + 108 ≤ n → take 108 (drop d (take n z)) ≡ take 108 (drop d z)
inner_part d n z h =
    let e : n ≡ d + (n - d) = omega arith in
    let k : 108 ≤ n - d = omega arith in
    ap (λ (j : ℕ). take 108 (drop d (take j z))) e ∙ ap (take 108) (drop-take d (n - d) z)
    ∙ take-take 108 (n - d) (drop d z) k

-- an entry of those that are there
pub held_entry : (bytes x : List ℕ) (at first end i : ℕ) → first ≤ i → i < end → EntriesStand bytes x at first end
    → take 108 (drop (108 * (i - first)) bytes) ≡ take 108 (drop (at + 108 * i) x)
held_entry bytes x at first end i from to stand =
    let d = 108 * (i - first) in
    let n = 108 * (end - first) in
    let y = drop (at + 108 * first) x in
    let within : 108 * (i - first) + 108 ≤ 108 * (end - first) = omega arith in
    let same : at + 108 * first + 108 * (i - first) ≡ at + 108 * i = omega arith in
    sym (inner_part d n bytes within)
    ∙ ap (λ (l : List ℕ). take 108 (drop d l)) stand
    ∙ inner_part d n y within
    ∙ ap (take 108) (drop-drop d (at + 108 * first) x ∙ ap (λ (j : ℕ). drop j x) same)

-- a table with an entry is there
pub table_there : (h : Header) (n i : ℕ) → HasWholeTable h → beyond (places_of h) n ≡ None → i < fragment_count h
    → table_at h + 108 * fragment_count h ≤ n
table_there h n i whole there lt =
    let last = fragment_count h - 1 in
    let k : last < fragment_count h = omega arith in
    let e = entry_there h n last whole there k in
    omega (arith, e, k)
