-- Which blocks are given, part by part.
use Rattle.std.proofs.Common.{arith, ◌≡◌, ℕ, zero, suc, ◌+◌, ◌-◌, ◌<◌, ◌≤◌, List, [], ◌∷◌, length, take, drop, get_or}
use Rattle.std.proofs.Common.{replicate, inl, inr, Bool, true, false, Option, Some, None, refl, sym, ◌∙◌, ap, subst}
use Rattle.std.specs.Prelude.{◌&&◌, nat_lt, if◌then◌else◌}
use Rattle.std.specs.List.{AllByRecursion}
use Rattle.std.proofs.lemmas.Bool.{cases_Bool, cases_lt, and_parts, lt-ltb, false≢true, ltb-true, ltb-false}
use Rattle.std.proofs.lemmas.List.{get_or-replicate, get_or_past, get_or-take, get_or-drop}
use Rattle.std.proofs.lemmas.List.{length-take-le, length-drop, length-replicate}
use Rattle.abt_sparse.specs.Block.{Block, Raw, Fill, Skip}
use Rattle.abt_sparse.specs.Chunk.{Header, Chunk, classed}
use Rattle.abt_sparse.specs.Reading.{Outcome, Image, Fault, outcome}
use Rattle.abt_sparse.specs.Fails.{Spells}
use Rattle.abt_sparse.proofs.Exactly.{spelled_is}
use Rattle.abt_runs.specs.Part.{AllOf, IsRaw}
use Rattle.abt_runs.specs.Sparse.{blocks_in, sparse_list}
use Rattle.abt_runs.specs.declared.part.RunKind.{RunKind}
use Rattle.abt_runs.specs.declared.part.RunKind.TheVariants as kinds
use Rattle.cmd_expand.specs.declared.cut_of.CutPiece.{CutPiece}
use Rattle.cmd_expand.specs.declared.cut_of.Span.{Span}
use Rattle.cmd_expand.specs.CutOf.{IsSpanOf, Said, Spans, TellsPiece, SaidBelow, first_found, gives_kind}
use Rattle.cmd_expand.specs.CutOf.{span_with}
use Rattle.cmd_expand.specs.Overlaying.{GivesBlock, IsBlockGiven}

-- ---- the same numbers, said otherwise

spans_alike : (s : Span) (P Q : ℕ → Type 0) → ((n : ℕ) → P n → Q n) → ((n : ℕ) → Q n → P n) → Spans s P → Spans s Q
spans_alike s P Q to from is = record {
  first = to s.first is.first;
  last = is.last;
  past = is.past;
  is_last = to is.last is.is_last;
  all = λ n q. is.all n (from n q);
}

pub span_alike : (o : Option Span) (P Q : ℕ → Type 0) → ((n : ℕ) → P n → Q n) → ((n : ℕ) → Q n → P n) → IsSpanOf o P
    → IsSpanOf o Q
span_alike None P Q to from is = λ n q. is n (from n q)
span_alike (Some s) P Q to from is = spans_alike s P Q to from is

pub piece_alike : (o : Option CutPiece) (path : List ℕ) (P Q : ℕ → Type 0) → ((n : ℕ) → P n → Q n)
    → ((n : ℕ) → Q n → P n) → TellsPiece o path P → TellsPiece o path Q
piece_alike None path P Q to from is = λ front number at n q. is front number at n (from n q)
piece_alike (Some p) path P Q to from is = (is.0, spans_alike p.span P Q to from is.1)

-- ---- the blocks of a part

raw_given : (xs : List Block) (j : ℕ) → AllByRecursion IsRaw xs → j < length xs → IsBlockGiven (get_or xs j Skip)
raw_given [] j all below = absurd (omega (arith, below))
raw_given (Raw x ∷ xs) zero all below = tt
raw_given (Raw x ∷ xs) (suc j) all below = raw_given xs j all.1 (omega (arith, below))
raw_given (Fill x ∷ xs) j all below = absurd all.0
raw_given (Skip ∷ xs) j all below = absurd all.0

part_given : (k : RunKind) (xs : List Block) (j : ℕ) → gives_kind k ≡ true → AllOf k xs → j < length xs
    → IsBlockGiven (get_or xs j Skip)
part_given kinds.Raw xs j gives all below = raw_given xs j all below
part_given (kinds.Fill w) xs j gives all below =
    subst (λ l. IsBlockGiven (get_or l j Skip)) (sym all)
    (subst IsBlockGiven (sym (get_or-replicate (length xs) j (Fill w) Skip below)) tt)
part_given kinds.Skip xs j gives all below = absurd (false≢true gives)
part_given kinds.End xs j gives all below = absurd (false≢true gives)

skips_given : (n j : ℕ) → ¬ IsBlockGiven (get_or (replicate n Skip) j Skip)
skips_given n j is = elim (cases_lt j n) [
  | inl below ↦ subst IsBlockGiven (get_or-replicate n j Skip Skip below) is
  | inr past ↦
      let long : length (replicate n Skip) ≡ n = length-replicate n Skip in
      subst IsBlockGiven (get_or_past (replicate n Skip) j Skip (omega (arith, long, past))) is
]

part_skipped : (k : RunKind) (xs : List Block) (j : ℕ) → gives_kind k ≡ false → AllOf k xs
    → ¬ IsBlockGiven (get_or xs j Skip)
part_skipped kinds.Raw xs j gives all is = false≢true (sym gives)
part_skipped (kinds.Fill w) xs j gives all is = false≢true (sym gives)
part_skipped kinds.Skip xs j gives all is =
    skips_given (length xs) j (subst (λ l. IsBlockGiven (get_or l j Skip)) all is)
part_skipped kinds.End xs j gives all is = subst (λ l. IsBlockGiven (get_or l j Skip)) all is

-- the same in the list of all blocks
behind_first : (l : List Block) (i m n : ℕ) → i ≤ n → n < i + m
    → get_or (take m (drop i l)) (n - i) Skip ≡ get_or l n Skip
behind_first l i m n over below =
    let within : n - i < m = omega (arith, over, below) in
    let there : i + (n - i) ≡ n = omega (arith, over) in
    get_or-take m (drop i l) (n - i) Skip within ∙ get_or-drop i l (n - i) Skip ∙ ap (λ j. get_or l j Skip) there

new_given : (k : RunKind) (l : List Block) (i m n : ℕ) → gives_kind k ≡ true → AllOf k (take m (drop i l))
    → i + m ≤ length l → i ≤ n → n < i + m → Said l n
new_given k l i m n gives all fits over below =
    let left : length (drop i l) ≡ length l - i = length-drop i l in
    let long : length (take m (drop i l)) ≡ m = length-take-le m (drop i l) (omega (arith, left, fits)) in
    subst IsBlockGiven (behind_first l i m n over below)
    (part_given k (take m (drop i l)) (n - i) gives all (omega (arith, long, over, below)))

new_skipped : (k : RunKind) (l : List Block) (i m n : ℕ) → gives_kind k ≡ false → AllOf k (take m (drop i l)) → i ≤ n
    → n < i + m → ¬ Said l n
new_skipped k l i m n gives all over below is =
    part_skipped k (take m (drop i l)) (n - i) gives all
    (subst IsBlockGiven (sym (behind_first l i m n over below)) is)

-- ---- one part more

grown : (found : Option Span) (l : List Block) (i p : ℕ) → i < p → ((n : ℕ) → i ≤ n → n < p → Said l n)
    → IsSpanOf found (SaidBelow l i) → Spans (record { first = first_found found i; past = p }) (SaidBelow l p)
grown None l i p some given is = record {
  first = (some, given i (omega arith) some);
  last = p - 1;
  past = omega (arith, some);
  is_last = (omega (arith, some), given (p - 1) (omega (arith, some)) (omega (arith, some)));
  all = λ n so. elim (cases_lt n i) [
    | inl below ↦ absurd (is n (below, so.1))
    | inr over ↦ (over, so.0)
  ];
}
grown (Some s) l i p some given is = record {
  first = (let low : s.first < i = is.first.0 in omega (arith, low, some), is.first.1);
  last = p - 1;
  past = omega (arith, some);
  is_last = (omega (arith, some), given (p - 1) (omega (arith, some)) (omega (arith, some)));
  all = λ n so. elim (cases_lt n i) [
    | inl below ↦ ((is.all n (below, so.1)).0, so.0)
    | inr over ↦ (let low : s.first < i = is.first.0 in omega (arith, low, over), so.0)
  ];
}

kept_so : (found : Option Span) (l : List Block) (i p : ℕ) → i ≤ p → ((n : ℕ) → i ≤ n → n < p → ¬ Said l n)
    → IsSpanOf found (SaidBelow l i) → IsSpanOf found (SaidBelow l p)
kept_so found l i p on skipped is =
    span_alike found (SaidBelow l i) (SaidBelow l p)
    (λ n so. (let low : n < i = so.0 in omega (arith, low, on), so.1))
    (λ n so. elim (cases_lt n i) [
      | inl below ↦ (below, so.1)
      | inr over ↦ absurd (skipped n over so.0 so.1)
    ]) is

with_if : (b : Bool) (found : Option Span) (k : RunKind) (l : List Block) (i m : ℕ)
    → (gives_kind k && nat_lt i (i + m)) ≡ b → i + m ≤ length l → AllOf k (take m (drop i l))
    → IsSpanOf found (SaidBelow l i)
    → IsSpanOf (if b then Some (record { first = first_found found i; past = i + m }) else found) (SaidBelow l (i + m))
with_if true found k l i m e fits all is =
    let both = and_parts (gives_kind k) (nat_lt i (i + m)) e in
    grown found l i (i + m) (ltb-true i (i + m) both.1)
    (λ n over below. new_given k l i m n both.0 all fits over below) is
with_if false found k l i m e fits all is = elim (cases_Bool (gives_kind k)) [
  | inl gives ↦
      let none : nat_lt i (i + m) ≡ false = ap (λ t. t && nat_lt i (i + m)) (sym gives) ∙ e in
      let past : i + m ≤ i = ltb-false i (i + m) none in
      kept_so found l i (i + m) (omega arith) (λ n over below _. omega (arith, past, over, below)) is
  | inr skips ↦
      kept_so found l i (i + m) (omega arith) (λ n over below so. new_skipped k l i m n skips all over below so) is
]

pub span_more : (o found : Option Span) (k : RunKind) (l : List Block) (i m p : ℕ) → o ≡ span_with found k i p
    → p ≡ i + m → i + m ≤ length l → AllOf k (take m (drop i l)) → IsSpanOf found (SaidBelow l i)
    → IsSpanOf o (SaidBelow l p)
span_more o found k l i m p told e fits all is =
    subst (λ f. IsSpanOf f (SaidBelow l p)) (sym told)
    (subst (λ q. IsSpanOf (span_with found k i q) (SaidBelow l q)) (sym e)
    (with_if (gives_kind k && nat_lt i (i + m)) found k l i m refl fits all is))

pub span_all : (found : Option Span) (l : List Block) (i : ℕ) → i ≡ length l → IsSpanOf found (SaidBelow l i)
    → IsSpanOf found (Said l)
span_all found l i end is =
    span_alike found (SaidBelow l i) (Said l) (λ n so. so.1)
    (λ n so. elim (cases_lt n i) [
      | inl below ↦ (below, so)
      | inr past ↦ absurd (subst IsBlockGiven (get_or_past l n Skip (omega (arith, past, end))) so)
    ]) is

-- ---- the blocks that an image gives

pub said_gives : (x : List ℕ) (h : Header) (cs : List Chunk) (rest : List ℕ) (n : ℕ) → Spells x h cs rest
    → Said (sparse_list x) n → GivesBlock x n
said_gives x h cs rest n spelled so = record {
  header = h;
  chunks = cs;
  rest = rest;
  spelled = spelled;
  given = subst (λ o. IsBlockGiven (get_or (blocks_in o) n Skip)) (spelled_is x h cs rest spelled) so;
}

pub gives_said : (x : List ℕ) (n : ℕ) → GivesBlock x n → Said (sparse_list x) n
gives_said x n is =
    subst (λ o. IsBlockGiven (get_or (blocks_in o) n Skip)) (sym (spelled_is x is.header is.chunks is.rest is.spelled))
    is.given
