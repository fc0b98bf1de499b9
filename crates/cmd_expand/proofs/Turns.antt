-- Which images are reported as images of another cut.
use Rattle.std.proofs.Common.{inl, inr, arith, ◌⊎◌, ◌≡◌, ℕ, ◌+◌, ◌<◌, ◌≤◌, List, [], ◌∷◌, ◌++◌, map, Bool, true, false}
use Rattle.std.proofs.Common.{Option, Some, None, refl, sym, ◌∙◌, ap, subst}
use Rattle.std.specs.Prelude.{Contains, bytes_eq, ◌&&◌, ◌||◌, nat_lt}
use Rattle.std.specs.List.{list_any}
use Rattle.std.proofs.lemmas.Bool.{and_parts, or_cases, or_parts, ltb-true, lt-ltb, false≢true}
use Rattle.std.proofs.Math.Bool.{or-true}
use Rattle.std.proofs.lemmas.List.Elements.{Contains-append_cases, Contains-append_left, Contains-append_right}
use Rattle.std.proofs.lemmas.List.Elements.{Contains-push, Contains-push_cases}
use Rattle.abt_sparse.proofs.RunLaws.{bytes_same, same_bytes}
use Rattle.sys_disk.specs.World.{World}
use Rattle.cmd_expand.specs.declared.cut_of.CutPiece.{CutPiece}
use Rattle.cmd_expand.specs.CutOf.{TellsPiece, TellsPieces, is_of_other_cut, is_turned}
use Rattle.cmd_expand.specs.Overlaying.{AreInTurn, AreOutOfTurn, FileGives, IsPieceAt}
use Rattle.cmd_expand.proofs.CutNames.{one_name}

abbrev pub Tells : World → Option CutPiece → List ℕ → Type 0
Tells w piece path = TellsPiece piece path (FileGives w path)

-- either way round
abbrev pub OneIsTurned : World → List ℕ → List ℕ → Type 0
OneIsTurned w path other = AreOutOfTurn w path other ⊎ AreOutOfTurn w other path

-- ---- two images

turned_so : (w : World) (first second : CutPiece) (p q : List ℕ) → Tells w (Some first) p → Tells w (Some second) q
    → first.front.now ≡ second.front.now → is_turned first second ≡ true → AreOutOfTurn w p q
turned_so w first second p q one two same is =
    let both = and_parts (nat_lt first.number second.number) (nat_lt second.span.first first.span.past) is in
    let less : first.number < second.number = ltb-true first.number second.number both.0 in
    let low : second.span.first < first.span.past = ltb-true second.span.first first.span.past both.1 in
    let past : first.span.past ≡ one.1.last + 1 = one.1.past in
    record {
      front = first.front.now;
      number = first.number;
      next_number = second.number;
      piece = one.0;
      next_piece = subst (λ f. IsPieceAt f second.number q) (sym same) two.0;
      less = less;
      block = one.1.last;
      next_block = second.span.first;
      gives = one.1.is_last;
      next_gives = two.1.first;
      turned = omega (arith, low, past);
    }

pub turned : (w : World) (own other : Option CutPiece) (p q : List ℕ) → Tells w own p → Tells w other q
    → is_of_other_cut own other ≡ true → OneIsTurned w p q
turned w None other p q one two is = absurd (false≢true is)
turned w (Some own) None p q one two is = absurd (false≢true is)
turned w (Some own) (Some other) p q one two is =
    let both = and_parts (bytes_eq own.front.now other.front.now) (is_turned own other || is_turned other own) is in
    let same : own.front.now ≡ other.front.now = same_bytes own.front.now other.front.now both.0 in
    elim (or_cases (is_turned own other) (is_turned other own) both.1) [
      | inl first ↦ inl (turned_so w own other p q one two same first)
      | inr second ↦ inr (turned_so w other own q p two one (sym same) second)
    ]

-- and the other way round
out_so : (w : World) (first second : CutPiece) (p q : List ℕ) → Tells w (Some first) p → Tells w (Some second) q
    → AreOutOfTurn w p q → (first.front.now ≡ second.front.now) × (is_turned first second ≡ true)
out_so w first second p q one two out =
    let a = one_name first.front.now out.front p first.number out.number one.0 out.piece in
    let b = one_name second.front.now out.front q second.number out.next_number two.0 out.next_piece in
    let c = one.1.all out.block out.gives in
    let d = two.1.all out.next_block out.next_gives in
    let less : first.number < second.number = let l = out.less in omega (arith, l, a.1, b.1) in
    let low : second.span.first < first.span.past = let t = out.turned in omega (arith, t, c, d) in (
      a.0 ∙ sym b.0,
      ap (λ t. t && nat_lt second.span.first first.span.past) (lt-ltb first.number second.number less)
          ∙ lt-ltb second.span.first first.span.past low,
    )

both_ways : (own other : CutPiece) (s t : Bool) → own.front.now ≡ other.front.now → is_turned own other ≡ s
    → is_turned other own ≡ t → (s || t) ≡ true → is_of_other_cut (Some own) (Some other) ≡ true
both_ways own other s t same is is' one =
    ap (λ b. b && (is_turned own other || is_turned other own))
    (ap (λ f. bytes_eq own.front.now f) (sym same) ∙ bytes_same own.front.now)
    ∙ ap (λ b. b || is_turned other own) is ∙ ap (λ b. s || b) is' ∙ one

pub not_turned : (w : World) (own other : Option CutPiece) (p q : List ℕ) → Tells w own p → Tells w other q
    → is_of_other_cut own other ≡ false → ¬ OneIsTurned w p q
not_turned w None other p q one two is (inl out) = one out.front out.number out.piece out.block out.gives
not_turned w None other p q one two is (inr out) =
    one out.front out.next_number out.next_piece out.next_block out.next_gives
not_turned w (Some own) None p q one two is (inl out) =
    two out.front out.next_number out.next_piece out.next_block out.next_gives
not_turned w (Some own) None p q one two is (inr out) = two out.front out.number out.piece out.block out.gives
not_turned w (Some own) (Some other) p q one two is (inl out) =
    let so = out_so w own other p q one two out in
    false≢true (sym is ∙ both_ways own other true (is_turned other own) so.0 so.1 refl refl)
not_turned w (Some own) (Some other) p q one two is (inr out) =
    let so = out_so w other own q p two one out in
    let some = or-true (is_turned own other) in
    false≢true (sym is ∙ both_ways own other (is_turned own other) true (sym so.0) refl so.1 some)

-- ---- among those before

pub any_map : {X Y : Type 0} (p : Y → Bool) (f : X → Y) (xs : List X)
    → list_any p (map f xs) ≡ list_any (λ x. p (f x)) xs
any_map p f [] = refl
any_map p f (x ∷ xs) = ap (λ b. p (f x) || b) (any_map p f xs)

in_front : {X : Type 0} (x : X) (xs : List X) → Contains (x ∷ xs) x
in_front x xs = Contains-append_left (x ∷ []) xs x (Contains-push [] x)

pub among_turned : (w : World) (own : Option CutPiece) (path : List ℕ) (pieces : List (Option CutPiece))
    (paths : List (List ℕ)) → Tells w own path → TellsPieces w pieces paths
    → list_any (is_of_other_cut own) pieces ≡ true → (other : List ℕ) × Contains paths other × OneIsTurned w path other
among_turned w own path [] paths models all is = absurd (false≢true is)
among_turned w own path (o ∷ os) [] models all is = absurd all
among_turned w own path (o ∷ os) (p ∷ ps) models all is =
    elim (or_cases (is_of_other_cut own o) (list_any (is_of_other_cut own) os) is) [
      | inl here ↦ (p, in_front p ps, turned w own o path p models all.0 here)
      | inr there ↦
          let rest = among_turned w own path os ps models all.1 there in
          (rest.0, Contains-append_right (p ∷ []) ps rest.0 rest.1, rest.2)
    ]

pub among_apart : (w : World) (own : Option CutPiece) (path : List ℕ) (pieces : List (Option CutPiece))
    (paths : List (List ℕ)) (other : List ℕ) → Tells w own path → TellsPieces w pieces paths
    → list_any (is_of_other_cut own) pieces ≡ false → Contains paths other → ¬ OneIsTurned w path other
among_apart w own path [] [] other models all is among out = let low = among.1 in omega (arith, low)
among_apart w own path [] (p ∷ ps) other models all is among out = all
among_apart w own path (o ∷ os) [] other models all is among out = all
among_apart w own path (o ∷ os) (p ∷ ps) other models all is among out =
    let none = or_parts (is_of_other_cut own o) (list_any (is_of_other_cut own) os) is in
    elim (Contains-append_cases (p ∷ []) ps other among) [
      | inl here ↦ elim (Contains-push_cases [] p other here) [
        | inl never ↦ (let low = never.1 in omega (arith, low))
        | inr same ↦
            not_turned w own o path p models all.0 none.0 (subst (λ q. OneIsTurned w path q) (sym same) out)
      ]
      | inr there ↦ among_apart w own path os ps other models all.1 none.1 there out
    ]

-- ---- one image more

pub told_more : (w : World) (pieces : List (Option CutPiece)) (paths : List (List ℕ)) (own : Option CutPiece)
    (path : List ℕ) → TellsPieces w pieces paths → Tells w own path
    → TellsPieces w (pieces ++ (own ∷ [])) (paths ++ (path ∷ []))
told_more w [] [] own path all is = (is, tt)
told_more w [] (p ∷ ps) own path all is = absurd all
told_more w (o ∷ os) [] own path all is = absurd all
told_more w (o ∷ os) (p ∷ ps) own path all is = (all.0, told_more w os ps own path all.1 is)

-- the same path is no other
same_path : (w : World) (path : List ℕ) → ¬ AreOutOfTurn w path path
same_path w path out =
    let same = one_name out.front out.front path out.number out.next_number out.piece out.next_piece in
    let less = out.less in
    omega (arith, less, same.1)

pub turn_more : (w : World) (paths : List (List ℕ)) (path : List ℕ) → AreInTurn paths w
    → ((other : List ℕ) → Contains paths other → ¬ OneIsTurned w path other) → AreInTurn (paths ++ (path ∷ [])) w
turn_more w paths path all apart p q first second out = elim (Contains-push_cases paths path p first) [
  | inl p_in ↦ elim (Contains-push_cases paths path q second) [
    | inl q_in ↦ all p q p_in q_in out
    | inr q_is ↦ apart p p_in (inr (subst (λ z. AreOutOfTurn w p z) (sym q_is) out))
  ]
  | inr p_is ↦ elim (Contains-push_cases paths path q second) [
    | inl q_in ↦ apart q q_in (inl (subst (λ z. AreOutOfTurn w z q) (sym p_is) out))
    | inr q_is ↦ same_path w path (subst (λ z. AreOutOfTurn w path z) (sym q_is)
        (subst (λ z. AreOutOfTurn w z q) (sym p_is) out))
  ]
]

pub turn_none : (w : World) → AreInTurn [] w
turn_none w p q first second out = let low = first.1 in omega (arith, low)
