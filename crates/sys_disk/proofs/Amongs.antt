-- What one output after another leaves of files.
use Rattle.std.proofs.Common.{◌≡◌, ◌⊎◌, inl, inr, ℕ, Bool, List, [], ◌∷◌, Some, None, refl, sym, ◌∙◌, ap, subst, arith}
use Rattle.std.specs.Prelude.{Contains}
use Rattle.std.proofs.lemmas.Bool.{cases_eq}
use Rattle.std.proofs.lemmas.List.Elements.{Contains-append_left, Contains-append_right, Contains-append_cases}
use Rattle.std.proofs.lemmas.List.Elements.{Contains-push, Contains-push_cases}
use Rattle.sys_disk.specs.Counts.{Counts}
use Rattle.sys_disk.specs.World.{World, OpenFiles, OpensFile, Creates, OnlyAt, untouched, in_output, Spares, Ends}
use Rattle.sys_disk.specs.World.{KeepsBegun, SparesRest, ended, counting}
use Rattle.sys_disk.proofs.Worlds.{spares_trans}
use Rattle.sys_disk.specs.Among.{FileHolds, IsAmong, OnlyAmong, GoesAmong, KeepsMade, IsMade}

-- ---- that nothing else was changed

pub goes_none : (P : List ℕ → Type 0) (h h' : OpenFiles) (a b : World) (n : Counts) → h' ≡ counting n h → b ≡ a
    → GoesAmong P h h' a b
goes_none P h h' a b n same_held same = record {
  read = ap (λ k. k.read) same_held;
  leads = λ p f there. subst (λ w. w.at p ≡ Some f) (sym same) there;
  files = λ f. inl (ap (λ w. w.holds f) same);
  opened = λ f listed. inl (subst (λ k. Contains k.begun f) same_held listed);
}

-- nothing at all
pub goes_still : (P : List ℕ → Type 0) (h : OpenFiles) (a : World) → GoesAmong P h h a a
goes_still P h a = record {
  read = refl;
  leads = λ p f there. there;
  files = λ f. inl refl;
  opened = λ f listed. inl listed;
}

among_later : (P : List ℕ → Type 0) (read : List ℕ) (b c : World) (f : ℕ)
    → ((p : List ℕ) (g : ℕ) → b.at p ≡ Some g → c.at p ≡ Some g) → IsAmong P read b f → IsAmong P read c f
among_later P read b c f leads there = record {
  path = there.path;
  is_named = there.is_named;
  there = leads there.path f there.there;
  free = there.free;
}

among_read : (P : List ℕ → Type 0) (read read' : List ℕ) (w : World) (f : ℕ) → read' ≡ read → IsAmong P read' w f
    → IsAmong P read w f
among_read P read read' w f same there = subst (λ r. IsAmong P r w f) same there

files_then : (P : List ℕ → Type 0) (h h' h'' : OpenFiles) (a b c : World) (f : ℕ) → GoesAmong P h h' a b
    → GoesAmong P h' h'' b c → (b.holds f ≡ a.holds f) ⊎ IsAmong P h.read b f
    → (c.holds f ≡ b.holds f) ⊎ IsAmong P h'.read c f → (c.holds f ≡ a.holds f) ⊎ IsAmong P h.read c f
files_then P h h' h'' a b c f first next before (inr now) = inr (among_read P h.read h'.read c f first.read now)
files_then P h h' h'' a b c f first next (inl same) (inl still) = inl (still ∙ same)
files_then P h h' h'' a b c f first next (inr before) (inl still) = inr (among_later P h.read b c f next.leads before)

opened_then : (P : List ℕ → Type 0) (h h' h'' : OpenFiles) (a b c : World) (f : ℕ) → GoesAmong P h h' a b
    → GoesAmong P h' h'' b c → Contains h'.begun f ⊎ IsAmong P h'.read c f → Contains h.begun f ⊎ IsAmong P h.read c f
opened_then P h h' h'' a b c f first next (inr now) = inr (among_read P h.read h'.read c f first.read now)
opened_then P h h' h'' a b c f first next (inl listed) = elim (first.opened f listed) [
  | inl before ↦ inl before
  | inr there ↦ inr (among_later P h.read b c f next.leads there)
]

pub goes_then : (P : List ℕ → Type 0) (h h' h'' : OpenFiles) (a b c : World) → GoesAmong P h h' a b
    → GoesAmong P h' h'' b c → GoesAmong P h h'' a c
goes_then P h h' h'' a b c first next = record {
  read = next.read ∙ first.read;
  leads = λ p f there. next.leads p f (first.leads p f there);
  files = λ f. files_then P h h' h'' a b c f first next (first.files f) (next.files f);
  opened = λ f listed. opened_then P h h' h'' a b c f first next (next.opened f listed);
}

-- ---- one file

one_among : (P : List ℕ → Type 0) (read path : List ℕ) (file : ℕ) (new : World) (f : ℕ) → P path
    → new.at path ≡ Some file → ¬ Contains read file → f ≡ file → IsAmong P read new f
one_among P read path file new f named there free same = record {
  path = path;
  is_named = named;
  there = there ∙ ap (λ g. Some g) (sym same);
  free = λ listed. free (subst (λ g. Contains read g) same listed);
}

file_or : (P : List ℕ → Type 0) (read path : List ℕ) (file : ℕ) (old new : World) (f : ℕ) → P path
    → new.at path ≡ Some file → ¬ Contains read file → Spares file old new → (f ≡ file) ⊎ (f ≡ file → ⊥)
    → (new.holds f ≡ old.holds f) ⊎ IsAmong P read new f
file_or P read path file old new f named there free spares (inr other) = inl (spares.files f other)
file_or P read path file old new f named there free spares (inl same) =
    inr (one_among P read path file new f named there free same)

-- of an opening that was refused
pub goes_refused : (P : List ℕ → Type 0) (path : List ℕ) (h h' : OpenFiles) (a b : World) (n : Counts) → P path
    → h' ≡ counting n h → OnlyAt h.read path a b → GoesAmong P h h' a b
goes_refused P path h h' a b n named same_held (untouched same) = goes_none P h h' a b n same_held same
goes_refused P path h h' a b n named same_held (in_output file there free spares) = record {
  read = ap (λ k. k.read) same_held;
  leads = spares.paths;
  files = λ f. file_or P h.read path file a b f named there free spares (cases_eq f file);
  opened = λ f listed. inl (subst (λ k. Contains k.begun f) same_held listed);
}

-- the output that was created is the one that is open
open_is : (path : List ℕ) (h h' : OpenFiles) (a b : World) (made : Creates path h h' a b) → h'.output ≡ Some made.file
open_is path h h' a b made = ap (λ k. k.output) made.begins

spared : (path : List ℕ) (h h' : OpenFiles) (a b c : World) (made : Creates path h h' a b) → SparesRest h'.output b c
    → Spares made.file b c
spared path h h' a b c made rest = subst (λ o. SparesRest o b c) (open_is path h h' a b made) rest

first_or : (file f : ℕ) (files : List ℕ) → Contains (file ∷ files) f → Contains files f ⊎ (f ≡ file)
first_or file f files listed = elim (Contains-append_cases (file ∷ []) files f listed) [
  | inl first ↦ elim (Contains-push_cases [] file f first) [
    | inl none ↦ inl (Contains-append_left [] files f none)
    | inr same ↦ inr (sym same)
  ]
  | inr rest ↦ inl rest
]

begun_now : (path : List ℕ) (h h' h'' : OpenFiles) (b : Bool) (n : Counts) (old new : World)
    (made : Creates path h h' old new)
    → h'' ≡ ended b n h' → h''.begun ≡ made.file ∷ h.begun
begun_now path h h' h'' b n old new made closed = ap (λ k. k.begun) closed ∙ ap (λ k. k.begun) made.begins

-- an output that was created, and then brought to its end or let go
pub goes_written : (P : List ℕ → Type 0) (path : List ℕ) (b : Bool) (n : Counts) (h h' h'' : OpenFiles) (u v w : World)
    → P path
    → Creates path h h' u v → h'' ≡ ended b n h' → SparesRest h'.output v w → GoesAmong P h h'' u w
goes_written P path b n h h' h'' u v w named made closed rest =
    let after = spared path h h' u v w made rest in
    let there = after.paths path made.file made.there in
    record {
      read = ap (λ k. k.read) closed ∙ ap (λ k. k.read) made.begins;
      leads = λ p f at. after.paths p f (made.spares.paths p f at);
      files = λ f. file_or P h.read path made.file u w f named there made.free
          (spares_trans made.file u v w made.spares after) (cases_eq f made.file);
      opened = λ f listed. elim (first_or made.file f h.begun
          (subst (λ l. Contains l f) (begun_now path h h' h'' b n u v made closed) listed)) [
            | inl before ↦ inl before
            | inr same ↦ inr (one_among P h.read path made.file w f named there made.free same)
          ];
    }

pub keeps_written : (path : List ℕ) (b : Bool) (n : Counts) (h h' h'' : OpenFiles) (u v w : World)
    → Creates path h h' u v → h'' ≡ ended b n h' → SparesRest h'.output v w → KeepsMade h h'' u w
keeps_written path b n h h' h'' u v w made closed rest =
    let after = spared path h h' u v w made rest in
    let both = spares_trans made.file u v w made.spares after in
    record {
      closed = ap (λ k. k.output) closed;
      leads = both.paths;
      holds = λ f listed. both.files f (λ same. made.fresh (subst (λ g. Contains h.begun g) same listed));
      listed = λ f listed. subst (λ l. Contains l f) (sym (begun_now path h h' h'' b n u v made closed))
          (Contains-append_right (made.file ∷ []) h.begun f listed);
    }

pub made_written : (path bytes : List ℕ) (b : Bool) (n : Counts) (h h' h'' : OpenFiles) (u v w : World)
    → Creates path h h' u v
    → h'' ≡ ended b n h' → Ends h'.output bytes v w → IsMade h'' w path bytes
made_written path bytes b n h h' h'' u v w made closed ends =
    let now : (w.holds made.file ≡ bytes) × Spares made.file v w =
    subst (λ o. Ends o bytes v w) (open_is path h h' u v made) ends in
    record {
      file = made.file;
      there = now.1.paths path made.file made.there;
      holds = now.0;
      listed = subst (λ l. Contains l made.file) (sym (begun_now path h h' h'' b n u v made closed))
          (Contains-append_left (made.file ∷ []) h.begun made.file (Contains-push [] made.file));
    }

-- ---- what is done stays done

pub keeps_none : (h h' : OpenFiles) (a b : World) (n : Counts) → h.output ≡ None → h' ≡ counting n h → b ≡ a
    → KeepsMade h h' a b
keeps_none h h' a b n closed same_held same = record {
  closed = ap (λ k. k.output) same_held ∙ closed;
  leads = λ p f there. subst (λ w. w.at p ≡ Some f) (sym same) there;
  holds = λ f listed. ap (λ w. w.holds f) same;
  listed = λ f listed. subst (λ k. Contains k.begun f) (sym same_held) listed;
}

leads_kept : (read path : List ℕ) (a b : World) → OnlyAt read path a b → (p : List ℕ) (f : ℕ) → a.at p ≡ Some f
    → b.at p ≡ Some f
leads_kept read path a b (untouched same) p f there = subst (λ w. w.at p ≡ Some f) (sym same) there
leads_kept read path a b (in_output file at free spares) p f there = spares.paths p f there

-- where an opening was refused
pub keeps_refused : (path : List ℕ) (h h' : OpenFiles) (a b : World) (n : Counts) → h.output ≡ None → h' ≡ counting n h
    → OnlyAt h.read path a b → KeepsBegun h.begun a b → KeepsMade h h' a b
keeps_refused path h h' a b n closed same_held only begun = record {
  closed = ap (λ k. k.output) same_held ∙ closed;
  leads = leads_kept h.read path a b only;
  holds = begun;
  listed = λ f listed. subst (λ k. Contains k.begun f) (sym same_held) listed;
}

pub keeps_then : (h h' h'' : OpenFiles) (a b c : World) → KeepsMade h h' a b → KeepsMade h' h'' b c
    → KeepsMade h h'' a c
keeps_then h h' h'' a b c first next = record {
  closed = next.closed;
  leads = λ p f there. next.leads p f (first.leads p f there);
  holds = λ f listed. next.holds f (first.listed f listed) ∙ first.holds f listed;
  listed = λ f listed. next.listed f (first.listed f listed);
}

pub made_later : (h h' : OpenFiles) (a b : World) (path bytes : List ℕ) → KeepsMade h h' a b → IsMade h a path bytes
    → IsMade h' b path bytes
made_later h h' a b path bytes kept done = record {
  file = done.file;
  there = kept.leads path done.file done.there;
  holds = kept.holds done.file done.listed ∙ done.holds;
  listed = kept.listed done.file done.listed;
}

pub stands : (h : OpenFiles) (world : World) (path bytes : List ℕ) → IsMade h world path bytes
    → FileHolds world path bytes
stands h world path bytes done = record {
  file = done.file;
  there = done.there;
  holds = done.holds;
}

-- ---- all of a run

none_listed : (f : ℕ) (begun : List ℕ) → begun ≡ [] → ¬ Contains begun f
none_listed f begun none listed =
    elim (Contains-append_cases [] [] f (subst (λ l. Contains l f) none listed)) [
      | inl h ↦ omega (arith, h.1)
      | inr h ↦ omega (arith, h.1)
    ]

-- behind a file that was opened to be read
pub among_behind : (P : List ℕ → Type 0) (path bytes : List ℕ) (h h' h'' : OpenFiles) (a b c : World) → h.begun ≡ []
    → OpensFile a path bytes h h' → b ≡ a → GoesAmong P h' h'' b c → OnlyAmong P h.read h''.begun a c
among_behind P path bytes h h' h'' a b c none opens same goes = record {
  leads = λ p f there. goes.leads p f (subst (λ w. w.at p ≡ Some f) (sym same) there);
  files = λ f. elim (goes.files f) [
    | inl still ↦ inl (still ∙ ap (λ w. w.holds f) same)
    | inr there ↦ inr (fewer f there)
  ];
  opened = λ f listed. elim (goes.opened f listed) [
    | inl before ↦ absurd (none_listed f h'.begun (ap (λ k. k.begun) opens.taken ∙ none) before)
    | inr there ↦ fewer f there
  ];
}
  where
    fewer : (f : ℕ) → IsAmong P h'.read c f → IsAmong P h.read c f
    fewer f there = record {
      path = there.path;
      is_named = there.is_named;
      there = there.there;
      free = λ listed. there.free (subst (λ k. Contains k.read f) (sym opens.taken)
          (Contains-append_left h.read (opens.file ∷ []) f listed));
    }

pub among_none : (P : List ℕ → Type 0) (h h' : OpenFiles) (a b : World) (n : Counts) → h.begun ≡ []
    → h' ≡ counting n h → b ≡ a → OnlyAmong P h.read h'.begun a b
among_none P h h' a b n none same_held same = record {
  leads = λ p f there. subst (λ w. w.at p ≡ Some f) (sym same) there;
  files = λ f. inl (ap (λ w. w.holds f) same);
  opened = λ f listed. absurd (none_listed f h'.begun (ap (λ k. k.begun) same_held ∙ none) listed);
}

-- the file that was opened holds what it held
pub kept_beside : (P : List ℕ → Type 0) (path bytes : List ℕ) (h h' h'' : OpenFiles) (a b c : World)
    (opens : OpensFile a path bytes h h') → b ≡ a → GoesAmong P h' h'' b c → c.holds opens.file ≡ a.holds opens.file
kept_beside P path bytes h h' h'' a b c opens same goes = elim (goes.files opens.file) [
  | inl still ↦ still ∙ ap (λ w. w.holds opens.file) same
  | inr there ↦ absurd (there.free (subst (λ k. Contains k.read opens.file) (sym opens.taken)
      (Contains-push h.read opens.file)))
]

-- ---- of fewer names

more_named : (P Q : List ℕ → Type 0) (read : List ℕ) (w : World) (f : ℕ) → ((p : List ℕ) → P p → Q p)
    → IsAmong P read w f → IsAmong Q read w f
more_named P Q read w f wider there = record {
  path = there.path;
  is_named = wider there.path there.is_named;
  there = there.there;
  free = there.free;
}

pub goes_more : (P Q : List ℕ → Type 0) (h h' : OpenFiles) (a b : World) → ((p : List ℕ) → P p → Q p)
    → GoesAmong P h h' a b → GoesAmong Q h h' a b
goes_more P Q h h' a b wider goes = record {
  read = goes.read;
  leads = goes.leads;
  files = λ f. elim (goes.files f) [
    | inl same ↦ inl same
    | inr there ↦ inr (more_named P Q h.read b f wider there)
  ];
  opened = λ f listed. elim (goes.opened f listed) [
    | inl before ↦ inl before
    | inr there ↦ inr (more_named P Q h.read b f wider there)
  ];
}
