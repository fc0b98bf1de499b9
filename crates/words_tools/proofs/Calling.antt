-- The tool whose name ends a path, and words that call none.
use Rattle.std.proofs.Common.{arith, ◌≡◌, ◌≢◌, ◌<◌, ◌∙◌, ℕ, List, [], ◌∷◌, ◌++◌, inl, inr, sym, ap, subst, get_or}
use Rattle.std.proofs.Common.{append_assoc, ⊎_elim}
use Rattle.std.specs.Prelude.{◌↔◌}
use Rattle.std.proofs.lemmas.List.{append_cancel_right}
use Rattle.words_tools.specs.declared.tools.Tool.{Tool}
use Rattle.words_tools.specs.declared.tools.Tool.TheVariants as tools
use Rattle.words_tools.specs.Tools.{CallsNone, IsBehindAs, IsCalled, IsFolder, IsLastPart, tool_name}

-- a path with this end has the name for its last part if what is before it is a folder, or nothing
pub last_is_behind : (name path front : List ℕ) → path ≡ front ++ name → IsFolder front ↔ IsLastPart name path
last_is_behind name path front is = (
  λ there. ⊎_elim (λ none. inl (is ∙ ap (λ l. l ++ name) none))
      (λ folder. inr (folder.0, is ∙ ap (λ l. l ++ name) folder.1 ∙ append_assoc folder.0 (47 ∷ []) name)) there,
  λ last. ⊎_elim (λ whole. inl (append_cancel_right front [] name (sym is ∙ whole)))
      (λ folder. inr (
        folder.0,
        append_cancel_right front (folder.0 ++ (47 ∷ [])) name
            (sym is ∙ folder.1 ∙ sym (append_assoc folder.0 (47 ∷ []) name)),
      )) last,
)

-- a path without this end has another last part
pub other_end : (name path : List ℕ) → ((front : List ℕ) → path ≢ front ++ name) → IsLastPart name path → ⊥
other_end name path not last =
    ⊎_elim (λ whole. not [] whole) (λ folder. not (folder.0 ++ (47 ∷ []))
    (folder.1 ∙ sym (append_assoc folder.0 (47 ∷ []) name))) last

-- ---- words that call no tool

pub not_behind : (words : List (List ℕ)) → CallsNone (get_or words 0 [])
    → ((own : List (List ℕ)) → IsBehindAs words own → ⊥) → (tool : Tool) (own : List (List ℕ))
    → IsCalled words tool own → ⊥
not_behind words none not tool own called =
    ⊎_elim (λ same. none tool (subst (λ l. IsLastPart (tool_name tool) (get_or l 0 [])) same called.name))
    (λ behind. not own behind.0) called.behind

-- ---- all tools

abbrev pub all_tools : List Tool
all_tools =
    tools.Simg2img ∷ tools.Img2simg ∷ tools.Mkbootimg ∷ tools.Simg2simg ∷ tools.UnpackBootimg ∷ tools.Append2simg
    ∷ tools.SimgDump ∷ []

-- a path whose last part is the name of none of these calls none
pub none_of_all : (path : List ℕ)
    → ((k : ℕ) (d : Tool) → k < 7 → IsLastPart (tool_name (get_or all_tools k d)) path → ⊥) → CallsNone path
none_of_all path each tools.Simg2img = each 0 tools.Simg2img (omega arith)
none_of_all path each tools.Img2simg = each 1 tools.Simg2img (omega arith)
none_of_all path each tools.Mkbootimg = each 2 tools.Simg2img (omega arith)
none_of_all path each tools.Simg2simg = each 3 tools.Simg2img (omega arith)
none_of_all path each tools.UnpackBootimg = each 4 tools.Simg2img (omega arith)
none_of_all path each tools.Append2simg = each 5 tools.Simg2img (omega arith)
none_of_all path each tools.SimgDump = each 6 tools.Simg2img (omega arith)
