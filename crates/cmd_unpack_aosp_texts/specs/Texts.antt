-- The texts of an image that unpack_bootimg prints: the values of its header, and the arguments that make it again.
use Rattle.std.specs.Prelude.{ℕ, zero, suc, List, [], ◌∷◌, ◌++◌}
use Rattle.abt_headers.specs.declared.entry.RamdiskEntry.{RamdiskEntry}
use Rattle.abt_sections.specs.Header.{Header, OfBoot, OfVendor, entry_of, fragment_count}
use Rattle.cmd_unpack_aosp_texts.specs.Info as info
use Rattle.cmd_unpack_aosp_texts.specs.Words as words
use Rattle.cmd_unpack_aosp_texts.specs.declared.options.Ending.{Ending}
use Rattle.cmd_unpack_aosp_texts.specs.declared.text.AospText.{AospText}
use Rattle.cmd_unpack_aosp_texts.specs.declared.text.AospText.TheVariants as kinds

-- before the fragments
abbrev pub front_text : AospText → List ℕ → Header → List ℕ
front_text kinds.Info folder (OfBoot h) = info.boot_rows h
front_text kinds.Info folder (OfVendor v) = info.vendor_rows v
front_text (kinds.Words e) folder (OfBoot h) = words.boot_words e folder h
front_text (kinds.Words e) folder (OfVendor v) = words.vendor_words e folder v

-- after them
abbrev pub end_text : AospText → Header → List ℕ
end_text kinds.Info (OfBoot h) = []
end_text kinds.Info (OfVendor v) = info.vendor_last v
end_text (kinds.Words e) h = words.behind_words e

-- ---- fragments

-- number k of a board id
abbrev pub board_number_text : AospText → ℕ → ℕ → List ℕ
board_number_text kinds.Info k n = info.board_cell k n
board_number_text (kinds.Words e) k n = words.board_id_word e k n

-- the numbers from number k on
abbrev pub board_text : AospText → ℕ → List ℕ → List ℕ
board_text which k [] = []
board_text which k (n ∷ ns) = board_number_text which k n ++ board_text which (suc k) ns

-- fragment i with this entry
abbrev pub info_entry : ℕ → RamdiskEntry → List ℕ
info_entry i e = info.entry_rows i e ++ (board_text kinds.Info 0 e.board_id ++ info.entry_end)

abbrev pub words_entry : Ending → List ℕ → ℕ → RamdiskEntry → List ℕ
words_entry ending folder i e = words.entry_options ending e
    ++ (board_text (kinds.Words ending) 0 e.board_id ++ words.entry_file ending folder i)

abbrev pub fragment_part : AospText → List ℕ → ℕ → RamdiskEntry → List ℕ
fragment_part kinds.Info folder i e = info_entry i e
fragment_part (kinds.Words ending) folder i e = words_entry ending folder i e

-- the first k fragments of the image x
abbrev pub fragment_texts : AospText → List ℕ → List ℕ → Header → ℕ → List ℕ
fragment_texts which folder x h zero = []
fragment_texts which folder x h (suc k) =
    fragment_texts which folder x h k ++ fragment_part which folder k (entry_of x h k)

-- ---- all of it

abbrev pub aosp_text : AospText → List ℕ → List ℕ → Header → List ℕ
aosp_text which folder x h =
    front_text which folder h ++ (fragment_texts which folder x h (fragment_count h) ++ end_text which h)
