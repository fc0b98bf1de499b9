use Rattle.std.proofs.Common.{[], ◌∷◌, codes, sym, ap}
use Rattle.abt_headers.specs.Boot.{boot_page, boot_version}
use Rattle.abt_headers.specs.Vendor.{vendor_page, vendor_version, vendor_view}
use Rattle.abt_sections.specs.Header.{view_of}
use Rattle.sys_text.proofs.Printing.{as_text}
use Rattle.cmd_common_texts.specs.Words.{flag_word, kind_words, number_word, words_text}
use Rattle.cmd_common_texts.proofs.WordLists.{more_words}
use Rattle.cmd_common_texts.proofs.packing_words.kind_words.Goals as goal

pub returns-in-Boot : goal.returns-in-Boot
returns-in-Boot g c =
    let h = c.in-Boot.header in
    let escaped = flag_word (codes "escaped") in
    let version = number_word (codes "version") (boot_version h) in
    let page = number_word (codes "page") (boot_page h) in
    as_text (ap (λ x. words_text (kind_words (view_of x))) (sym c.in-Boot.is))
    (more_words (escaped ∷ []) (version ∷ page ∷ []) c.put_flag_word.ensures
    (more_words (version ∷ []) (page ∷ [])
    (as_text (ap (λ n. words_text (number_word (codes "version") n ∷ [])) c.version.ensures) c.put_number_word.ensures)
    (as_text (ap (λ n. words_text (number_word (codes "page") n ∷ [])) c.page_size.ensures.value)
    c.put_number_word-in-Boot.ensures)))

pub returns-in-Vendor : goal.returns-in-Vendor
returns-in-Vendor g c =
    let h = vendor_view c.in-Vendor.header in
    let escaped = flag_word (codes "escaped") in
    let vendor = flag_word (codes "vendor") in
    let version = number_word (codes "version") (vendor_version h) in
    let page = number_word (codes "page") (vendor_page h) in
    as_text (ap (λ x. words_text (kind_words (view_of x))) (sym c.in-Vendor.is))
    (more_words (escaped ∷ []) (vendor ∷ version ∷ page ∷ []) c.put_flag_word.ensures
    (more_words (vendor ∷ []) (version ∷ page ∷ []) c.put_flag_word-in-Vendor.ensures
    (more_words (version ∷ []) (page ∷ [])
    (as_text (ap (λ n. words_text (number_word (codes "version") n ∷ [])) c.version-in-Vendor.ensures)
    c.put_number_word-in-Vendor.ensures)
    (as_text (ap (λ n. words_text (number_word (codes "page") n ∷ [])) c.page_size-in-Vendor.ensures.value)
    c.put_number_word-in-Vendor-2.ensures))))
