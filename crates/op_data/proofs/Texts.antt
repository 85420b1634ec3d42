-- A text in form, as a block.
use Rattle.std.proofs.Common.{◌≡◌, ◌≤◌, ◌<◌, ℕ, true, List, [], ◌∷◌, length, arith}
use Rattle.std.specs.List.{list_all}
use Rattle.std.proofs.lemmas.Bool.Decides.{nat_tests}
use Rattle.base_words.specs.Fields.{IsBytes, IsWholeBlock}
use Rattle.base_words.specs.Tables.{zeros}
use Rattle.vol_parts.proofs.Bytes.{bytes-none, bytes-cons}
use Rattle.vol_parts.proofs.WholeFields.{whole_zeros, whole_put}
use Rattle.plain_cat.specs.InForm.{is_within, is_text_char, is_text}
use Rattle.plain_rules.specs.Changes.{text_block}
use Rattle.op_data.proofs.Channel.{both_hold}

-- it has at most 16 bytes
pub text_few : (text : List ℕ) → is_text text ≡ true → length text ≤ 16
text_few text e = let one = (both_hold (is_within 1 16 (length text)) (list_all is_text_char text) e).0 in grind (arith, nat_tests)

small_char : (c : ℕ) → is_text_char c ≡ true → c < 256
small_char c e = grind (arith, nat_tests)

text_bytes : (text : List ℕ) → list_all is_text_char text ≡ true → IsBytes text
text_bytes [] e = bytes-none
text_bytes (c ∷ cs) e =
    let both = both_hold (is_text_char c) (list_all is_text_char cs) e in
    bytes-cons c cs (small_char c both.0) (text_bytes cs both.1)

pub whole_text : (text : List ℕ) → is_text text ≡ true → IsWholeBlock (text_block text)
whole_text text e =
    let few = text_few text e in
    whole_put zeros 0 text whole_zeros (text_bytes text (both_hold (is_within 1 16 (length text)) (list_all is_text_char text) e).1) (omega arith)
