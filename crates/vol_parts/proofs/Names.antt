-- Names are bytes.
use Rattle.std.proofs.Common.{◌≡◌, ◌+◌, ◌<◌, ◌==◌, Bool, true, false, ℕ, suc, List, [], ◌∷◌, drop, refl, sym, subst, arith, if◌then◌else◌}
use Rattle.std.specs.List.{list_all, prefix_len}
use Rattle.std.proofs.lemmas.Bool.{and_parts}
use Rattle.std.proofs.lemmas.Bool.Decides.{nat_tests}
use Rattle.base_words.specs.Fields.{IsBytes}
use Rattle.base_words.specs.Names.{is_character, is_part, is_tail, is_name}
use Rattle.fx_dir.proofs.Order.{eqb_eq}
use Rattle.vol_parts.proofs.Bytes.{bytes-none, bytes-cons}

character-small : (c : ℕ) → is_character c ≡ true → c < 256
unfolding is_character
character-small c h = grind (arith, nat_tests)

bytes-characters : (text : List ℕ) → list_all is_character text ≡ true → IsBytes text
bytes-characters [] h = bytes-none
bytes-characters (c ∷ text) h =
    let parts = and_parts (is_character c) (list_all is_character text) h in
    bytes-cons c text (character-small c parts.0) (bytes-characters text parts.1)

bytes-part : (text : List ℕ) → is_part text ≡ true → IsBytes text
unfolding is_part
bytes-part text h = bytes-characters text (and_parts _ _ h).1

bytes-tail : (text : List ℕ) → is_tail text ≡ true → IsBytes text
bytes-tail [] h = bytes-none
bytes-tail (c ∷ text) h =
    let parts = and_parts (c == 46) (is_part text) h in
    let dot = eqb_eq c 46 parts.0 in
    bytes-cons c text (omega arith) (bytes-part text parts.1)

-- the characters at the front of a text, and a dot and a part behind them
bytes-front : (text : List ℕ) → is_tail (drop (prefix_len is_character text) text) ≡ true → IsBytes text
bytes-front [] h = bytes-none
bytes-front (c ∷ text) h = step (is_character c) refl h (bytes-front text) where
  step : (q : Bool) → q ≡ is_character c → is_tail (drop (if q then 1 + prefix_len is_character text else 0) (c ∷ text)) ≡ true
      → (is_tail (drop (prefix_len is_character text) text) ≡ true → IsBytes text) → IsBytes (c ∷ text)
  step true e h ih =
      let n : 1 + prefix_len is_character text ≡ suc (prefix_len is_character text) = omega arith in
      bytes-cons c text (character-small c (sym e)) (ih (subst (λ (k : ℕ). is_tail (drop k (c ∷ text)) ≡ true) n h))
  step false e h ih = bytes-tail (c ∷ text) h

pub bytes-name : (text : List ℕ) → is_name text ≡ true → IsBytes text
unfolding is_name
bytes-name text h = bytes-front text (and_parts _ _ h).1
