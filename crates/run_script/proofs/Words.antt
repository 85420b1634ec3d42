-- The words of operands: what is written reads back, and what is read was written so.
use Rattle.std.proofs.Common.{◌≡◌, ◌∙◌, ◌+◌, ◌*◌, ◌/◌, ◌%◌, ◌<◌, ◌^◌, ◌++◌, ◌&&◌, ◌==◌, ℕ, true, false, List, [], ◌∷◌, Option, Some, None, length, get_or, refl, sym, ap, subst, cond, leb, arith, inl, inr, codes}
use Rattle.std.specs.Fmt.{decimal}
use Rattle.std.specs.Option.{option_and_then}
use Rattle.std.specs.Str.{bytes_eq}
use Rattle.std.proofs.lemmas.Option.{option_and_then_some}
use Rattle.std.proofs.lemmas.Bool.{and_parts, leb-true, le-leb, eqb-true}
use Rattle.std.proofs.lemmas.Slice.Eq.{bytes_eq-Decides}
use Rattle.base_words.specs.Names.{is_character, is_name}
use Rattle.plain_cat.specs.declared.ids.Fid.{Fid}
use Rattle.plain_cat.specs.declared.ids.Uic.{Uic}
use Rattle.plain_cat.specs.declared.mode.Mode.{Mode}
use Rattle.plain_cat.specs.declared.mode.Mode.TheVariants.{NL, CR, CW, PR, PW, EX}
use Rattle.plain_cat.specs.declared.script.FileRef.{FileRef}
use Rattle.plain_cat.specs.declared.script.FileRef.TheVariants.{Fixed, Reg}
use Rattle.plain_cat.specs.InForm.{is_within, is_eighth, is_fid, is_file_ref, is_owner, is_version, is_count, is_quota, is_open_mode, is_dir_name, is_text}
use Rattle.plain_texts.specs.Names.{octal, fid_text, uic_text, mode_text}
use Rattle.plain_cat.specs.Names.{text_of as entry_text}
use Rattle.plain_texts.specs.Commands.{register_text}
use Rattle.run_script.specs.Lines.{parts}
use Rattle.run_script.specs.Grammar.{IsRefText, lost_dir}
use Rattle.plain_cat.specs.Names.{main_dir}
use Rattle.run_script.specs.declared.operands.EntryText.{EntryText}
use Rattle.run_script.specs.Steps.{number_of, behind, closed_of, register_of, fid_of, named_ref, ref_of, entry_of, owner_of, mode_of, dir_name_of, text_of, count_of, channel_of, quota_of, with1, with2, part_of}
use Rattle.run_script.proofs.Numerals.{number-back, number-sound}
use Rattle.run_script.proofs.Pieces.{parts-none, parts-at, Lacks-append, joined, two_of, three_of, number_lacks, name_lacks, within, reads_back, reads_up_to, behind-sound, chosen, by_word, same_some, no_none, made1, made2}

-- registers
pub register-back : (reg : ℕ) → is_eighth reg ≡ true → register_of (register_text reg) ≡ Some reg
unfolding register_of
register-back reg h = reads_back 10 1 8 reg (inl refl) (omega arith) h

pub register-sound : (word : List ℕ) (reg : ℕ) → register_of word ≡ Some reg → (is_eighth reg ≡ true) × (word ≡ register_text reg)
unfolding register_of
register-sound word reg h = option_and_then_some (number_of 10 1 8) (behind 82 word) reg h (λ rest e n.
    let s = number-sound 10 1 8 rest reg n in
    (within 1 8 reg s.0 s.1, behind-sound 82 word rest e ∙ ap (λ l. 82 ∷ l) s.2))

-- counts, channels and quotas
pub count-back : (n : ℕ) → is_count n ≡ true → count_of (decimal n) ≡ Some n
count-back n h = reads_up_to 10 65536 n (inl refl) (omega arith) h

pub count-sound : (word : List ℕ) (n : ℕ) → count_of word ≡ Some n → (is_count n ≡ true) × (word ≡ decimal n)
count-sound word n h = let s = number-sound 10 0 65536 word n h in (le-leb n 65536 s.1, s.2)

pub some-back : (n : ℕ) → is_within 1 65536 n ≡ true → number_of 10 1 65536 (decimal n) ≡ Some n
some-back n h = reads_back 10 1 65536 n (inl refl) (omega arith) h

pub some-sound : (word : List ℕ) (n : ℕ) → number_of 10 1 65536 word ≡ Some n → (is_within 1 65536 n ≡ true) × (word ≡ decimal n)
some-sound word n h = let s = number-sound 10 1 65536 word n h in (within 1 65536 n s.0 s.1, s.2)

pub channel-back : (n : ℕ) → is_eighth n ≡ true → channel_of (decimal n) ≡ Some n
channel-back n h = reads_back 10 1 8 n (inl refl) (omega arith) h

pub channel-sound : (word : List ℕ) (n : ℕ) → channel_of word ≡ Some n → (is_eighth n ≡ true) × (word ≡ decimal n)
channel-sound word n h = let s = number-sound 10 1 8 word n h in (within 1 8 n s.0 s.1, s.2)

pub quota-back : (n : ℕ) → is_quota n ≡ true → quota_of (decimal n) ≡ Some n
quota-back n h = reads_up_to 10 4294967295 n (inl refl) (omega arith) h

pub quota-sound : (word : List ℕ) (n : ℕ) → quota_of word ≡ Some n → (is_quota n ≡ true) × (word ≡ decimal n)
quota-sound word n h = let s = number-sound 10 0 4294967295 word n h in (le-leb n 4294967295 s.1, s.2)

-- file identifiers
pub fid_parts : (num seq : ℕ) → num < 2 ^ 64 → seq < 2 ^ 64 → parts 44 (fid_text (record { num = num; seq = seq })) ≡ (40 ∷ decimal num) ∷ decimal seq ∷ codes "0)" ∷ []
fid_parts num seq a b =
    parts-at 44 (40 ∷ decimal num) (decimal seq ++ codes ",0)") (refl, number_lacks 44 10 num (inl refl) a (inl (omega arith)))
    ∙ ap (λ l. (40 ∷ decimal num) ∷ l) (parts-at 44 (decimal seq) (codes "0)") (number_lacks 44 10 seq (inl refl) b (inl (omega arith))))

abbrev fid_from : List (List ℕ) → Option Fid
fid_from ps = cond (length ps == 3 && bytes_eq (get_or ps 2 []) (codes "0)"))
    (with2 (option_and_then (number_of 10 0 16777215) (behind 40 (get_or ps 0 []))) (number_of 10 0 65535 (get_or ps 1 [])) (λ num seq. record { num = num; seq = seq })) None

fid_of-parts : (word : List ℕ) → fid_of word ≡ fid_from (parts 44 word)
unfolding fid_of
fid_of-parts word = refl

pub fid-back : (fid : Fid) → is_fid fid ≡ true → leb fid.seq 65535 ≡ true → fid_of (fid_text fid) ≡ Some fid
fid-back fid h k =
    let n = leb-true fid.num 16777215 h in
    let s = leb-true fid.seq 65535 k in
    fid_of-parts (fid_text fid) ∙ ap fid_from (fid_parts fid.num fid.seq (omega (arith, n)) (omega (arith, s)))
    ∙ ap (λ o. with2 o (number_of 10 0 65535 (decimal fid.seq)) (λ num seq. record { num = num; seq = seq })) (reads_up_to 10 16777215 fid.num (inl refl) (omega arith) h)
    ∙ ap (λ o. with1 o (λ seq. record { num = fid.num; seq = seq })) (reads_up_to 10 65535 fid.seq (inl refl) (omega arith) k)

pub fid-sound : (word : List ℕ) (fid : Fid) → fid_of word ≡ Some fid → (is_fid fid ≡ true) × (word ≡ fid_text fid) × (leb fid.seq 65535 ≡ true)
fid-sound word fid h =
    let c = chosen (length (parts 44 word) == 3 && bytes_eq (part_of 44 2 word) (codes "0)")) _ fid (sym (fid_of-parts word) ∙ h) in
    let t = and_parts (length (parts 44 word) == 3) (bytes_eq (part_of 44 2 word) (codes "0)")) c.0 in
    let whole = three_of (parts 44 word) (eqb-true (length (parts 44 word)) 3 t.0) in
    let end = (bytes_eq-Decides (part_of 44 2 word) (codes "0)")).0 t.1 in
    let m = made2 _ _ _ fid c.1 in
    let num = option_and_then_some (number_of 10 0 16777215) (behind 40 (part_of 44 0 word)) m.a m.is_a (λ rest e n.
    let s = number-sound 10 0 16777215 rest m.a n in
    pair (le-leb m.a 16777215 s.1) (behind-sound 40 (part_of 44 0 word) rest e ∙ ap (λ l. 40 ∷ l) s.2)) in
    let seq = number-sound 10 0 65535 (part_of 44 1 word) m.b m.is_b in
    let ps : parts 44 word ≡ (40 ∷ decimal m.a) ∷ decimal m.b ∷ codes "0)" ∷ [] = whole ∙ (λ i. num.1 i ∷ seq.2 i ∷ end i ∷ []) in
    let P : Fid → Type 0 = λ fid. (is_fid fid ≡ true) × (word ≡ fid_text fid) × (leb fid.seq 65535 ≡ true) in
    subst P m.made (num.0, joined 44 word _ ps, le-leb m.b 65535 seq.1)
  where
    pair : {A B : Type 0} → A → B → A × B
    pair a b = (a, b)

-- directories and files
pub ref-back : (file : FileRef) (word : List ℕ) → is_file_ref file ≡ true → IsRefText file word → ref_of word ≡ Some file
unfolding ref_of register_of
ref-back (Reg reg) word h e = ap ref_of e ∙ ap (λ o. with1 o Reg) (register-back reg h)
ref-back (Fixed fid) word h (inl e) = ap ref_of e.0 ∙ ap (λ o. with1 o Fixed) (fid-back fid h e.1)
ref-back (Fixed fid) word h (inr (inl e)) = ap ref_of e.0 ∙ ap (λ f. Some (Fixed f)) (sym e.1)
ref-back (Fixed fid) word h (inr (inr e)) = ap ref_of e.0 ∙ ap (λ f. Some (Fixed f)) (sym e.1)

named_ref-sound : (o : Option (List ℕ)) (word : List ℕ) (file : FileRef) → ((rest : List ℕ) → o ≡ Some rest → word ≡ 82 ∷ rest) → named_ref o word ≡ Some file → (is_file_ref file ≡ true) × IsRefText file word
named_ref-sound (Some rest) word file h e =
    let m = made1 _ _ file e in
    let s = number-sound 10 1 8 rest m.a m.is_a in
    let P : FileRef → Type 0 = λ file. (is_file_ref file ≡ true) × IsRefText file word in
    subst P m.made (within 1 8 m.a s.0 s.1, h rest refl ∙ ap (λ l. 82 ∷ l) s.2)
named_ref-sound None word file h e =
    let m = made1 _ _ file e in
    let s = fid-sound word m.a m.is_a in
    let P : FileRef → Type 0 = λ file. (is_file_ref file ≡ true) × IsRefText file word in
    subst P m.made (s.0, inl (s.1, s.2))

pub ref-sound : (word : List ℕ) (file : FileRef) → ref_of word ≡ Some file → (is_file_ref file ≡ true) × IsRefText file word
unfolding ref_of
ref-sound word file h =
    let P : FileRef → Type 0 = λ file. (is_file_ref file ≡ true) × IsRefText file word in
    elim (by_word word (codes "MFD") _ _ file h) [
      | inl main ↦ subst P (same_some (Fixed main_dir) file main.1) (refl, inr (inl (main.0, refl)))
      | inr rest ↦ elim (by_word word (codes "LOST") _ _ file rest) [
        | inl lost ↦ subst P (same_some (Fixed lost_dir) file lost.1) (refl, inr (inr (lost.0, refl)))
        | inr named ↦ named_ref-sound (behind 82 word) word file (behind-sound 82 word) named
      ]
    ]

-- names with versions
abbrev entry_from : List (List ℕ) → Option EntryText
entry_from ps = cond (length ps == 2 && is_name (get_or ps 0 [])) (with1 (number_of 10 0 32767 (get_or ps 1 [])) (λ ver. record { name = get_or ps 0 []; ver = ver })) None

entry_of-parts : (word : List ℕ) → entry_of word ≡ entry_from (parts 59 word)
unfolding entry_of
entry_of-parts word = refl

no_name_byte : is_character 59 ≡ false
unfolding is_character
no_name_byte = refl

pub entry_parts : (name : List ℕ) (ver : ℕ) → is_name name ≡ true → ver < 2 ^ 64 → parts 59 (entry_text name ver) ≡ name ∷ decimal ver ∷ []
entry_parts name ver h small =
    parts-at 59 name (decimal ver) (name_lacks 59 name no_name_byte refl h) ∙ ap (λ l. name ∷ l) (parts-none 59 (decimal ver) (number_lacks 59 10 ver (inl refl) small (inr (omega arith))))

pub entry-back : (name : List ℕ) (ver : ℕ) → is_name name ≡ true → is_version ver ≡ true → entry_of (entry_text name ver) ≡ Some (record { name = name; ver = ver })
entry-back name ver h k =
    entry_of-parts (entry_text name ver) ∙ ap entry_from (entry_parts name ver h (omega (arith, leb-true ver 32767 k)))
    ∙ ap (λ t. cond t (with1 (number_of 10 0 32767 (decimal ver)) (λ ver. record { name = name; ver = ver })) None) h
    ∙ ap (λ o. with1 o (λ ver. record { name = name; ver = ver })) (reads_up_to 10 32767 ver (inl refl) (omega arith) k)

pub entry-sound : (word : List ℕ) (entry : EntryText) → entry_of word ≡ Some entry → (is_name entry.name ≡ true) × (is_version entry.ver ≡ true) × (word ≡ entry_text entry.name entry.ver)
entry-sound word entry h =
    let c = chosen (length (parts 59 word) == 2 && is_name (part_of 59 0 word)) _ entry (sym (entry_of-parts word) ∙ h) in
    let t = and_parts (length (parts 59 word) == 2) (is_name (part_of 59 0 word)) c.0 in
    let m = made1 _ _ entry c.1 in
    let s = number-sound 10 0 32767 (part_of 59 1 word) m.a m.is_a in
    let ps : parts 59 word ≡ part_of 59 0 word ∷ decimal m.a ∷ [] = two_of (parts 59 word) (eqb-true (length (parts 59 word)) 2 t.0) ∙ ap (λ l. part_of 59 0 word ∷ l ∷ []) s.2 in
    let P : EntryText → Type 0 = λ entry. (is_name entry.name ≡ true) × (is_version entry.ver ≡ true) × (word ≡ entry_text entry.name entry.ver) in
    subst P m.made (t.1, le-leb m.a 32767 s.1, joined 59 word _ ps)

-- owners
abbrev closed_from : List (List ℕ) → Option (List ℕ)
closed_from ps = cond (length ps == 2 && length (get_or ps 1 []) == 0) (Some (get_or ps 0 [])) None

closed_of-parts : (text : List ℕ) → closed_of text ≡ closed_from (parts 93 text)
unfolding closed_of
closed_of-parts text = refl

closed-back : (n : ℕ) → n < 2 ^ 64 → closed_of (octal n ++ codes "]") ≡ Some (octal n)
closed-back n small = closed_of-parts (octal n ++ codes "]") ∙ ap closed_from (parts-at 93 (octal n) [] (number_lacks 93 8 n (inr refl) small (inr (omega arith))))

nothing : (l : List ℕ) → length l ≡ 0 → l ≡ []
nothing [] h = refl
nothing (x ∷ xs) h = absurd (omega arith)

closed-sound : (text front : List ℕ) → closed_of text ≡ Some front → text ≡ front ++ codes "]"
closed-sound text front h =
    let c = chosen (length (parts 93 text) == 2 && length (part_of 93 1 text) == 0) _ front (sym (closed_of-parts text) ∙ h) in
    let t = and_parts (length (parts 93 text) == 2) (length (part_of 93 1 text) == 0) c.0 in
    let end = nothing (part_of 93 1 text) (eqb-true (length (part_of 93 1 text)) 0 t.1) in
    let is = same_some (part_of 93 0 text) front c.1 in
    joined 93 text _ (two_of (parts 93 text) (eqb-true (length (parts 93 text)) 2 t.0) ∙ (λ i. is i ∷ end i ∷ []))

abbrev owner_from : List (List ℕ) → Option Uic
owner_from ps = cond (length ps == 2)
    (with2 (option_and_then (number_of 8 0 16383) (behind 91 (get_or ps 0 []))) (option_and_then (number_of 8 0 65535) (closed_of (get_or ps 1 []))) (λ group member. record { 0 = group * 65536 + member }))
    None

owner_of-parts : (word : List ℕ) → owner_of word ≡ owner_from (parts 44 word)
unfolding owner_of
owner_of-parts word = refl

pub owner_parts : (owner : Uic) → owner.0 < 2 ^ 64 → parts 44 (uic_text owner) ≡ (91 ∷ octal (owner.0 / 65536)) ∷ (octal (owner.0 % 65536) ++ codes "]") ∷ []
owner_parts owner small =
    parts-at 44 (91 ∷ octal (owner.0 / 65536)) (octal (owner.0 % 65536) ++ codes "]") (refl, number_lacks 44 8 (owner.0 / 65536) (inr refl) (omega arith) (inl (omega arith)))
    ∙ ap (λ l. (91 ∷ octal (owner.0 / 65536)) ∷ l) (parts-none 44 (octal (owner.0 % 65536) ++ codes "]")
    (Lacks-append 44 (octal (owner.0 % 65536)) (codes "]") (number_lacks 44 8 (owner.0 % 65536) (inr refl) (omega arith) (inl (omega arith))) (refl, tt)))

pub owner-back : (owner : Uic) → is_owner owner ≡ true → owner_of (uic_text owner) ≡ Some owner
owner-back owner h =
    let top = leb-true owner.0 1073741823 h in
    let make : ℕ → ℕ → Uic = λ group member. record { 0 = group * 65536 + member } in
    let whole : owner.0 / 65536 * 65536 + owner.0 % 65536 ≡ owner.0 = omega arith in
    owner_of-parts (uic_text owner) ∙ ap owner_from (owner_parts owner (omega (arith, top)))
    ∙ ap (λ o. with2 o (option_and_then (number_of 8 0 65535) (closed_of (octal (owner.0 % 65536) ++ codes "]"))) make)
    (number-back 8 0 16383 (owner.0 / 65536) (inr refl) (omega arith) (omega arith) (omega (arith, top)))
    ∙ ap (λ o. with1 (option_and_then (number_of 8 0 65535) o) (make (owner.0 / 65536))) (closed-back (owner.0 % 65536) (omega arith))
    ∙ ap (λ o. with1 o (make (owner.0 / 65536))) (number-back 8 0 65535 (owner.0 % 65536) (inr refl) (omega arith) (omega arith) (omega arith))
    ∙ ap (λ n. Some (record { 0 = n })) whole

pub owner-sound : (word : List ℕ) (owner : Uic) → owner_of word ≡ Some owner → (is_owner owner ≡ true) × (word ≡ uic_text owner)
owner-sound word owner h =
    let c = chosen (length (parts 44 word) == 2) _ owner (sym (owner_of-parts word) ∙ h) in
    let m = made2 _ _ _ owner c.1 in
    let group = option_and_then_some (number_of 8 0 16383) (behind 91 (part_of 44 0 word)) m.a m.is_a (λ rest e n.
    let s = number-sound 8 0 16383 rest m.a n in
    pair s.1 (behind-sound 91 (part_of 44 0 word) rest e ∙ ap (λ l. 91 ∷ l) s.2)) in
    let member = option_and_then_some (number_of 8 0 65535) (closed_of (part_of 44 1 word)) m.b m.is_b (λ front e n.
    let s = number-sound 8 0 65535 front m.b n in
    pair s.1 (closed-sound (part_of 44 1 word) front e ∙ ap (λ l. l ++ codes "]") s.2)) in
    let ps = two_of (parts 44 word) (eqb-true (length (parts 44 word)) 2 c.0) ∙ (λ i. group.1 i ∷ member.1 i ∷ []) in
    let high : (m.a * 65536 + m.b) / 65536 ≡ m.a = omega (arith, member.0) in
    let low : (m.a * 65536 + m.b) % 65536 ≡ m.b = omega (arith, member.0) in
    let P : Uic → Type 0 = λ owner. (is_owner owner ≡ true) × (word ≡ uic_text owner) in
    subst P m.made (
      le-leb (m.a * 65536 + m.b) 1073741823 (omega (arith, group.0, member.0)),
      joined 44 word _ ps ∙ (λ i. codes "[" ++ (octal (sym high i) ++ (codes "," ++ (octal (sym low i) ++ codes "]")))),
    )
  where
    pair : {A B : Type 0} → A → B → A × B
    pair a b = (a, b)

-- modes
pub mode-back : (mode : Mode) → is_open_mode mode ≡ true → mode_of (mode_text mode) ≡ Some mode
unfolding mode_of
mode-back NL h = absurd (let no_way : ⊥ = cc in no_way)
mode-back CR h = refl
mode-back CW h = refl
mode-back PR h = refl
mode-back PW h = refl
mode-back EX h = refl

pub mode-sound : (word : List ℕ) (mode : Mode) → mode_of word ≡ Some mode → (is_open_mode mode ≡ true) × (word ≡ mode_text mode)
unfolding mode_of
mode-sound word mode h =
    let P : Mode → Type 0 = λ mode. (is_open_mode mode ≡ true) × (word ≡ mode_text mode) in
    elim (by_word word (codes "CR") _ _ mode h) [
      | inl one ↦ subst P (same_some CR mode one.1) (refl, one.0)
      | inr rest ↦ elim (by_word word (codes "CW") _ _ mode rest) [
        | inl one ↦ subst P (same_some CW mode one.1) (refl, one.0)
        | inr rest ↦ elim (by_word word (codes "PR") _ _ mode rest) [
          | inl one ↦ subst P (same_some PR mode one.1) (refl, one.0)
          | inr rest ↦ elim (by_word word (codes "PW") _ _ mode rest) [
            | inl one ↦ subst P (same_some PW mode one.1) (refl, one.0)
            | inr rest ↦ elim (by_word word (codes "EX") _ _ mode rest) [
              | inl one ↦ subst P (same_some EX mode one.1) (refl, one.0)
              | inr rest ↦ absurd (no_none mode rest)
            ]
          ]
        ]
      ]
    ]

-- names of directories, and texts
pub dir_name-back : (word : List ℕ) → is_dir_name word ≡ true → dir_name_of word ≡ Some word
unfolding dir_name_of
dir_name-back word h = ap (λ t. cond t (Some word) None) h

pub dir_name-sound : (word name : List ℕ) → dir_name_of word ≡ Some name → (is_dir_name name ≡ true) × (word ≡ name)
unfolding dir_name_of
dir_name-sound word name h =
    let c = chosen (is_dir_name word) _ name h in
    let e = same_some word name c.1 in
    (sym (ap is_dir_name e) ∙ c.0, e)

pub text-back : (word : List ℕ) → is_text word ≡ true → text_of word ≡ Some word
unfolding text_of
text-back word h = ap (λ t. cond t (Some word) None) h

pub text-sound : (word text : List ℕ) → text_of word ≡ Some text → (is_text text ≡ true) × (word ≡ text)
unfolding text_of
text-sound word text h =
    let c = chosen (is_text word) _ text h in
    let e = same_some word text c.1 in
    (sym (ap is_text e) ∙ c.0, e)
