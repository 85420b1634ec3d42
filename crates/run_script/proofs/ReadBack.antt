-- The text of a command behind its node is a line that says it.
use Rattle.std.proofs.Common.{◌≡◌, ◌∙◌, ◌+◌, ◌<◌, ◌^◌, ◌++◌, ◌&&◌, ℕ, true, false, not, List, [], ◌∷◌, length, leb, eqb, refl, sym, ap, arith, inl, inr, codes}
use Rattle.std.specs.Fmt.{decimal}
use Rattle.std.specs.List.{list_all}
use Rattle.std.proofs.lemmas.Bool.{and_parts, leb-true, ne_eqb}
use Rattle.std.proofs.lemmas.Fmt.{decimal_digit}
use Rattle.base_words.specs.Names.{is_character, is_part, is_name}
use Rattle.plain_cat.specs.declared.ids.Fid.{Fid}
use Rattle.plain_cat.specs.declared.ids.Uic.{Uic}
use Rattle.plain_cat.specs.declared.mode.Mode.{Mode}
use Rattle.plain_cat.specs.declared.mode.Mode.TheVariants.{NL, CR, CW, PR, PW, EX}
use Rattle.plain_cat.specs.declared.command.Cmd.{Cmd}
use Rattle.plain_cat.specs.declared.command.Cmd.TheVariants as cmd
use Rattle.plain_cat.specs.InForm.{is_within, is_eighth, is_fid, is_owner, is_version, is_count, is_quota, is_open_mode, is_dir_name, is_text, is_text_char, in_form, line_in_form}
use Rattle.plain_texts.specs.Names.{fid_text, uic_text, mode_text}
use Rattle.plain_cat.specs.Names.{text_of as entry_text}
use Rattle.plain_texts.specs.Commands.{then_word, register_text, command_text}
use Rattle.run_script.specs.Lines.{words_of}
use Rattle.run_script.specs.Grammar.{IsCommandText, IsLineText, is_skipped}
use Rattle.run_script.specs.Fixed.{fixed_line, node_text, has_sequence}
use Rattle.run_script.specs.Laws.{ReadsBack}
use Rattle.run_script.specs.declared.items.Item.TheVariants.{Command}
use Rattle.run_script.proofs.Pieces.{Lacks, parts-none, parts-at, Lacks-append, number_lacks, passing_lack, part_lacks, name_lacks, limits, same_some}
use Rattle.run_script.proofs.Said.{item-back, node_small}

-- no operand has a space
number_is_word : (n : ℕ) → n < 2 ^ 64 → Lacks 32 (decimal n)
number_is_word n small = number_lacks 32 10 n (inl refl) small (inl (omega arith))

reg_is_word : (reg : ℕ) → is_eighth reg ≡ true → Lacks 32 (register_text reg)
reg_is_word reg h = (refl, number_is_word reg (node_small reg h))

chan_is_word : (n : ℕ) → is_eighth n ≡ true → Lacks 32 (decimal n)
chan_is_word n h = number_is_word n (node_small n h)

count_is_word : (n : ℕ) → is_count n ≡ true → Lacks 32 (decimal n)
count_is_word n h = let l = leb-true n 65536 h in number_is_word n (omega (arith, l))

some_is_word : (n : ℕ) → is_within 1 65536 n ≡ true → Lacks 32 (decimal n)
some_is_word n h = let l = limits 1 65536 n h in number_is_word n (omega (arith, l))

quota_is_word : (n : ℕ) → is_quota n ≡ true → Lacks 32 (decimal n)
quota_is_word n h = let l = leb-true n 4294967295 h in number_is_word n (omega (arith, l))

fid_is_word : (fid : Fid) → is_fid fid ≡ true → leb fid.seq 65535 ≡ true → Lacks 32 (fid_text fid)
fid_is_word fid h k =
    let n = leb-true fid.num 16777215 h in
    let s = leb-true fid.seq 65535 k in (
      refl,
      Lacks-append 32 (decimal fid.num) (codes "," ++ (decimal fid.seq ++ codes ",0)")) (number_is_word fid.num (omega (arith, n)))
          (refl, Lacks-append 32 (decimal fid.seq) (codes ",0)") (number_is_word fid.seq (omega (arith, s))) (refl, (refl, (refl, tt)))),
    )

no_space : is_character 32 ≡ false
unfolding is_character
no_space = refl

entry_is_word : (name : List ℕ) (ver : ℕ) → is_name name ≡ true → is_version ver ≡ true → Lacks 32 (entry_text name ver)
entry_is_word name ver h k =
    let v = leb-true ver 32767 k in
    Lacks-append 32 name (codes ";" ++ decimal ver) (name_lacks 32 name no_space refl h) (refl, number_is_word ver (omega (arith, v)))

dname_is_word : (name : List ℕ) → is_dir_name name ≡ true → Lacks 32 name
dname_is_word name h = part_lacks 32 name no_space (and_parts (leb 1 (length name)) (is_part name) h).1

owner_is_word : (owner : Uic) → is_owner owner ≡ true → Lacks 32 (uic_text owner)
owner_is_word owner h =
    let top = leb-true owner.0 1073741823 h in (
      refl,
      Lacks-append 32 _ _ (number_lacks 32 8 _ (inr refl) (omega (arith, top)) (inl (omega arith)))
          (refl, Lacks-append 32 _ (codes "]") (number_lacks 32 8 _ (inr refl) (omega arith) (inl (omega arith))) (refl, tt)),
    )

mode_is_word : (mode : Mode) → is_open_mode mode ≡ true → Lacks 32 (mode_text mode)
mode_is_word NL h = (refl, (refl, tt))
mode_is_word CR h = (refl, (refl, tt))
mode_is_word CW h = (refl, (refl, tt))
mode_is_word PR h = (refl, (refl, tt))
mode_is_word PW h = (refl, (refl, tt))
mode_is_word EX h = (refl, (refl, tt))

text_is_word : (text : List ℕ) → is_text text ≡ true → Lacks 32 text
text_is_word text h = passing_lack is_text_char 32 text refl (and_parts (is_within 1 16 (length text)) (list_all is_text_char text) h).1

-- a word in front of the others
first_word : (word rest : List ℕ) (words : List (List ℕ)) → Lacks 32 word → words_of rest ≡ words → words_of (word ++ (32 ∷ rest)) ≡ word ∷ words
first_word word rest words h e = parts-at 32 word rest h ∙ ap (λ l. word ∷ l) e

-- the words of the text of a command
record Written (c : Cmd) : Type 0 where
  spoken : List (List ℕ)
  whole : words_of (command_text c) ≡ spoken
  command : IsCommandText (fixed_line c) spoken

written : (c : Cmd) → in_form c ≡ true → has_sequence c ≡ true → Written c
unfolding in_form command_text
written (cmd.Lookup x0 x1 n2 v2) form seq =
    let p0 = and_parts (is_eighth x0) ((is_fid x1) && ((is_name n2) && (is_version v2))) form in
    let p1 = and_parts (is_fid x1) ((is_name n2) && (is_version v2)) p0.1 in
    let p2 = and_parts (is_name n2) (is_version v2) p1.1 in
    record {
      spoken = codes "LOOKUP" ∷ register_text x0 ∷ fid_text x1 ∷ entry_text n2 v2 ∷ [];
      whole = first_word (codes "LOOKUP") (register_text x0 ++ (codes " " ++ (fid_text x1 ++ (codes " " ++ (entry_text n2 v2))))) _ (passing_lack (λ x. not (eqb x 32)) 32 (codes "LOOKUP") refl refl) (first_word (register_text x0) (fid_text x1 ++ (codes " " ++ (entry_text n2 v2))) _ (reg_is_word x0 p0.0) (first_word (fid_text x1) (entry_text n2 v2) _ (fid_is_word x1 p1.0 seq) (parts-none 32 (entry_text n2 v2) (entry_is_word n2 v2 p2.0 p2.1))));
      command = (fid_text x1, inl (refl, seq), refl);
    }
written (cmd.List x0) form seq =
    record {
      spoken = codes "LIST" ∷ fid_text x0 ∷ [];
      whole = first_word (codes "LIST") (fid_text x0) _ (passing_lack (λ x. not (eqb x 32)) 32 (codes "LIST") refl refl) (parts-none 32 (fid_text x0) (fid_is_word x0 form seq));
      command = (fid_text x0, inl (refl, seq), refl);
    }
written (cmd.Stat x0) form seq =
    record {
      spoken = codes "STAT" ∷ fid_text x0 ∷ [];
      whole = first_word (codes "STAT") (fid_text x0) _ (passing_lack (λ x. not (eqb x 32)) 32 (codes "STAT") refl refl) (parts-none 32 (fid_text x0) (fid_is_word x0 form seq));
      command = (fid_text x0, inl (refl, seq), refl);
    }
written (cmd.Create x0 x1 n2 v2 x3 x4) form seq =
    let p0 = and_parts (is_eighth x0) ((is_fid x1) && ((is_name n2) && ((is_version v2) && ((is_count x3) && (is_owner x4))))) form in
    let p1 = and_parts (is_fid x1) ((is_name n2) && ((is_version v2) && ((is_count x3) && (is_owner x4)))) p0.1 in
    let p2 = and_parts (is_name n2) ((is_version v2) && ((is_count x3) && (is_owner x4))) p1.1 in
    let p3 = and_parts (is_version v2) ((is_count x3) && (is_owner x4)) p2.1 in
    let p4 = and_parts (is_count x3) (is_owner x4) p3.1 in
    record {
      spoken = codes "CREATE" ∷ register_text x0 ∷ fid_text x1 ∷ entry_text n2 v2 ∷ decimal x3 ∷ uic_text x4 ∷ [];
      whole = first_word (codes "CREATE") (register_text x0 ++ (codes " " ++ (fid_text x1 ++ (codes " " ++ (entry_text n2 v2 ++ (codes " " ++ (decimal x3 ++ (codes " " ++ (uic_text x4))))))))) _ (passing_lack (λ x. not (eqb x 32)) 32 (codes "CREATE") refl refl) (first_word (register_text x0) (fid_text x1 ++ (codes " " ++ (entry_text n2 v2 ++ (codes " " ++ (decimal x3 ++ (codes " " ++ (uic_text x4))))))) _ (reg_is_word x0 p0.0) (first_word (fid_text x1) (entry_text n2 v2 ++ (codes " " ++ (decimal x3 ++ (codes " " ++ (uic_text x4))))) _ (fid_is_word x1 p1.0 seq) (first_word (entry_text n2 v2) (decimal x3 ++ (codes " " ++ (uic_text x4))) _ (entry_is_word n2 v2 p2.0 p3.0) (first_word (decimal x3) (uic_text x4) _ (count_is_word x3 p4.0) (parts-none 32 (uic_text x4) (owner_is_word x4 p4.1))))));
      command = (fid_text x1, inl (refl, seq), refl);
    }
written (cmd.MkDir x0 x1 x2 x3) form seq =
    let p0 = and_parts (is_eighth x0) ((is_fid x1) && ((is_dir_name x2) && (is_owner x3))) form in
    let p1 = and_parts (is_fid x1) ((is_dir_name x2) && (is_owner x3)) p0.1 in
    let p2 = and_parts (is_dir_name x2) (is_owner x3) p1.1 in
    record {
      spoken = codes "MKDIR" ∷ register_text x0 ∷ fid_text x1 ∷ x2 ∷ uic_text x3 ∷ [];
      whole = first_word (codes "MKDIR") (register_text x0 ++ (codes " " ++ (fid_text x1 ++ (codes " " ++ (x2 ++ (codes " " ++ (uic_text x3))))))) _ (passing_lack (λ x. not (eqb x 32)) 32 (codes "MKDIR") refl refl) (first_word (register_text x0) (fid_text x1 ++ (codes " " ++ (x2 ++ (codes " " ++ (uic_text x3))))) _ (reg_is_word x0 p0.0) (first_word (fid_text x1) (x2 ++ (codes " " ++ (uic_text x3))) _ (fid_is_word x1 p1.0 seq) (first_word (x2) (uic_text x3) _ (dname_is_word x2 p2.0) (parts-none 32 (uic_text x3) (owner_is_word x3 p2.1)))));
      command = (fid_text x1, inl (refl, seq), refl);
    }
written (cmd.Extend x0 x1) form seq =
    let p0 = and_parts (is_fid x0) (is_within 1 65536 x1) form in
    record {
      spoken = codes "EXTEND" ∷ fid_text x0 ∷ decimal x1 ∷ [];
      whole = first_word (codes "EXTEND") (fid_text x0 ++ (codes " " ++ (decimal x1))) _ (passing_lack (λ x. not (eqb x 32)) 32 (codes "EXTEND") refl refl) (first_word (fid_text x0) (decimal x1) _ (fid_is_word x0 p0.0 seq) (parts-none 32 (decimal x1) (some_is_word x1 p0.1)));
      command = (fid_text x0, inl (refl, seq), refl);
    }
written (cmd.Trunc x0 x1) form seq =
    let p0 = and_parts (is_fid x0) (is_count x1) form in
    record {
      spoken = codes "TRUNC" ∷ fid_text x0 ∷ decimal x1 ∷ [];
      whole = first_word (codes "TRUNC") (fid_text x0 ++ (codes " " ++ (decimal x1))) _ (passing_lack (λ x. not (eqb x 32)) 32 (codes "TRUNC") refl refl) (first_word (fid_text x0) (decimal x1) _ (fid_is_word x0 p0.0 seq) (parts-none 32 (decimal x1) (count_is_word x1 p0.1)));
      command = (fid_text x0, inl (refl, seq), refl);
    }
written (cmd.Delete x0 n1 v1) form seq =
    let p0 = and_parts (is_fid x0) ((is_name n1) && (is_version v1)) form in
    let p1 = and_parts (is_name n1) (is_version v1) p0.1 in
    record {
      spoken = codes "DELETE" ∷ fid_text x0 ∷ entry_text n1 v1 ∷ [];
      whole = first_word (codes "DELETE") (fid_text x0 ++ (codes " " ++ (entry_text n1 v1))) _ (passing_lack (λ x. not (eqb x 32)) 32 (codes "DELETE") refl refl) (first_word (fid_text x0) (entry_text n1 v1) _ (fid_is_word x0 p0.0 seq) (parts-none 32 (entry_text n1 v1) (entry_is_word n1 v1 p1.0 p1.1)));
      command = (fid_text x0, inl (refl, seq), refl);
    }
written (cmd.Rename x0 n1 v1 n2 v2) form seq =
    let p0 = and_parts (is_fid x0) ((is_name n1) && ((is_version v1) && ((is_name n2) && (is_version v2)))) form in
    let p1 = and_parts (is_name n1) ((is_version v1) && ((is_name n2) && (is_version v2))) p0.1 in
    let p2 = and_parts (is_version v1) ((is_name n2) && (is_version v2)) p1.1 in
    let p3 = and_parts (is_name n2) (is_version v2) p2.1 in
    record {
      spoken = codes "RENAME" ∷ fid_text x0 ∷ entry_text n1 v1 ∷ entry_text n2 v2 ∷ [];
      whole = first_word (codes "RENAME") (fid_text x0 ++ (codes " " ++ (entry_text n1 v1 ++ (codes " " ++ (entry_text n2 v2))))) _ (passing_lack (λ x. not (eqb x 32)) 32 (codes "RENAME") refl refl) (first_word (fid_text x0) (entry_text n1 v1 ++ (codes " " ++ (entry_text n2 v2))) _ (fid_is_word x0 p0.0 seq) (first_word (entry_text n1 v1) (entry_text n2 v2) _ (entry_is_word n1 v1 p1.0 p2.0) (parts-none 32 (entry_text n2 v2) (entry_is_word n2 v2 p3.0 p3.1))));
      command = (fid_text x0, inl (refl, seq), refl);
    }
written (cmd.OpenFile x0 x1 x2) form seq =
    let p0 = and_parts (is_eighth x0) ((is_fid x1) && (is_open_mode x2)) form in
    let p1 = and_parts (is_fid x1) (is_open_mode x2) p0.1 in
    record {
      spoken = codes "OPEN" ∷ decimal x0 ∷ fid_text x1 ∷ mode_text x2 ∷ [];
      whole = first_word (codes "OPEN") (decimal x0 ++ (codes " " ++ (fid_text x1 ++ (codes " " ++ (mode_text x2))))) _ (passing_lack (λ x. not (eqb x 32)) 32 (codes "OPEN") refl refl) (first_word (decimal x0) (fid_text x1 ++ (codes " " ++ (mode_text x2))) _ (chan_is_word x0 p0.0) (first_word (fid_text x1) (mode_text x2) _ (fid_is_word x1 p1.0 seq) (parts-none 32 (mode_text x2) (mode_is_word x2 p1.1))));
      command = (fid_text x1, inl (refl, seq), refl);
    }
written (cmd.CloseFile x0) form seq =
    record {
      spoken = codes "CLOSE" ∷ decimal x0 ∷ [];
      whole = first_word (codes "CLOSE") (decimal x0) _ (passing_lack (λ x. not (eqb x 32)) 32 (codes "CLOSE") refl refl) (parts-none 32 (decimal x0) (chan_is_word x0 form));
      command = refl;
    }
written (cmd.ReadBlock x0 x1) form seq =
    let p0 = and_parts (is_eighth x0) (is_count x1) form in
    record {
      spoken = codes "READ" ∷ decimal x0 ∷ decimal x1 ∷ [];
      whole = first_word (codes "READ") (decimal x0 ++ (codes " " ++ (decimal x1))) _ (passing_lack (λ x. not (eqb x 32)) 32 (codes "READ") refl refl) (first_word (decimal x0) (decimal x1) _ (chan_is_word x0 p0.0) (parts-none 32 (decimal x1) (count_is_word x1 p0.1)));
      command = refl;
    }
written (cmd.WriteBlock x0 x1 x2) form seq =
    let p0 = and_parts (is_eighth x0) ((is_count x1) && (is_text x2)) form in
    let p1 = and_parts (is_count x1) (is_text x2) p0.1 in
    record {
      spoken = codes "WRITE" ∷ decimal x0 ∷ decimal x1 ∷ x2 ∷ [];
      whole = first_word (codes "WRITE") (decimal x0 ++ (codes " " ++ (decimal x1 ++ (codes " " ++ (x2))))) _ (passing_lack (λ x. not (eqb x 32)) 32 (codes "WRITE") refl refl) (first_word (decimal x0) (decimal x1 ++ (codes " " ++ (x2))) _ (chan_is_word x0 p0.0) (first_word (decimal x1) (x2) _ (count_is_word x1 p1.0) (parts-none 32 (x2) (text_is_word x2 p1.1))));
      command = refl;
    }
written (cmd.QuotaSet x0 x1 x2) form seq =
    let p0 = and_parts (is_owner x0) ((is_quota x1) && (is_quota x2)) form in
    let p1 = and_parts (is_quota x1) (is_quota x2) p0.1 in
    record {
      spoken = codes "QUOTASET" ∷ uic_text x0 ∷ decimal x1 ∷ decimal x2 ∷ [];
      whole = first_word (codes "QUOTASET") (uic_text x0 ++ (codes " " ++ (decimal x1 ++ (codes " " ++ (decimal x2))))) _ (passing_lack (λ x. not (eqb x 32)) 32 (codes "QUOTASET") refl refl) (first_word (uic_text x0) (decimal x1 ++ (codes " " ++ (decimal x2))) _ (owner_is_word x0 p0.0) (first_word (decimal x1) (decimal x2) _ (quota_is_word x1 p1.0) (parts-none 32 (decimal x2) (quota_is_word x2 p1.1))));
      command = refl;
    }
written (cmd.QuotaShow x0) form seq =
    record {
      spoken = codes "QUOTASHOW" ∷ uic_text x0 ∷ [];
      whole = first_word (codes "QUOTASHOW") (uic_text x0) _ (passing_lack (λ x. not (eqb x 32)) 32 (codes "QUOTASHOW") refl refl) (parts-none 32 (uic_text x0) (owner_is_word x0 form));
      command = refl;
    }

same_form : (c : Cmd) → in_form c ≡ true → line_in_form (fixed_line c) ≡ true
unfolding in_form line_in_form
same_form (cmd.Lookup x0 x1 n2 v2) h = h
same_form (cmd.List x0) h = h
same_form (cmd.Stat x0) h = h
same_form (cmd.Create x0 x1 n2 v2 x3 x4) h = h
same_form (cmd.MkDir x0 x1 x2 x3) h = h
same_form (cmd.Extend x0 x1) h = h
same_form (cmd.Trunc x0 x1) h = h
same_form (cmd.Delete x0 n1 v1) h = h
same_form (cmd.Rename x0 n1 v1 n2 v2) h = h
same_form (cmd.OpenFile x0 x1 x2) h = h
same_form (cmd.CloseFile x0) h = h
same_form (cmd.ReadBlock x0 x1) h = h
same_form (cmd.WriteBlock x0 x1 x2) h = h
same_form (cmd.QuotaSet x0 x1 x2) h = h
same_form (cmd.QuotaShow x0) h = h

-- a line that begins with a node is not skipped
spoken_line : (node : ℕ) (rest : List ℕ) → is_eighth node ≡ true → is_skipped (decimal node ++ rest) ≡ false
spoken_line node rest h =
    let l = limits 1 8 node h in
    ap (λ d. is_skipped (d ++ rest)) (decimal_digit node (omega (arith, l))) ∙ ne_eqb (48 + node) 35 (λ e. omega (arith, e))

pub reads_back_text : (node : ℕ) (c : Cmd) → is_eighth node ≡ true → in_form c ≡ true → has_sequence c ≡ true → ReadsBack node c
reads_back_text node c at form seq =
    let w = written c form seq in
    let text : IsLineText (Command (record { node = node; cmd = fixed_line c })) (node_text node c) = inr (
      spoken_line node (then_word (command_text c)) at,
      record {
        spoken = w.spoken;
        whole = first_word (decimal node) (command_text c) w.spoken (chan_is_word node at) w.whole;
        node = at;
        command = w.command;
        limits = same_form c form;
      },
    ) in
    record {
      spelt = text;
      alone = λ item other. same_some item (Command (record { node = node; cmd = fixed_line c })) (sym (item-back item (node_text node c) other) ∙ item-back _ (node_text node c) text);
    }
