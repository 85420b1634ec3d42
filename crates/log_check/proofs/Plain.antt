-- No line feed and no equals sign stands in the text of a command.
use Rattle.std.proofs.Common.{◌≡◌, ◌/◌, ◌%◌, ◌<◌, ◌^◌, ◌⊎◌, ◌++◌, ◌&&◌, ℕ, Bool, true, false, not, List, length, leb, eqb, refl, arith, inl, inr, codes}
use Rattle.std.specs.Fmt.{decimal}
use Rattle.std.specs.List.{list_all}
use Rattle.std.proofs.lemmas.Bool.{and_parts, leb-true}
use Rattle.base_words.specs.Names.{is_character, is_part, is_name}
use Rattle.plain_cat.specs.declared.ids.Fid.{Fid}
use Rattle.plain_cat.specs.declared.ids.Uic.{Uic}
use Rattle.plain_cat.specs.declared.mode.Mode.{Mode}
use Rattle.plain_cat.specs.declared.mode.Mode.TheVariants.{NL, CR, CW, PR, PW, EX}
use Rattle.plain_cat.specs.declared.command.Cmd.{Cmd}
use Rattle.plain_cat.specs.declared.command.Cmd.TheVariants as cmd
use Rattle.plain_cat.specs.InForm.{is_within, is_eighth, is_fid, is_owner, is_version, is_count, is_quota, is_open_mode, is_dir_name, is_text, is_text_char, in_form}
use Rattle.plain_texts.specs.Names.{octal, fid_text, uic_text, mode_text}
use Rattle.plain_cat.specs.Names.{text_of as entry_text}
use Rattle.plain_texts.specs.Commands.{then_word, register_text, command_text}
use Rattle.run_script.specs.Fixed.{has_sequence}
use Rattle.run_script.proofs.Pieces.{Lacks, Lacks-append, number_lacks, passing_lack, part_lacks, name_lacks, limits}

-- neither a line feed nor an equals sign
abbrev pub is_plain : ℕ → Bool
is_plain b = not (eqb b 10) && not (eqb b 61)

module _ (byte : ℕ) (un : is_plain byte ≡ false) (low : (byte < 48) ⊎ (57 < byte)) (chars : is_character byte ≡ false) (dot : eqb 46 byte ≡ false) (letters : is_text_char byte ≡ false) where
  lit : (w : List ℕ) → list_all is_plain w ≡ true → Lacks byte w
  lit w h = passing_lack is_plain byte w un h

  word : (w : List ℕ) → Lacks byte w → Lacks byte (then_word w)
  word w h = Lacks-append byte (codes " ") w (lit (codes " ") refl) h

  number : (n : ℕ) → n < 2 ^ 64 → Lacks byte (decimal n)
  number n small = number_lacks byte 10 n (inl refl) small low

  eighth : (n : ℕ) → is_eighth n ≡ true → Lacks byte (decimal n)
  eighth n h = let l = limits 1 8 n h in number n (omega (arith, l))

  reg : (n : ℕ) → is_eighth n ≡ true → Lacks byte (register_text n)
  reg n h = Lacks-append byte (codes "R") (decimal n) (lit (codes "R") refl) (eighth n h)

  count : (n : ℕ) → is_count n ≡ true → Lacks byte (decimal n)
  count n h = let l = leb-true n 65536 h in number n (omega (arith, l))

  some : (n : ℕ) → is_within 1 65536 n ≡ true → Lacks byte (decimal n)
  some n h = let l = limits 1 65536 n h in number n (omega (arith, l))

  quota : (n : ℕ) → is_quota n ≡ true → Lacks byte (decimal n)
  quota n h = let l = leb-true n 4294967295 h in number n (omega (arith, l))

  fid : (f : Fid) → is_fid f ≡ true → leb f.seq 65535 ≡ true → Lacks byte (fid_text f)
  fid f h k =
      let n = leb-true f.num 16777215 h in
      let s = leb-true f.seq 65535 k in
      Lacks-append byte (codes "(") (decimal f.num ++ (codes "," ++ (decimal f.seq ++ codes ",0)"))) (lit (codes "(") refl)
      (Lacks-append byte (decimal f.num) (codes "," ++ (decimal f.seq ++ codes ",0)")) (number f.num (omega (arith, n)))
      (Lacks-append byte (codes ",") (decimal f.seq ++ codes ",0)") (lit (codes ",") refl) (Lacks-append byte (decimal f.seq) (codes ",0)") (number f.seq (omega (arith, s))) (lit (codes ",0)") refl))))

  entry : (name : List ℕ) (ver : ℕ) → is_name name ≡ true → is_version ver ≡ true → Lacks byte (entry_text name ver)
  entry name ver h k =
      let v = leb-true ver 32767 k in
      Lacks-append byte name (codes ";" ++ decimal ver) (name_lacks byte name chars dot h) (Lacks-append byte (codes ";") (decimal ver) (lit (codes ";") refl) (number ver (omega (arith, v))))

  dname : (name : List ℕ) → is_dir_name name ≡ true → Lacks byte name
  dname name h = part_lacks byte name chars (and_parts (leb 1 (length name)) (is_part name) h).1

  owner : (u : Uic) → is_owner u ≡ true → Lacks byte (uic_text u)
  owner u h =
      let top = leb-true u.0 1073741823 h in
      Lacks-append byte (codes "[") (octal (u.0 / 65536) ++ (codes "," ++ (octal (u.0 % 65536) ++ codes "]"))) (lit (codes "[") refl)
      (Lacks-append byte (octal (u.0 / 65536)) (codes "," ++ (octal (u.0 % 65536) ++ codes "]")) (number_lacks byte 8 (u.0 / 65536) (inr refl) (omega (arith, top)) low)
      (Lacks-append byte (codes ",") (octal (u.0 % 65536) ++ codes "]") (lit (codes ",") refl) (Lacks-append byte (octal (u.0 % 65536)) (codes "]") (number_lacks byte 8 (u.0 % 65536) (inr refl) (omega arith) low) (lit (codes "]") refl))))

  mode : (m : Mode) → Lacks byte (mode_text m)
  mode NL = lit (codes "NL") refl
  mode CR = lit (codes "CR") refl
  mode CW = lit (codes "CW") refl
  mode PR = lit (codes "PR") refl
  mode PW = lit (codes "PW") refl
  mode EX = lit (codes "EX") refl

  text : (t : List ℕ) → is_text t ≡ true → Lacks byte t
  text t h = passing_lack is_text_char byte t letters (and_parts (is_within 1 16 (length t)) (list_all is_text_char t) h).1

  pub plain_command : (c : Cmd) → in_form c ≡ true → has_sequence c ≡ true → Lacks byte (command_text c)
  unfolding in_form command_text
  plain_command (cmd.Lookup x0 x1 n2 v2) form seq =
      let p0 = and_parts (is_eighth x0) ((is_fid x1) && ((is_name n2) && (is_version v2))) form in
      let p1 = and_parts (is_fid x1) ((is_name n2) && (is_version v2)) p0.1 in
      let p2 = and_parts (is_name n2) (is_version v2) p1.1 in
      Lacks-append byte (codes "LOOKUP") (then_word (register_text x0) ++ (then_word (fid_text x1) ++ (then_word (entry_text n2 v2)))) (lit (codes "LOOKUP") refl) (Lacks-append byte (then_word (register_text x0)) (then_word (fid_text x1) ++ (then_word (entry_text n2 v2))) (word (register_text x0) (reg x0 p0.0)) (Lacks-append byte (then_word (fid_text x1)) (then_word (entry_text n2 v2)) (word (fid_text x1) (fid x1 p1.0 seq)) (word (entry_text n2 v2) (entry n2 v2 p2.0 p2.1))))
  plain_command (cmd.List x0) form seq =
      Lacks-append byte (codes "LIST") (then_word (fid_text x0)) (lit (codes "LIST") refl) (word (fid_text x0) (fid x0 form seq))
  plain_command (cmd.Stat x0) form seq =
      Lacks-append byte (codes "STAT") (then_word (fid_text x0)) (lit (codes "STAT") refl) (word (fid_text x0) (fid x0 form seq))
  plain_command (cmd.Create x0 x1 n2 v2 x3 x4) form seq =
      let p0 = and_parts (is_eighth x0) ((is_fid x1) && ((is_name n2) && ((is_version v2) && ((is_count x3) && (is_owner x4))))) form in
      let p1 = and_parts (is_fid x1) ((is_name n2) && ((is_version v2) && ((is_count x3) && (is_owner x4)))) p0.1 in
      let p2 = and_parts (is_name n2) ((is_version v2) && ((is_count x3) && (is_owner x4))) p1.1 in
      let p3 = and_parts (is_version v2) ((is_count x3) && (is_owner x4)) p2.1 in
      let p4 = and_parts (is_count x3) (is_owner x4) p3.1 in
      Lacks-append byte (codes "CREATE") (then_word (register_text x0) ++ (then_word (fid_text x1) ++ (then_word (entry_text n2 v2) ++ (then_word (decimal x3) ++ (then_word (uic_text x4)))))) (lit (codes "CREATE") refl) (Lacks-append byte (then_word (register_text x0)) (then_word (fid_text x1) ++ (then_word (entry_text n2 v2) ++ (then_word (decimal x3) ++ (then_word (uic_text x4))))) (word (register_text x0) (reg x0 p0.0)) (Lacks-append byte (then_word (fid_text x1)) (then_word (entry_text n2 v2) ++ (then_word (decimal x3) ++ (then_word (uic_text x4)))) (word (fid_text x1) (fid x1 p1.0 seq)) (Lacks-append byte (then_word (entry_text n2 v2)) (then_word (decimal x3) ++ (then_word (uic_text x4))) (word (entry_text n2 v2) (entry n2 v2 p2.0 p3.0)) (Lacks-append byte (then_word (decimal x3)) (then_word (uic_text x4)) (word (decimal x3) (count x3 p4.0)) (word (uic_text x4) (owner x4 p4.1))))))
  plain_command (cmd.MkDir x0 x1 x2 x3) form seq =
      let p0 = and_parts (is_eighth x0) ((is_fid x1) && ((is_dir_name x2) && (is_owner x3))) form in
      let p1 = and_parts (is_fid x1) ((is_dir_name x2) && (is_owner x3)) p0.1 in
      let p2 = and_parts (is_dir_name x2) (is_owner x3) p1.1 in
      Lacks-append byte (codes "MKDIR") (then_word (register_text x0) ++ (then_word (fid_text x1) ++ (then_word (x2) ++ (then_word (uic_text x3))))) (lit (codes "MKDIR") refl) (Lacks-append byte (then_word (register_text x0)) (then_word (fid_text x1) ++ (then_word (x2) ++ (then_word (uic_text x3)))) (word (register_text x0) (reg x0 p0.0)) (Lacks-append byte (then_word (fid_text x1)) (then_word (x2) ++ (then_word (uic_text x3))) (word (fid_text x1) (fid x1 p1.0 seq)) (Lacks-append byte (then_word (x2)) (then_word (uic_text x3)) (word (x2) (dname x2 p2.0)) (word (uic_text x3) (owner x3 p2.1)))))
  plain_command (cmd.Extend x0 x1) form seq =
      let p0 = and_parts (is_fid x0) (is_within 1 65536 x1) form in
      Lacks-append byte (codes "EXTEND") (then_word (fid_text x0) ++ (then_word (decimal x1))) (lit (codes "EXTEND") refl) (Lacks-append byte (then_word (fid_text x0)) (then_word (decimal x1)) (word (fid_text x0) (fid x0 p0.0 seq)) (word (decimal x1) (some x1 p0.1)))
  plain_command (cmd.Trunc x0 x1) form seq =
      let p0 = and_parts (is_fid x0) (is_count x1) form in
      Lacks-append byte (codes "TRUNC") (then_word (fid_text x0) ++ (then_word (decimal x1))) (lit (codes "TRUNC") refl) (Lacks-append byte (then_word (fid_text x0)) (then_word (decimal x1)) (word (fid_text x0) (fid x0 p0.0 seq)) (word (decimal x1) (count x1 p0.1)))
  plain_command (cmd.Delete x0 n1 v1) form seq =
      let p0 = and_parts (is_fid x0) ((is_name n1) && (is_version v1)) form in
      let p1 = and_parts (is_name n1) (is_version v1) p0.1 in
      Lacks-append byte (codes "DELETE") (then_word (fid_text x0) ++ (then_word (entry_text n1 v1))) (lit (codes "DELETE") refl) (Lacks-append byte (then_word (fid_text x0)) (then_word (entry_text n1 v1)) (word (fid_text x0) (fid x0 p0.0 seq)) (word (entry_text n1 v1) (entry n1 v1 p1.0 p1.1)))
  plain_command (cmd.Rename x0 n1 v1 n2 v2) form seq =
      let p0 = and_parts (is_fid x0) ((is_name n1) && ((is_version v1) && ((is_name n2) && (is_version v2)))) form in
      let p1 = and_parts (is_name n1) ((is_version v1) && ((is_name n2) && (is_version v2))) p0.1 in
      let p2 = and_parts (is_version v1) ((is_name n2) && (is_version v2)) p1.1 in
      let p3 = and_parts (is_name n2) (is_version v2) p2.1 in
      Lacks-append byte (codes "RENAME") (then_word (fid_text x0) ++ (then_word (entry_text n1 v1) ++ (then_word (entry_text n2 v2)))) (lit (codes "RENAME") refl) (Lacks-append byte (then_word (fid_text x0)) (then_word (entry_text n1 v1) ++ (then_word (entry_text n2 v2))) (word (fid_text x0) (fid x0 p0.0 seq)) (Lacks-append byte (then_word (entry_text n1 v1)) (then_word (entry_text n2 v2)) (word (entry_text n1 v1) (entry n1 v1 p1.0 p2.0)) (word (entry_text n2 v2) (entry n2 v2 p3.0 p3.1))))
  plain_command (cmd.OpenFile x0 x1 x2) form seq =
      let p0 = and_parts (is_eighth x0) ((is_fid x1) && (is_open_mode x2)) form in
      let p1 = and_parts (is_fid x1) (is_open_mode x2) p0.1 in
      Lacks-append byte (codes "OPEN") (then_word (decimal x0) ++ (then_word (fid_text x1) ++ (then_word (mode_text x2)))) (lit (codes "OPEN") refl) (Lacks-append byte (then_word (decimal x0)) (then_word (fid_text x1) ++ (then_word (mode_text x2))) (word (decimal x0) (eighth x0 p0.0)) (Lacks-append byte (then_word (fid_text x1)) (then_word (mode_text x2)) (word (fid_text x1) (fid x1 p1.0 seq)) (word (mode_text x2) (mode x2))))
  plain_command (cmd.CloseFile x0) form seq =
      Lacks-append byte (codes "CLOSE") (then_word (decimal x0)) (lit (codes "CLOSE") refl) (word (decimal x0) (eighth x0 form))
  plain_command (cmd.ReadBlock x0 x1) form seq =
      let p0 = and_parts (is_eighth x0) (is_count x1) form in
      Lacks-append byte (codes "READ") (then_word (decimal x0) ++ (then_word (decimal x1))) (lit (codes "READ") refl) (Lacks-append byte (then_word (decimal x0)) (then_word (decimal x1)) (word (decimal x0) (eighth x0 p0.0)) (word (decimal x1) (count x1 p0.1)))
  plain_command (cmd.WriteBlock x0 x1 x2) form seq =
      let p0 = and_parts (is_eighth x0) ((is_count x1) && (is_text x2)) form in
      let p1 = and_parts (is_count x1) (is_text x2) p0.1 in
      Lacks-append byte (codes "WRITE") (then_word (decimal x0) ++ (then_word (decimal x1) ++ (then_word (x2)))) (lit (codes "WRITE") refl) (Lacks-append byte (then_word (decimal x0)) (then_word (decimal x1) ++ (then_word (x2))) (word (decimal x0) (eighth x0 p0.0)) (Lacks-append byte (then_word (decimal x1)) (then_word (x2)) (word (decimal x1) (count x1 p1.0)) (word (x2) (text x2 p1.1))))
  plain_command (cmd.QuotaSet x0 x1 x2) form seq =
      let p0 = and_parts (is_owner x0) ((is_quota x1) && (is_quota x2)) form in
      let p1 = and_parts (is_quota x1) (is_quota x2) p0.1 in
      Lacks-append byte (codes "QUOTASET") (then_word (uic_text x0) ++ (then_word (decimal x1) ++ (then_word (decimal x2)))) (lit (codes "QUOTASET") refl) (Lacks-append byte (then_word (uic_text x0)) (then_word (decimal x1) ++ (then_word (decimal x2))) (word (uic_text x0) (owner x0 p0.0)) (Lacks-append byte (then_word (decimal x1)) (then_word (decimal x2)) (word (decimal x1) (quota x1 p1.0)) (word (decimal x2) (quota x2 p1.1))))
  plain_command (cmd.QuotaShow x0) form seq =
      Lacks-append byte (codes "QUOTASHOW") (then_word (uic_text x0)) (lit (codes "QUOTASHOW") refl) (word (uic_text x0) (owner x0 form))
