-- Commands: each is read from the words that say it, and from no others.
use Rattle.std.proofs.Common.{◌≡◌, ◌∙◌, ◌+◌, ◌&&◌, ◌==◌, ℕ, true, List, [], ◌∷◌, Option, Some, None, length, get_or, refl, sym, ap, subst, cond, inl, inr, codes}
use Rattle.std.specs.Fmt.{decimal}
use Rattle.std.proofs.lemmas.Bool.{and_parts, and_from, eqb-true, eq-eqb}
use Rattle.base_words.specs.Names.{is_name}
use Rattle.plain_cat.specs.declared.ids.Uic.{Uic}
use Rattle.plain_cat.specs.declared.mode.Mode.{Mode}
use Rattle.plain_cat.specs.declared.script.FileRef.{FileRef}
use Rattle.plain_cat.specs.declared.script.LineCmd.{LineCmd}
use Rattle.plain_cat.specs.declared.script.LineCmd.TheVariants as line
use Rattle.plain_cat.specs.declared.script.Line.{Line}
use Rattle.plain_cat.specs.InForm.{is_within, is_eighth, is_file_ref, is_owner, is_version, is_count, is_quota, is_open_mode, is_dir_name, is_text, line_in_form}
use Rattle.plain_texts.specs.Names.{uic_text, mode_text}
use Rattle.plain_cat.specs.Names.{text_of as entry_text}
use Rattle.plain_texts.specs.Commands.{register_text}
use Rattle.run_script.specs.Grammar.{IsRefText, IsCommandText, IsNodeCommand}
use Rattle.run_script.specs.declared.kinds.Kind.{Kind}
use Rattle.run_script.specs.declared.kinds.Kind.TheVariants as kind
use Rattle.run_script.specs.Steps.{number_of, register_of, ref_of, entry_of, owner_of, mode_of, dir_name_of, text_of, count_of, channel_of, quota_of, operand, arity, command_of, open_kind, named_kind, node_command, line_of, with1, with2, with3, with4, with5}
use Rattle.run_script.proofs.Pieces.{three_of, four_of, five_of, six_of, seven_of, chosen, by_word, same_some, no_none, made1, made2, made3, made4, made5}
use Rattle.run_script.proofs.Words.{register-back, register-sound, ref-back, ref-sound, entry-back, entry-sound, count-back, count-sound, owner-back, owner-sound, dir_name-back, dir_name-sound, some-back, some-sound, channel-back, channel-sound, mode-back, mode-sound, text-back, text-sound, quota-back, quota-sound}

-- a value is made where its parts are there
with1-some : {A B : Type 0} (oa : Option A) (f : A → B) (a : A) → oa ≡ Some a → with1 oa f ≡ Some (f a)
with1-some oa f a h = ap (λ o. with1 o f) h

with2-some : {A B C : Type 0} (oa : Option A) (ob : Option B) (f : A → B → C) (a : A) (b : B) → oa ≡ Some a → ob ≡ Some b → with2 oa ob f ≡ Some (f a b)
with2-some oa ob f a b h k = ap (λ o. with2 o ob f) h ∙ with1-some ob (f a) b k

with3-some : {A B C D : Type 0} (oa : Option A) (ob : Option B) (oc : Option C) (f : A → B → C → D) (a : A) (b : B) (c : C) → oa ≡ Some a → ob ≡ Some b → oc ≡ Some c → with3 oa ob oc f ≡ Some (f a b c)
with3-some oa ob oc f a b c h k l = ap (λ o. with3 o ob oc f) h ∙ with2-some ob oc (f a) b c k l

with4-some : {A B C D E : Type 0} (oa : Option A) (ob : Option B) (oc : Option C) (od : Option D) (f : A → B → C → D → E) (a : A) (b : B) (c : C) (d : D)
    → oa ≡ Some a → ob ≡ Some b → oc ≡ Some c → od ≡ Some d → with4 oa ob oc od f ≡ Some (f a b c d)
with4-some oa ob oc od f a b c d h k l m = ap (λ o. with4 o ob oc od f) h ∙ with3-some ob oc od (f a) b c d k l m

with5-some : {A B C D E F : Type 0} (oa : Option A) (ob : Option B) (oc : Option C) (od : Option D) (oe : Option E) (f : A → B → C → D → E → F) (a : A) (b : B) (c : C) (d : D) (e : E)
    → oa ≡ Some a → ob ≡ Some b → oc ≡ Some c → od ≡ Some d → oe ≡ Some e → with5 oa ob oc od oe f ≡ Some (f a b c d e)
with5-some oa ob oc od oe f a b c d e h k l m n = ap (λ o. with5 o ob oc od oe f) h ∙ with4-some ob oc od oe (f a) b c d e k l m n

-- the kind of a command
abbrev kind_of : LineCmd → Kind
kind_of (line.Lookup reg dir name ver) = kind.Lookup
kind_of (line.List dir) = kind.List
kind_of (line.Stat file) = kind.Stat
kind_of (line.Create reg dir name ver blocks owner) = kind.Create
kind_of (line.MkDir reg dir name owner) = kind.MkDir
kind_of (line.Extend file blocks) = kind.Extend
kind_of (line.Trunc file blocks) = kind.Trunc
kind_of (line.Delete dir name ver) = kind.Delete
kind_of (line.Rename dir name ver to to_ver) = kind.Rename
kind_of (line.OpenFile chan file mode) = kind.OpenFile
kind_of (line.CloseFile chan) = kind.CloseFile
kind_of (line.ReadBlock chan vbn) = kind.ReadBlock
kind_of (line.WriteBlock chan vbn text) = kind.WriteBlock
kind_of (line.QuotaSet owner quota over) = kind.QuotaSet
kind_of (line.QuotaShow owner) = kind.QuotaShow

-- words that say a command of this kind
record Spoken (k : Kind) (ws : List (List ℕ)) (cmd : LineCmd) : Type 0 where
  rest : List (List ℕ)
  whole : ws ≡ get_or ws 0 [] ∷ rest
  command : IsCommandText cmd rest
  limits : line_in_form cmd ≡ true
  is : kind_of cmd ≡ k

-- a command in form, said by these words behind its node, is read
record IsRead (cmd : LineCmd) (first : List ℕ) (spoken : List (List ℕ)) : Type 0 where
  kind : named_kind (get_or (first ∷ spoken) 1 []) ≡ Some (kind_of cmd)
  count : length (first ∷ spoken) ≡ arity (kind_of cmd) + 2
  read : command_of (kind_of cmd) (first ∷ spoken) ≡ Some cmd

sound_lookup : (ws : List (List ℕ)) (cmd : LineCmd) → length ws ≡ 5 → get_or ws 1 [] ≡ codes "LOOKUP" → command_of kind.Lookup ws ≡ Some cmd → Spoken kind.Lookup ws cmd
unfolding command_of line_in_form
sound_lookup ws cmd len word h =
    let m = made3 (register_of (operand ws 0)) (ref_of (operand ws 1)) (entry_of (operand ws 2)) (λ x0 x1 x2. line.Lookup x0 x1 x2.name x2.ver) cmd h in
    let s0 = register-sound (operand ws 0) m.a m.is_a in
    let s1 = ref-sound (operand ws 1) m.b m.is_b in
    let s2 = entry-sound (operand ws 2) m.c m.is_c in
    let P : LineCmd → Type 0 = λ cmd. Spoken kind.Lookup ws cmd in
    subst P m.made (record {
      rest = get_or ws 1 [] ∷ get_or ws 2 [] ∷ get_or ws 3 [] ∷ get_or ws 4 [] ∷ [];
      whole = five_of ws len;
      command = (get_or ws 3 [], s1.1, (λ i. word i ∷ s0.1 i ∷ get_or ws 3 [] ∷ s2.2 i ∷ []));
      limits = and_from _ _ s0.0 (and_from _ _ s1.0 (and_from _ _ s2.0 s2.1));
      is = refl;
    })

back_lookup : (x0 : ℕ) (x1 : FileRef) (n2 : List ℕ) (v2 : ℕ) (d : List ℕ) (first : List ℕ) → IsRefText x1 d → line_in_form (line.Lookup x0 x1 n2 v2) ≡ true → IsRead (line.Lookup x0 x1 n2 v2) first (codes "LOOKUP" ∷ register_text x0 ∷ d ∷ entry_text n2 v2 ∷ [])
unfolding command_of line_in_form named_kind open_kind
back_lookup x0 x1 n2 v2 d first r limits =
    let p0 = and_parts (is_eighth x0) ((is_file_ref x1) && ((is_name n2) && (is_version v2))) limits in
    let p1 = and_parts (is_file_ref x1) ((is_name n2) && (is_version v2)) p0.1 in
    let p2 = and_parts (is_name n2) (is_version v2) p1.1 in
    record { kind = refl; count = refl; read = with3-some (register_of (register_text x0)) (ref_of (d)) (entry_of (entry_text n2 v2)) (λ x0 x1 x2. line.Lookup x0 x1 x2.name x2.ver) x0 x1 (record { name = n2; ver = v2 }) (register-back x0 p0.0) (ref-back x1 d p1.0 r) (entry-back n2 v2 p2.0 p2.1) }

sound_list : (ws : List (List ℕ)) (cmd : LineCmd) → length ws ≡ 3 → get_or ws 1 [] ≡ codes "LIST" → command_of kind.List ws ≡ Some cmd → Spoken kind.List ws cmd
unfolding command_of line_in_form
sound_list ws cmd len word h =
    let m = made1 (ref_of (operand ws 0)) (λ x0. line.List x0) cmd h in
    let s0 = ref-sound (operand ws 0) m.a m.is_a in
    let P : LineCmd → Type 0 = λ cmd. Spoken kind.List ws cmd in
    subst P m.made (record {
      rest = get_or ws 1 [] ∷ get_or ws 2 [] ∷ [];
      whole = three_of ws len;
      command = (get_or ws 2 [], s0.1, (λ i. word i ∷ get_or ws 2 [] ∷ []));
      limits = s0.0;
      is = refl;
    })

back_list : (x0 : FileRef) (d : List ℕ) (first : List ℕ) → IsRefText x0 d → line_in_form (line.List x0) ≡ true → IsRead (line.List x0) first (codes "LIST" ∷ d ∷ [])
unfolding command_of line_in_form named_kind open_kind
back_list x0 d first r limits =
    record { kind = refl; count = refl; read = with1-some (ref_of (d)) (λ x0. line.List x0) x0 (ref-back x0 d limits r) }

sound_stat : (ws : List (List ℕ)) (cmd : LineCmd) → length ws ≡ 3 → get_or ws 1 [] ≡ codes "STAT" → command_of kind.Stat ws ≡ Some cmd → Spoken kind.Stat ws cmd
unfolding command_of line_in_form
sound_stat ws cmd len word h =
    let m = made1 (ref_of (operand ws 0)) (λ x0. line.Stat x0) cmd h in
    let s0 = ref-sound (operand ws 0) m.a m.is_a in
    let P : LineCmd → Type 0 = λ cmd. Spoken kind.Stat ws cmd in
    subst P m.made (record {
      rest = get_or ws 1 [] ∷ get_or ws 2 [] ∷ [];
      whole = three_of ws len;
      command = (get_or ws 2 [], s0.1, (λ i. word i ∷ get_or ws 2 [] ∷ []));
      limits = s0.0;
      is = refl;
    })

back_stat : (x0 : FileRef) (d : List ℕ) (first : List ℕ) → IsRefText x0 d → line_in_form (line.Stat x0) ≡ true → IsRead (line.Stat x0) first (codes "STAT" ∷ d ∷ [])
unfolding command_of line_in_form named_kind open_kind
back_stat x0 d first r limits =
    record { kind = refl; count = refl; read = with1-some (ref_of (d)) (λ x0. line.Stat x0) x0 (ref-back x0 d limits r) }

sound_create : (ws : List (List ℕ)) (cmd : LineCmd) → length ws ≡ 7 → get_or ws 1 [] ≡ codes "CREATE" → command_of kind.Create ws ≡ Some cmd → Spoken kind.Create ws cmd
unfolding command_of line_in_form
sound_create ws cmd len word h =
    let m = made5 (register_of (operand ws 0)) (ref_of (operand ws 1)) (entry_of (operand ws 2)) (count_of (operand ws 3)) (owner_of (operand ws 4)) (λ x0 x1 x2 x3 x4. line.Create x0 x1 x2.name x2.ver x3 x4) cmd h in
    let s0 = register-sound (operand ws 0) m.a m.is_a in
    let s1 = ref-sound (operand ws 1) m.b m.is_b in
    let s2 = entry-sound (operand ws 2) m.c m.is_c in
    let s3 = count-sound (operand ws 3) m.d m.is_d in
    let s4 = owner-sound (operand ws 4) m.e m.is_e in
    let P : LineCmd → Type 0 = λ cmd. Spoken kind.Create ws cmd in
    subst P m.made (record {
      rest = get_or ws 1 [] ∷ get_or ws 2 [] ∷ get_or ws 3 [] ∷ get_or ws 4 [] ∷ get_or ws 5 [] ∷ get_or ws 6 [] ∷ [];
      whole = seven_of ws len;
      command = (get_or ws 3 [], s1.1, (λ i. word i ∷ s0.1 i ∷ get_or ws 3 [] ∷ s2.2 i ∷ s3.1 i ∷ s4.1 i ∷ []));
      limits = and_from _ _ s0.0 (and_from _ _ s1.0 (and_from _ _ s2.0 (and_from _ _ s2.1 (and_from _ _ s3.0 s4.0))));
      is = refl;
    })

back_create : (x0 : ℕ) (x1 : FileRef) (n2 : List ℕ) (v2 : ℕ) (x3 : ℕ) (x4 : Uic) (d : List ℕ) (first : List ℕ) → IsRefText x1 d → line_in_form (line.Create x0 x1 n2 v2 x3 x4) ≡ true → IsRead (line.Create x0 x1 n2 v2 x3 x4) first (codes "CREATE" ∷ register_text x0 ∷ d ∷ entry_text n2 v2 ∷ decimal x3 ∷ uic_text x4 ∷ [])
unfolding command_of line_in_form named_kind open_kind
back_create x0 x1 n2 v2 x3 x4 d first r limits =
    let p0 = and_parts (is_eighth x0) ((is_file_ref x1) && ((is_name n2) && ((is_version v2) && ((is_count x3) && (is_owner x4))))) limits in
    let p1 = and_parts (is_file_ref x1) ((is_name n2) && ((is_version v2) && ((is_count x3) && (is_owner x4)))) p0.1 in
    let p2 = and_parts (is_name n2) ((is_version v2) && ((is_count x3) && (is_owner x4))) p1.1 in
    let p3 = and_parts (is_version v2) ((is_count x3) && (is_owner x4)) p2.1 in
    let p4 = and_parts (is_count x3) (is_owner x4) p3.1 in
    record { kind = refl; count = refl; read = with5-some (register_of (register_text x0)) (ref_of (d)) (entry_of (entry_text n2 v2)) (count_of (decimal x3)) (owner_of (uic_text x4)) (λ x0 x1 x2 x3 x4. line.Create x0 x1 x2.name x2.ver x3 x4) x0 x1 (record { name = n2; ver = v2 }) x3 x4 (register-back x0 p0.0) (ref-back x1 d p1.0 r) (entry-back n2 v2 p2.0 p3.0) (count-back x3 p4.0) (owner-back x4 p4.1) }

sound_mkdir : (ws : List (List ℕ)) (cmd : LineCmd) → length ws ≡ 6 → get_or ws 1 [] ≡ codes "MKDIR" → command_of kind.MkDir ws ≡ Some cmd → Spoken kind.MkDir ws cmd
unfolding command_of line_in_form
sound_mkdir ws cmd len word h =
    let m = made4 (register_of (operand ws 0)) (ref_of (operand ws 1)) (dir_name_of (operand ws 2)) (owner_of (operand ws 3)) (λ x0 x1 x2 x3. line.MkDir x0 x1 x2 x3) cmd h in
    let s0 = register-sound (operand ws 0) m.a m.is_a in
    let s1 = ref-sound (operand ws 1) m.b m.is_b in
    let s2 = dir_name-sound (operand ws 2) m.c m.is_c in
    let s3 = owner-sound (operand ws 3) m.d m.is_d in
    let P : LineCmd → Type 0 = λ cmd. Spoken kind.MkDir ws cmd in
    subst P m.made (record {
      rest = get_or ws 1 [] ∷ get_or ws 2 [] ∷ get_or ws 3 [] ∷ get_or ws 4 [] ∷ get_or ws 5 [] ∷ [];
      whole = six_of ws len;
      command = (get_or ws 3 [], s1.1, (λ i. word i ∷ s0.1 i ∷ get_or ws 3 [] ∷ s2.1 i ∷ s3.1 i ∷ []));
      limits = and_from _ _ s0.0 (and_from _ _ s1.0 (and_from _ _ s2.0 s3.0));
      is = refl;
    })

back_mkdir : (x0 : ℕ) (x1 : FileRef) (x2 : List ℕ) (x3 : Uic) (d : List ℕ) (first : List ℕ) → IsRefText x1 d → line_in_form (line.MkDir x0 x1 x2 x3) ≡ true → IsRead (line.MkDir x0 x1 x2 x3) first (codes "MKDIR" ∷ register_text x0 ∷ d ∷ x2 ∷ uic_text x3 ∷ [])
unfolding command_of line_in_form named_kind open_kind
back_mkdir x0 x1 x2 x3 d first r limits =
    let p0 = and_parts (is_eighth x0) ((is_file_ref x1) && ((is_dir_name x2) && (is_owner x3))) limits in
    let p1 = and_parts (is_file_ref x1) ((is_dir_name x2) && (is_owner x3)) p0.1 in
    let p2 = and_parts (is_dir_name x2) (is_owner x3) p1.1 in
    record { kind = refl; count = refl; read = with4-some (register_of (register_text x0)) (ref_of (d)) (dir_name_of (x2)) (owner_of (uic_text x3)) (λ x0 x1 x2 x3. line.MkDir x0 x1 x2 x3) x0 x1 x2 x3 (register-back x0 p0.0) (ref-back x1 d p1.0 r) (dir_name-back x2 p2.0) (owner-back x3 p2.1) }

sound_extend : (ws : List (List ℕ)) (cmd : LineCmd) → length ws ≡ 4 → get_or ws 1 [] ≡ codes "EXTEND" → command_of kind.Extend ws ≡ Some cmd → Spoken kind.Extend ws cmd
unfolding command_of line_in_form
sound_extend ws cmd len word h =
    let m = made2 (ref_of (operand ws 0)) (number_of 10 1 65536 (operand ws 1)) (λ x0 x1. line.Extend x0 x1) cmd h in
    let s0 = ref-sound (operand ws 0) m.a m.is_a in
    let s1 = some-sound (operand ws 1) m.b m.is_b in
    let P : LineCmd → Type 0 = λ cmd. Spoken kind.Extend ws cmd in
    subst P m.made (record {
      rest = get_or ws 1 [] ∷ get_or ws 2 [] ∷ get_or ws 3 [] ∷ [];
      whole = four_of ws len;
      command = (get_or ws 2 [], s0.1, (λ i. word i ∷ get_or ws 2 [] ∷ s1.1 i ∷ []));
      limits = and_from _ _ s0.0 s1.0;
      is = refl;
    })

back_extend : (x0 : FileRef) (x1 : ℕ) (d : List ℕ) (first : List ℕ) → IsRefText x0 d → line_in_form (line.Extend x0 x1) ≡ true → IsRead (line.Extend x0 x1) first (codes "EXTEND" ∷ d ∷ decimal x1 ∷ [])
unfolding command_of line_in_form named_kind open_kind
back_extend x0 x1 d first r limits =
    let p0 = and_parts (is_file_ref x0) (is_within 1 65536 x1) limits in
    record { kind = refl; count = refl; read = with2-some (ref_of (d)) (number_of 10 1 65536 (decimal x1)) (λ x0 x1. line.Extend x0 x1) x0 x1 (ref-back x0 d p0.0 r) (some-back x1 p0.1) }

sound_trunc : (ws : List (List ℕ)) (cmd : LineCmd) → length ws ≡ 4 → get_or ws 1 [] ≡ codes "TRUNC" → command_of kind.Trunc ws ≡ Some cmd → Spoken kind.Trunc ws cmd
unfolding command_of line_in_form
sound_trunc ws cmd len word h =
    let m = made2 (ref_of (operand ws 0)) (count_of (operand ws 1)) (λ x0 x1. line.Trunc x0 x1) cmd h in
    let s0 = ref-sound (operand ws 0) m.a m.is_a in
    let s1 = count-sound (operand ws 1) m.b m.is_b in
    let P : LineCmd → Type 0 = λ cmd. Spoken kind.Trunc ws cmd in
    subst P m.made (record {
      rest = get_or ws 1 [] ∷ get_or ws 2 [] ∷ get_or ws 3 [] ∷ [];
      whole = four_of ws len;
      command = (get_or ws 2 [], s0.1, (λ i. word i ∷ get_or ws 2 [] ∷ s1.1 i ∷ []));
      limits = and_from _ _ s0.0 s1.0;
      is = refl;
    })

back_trunc : (x0 : FileRef) (x1 : ℕ) (d : List ℕ) (first : List ℕ) → IsRefText x0 d → line_in_form (line.Trunc x0 x1) ≡ true → IsRead (line.Trunc x0 x1) first (codes "TRUNC" ∷ d ∷ decimal x1 ∷ [])
unfolding command_of line_in_form named_kind open_kind
back_trunc x0 x1 d first r limits =
    let p0 = and_parts (is_file_ref x0) (is_count x1) limits in
    record { kind = refl; count = refl; read = with2-some (ref_of (d)) (count_of (decimal x1)) (λ x0 x1. line.Trunc x0 x1) x0 x1 (ref-back x0 d p0.0 r) (count-back x1 p0.1) }

sound_delete : (ws : List (List ℕ)) (cmd : LineCmd) → length ws ≡ 4 → get_or ws 1 [] ≡ codes "DELETE" → command_of kind.Delete ws ≡ Some cmd → Spoken kind.Delete ws cmd
unfolding command_of line_in_form
sound_delete ws cmd len word h =
    let m = made2 (ref_of (operand ws 0)) (entry_of (operand ws 1)) (λ x0 x1. line.Delete x0 x1.name x1.ver) cmd h in
    let s0 = ref-sound (operand ws 0) m.a m.is_a in
    let s1 = entry-sound (operand ws 1) m.b m.is_b in
    let P : LineCmd → Type 0 = λ cmd. Spoken kind.Delete ws cmd in
    subst P m.made (record {
      rest = get_or ws 1 [] ∷ get_or ws 2 [] ∷ get_or ws 3 [] ∷ [];
      whole = four_of ws len;
      command = (get_or ws 2 [], s0.1, (λ i. word i ∷ get_or ws 2 [] ∷ s1.2 i ∷ []));
      limits = and_from _ _ s0.0 (and_from _ _ s1.0 s1.1);
      is = refl;
    })

back_delete : (x0 : FileRef) (n1 : List ℕ) (v1 : ℕ) (d : List ℕ) (first : List ℕ) → IsRefText x0 d → line_in_form (line.Delete x0 n1 v1) ≡ true → IsRead (line.Delete x0 n1 v1) first (codes "DELETE" ∷ d ∷ entry_text n1 v1 ∷ [])
unfolding command_of line_in_form named_kind open_kind
back_delete x0 n1 v1 d first r limits =
    let p0 = and_parts (is_file_ref x0) ((is_name n1) && (is_version v1)) limits in
    let p1 = and_parts (is_name n1) (is_version v1) p0.1 in
    record { kind = refl; count = refl; read = with2-some (ref_of (d)) (entry_of (entry_text n1 v1)) (λ x0 x1. line.Delete x0 x1.name x1.ver) x0 (record { name = n1; ver = v1 }) (ref-back x0 d p0.0 r) (entry-back n1 v1 p1.0 p1.1) }

sound_rename : (ws : List (List ℕ)) (cmd : LineCmd) → length ws ≡ 5 → get_or ws 1 [] ≡ codes "RENAME" → command_of kind.Rename ws ≡ Some cmd → Spoken kind.Rename ws cmd
unfolding command_of line_in_form
sound_rename ws cmd len word h =
    let m = made3 (ref_of (operand ws 0)) (entry_of (operand ws 1)) (entry_of (operand ws 2)) (λ x0 x1 x2. line.Rename x0 x1.name x1.ver x2.name x2.ver) cmd h in
    let s0 = ref-sound (operand ws 0) m.a m.is_a in
    let s1 = entry-sound (operand ws 1) m.b m.is_b in
    let s2 = entry-sound (operand ws 2) m.c m.is_c in
    let P : LineCmd → Type 0 = λ cmd. Spoken kind.Rename ws cmd in
    subst P m.made (record {
      rest = get_or ws 1 [] ∷ get_or ws 2 [] ∷ get_or ws 3 [] ∷ get_or ws 4 [] ∷ [];
      whole = five_of ws len;
      command = (get_or ws 2 [], s0.1, (λ i. word i ∷ get_or ws 2 [] ∷ s1.2 i ∷ s2.2 i ∷ []));
      limits = and_from _ _ s0.0 (and_from _ _ s1.0 (and_from _ _ s1.1 (and_from _ _ s2.0 s2.1)));
      is = refl;
    })

back_rename : (x0 : FileRef) (n1 : List ℕ) (v1 : ℕ) (n2 : List ℕ) (v2 : ℕ) (d : List ℕ) (first : List ℕ) → IsRefText x0 d → line_in_form (line.Rename x0 n1 v1 n2 v2) ≡ true → IsRead (line.Rename x0 n1 v1 n2 v2) first (codes "RENAME" ∷ d ∷ entry_text n1 v1 ∷ entry_text n2 v2 ∷ [])
unfolding command_of line_in_form named_kind open_kind
back_rename x0 n1 v1 n2 v2 d first r limits =
    let p0 = and_parts (is_file_ref x0) ((is_name n1) && ((is_version v1) && ((is_name n2) && (is_version v2)))) limits in
    let p1 = and_parts (is_name n1) ((is_version v1) && ((is_name n2) && (is_version v2))) p0.1 in
    let p2 = and_parts (is_version v1) ((is_name n2) && (is_version v2)) p1.1 in
    let p3 = and_parts (is_name n2) (is_version v2) p2.1 in
    record { kind = refl; count = refl; read = with3-some (ref_of (d)) (entry_of (entry_text n1 v1)) (entry_of (entry_text n2 v2)) (λ x0 x1 x2. line.Rename x0 x1.name x1.ver x2.name x2.ver) x0 (record { name = n1; ver = v1 }) (record { name = n2; ver = v2 }) (ref-back x0 d p0.0 r) (entry-back n1 v1 p1.0 p2.0) (entry-back n2 v2 p3.0 p3.1) }

sound_open : (ws : List (List ℕ)) (cmd : LineCmd) → length ws ≡ 5 → get_or ws 1 [] ≡ codes "OPEN" → command_of kind.OpenFile ws ≡ Some cmd → Spoken kind.OpenFile ws cmd
unfolding command_of line_in_form
sound_open ws cmd len word h =
    let m = made3 (channel_of (operand ws 0)) (ref_of (operand ws 1)) (mode_of (operand ws 2)) (λ x0 x1 x2. line.OpenFile x0 x1 x2) cmd h in
    let s0 = channel-sound (operand ws 0) m.a m.is_a in
    let s1 = ref-sound (operand ws 1) m.b m.is_b in
    let s2 = mode-sound (operand ws 2) m.c m.is_c in
    let P : LineCmd → Type 0 = λ cmd. Spoken kind.OpenFile ws cmd in
    subst P m.made (record {
      rest = get_or ws 1 [] ∷ get_or ws 2 [] ∷ get_or ws 3 [] ∷ get_or ws 4 [] ∷ [];
      whole = five_of ws len;
      command = (get_or ws 3 [], s1.1, (λ i. word i ∷ s0.1 i ∷ get_or ws 3 [] ∷ s2.1 i ∷ []));
      limits = and_from _ _ s0.0 (and_from _ _ s1.0 s2.0);
      is = refl;
    })

back_open : (x0 : ℕ) (x1 : FileRef) (x2 : Mode) (d : List ℕ) (first : List ℕ) → IsRefText x1 d → line_in_form (line.OpenFile x0 x1 x2) ≡ true → IsRead (line.OpenFile x0 x1 x2) first (codes "OPEN" ∷ decimal x0 ∷ d ∷ mode_text x2 ∷ [])
unfolding command_of line_in_form named_kind open_kind
back_open x0 x1 x2 d first r limits =
    let p0 = and_parts (is_eighth x0) ((is_file_ref x1) && (is_open_mode x2)) limits in
    let p1 = and_parts (is_file_ref x1) (is_open_mode x2) p0.1 in
    record { kind = refl; count = refl; read = with3-some (channel_of (decimal x0)) (ref_of (d)) (mode_of (mode_text x2)) (λ x0 x1 x2. line.OpenFile x0 x1 x2) x0 x1 x2 (channel-back x0 p0.0) (ref-back x1 d p1.0 r) (mode-back x2 p1.1) }

sound_close : (ws : List (List ℕ)) (cmd : LineCmd) → length ws ≡ 3 → get_or ws 1 [] ≡ codes "CLOSE" → command_of kind.CloseFile ws ≡ Some cmd → Spoken kind.CloseFile ws cmd
unfolding command_of line_in_form
sound_close ws cmd len word h =
    let m = made1 (channel_of (operand ws 0)) (λ x0. line.CloseFile x0) cmd h in
    let s0 = channel-sound (operand ws 0) m.a m.is_a in
    let P : LineCmd → Type 0 = λ cmd. Spoken kind.CloseFile ws cmd in
    subst P m.made (record {
      rest = get_or ws 1 [] ∷ get_or ws 2 [] ∷ [];
      whole = three_of ws len;
      command = (λ i. word i ∷ s0.1 i ∷ []);
      limits = s0.0;
      is = refl;
    })

back_close : (x0 : ℕ) (first : List ℕ) → line_in_form (line.CloseFile x0) ≡ true → IsRead (line.CloseFile x0) first (codes "CLOSE" ∷ decimal x0 ∷ [])
unfolding command_of line_in_form named_kind open_kind
back_close x0 first limits =
    record { kind = refl; count = refl; read = with1-some (channel_of (decimal x0)) (λ x0. line.CloseFile x0) x0 (channel-back x0 limits) }

sound_read : (ws : List (List ℕ)) (cmd : LineCmd) → length ws ≡ 4 → get_or ws 1 [] ≡ codes "READ" → command_of kind.ReadBlock ws ≡ Some cmd → Spoken kind.ReadBlock ws cmd
unfolding command_of line_in_form
sound_read ws cmd len word h =
    let m = made2 (channel_of (operand ws 0)) (count_of (operand ws 1)) (λ x0 x1. line.ReadBlock x0 x1) cmd h in
    let s0 = channel-sound (operand ws 0) m.a m.is_a in
    let s1 = count-sound (operand ws 1) m.b m.is_b in
    let P : LineCmd → Type 0 = λ cmd. Spoken kind.ReadBlock ws cmd in
    subst P m.made (record {
      rest = get_or ws 1 [] ∷ get_or ws 2 [] ∷ get_or ws 3 [] ∷ [];
      whole = four_of ws len;
      command = (λ i. word i ∷ s0.1 i ∷ s1.1 i ∷ []);
      limits = and_from _ _ s0.0 s1.0;
      is = refl;
    })

back_read : (x0 : ℕ) (x1 : ℕ) (first : List ℕ) → line_in_form (line.ReadBlock x0 x1) ≡ true → IsRead (line.ReadBlock x0 x1) first (codes "READ" ∷ decimal x0 ∷ decimal x1 ∷ [])
unfolding command_of line_in_form named_kind open_kind
back_read x0 x1 first limits =
    let p0 = and_parts (is_eighth x0) (is_count x1) limits in
    record { kind = refl; count = refl; read = with2-some (channel_of (decimal x0)) (count_of (decimal x1)) (λ x0 x1. line.ReadBlock x0 x1) x0 x1 (channel-back x0 p0.0) (count-back x1 p0.1) }

sound_write : (ws : List (List ℕ)) (cmd : LineCmd) → length ws ≡ 5 → get_or ws 1 [] ≡ codes "WRITE" → command_of kind.WriteBlock ws ≡ Some cmd → Spoken kind.WriteBlock ws cmd
unfolding command_of line_in_form
sound_write ws cmd len word h =
    let m = made3 (channel_of (operand ws 0)) (count_of (operand ws 1)) (text_of (operand ws 2)) (λ x0 x1 x2. line.WriteBlock x0 x1 x2) cmd h in
    let s0 = channel-sound (operand ws 0) m.a m.is_a in
    let s1 = count-sound (operand ws 1) m.b m.is_b in
    let s2 = text-sound (operand ws 2) m.c m.is_c in
    let P : LineCmd → Type 0 = λ cmd. Spoken kind.WriteBlock ws cmd in
    subst P m.made (record {
      rest = get_or ws 1 [] ∷ get_or ws 2 [] ∷ get_or ws 3 [] ∷ get_or ws 4 [] ∷ [];
      whole = five_of ws len;
      command = (λ i. word i ∷ s0.1 i ∷ s1.1 i ∷ s2.1 i ∷ []);
      limits = and_from _ _ s0.0 (and_from _ _ s1.0 s2.0);
      is = refl;
    })

back_write : (x0 : ℕ) (x1 : ℕ) (x2 : List ℕ) (first : List ℕ) → line_in_form (line.WriteBlock x0 x1 x2) ≡ true → IsRead (line.WriteBlock x0 x1 x2) first (codes "WRITE" ∷ decimal x0 ∷ decimal x1 ∷ x2 ∷ [])
unfolding command_of line_in_form named_kind open_kind
back_write x0 x1 x2 first limits =
    let p0 = and_parts (is_eighth x0) ((is_count x1) && (is_text x2)) limits in
    let p1 = and_parts (is_count x1) (is_text x2) p0.1 in
    record { kind = refl; count = refl; read = with3-some (channel_of (decimal x0)) (count_of (decimal x1)) (text_of (x2)) (λ x0 x1 x2. line.WriteBlock x0 x1 x2) x0 x1 x2 (channel-back x0 p0.0) (count-back x1 p1.0) (text-back x2 p1.1) }

sound_quota_set : (ws : List (List ℕ)) (cmd : LineCmd) → length ws ≡ 5 → get_or ws 1 [] ≡ codes "QUOTASET" → command_of kind.QuotaSet ws ≡ Some cmd → Spoken kind.QuotaSet ws cmd
unfolding command_of line_in_form
sound_quota_set ws cmd len word h =
    let m = made3 (owner_of (operand ws 0)) (quota_of (operand ws 1)) (quota_of (operand ws 2)) (λ x0 x1 x2. line.QuotaSet x0 x1 x2) cmd h in
    let s0 = owner-sound (operand ws 0) m.a m.is_a in
    let s1 = quota-sound (operand ws 1) m.b m.is_b in
    let s2 = quota-sound (operand ws 2) m.c m.is_c in
    let P : LineCmd → Type 0 = λ cmd. Spoken kind.QuotaSet ws cmd in
    subst P m.made (record {
      rest = get_or ws 1 [] ∷ get_or ws 2 [] ∷ get_or ws 3 [] ∷ get_or ws 4 [] ∷ [];
      whole = five_of ws len;
      command = (λ i. word i ∷ s0.1 i ∷ s1.1 i ∷ s2.1 i ∷ []);
      limits = and_from _ _ s0.0 (and_from _ _ s1.0 s2.0);
      is = refl;
    })

back_quota_set : (x0 : Uic) (x1 : ℕ) (x2 : ℕ) (first : List ℕ) → line_in_form (line.QuotaSet x0 x1 x2) ≡ true → IsRead (line.QuotaSet x0 x1 x2) first (codes "QUOTASET" ∷ uic_text x0 ∷ decimal x1 ∷ decimal x2 ∷ [])
unfolding command_of line_in_form named_kind open_kind
back_quota_set x0 x1 x2 first limits =
    let p0 = and_parts (is_owner x0) ((is_quota x1) && (is_quota x2)) limits in
    let p1 = and_parts (is_quota x1) (is_quota x2) p0.1 in
    record { kind = refl; count = refl; read = with3-some (owner_of (uic_text x0)) (quota_of (decimal x1)) (quota_of (decimal x2)) (λ x0 x1 x2. line.QuotaSet x0 x1 x2) x0 x1 x2 (owner-back x0 p0.0) (quota-back x1 p1.0) (quota-back x2 p1.1) }

sound_quota_show : (ws : List (List ℕ)) (cmd : LineCmd) → length ws ≡ 3 → get_or ws 1 [] ≡ codes "QUOTASHOW" → command_of kind.QuotaShow ws ≡ Some cmd → Spoken kind.QuotaShow ws cmd
unfolding command_of line_in_form
sound_quota_show ws cmd len word h =
    let m = made1 (owner_of (operand ws 0)) (λ x0. line.QuotaShow x0) cmd h in
    let s0 = owner-sound (operand ws 0) m.a m.is_a in
    let P : LineCmd → Type 0 = λ cmd. Spoken kind.QuotaShow ws cmd in
    subst P m.made (record {
      rest = get_or ws 1 [] ∷ get_or ws 2 [] ∷ [];
      whole = three_of ws len;
      command = (λ i. word i ∷ s0.1 i ∷ []);
      limits = s0.0;
      is = refl;
    })

back_quota_show : (x0 : Uic) (first : List ℕ) → line_in_form (line.QuotaShow x0) ≡ true → IsRead (line.QuotaShow x0) first (codes "QUOTASHOW" ∷ uic_text x0 ∷ [])
unfolding command_of line_in_form named_kind open_kind
back_quota_show x0 first limits =
    record { kind = refl; count = refl; read = with1-some (owner_of (uic_text x0)) (λ x0. line.QuotaShow x0) x0 (owner-back x0 limits) }

abbrev kind_word : Kind → List ℕ
kind_word kind.Lookup = codes "LOOKUP"
kind_word kind.List = codes "LIST"
kind_word kind.Stat = codes "STAT"
kind_word kind.Create = codes "CREATE"
kind_word kind.MkDir = codes "MKDIR"
kind_word kind.Extend = codes "EXTEND"
kind_word kind.Trunc = codes "TRUNC"
kind_word kind.Delete = codes "DELETE"
kind_word kind.Rename = codes "RENAME"
kind_word kind.OpenFile = codes "OPEN"
kind_word kind.CloseFile = codes "CLOSE"
kind_word kind.ReadBlock = codes "READ"
kind_word kind.WriteBlock = codes "WRITE"
kind_word kind.QuotaSet = codes "QUOTASET"
kind_word kind.QuotaShow = codes "QUOTASHOW"

open_kind-sound : (w : List ℕ) (k : Kind) → open_kind w ≡ Some k → w ≡ kind_word k
unfolding open_kind
open_kind-sound w k h =
    let P : Kind → Type 0 = λ k. w ≡ kind_word k in
    elim (by_word w (codes "OPEN") _ _ k h) [
      | inl one ↦ subst P (same_some kind.OpenFile k one.1) one.0
      | inr rest6 ↦ elim (by_word w (codes "CLOSE") _ _ k rest6) [
        | inl one ↦ subst P (same_some kind.CloseFile k one.1) one.0
        | inr rest5 ↦ elim (by_word w (codes "READ") _ _ k rest5) [
          | inl one ↦ subst P (same_some kind.ReadBlock k one.1) one.0
          | inr rest4 ↦ elim (by_word w (codes "WRITE") _ _ k rest4) [
            | inl one ↦ subst P (same_some kind.WriteBlock k one.1) one.0
            | inr rest3 ↦ elim (by_word w (codes "QUOTASET") _ _ k rest3) [
              | inl one ↦ subst P (same_some kind.QuotaSet k one.1) one.0
              | inr rest2 ↦ elim (by_word w (codes "QUOTASHOW") _ _ k rest2) [
                | inl one ↦ subst P (same_some kind.QuotaShow k one.1) one.0
                | inr rest1 ↦ absurd (no_none k rest1)
              ]
            ]
          ]
        ]
      ]
    ]

named_kind-sound : (w : List ℕ) (k : Kind) → named_kind w ≡ Some k → w ≡ kind_word k
unfolding named_kind
named_kind-sound w k h =
    let P : Kind → Type 0 = λ k. w ≡ kind_word k in
    elim (by_word w (codes "LOOKUP") _ _ k h) [
      | inl one ↦ subst P (same_some kind.Lookup k one.1) one.0
      | inr rest9 ↦ elim (by_word w (codes "LIST") _ _ k rest9) [
        | inl one ↦ subst P (same_some kind.List k one.1) one.0
        | inr rest8 ↦ elim (by_word w (codes "STAT") _ _ k rest8) [
          | inl one ↦ subst P (same_some kind.Stat k one.1) one.0
          | inr rest7 ↦ elim (by_word w (codes "CREATE") _ _ k rest7) [
            | inl one ↦ subst P (same_some kind.Create k one.1) one.0
            | inr rest6 ↦ elim (by_word w (codes "MKDIR") _ _ k rest6) [
              | inl one ↦ subst P (same_some kind.MkDir k one.1) one.0
              | inr rest5 ↦ elim (by_word w (codes "EXTEND") _ _ k rest5) [
                | inl one ↦ subst P (same_some kind.Extend k one.1) one.0
                | inr rest4 ↦ elim (by_word w (codes "TRUNC") _ _ k rest4) [
                  | inl one ↦ subst P (same_some kind.Trunc k one.1) one.0
                  | inr rest3 ↦ elim (by_word w (codes "DELETE") _ _ k rest3) [
                    | inl one ↦ subst P (same_some kind.Delete k one.1) one.0
                    | inr rest2 ↦ elim (by_word w (codes "RENAME") _ _ k rest2) [
                      | inl one ↦ subst P (same_some kind.Rename k one.1) one.0
                      | inr rest1 ↦ open_kind-sound w k rest1
                    ]
                  ]
                ]
              ]
            ]
          ]
        ]
      ]
    ]

sound_command : (k : Kind) (ws : List (List ℕ)) (cmd : LineCmd) → length ws ≡ arity k + 2 → get_or ws 1 [] ≡ kind_word k → command_of k ws ≡ Some cmd → Spoken k ws cmd
sound_command kind.Lookup ws cmd len word h = sound_lookup ws cmd len word h
sound_command kind.List ws cmd len word h = sound_list ws cmd len word h
sound_command kind.Stat ws cmd len word h = sound_stat ws cmd len word h
sound_command kind.Create ws cmd len word h = sound_create ws cmd len word h
sound_command kind.MkDir ws cmd len word h = sound_mkdir ws cmd len word h
sound_command kind.Extend ws cmd len word h = sound_extend ws cmd len word h
sound_command kind.Trunc ws cmd len word h = sound_trunc ws cmd len word h
sound_command kind.Delete ws cmd len word h = sound_delete ws cmd len word h
sound_command kind.Rename ws cmd len word h = sound_rename ws cmd len word h
sound_command kind.OpenFile ws cmd len word h = sound_open ws cmd len word h
sound_command kind.CloseFile ws cmd len word h = sound_close ws cmd len word h
sound_command kind.ReadBlock ws cmd len word h = sound_read ws cmd len word h
sound_command kind.WriteBlock ws cmd len word h = sound_write ws cmd len word h
sound_command kind.QuotaSet ws cmd len word h = sound_quota_set ws cmd len word h
sound_command kind.QuotaShow ws cmd len word h = sound_quota_show ws cmd len word h

back_command : (cmd : LineCmd) (first : List ℕ) (spoken : List (List ℕ)) → IsCommandText cmd spoken → line_in_form cmd ≡ true → IsRead cmd first spoken
back_command (line.Lookup x0 x1 n2 v2) first spoken said limits =
    let P : List (List ℕ) → Type 0 = λ spoken. IsRead (line.Lookup x0 x1 n2 v2) first spoken in
    subst P (sym said.2) (back_lookup x0 x1 n2 v2 said.0 first said.1 limits)
back_command (line.List x0) first spoken said limits =
    let P : List (List ℕ) → Type 0 = λ spoken. IsRead (line.List x0) first spoken in
    subst P (sym said.2) (back_list x0 said.0 first said.1 limits)
back_command (line.Stat x0) first spoken said limits =
    let P : List (List ℕ) → Type 0 = λ spoken. IsRead (line.Stat x0) first spoken in
    subst P (sym said.2) (back_stat x0 said.0 first said.1 limits)
back_command (line.Create x0 x1 n2 v2 x3 x4) first spoken said limits =
    let P : List (List ℕ) → Type 0 = λ spoken. IsRead (line.Create x0 x1 n2 v2 x3 x4) first spoken in
    subst P (sym said.2) (back_create x0 x1 n2 v2 x3 x4 said.0 first said.1 limits)
back_command (line.MkDir x0 x1 x2 x3) first spoken said limits =
    let P : List (List ℕ) → Type 0 = λ spoken. IsRead (line.MkDir x0 x1 x2 x3) first spoken in
    subst P (sym said.2) (back_mkdir x0 x1 x2 x3 said.0 first said.1 limits)
back_command (line.Extend x0 x1) first spoken said limits =
    let P : List (List ℕ) → Type 0 = λ spoken. IsRead (line.Extend x0 x1) first spoken in
    subst P (sym said.2) (back_extend x0 x1 said.0 first said.1 limits)
back_command (line.Trunc x0 x1) first spoken said limits =
    let P : List (List ℕ) → Type 0 = λ spoken. IsRead (line.Trunc x0 x1) first spoken in
    subst P (sym said.2) (back_trunc x0 x1 said.0 first said.1 limits)
back_command (line.Delete x0 n1 v1) first spoken said limits =
    let P : List (List ℕ) → Type 0 = λ spoken. IsRead (line.Delete x0 n1 v1) first spoken in
    subst P (sym said.2) (back_delete x0 n1 v1 said.0 first said.1 limits)
back_command (line.Rename x0 n1 v1 n2 v2) first spoken said limits =
    let P : List (List ℕ) → Type 0 = λ spoken. IsRead (line.Rename x0 n1 v1 n2 v2) first spoken in
    subst P (sym said.2) (back_rename x0 n1 v1 n2 v2 said.0 first said.1 limits)
back_command (line.OpenFile x0 x1 x2) first spoken said limits =
    let P : List (List ℕ) → Type 0 = λ spoken. IsRead (line.OpenFile x0 x1 x2) first spoken in
    subst P (sym said.2) (back_open x0 x1 x2 said.0 first said.1 limits)
back_command (line.CloseFile x0) first spoken said limits =
    let P : List (List ℕ) → Type 0 = λ spoken. IsRead (line.CloseFile x0) first spoken in
    subst P (sym said) (back_close x0 first limits)
back_command (line.ReadBlock x0 x1) first spoken said limits =
    let P : List (List ℕ) → Type 0 = λ spoken. IsRead (line.ReadBlock x0 x1) first spoken in
    subst P (sym said) (back_read x0 x1 first limits)
back_command (line.WriteBlock x0 x1 x2) first spoken said limits =
    let P : List (List ℕ) → Type 0 = λ spoken. IsRead (line.WriteBlock x0 x1 x2) first spoken in
    subst P (sym said) (back_write x0 x1 x2 first limits)
back_command (line.QuotaSet x0 x1 x2) first spoken said limits =
    let P : List (List ℕ) → Type 0 = λ spoken. IsRead (line.QuotaSet x0 x1 x2) first spoken in
    subst P (sym said) (back_quota_set x0 x1 x2 first limits)
back_command (line.QuotaShow x0) first spoken said limits =
    let P : List (List ℕ) → Type 0 = λ spoken. IsRead (line.QuotaShow x0) first spoken in
    subst P (sym said) (back_quota_show x0 first limits)

-- the command of a node is read from the words that say it
pub line-back : (l : Line) (ws : List (List ℕ)) → IsNodeCommand l ws → line_of ws ≡ Some l
unfolding line_of
line-back l ws h =
    let r = back_command l.cmd (decimal l.node) h.spoken h.command h.limits in
    let made : node_command (decimal l.node ∷ h.spoken) (Some (kind_of l.cmd)) ≡ Some l =
    ap (λ t. cond t (with2 (channel_of (decimal l.node)) (command_of (kind_of l.cmd) (decimal l.node ∷ h.spoken)) (λ node cmd. record { node = node; cmd = cmd })) None)
    (eq-eqb (length (decimal l.node ∷ h.spoken)) (arity (kind_of l.cmd) + 2) r.count)
    ∙ with2-some (channel_of (decimal l.node)) (command_of (kind_of l.cmd) (decimal l.node ∷ h.spoken)) (λ node cmd. record { node = node; cmd = cmd }) l.node l.cmd (channel-back l.node h.node) r.read in
    ap line_of h.whole ∙ ap (node_command (decimal l.node ∷ h.spoken)) r.kind ∙ made

node_command-sound : (ws : List (List ℕ)) (o : Option Kind) (l : Line) → ((k : Kind) → o ≡ Some k → get_or ws 1 [] ≡ kind_word k) → node_command ws o ≡ Some l → IsNodeCommand l ws
node_command-sound ws None l w h = absurd (no_none l h)
node_command-sound ws (Some k) l w h =
    let c = chosen (length ws == arity k + 2) _ l h in
    let m = made2 (channel_of (get_or ws 0 [])) (command_of k ws) (λ node cmd. record { node = node; cmd = cmd }) l c.1 in
    let n = channel-sound (get_or ws 0 []) m.a m.is_a in
    let s = sound_command k ws m.b (eqb-true (length ws) (arity k + 2) c.0) (w k refl) m.is_b in
    let P : Line → Type 0 = λ l. IsNodeCommand l ws in
    subst P m.made (record {
      spoken = s.rest;
      whole = s.whole ∙ ap (λ first. first ∷ s.rest) n.1;
      node = n.0;
      command = s.command;
      limits = s.limits;
    })

pub line-sound : (ws : List (List ℕ)) (l : Line) → line_of ws ≡ Some l → IsNodeCommand l ws
unfolding line_of
line-sound ws l h = node_command-sound ws (named_kind (get_or ws 1 [])) l (λ k e. named_kind-sound (get_or ws 1 []) k e) h
