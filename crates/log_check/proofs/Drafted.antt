-- The line of an entry is read as that entry.
use Rattle.std.proofs.Common.{◌≡◌, ◌∙◌, ◌+◌, ◌-◌, ◌<◌, ◌^◌, ◌++◌, ℕ, zero, suc, true, false, not, cond, List, [], ◌∷◌, Option, Some, None, length, take, drop, get_or, eqb, refl, sym, ap, subst, arith, inl, inr, codes, append_assoc, length-append}
use Rattle.std.specs.Prelude.{IfSome}
use Rattle.std.specs.List.{list_all}
use Rattle.std.specs.Fmt.{decimal}
use Rattle.std.specs.Str.{bytes_eq}
use Rattle.std.proofs.Math.Seq.{take-append_seam, drop-append-add}
use Rattle.std.proofs.lemmas.Bool.{le-leb, ne_eqb}
use Rattle.std.proofs.lemmas.Fmt.{decimal_digit}
use Rattle.plain_cat.specs.declared.command.Cmd.{Cmd}
use Rattle.plain_cat.specs.declared.command.Cmd.TheVariants as cmd
use Rattle.plain_cat.specs.declared.history.Stage.{Stage}
use Rattle.plain_cat.specs.declared.history.Stage.TheVariants as stage
use Rattle.plain_cat.specs.declared.history.Mended.{Mended}
use Rattle.plain_cat.specs.InForm.{is_eighth}
use Rattle.plain_texts.specs.Names.{fid_text, uic_text, mode_text}
use Rattle.plain_cat.specs.Names.{text_of as entry_text}
use Rattle.plain_texts.specs.Commands.{then_word, register_text, command_text}
use Rattle.plain_texts.specs.Reports.{stage_text, leaks_text, mended_text}
use Rattle.run_script.specs.Steps.{part_of, number_of, with4, with5}
use Rattle.run_script.specs.Fixed.{node_text as words_text}
use Rattle.run_script.proofs.Pieces.{Lacks, Lacks-append, parts-at, number_lacks, reads_back, reads_up_to, passing_lack, within, chosen, made4, no_none}
use Rattle.run_script.proofs.Numerals.{number-sound}
use Rattle.log_check.specs.declared.drafts.Death.{Death}
use Rattle.log_check.specs.declared.commands.Given.{Given}
use Rattle.log_check.specs.declared.lines.Draft.{Draft}
use Rattle.log_check.specs.declared.lines.Draft.TheVariants as draft
use Rattle.log_check.specs.Drafts.{behind_first, node_of, named_stage, death, death_of, counts, mending_of}
use Rattle.log_check.specs.Drafts.{short_of}
use Rattle.log_check.specs.Commands.{IsSpeaking, ReadsCommand}
use Rattle.log_check.specs.Lines.{words_of, reply_of, asked_text, died_text, AreShort, IsDraftInForm, IsDrafted}
use Rattle.log_check.proofs.Speaking.{command_whole, node_small}

-- ---- parts

pub part-zero : (byte : ℕ) (w rest : List ℕ) → Lacks byte w → part_of byte 0 (w ++ (byte ∷ rest)) ≡ w
part-zero byte w rest h = ap (λ ps. get_or ps 0 []) (parts-at byte w rest h)

part-suc : (byte n : ℕ) (w rest : List ℕ) → Lacks byte w → part_of byte (suc n) (w ++ (byte ∷ rest)) ≡ part_of byte n rest
part-suc byte n w rest h = ap (λ ps. get_or ps (suc n) []) (parts-at byte w rest h)

pub behind-at : (byte : ℕ) (w rest : List ℕ) → Lacks byte w → behind_first byte (w ++ (byte ∷ rest)) ≡ rest
unfolding behind_first
behind-at byte w rest h = ap (λ p. drop (length p + 1) (w ++ (byte ∷ rest))) (part-zero byte w rest h) ∙ drop-append-add w (byte ∷ rest) 1

-- ---- numbers

pub short-back : (n : ℕ) → n < 2 ^ 32 → short_of (decimal n) ≡ Some n
unfolding short_of
short-back n h = reads_up_to 10 4294967295 n (inl refl) (omega arith) (le-leb n 4294967295 (omega (arith, h)))

node-back : (n : ℕ) → is_eighth n ≡ true → node_of (78 ∷ (48 + n) ∷ []) ≡ Some n
unfolding node_of
node-back n h = ap (λ d. number_of 10 1 8 d) (sym (decimal_digit n (node_small n h))) ∙ reads_back 10 1 8 n (inl refl) (omega arith) h

-- the digits of a number have no space, no comma
short_word : (byte n : ℕ) → n < 2 ^ 32 → byte < 48 → Lacks byte (decimal n)
short_word byte n h low = number_lacks byte 10 n (inl refl) (omega (arith, h)) (inl low)

lit : (byte : ℕ) (w : List ℕ) → list_all (λ x. not (eqb x byte)) w ≡ true → not (eqb byte byte) ≡ false → Lacks byte w
lit byte w h un = passing_lack (λ x. not (eqb x byte)) byte w un h

-- words with a space behind each
abbrev spaced : List (List ℕ) → List ℕ → List ℕ
spaced [] t = t
spaced (w ∷ ws) t = w ++ (32 ∷ spaced ws t)

abbrev AreWords : List (List ℕ) → Type 0
AreWords [] = Unit {0}
AreWords (w ∷ ws) = Lacks 32 w × AreWords ws

part-spaced : (n : ℕ) (ws : List (List ℕ)) (t : List ℕ) → AreWords ws → n < length ws → part_of 32 n (spaced ws t) ≡ get_or ws n []
part-spaced n [] t h lt = absurd (let no : ⊥ = omega arith in no)
part-spaced zero (w ∷ ws) t h lt = part-zero 32 w (spaced ws t) h.0
part-spaced (suc n) (w ∷ ws) t h lt = part-suc 32 n w (spaced ws t) h.0 ∙ part-spaced n ws t h.1 (omega arith)

-- ---- mendings

abbrev mended_words : Mended → List (List ℕ)
mended_words m =
    codes "rebuilt:" ∷ decimal m.entered ∷ codes "entered," ∷ decimal m.removed ∷ codes "entries" ∷ codes "removed,"
    ∷ decimal m.gone ∷ codes "files" ∷ codes "gone," ∷ decimal m.clusters ∷ codes "clusters," ∷ decimal m.numbers ∷ []

nested : (e r g k n t : List ℕ) → (codes "rebuilt: " ++ ((e ++ (codes " entered, " ++ (r ++ codes " entries removed, "))) ++ (g ++ (codes " files gone, " ++ (k ++ (codes " clusters, " ++ (n ++ codes " numbers"))))))) ++ t
    ≡ codes "rebuilt:" ++ (32 ∷ (e ++ (32 ∷ (codes "entered," ++ (32 ∷ (r ++ (32 ∷ (codes "entries" ++ (32 ∷ (codes "removed," ++ (32 ∷ (g ++ (32 ∷ (codes "files" ++ (32 ∷ (codes "gone," ++ (32 ∷ (k ++ (32 ∷ (codes "clusters," ++ (32 ∷ (n ++ (32 ∷ (codes "numbers" ++ t))))))))))))))))))))))))
nested e r g k n t = simp append_assoc refl

mended-spaced : (m : Mended) (t : List ℕ) → mended_text m ++ t ≡ spaced (mended_words m) (codes "numbers" ++ t)
mended-spaced m t = nested (decimal m.entered) (decimal m.removed) (decimal m.gone) (decimal m.clusters) (decimal m.numbers) t

mending-spaced : (m : Mended) (t : List ℕ) → AreShort m → mending_of (spaced (mended_words m) t) ≡ Some m
unfolding mending_of
mending-spaced m t s =
    let ws = mended_words m in
    let are : AreWords ws = (
      lit 32 (codes "rebuilt:") refl refl,
      (
        short_word 32 m.entered s.entered (omega arith),
        (
          lit 32 (codes "entered,") refl refl,
          (
            short_word 32 m.removed s.removed (omega arith),
            (
              lit 32 (codes "entries") refl refl,
              (
                lit 32 (codes "removed,") refl refl,
                (
                  short_word 32 m.gone s.gone (omega arith),
                  (
                    lit 32 (codes "files") refl refl,
                    (
                      lit 32 (codes "gone,") refl refl,
                      (short_word 32 m.clusters s.clusters (omega arith), (lit 32 (codes "clusters,") refl refl, (short_word 32 m.numbers s.numbers (omega arith), tt))),
                    ),
                  ),
                ),
              ),
            ),
          ),
        ),
      ),
    ) in
    let p0 = part-spaced 0 ws t are (omega arith) in
    let p1 = part-spaced 1 ws t are (omega arith) in
    let p3 = part-spaced 3 ws t are (omega arith) in
    let p6 = part-spaced 6 ws t are (omega arith) in
    let p9 = part-spaced 9 ws t are (omega arith) in
    let p11 = part-spaced 11 ws t are (omega arith) in
    (λ i. cond (bytes_eq (p0 i) (codes "rebuilt:")) (with5 (short_of (p1 i)) (short_of (p3 i)) (short_of (p6 i)) (short_of (p9 i)) (short_of (p11 i)) counts) None)
    ∙ (λ i. with5 (short-back m.entered s.entered i) (short-back m.removed s.removed i) (short-back m.gone s.gone i) (short-back m.clusters s.clusters i) (short-back m.numbers s.numbers i) counts)

mending-back : (m : Mended) (t : List ℕ) → AreShort m → mending_of (mended_text m ++ t) ≡ Some m
mending-back m t s = ap mending_of (mended-spaced m t) ∙ mending-spaced m (codes "numbers" ++ t) s

-- what begins with the letter of a node is no mending
no_mending : (t : List ℕ) (d : ℕ) → eqb d 32 ≡ false → mending_of (78 ∷ d ∷ 32 ∷ t) ≡ None
unfolding mending_of
no_mending t d h =
    let p = part-zero 32 (78 ∷ d ∷ []) t (refl, (h, tt)) in
    ap (λ w. cond (bytes_eq w (codes "rebuilt:")) (with5 (short_of (part_of 32 1 (78 ∷ d ∷ 32 ∷ t))) (short_of (part_of 32 3 (78 ∷ d ∷ 32 ∷ t))) (short_of (part_of 32 6 (78 ∷ d ∷ 32 ∷ t)))
    (short_of (part_of 32 9 (78 ∷ d ∷ 32 ∷ t))) (short_of (part_of 32 11 (78 ∷ d ∷ 32 ∷ t))) counts) None) p

-- ---- deaths

stage_lacks : (st : Stage) → Lacks 44 (stage_text st)
stage_lacks stage.Idle = lit 44 (codes "idle") refl refl
stage_lacks stage.Nothing = lit 44 (codes "nothing") refl refl
stage_lacks stage.Charged = lit 44 (codes "charged") refl refl
stage_lacks stage.Lost = lit 44 (codes "lost") refl refl
stage_lacks stage.Shortened = lit 44 (codes "shortened") refl refl
stage_lacks stage.Marked = lit 44 (codes "marked") refl refl
stage_lacks stage.Unlinked = lit 44 (codes "unlinked") refl refl
stage_lacks stage.Freed = lit 44 (codes "freed") refl refl
stage_lacks stage.Both = lit 44 (codes "both") refl refl
stage_lacks stage.DataOnly = lit 44 (codes "data only") refl refl
stage_lacks stage.Done = lit 44 (codes "done") refl refl

stage-back : (st : Stage) → named_stage (stage_text st) ≡ Some st
unfolding named_stage
stage-back stage.Idle = refl
stage-back stage.Nothing = refl
stage-back stage.Charged = refl
stage-back stage.Lost = refl
stage-back stage.Shortened = refl
stage-back stage.Marked = refl
stage-back stage.Unlinked = refl
stage-back stage.Freed = refl
stage-back stage.Both = refl
stage-back stage.DataOnly = refl
stage-back stage.Done = refl

-- the parts of a death's line: in front of the first comma, between the commas, and behind the second
abbrev death_front : ℕ → List ℕ → List ℕ
death_front d s = 78 ∷ d ∷ (codes " died at " ++ s)

abbrev death_middle : List ℕ → List ℕ
death_middle k = codes " leaked " ++ (k ++ codes " clusters")

abbrev death_back : List ℕ → List ℕ → List ℕ
death_back n t = 32 ∷ (n ++ (32 ∷ t))

cut : (d : ℕ) (s k n t : List ℕ) → ((78 ∷ d ∷ 32 ∷ []) ++ (codes "died at " ++ (s ++ (codes ", leaked " ++ (k ++ (codes " clusters, " ++ (n ++ codes " numbers"))))))) ++ t
    ≡ death_front d s ++ (44 ∷ (death_middle k ++ (44 ∷ death_back n (codes "numbers" ++ t))))
cut d s k n t = simp append_assoc refl

died-cut : (node : ℕ) (st : Stage) (clusters numbers : ℕ) (t : List ℕ) → is_eighth node ≡ true
    → died_text node st clusters numbers ++ t ≡ death_front (48 + node) (stage_text st) ++ (44 ∷ (death_middle (decimal clusters) ++ (44 ∷ death_back (decimal numbers) (codes "numbers" ++ t))))
unfolding died_text
died-cut node st clusters numbers t h =
    ap (λ d. ((codes "N" ++ (d ++ codes " ")) ++ (codes "died at " ++ (stage_text st ++ (codes ", leaked " ++ leaks_text clusters numbers)))) ++ t) (decimal_digit node (node_small node h))
    ∙ cut (48 + node) (stage_text st) (decimal clusters) (decimal numbers) t

digit_is : (node byte : ℕ) → byte < 48 → eqb (48 + node) byte ≡ false
digit_is node byte low = ne_eqb (48 + node) byte (λ e. omega (arith, low, e))

death-cut : (node : ℕ) (st : Stage) (clusters numbers : ℕ) (t : List ℕ) → is_eighth node ≡ true → clusters < 2 ^ 32 → numbers < 2 ^ 32
    → death_of (death_front (48 + node) (stage_text st) ++ (44 ∷ (death_middle (decimal clusters) ++ (44 ∷ death_back (decimal numbers) t)))) ≡ Some (death node st clusters numbers)
unfolding death_of
death-cut node st clusters numbers t h hk hn =
    let d = 48 + node in
    let s = stage_text st in
    let front = death_front d s in
    let middle = death_middle (decimal clusters) in
    let back = death_back (decimal numbers) t in
    let tail = middle ++ (44 ∷ back) in
    let whole = front ++ (44 ∷ tail) in
    let two : AreWords ((78 ∷ d ∷ []) ∷ codes "died" ∷ []) = ((refl, (digit_is node 32 (omega arith), tt)), (lit 32 (codes "died") refl refl, tt)) in
    let w0 : part_of 32 0 whole ≡ 78 ∷ d ∷ [] = part-spaced 0 ((78 ∷ d ∷ []) ∷ codes "died" ∷ []) (codes "at " ++ (s ++ (44 ∷ tail))) two (omega arith) in
    let w1 : part_of 32 1 whole ≡ codes "died" = part-spaced 1 ((78 ∷ d ∷ []) ∷ codes "died" ∷ []) (codes "at " ++ (s ++ (44 ∷ tail))) two (omega arith) in
    let lacks_front : Lacks 44 front = (refl, (digit_is node 44 (omega arith), Lacks-append 44 (codes " died at ") s (lit 44 (codes " died at ") refl refl) (stage_lacks st))) in
    let c0 : part_of 44 0 whole ≡ front = part-zero 44 front tail lacks_front in
    let b0 : behind_first 44 whole ≡ tail = behind-at 44 front tail lacks_front in
    let lacks_middle : Lacks 44 middle = Lacks-append 44 (codes " leaked ") (decimal clusters ++ codes " clusters") (lit 44 (codes " leaked ") refl refl)
    (Lacks-append 44 (decimal clusters) (codes " clusters") (short_word 44 clusters hk (omega arith)) (lit 44 (codes " clusters") refl refl)) in
    let c1 : part_of 44 0 tail ≡ middle = part-zero 44 middle back lacks_middle in
    let b1 : behind_first 44 tail ≡ back = behind-at 44 middle back lacks_middle in
    let three : AreWords ([] ∷ codes "leaked" ∷ decimal clusters ∷ []) = (tt, (lit 32 (codes "leaked") refl refl, (short_word 32 clusters hk (omega arith), tt))) in
    let k : part_of 32 2 middle ≡ decimal clusters = part-spaced 2 ([] ∷ codes "leaked" ∷ decimal clusters ∷ []) (codes "clusters") three (omega arith) in
    let n : part_of 32 1 back ≡ decimal numbers = part-spaced 1 ([] ∷ decimal numbers ∷ []) t (tt, (short_word 32 numbers hn (omega arith), tt)) (omega arith) in
    (λ i. cond (bytes_eq (w1 i) (codes "died")) (with4 (node_of (w0 i)) (named_stage (drop 11 (c0 i))) (short_of (part_of 32 2 (part_of 44 0 (b0 i)))) (short_of (part_of 32 1 (behind_first 44 (b0 i)))) death) None)
    ∙ (λ i. with4 (node-back node h i) (stage-back st i) (short_of (part_of 32 2 (c1 i))) (short_of (part_of 32 1 (b1 i))) death)
    ∙ (λ i. with4 (Some node) (Some st) (short_of (k i)) (short_of (n i)) death)
    ∙ (λ i. with4 (Some node) (Some st) (short-back clusters hk i) (short-back numbers hn i) death)

death-back : (node : ℕ) (st : Stage) (clusters numbers : ℕ) (t : List ℕ) → is_eighth node ≡ true → clusters < 2 ^ 32 → numbers < 2 ^ 32
    → death_of (died_text node st clusters numbers ++ t) ≡ Some (death node st clusters numbers)
death-back node st clusters numbers t h hk hn = ap death_of (died-cut node st clusters numbers t h) ∙ death-cut node st clusters numbers (codes "numbers" ++ t) h hk hn

death_no_mending : (node : ℕ) (st : Stage) (clusters numbers : ℕ) (t : List ℕ) → is_eighth node ≡ true → mending_of (died_text node st clusters numbers ++ t) ≡ None
death_no_mending node st clusters numbers t h =
    ap mending_of (died-cut node st clusters numbers t h)
    ∙ no_mending (codes "died at " ++ (stage_text st ++ (44 ∷ (death_middle (decimal clusters) ++ (44 ∷ death_back (decimal numbers) (codes "numbers" ++ t)))))) (48 + node) (digit_is node 32 (omega arith))

-- ---- answers

-- the first word of a command is no death
other_word : (w tail : List ℕ) → Lacks 32 w → bytes_eq w (codes "died") ≡ false → bytes_eq (part_of 32 0 (w ++ (32 ∷ tail))) (codes "died") ≡ false
other_word w tail h e = ap (λ p. bytes_eq p (codes "died")) (part-zero 32 w tail h) ∙ e

no_died : (c : Cmd) (more : List ℕ) → bytes_eq (part_of 32 0 (command_text c ++ more)) (codes "died") ≡ false
unfolding command_text
no_died (cmd.Lookup x0 x1 x2 x3) more = other_word (codes "LOOKUP") (((register_text x0) ++ (then_word (fid_text x1) ++ then_word (entry_text x2 x3))) ++ more) (lit 32 (codes "LOOKUP") refl refl) refl
no_died (cmd.List x0) more = other_word (codes "LIST") ((fid_text x0) ++ more) (lit 32 (codes "LIST") refl refl) refl
no_died (cmd.Stat x0) more = other_word (codes "STAT") ((fid_text x0) ++ more) (lit 32 (codes "STAT") refl refl) refl
no_died (cmd.Create x0 x1 x2 x3 x4 x5) more = other_word (codes "CREATE") (((register_text x0) ++ (then_word (fid_text x1) ++ (then_word (entry_text x2 x3) ++ (then_word (decimal x4) ++ then_word (uic_text x5))))) ++ more) (lit 32 (codes "CREATE") refl refl) refl
no_died (cmd.MkDir x0 x1 x2 x3) more = other_word (codes "MKDIR") (((register_text x0) ++ (then_word (fid_text x1) ++ (then_word (x2) ++ then_word (uic_text x3)))) ++ more) (lit 32 (codes "MKDIR") refl refl) refl
no_died (cmd.Extend x0 x1) more = other_word (codes "EXTEND") (((fid_text x0) ++ then_word (decimal x1)) ++ more) (lit 32 (codes "EXTEND") refl refl) refl
no_died (cmd.Trunc x0 x1) more = other_word (codes "TRUNC") (((fid_text x0) ++ then_word (decimal x1)) ++ more) (lit 32 (codes "TRUNC") refl refl) refl
no_died (cmd.Delete x0 x1 x2) more = other_word (codes "DELETE") (((fid_text x0) ++ then_word (entry_text x1 x2)) ++ more) (lit 32 (codes "DELETE") refl refl) refl
no_died (cmd.Rename x0 x1 x2 x3 x4) more = other_word (codes "RENAME") (((fid_text x0) ++ (then_word (entry_text x1 x2) ++ then_word (entry_text x3 x4))) ++ more) (lit 32 (codes "RENAME") refl refl) refl
no_died (cmd.OpenFile x0 x1 x2) more = other_word (codes "OPEN") (((decimal x0) ++ (then_word (fid_text x1) ++ then_word (mode_text x2))) ++ more) (lit 32 (codes "OPEN") refl refl) refl
no_died (cmd.CloseFile x0) more = other_word (codes "CLOSE") ((decimal x0) ++ more) (lit 32 (codes "CLOSE") refl refl) refl
no_died (cmd.ReadBlock x0 x1) more = other_word (codes "READ") (((decimal x0) ++ then_word (decimal x1)) ++ more) (lit 32 (codes "READ") refl refl) refl
no_died (cmd.WriteBlock x0 x1 x2) more = other_word (codes "WRITE") (((decimal x0) ++ (then_word (decimal x1) ++ then_word (x2))) ++ more) (lit 32 (codes "WRITE") refl refl) refl
no_died (cmd.QuotaSet x0 x1 x2) more = other_word (codes "QUOTASET") (((uic_text x0) ++ (then_word (decimal x1) ++ then_word (decimal x2))) ++ more) (lit 32 (codes "QUOTASET") refl refl) refl
no_died (cmd.QuotaShow x0) more = other_word (codes "QUOTASHOW") ((uic_text x0) ++ more) (lit 32 (codes "QUOTASHOW") refl refl) refl

asked : (d c t : List ℕ) → ((codes "N" ++ (d ++ codes " ")) ++ (c ++ codes " = ")) ++ t ≡ (78 ∷ ((d ++ (32 ∷ c)) ++ (32 ∷ []))) ++ (61 ∷ (32 ∷ t))
asked d c t = simp append_assoc refl

asked-words : (node : ℕ) (c : Cmd) (t : List ℕ) → asked_text node c ++ t ≡ (78 ∷ (words_text node c ++ (32 ∷ []))) ++ (61 ∷ (32 ∷ t))
unfolding asked_text
asked-words node c t = asked (decimal node) (command_text c) t

digits_open : (c t : List ℕ) (d : ℕ) → ((codes "N" ++ ((d ∷ []) ++ codes " ")) ++ (c ++ codes " = ")) ++ t ≡ 78 ∷ d ∷ 32 ∷ (c ++ (32 ∷ (61 ∷ (32 ∷ t))))
digits_open c t d = simp append_assoc refl

asked-open : (node : ℕ) (c : Cmd) (t : List ℕ) → is_eighth node ≡ true → asked_text node c ++ t ≡ 78 ∷ (48 + node) ∷ 32 ∷ (command_text c ++ (32 ∷ (61 ∷ (32 ∷ t))))
unfolding asked_text
asked-open node c t h = ap (λ d. ((codes "N" ++ (d ++ codes " ")) ++ (command_text c ++ codes " = ")) ++ t) (decimal_digit node (node_small node h)) ∙ digits_open (command_text c) t (48 + node)

answer_no_mending : (node : ℕ) (c : Cmd) (t : List ℕ) → is_eighth node ≡ true → mending_of (asked_text node c ++ t) ≡ None
answer_no_mending node c t h = ap mending_of (asked-open node c t h) ∙ no_mending (command_text c ++ (32 ∷ (61 ∷ (32 ∷ t)))) (48 + node) (digit_is node 32 (omega arith))

no_death : (text : List ℕ) → bytes_eq (part_of 32 1 text) (codes "died") ≡ false → death_of text ≡ None
unfolding death_of
no_death text h = ap (λ b. cond b (with4 (node_of (part_of 32 0 text)) (named_stage (drop 11 (part_of 44 0 text))) (short_of (part_of 32 2 (part_of 44 0 (behind_first 44 text)))) (short_of (part_of 32 1 (behind_first 44 (behind_first 44 text)))) death) None) h

answer_no_death : (node : ℕ) (c : Cmd) (t : List ℕ) → is_eighth node ≡ true → death_of (asked_text node c ++ t) ≡ None
answer_no_death node c t h =
    let rest = command_text c ++ (32 ∷ (61 ∷ (32 ∷ t))) in
    ap death_of (asked-open node c t h)
    ∙ no_death (78 ∷ (48 + node) ∷ 32 ∷ rest) (ap (λ p. bytes_eq p (codes "died")) (part-suc 32 0 (78 ∷ (48 + node) ∷ []) rest (refl, (digit_is node 32 (omega arith), tt))) ∙ no_died c (32 ∷ (61 ∷ (32 ∷ t))))

last_off : (w : List ℕ) (b : ℕ) → take (length (w ++ (b ∷ [])) - 1) (w ++ (b ∷ [])) ≡ w
last_off w b = let e : length (w ++ (b ∷ [])) - 1 ≡ length w = omega (arith, length-append w (b ∷ [])) in ap (λ n. take n (w ++ (b ∷ []))) e ∙ take-append_seam w (b ∷ [])

words_lack : (node : ℕ) (c : Cmd) → IsSpeaking node c → Lacks 61 (78 ∷ (words_text node c ++ (32 ∷ [])))
words_lack node c s =
    let small = node_small node s.node_is in (
      refl,
      Lacks-append 61 (words_text node c) (32 ∷ []) (Lacks-append 61 (decimal node) (then_word (command_text c)) (number_lacks 61 10 node (inl refl) (omega (arith, small)) (inr (omega arith)))
          (refl, command_whole c s.form s.sequence)) (refl, tt),
    )

answer-words : (node : ℕ) (c : Cmd) (t : List ℕ) → IsSpeaking node c → words_of (asked_text node c ++ t) ≡ words_text node c
unfolding words_of
answer-words node c t s =
    let front = 78 ∷ (words_text node c ++ (32 ∷ [])) in
    ap (λ body. take (length (drop 1 (part_of 61 0 body)) - 1) (drop 1 (part_of 61 0 body))) (asked-words node c t)
    ∙ ap (λ p. take (length (drop 1 p) - 1) (drop 1 p)) (part-zero 61 front (32 ∷ t) (words_lack node c s))
    ∙ last_off (words_text node c) 32

pub answer-reply : (node : ℕ) (c : Cmd) (t : List ℕ) → IsSpeaking node c → reply_of (asked_text node c ++ t) ≡ t
unfolding reply_of
answer-reply node c t s =
    let front = 78 ∷ (words_text node c ++ (32 ∷ [])) in
    ap (λ body. drop (length (part_of 61 0 body) + 2) body) (asked-words node c t)
    ∙ ap (λ p. drop (length p + 2) (front ++ (61 ∷ (32 ∷ t)))) (part-zero 61 front (32 ∷ t) (words_lack node c s))
    ∙ drop-append-add front (61 ∷ (32 ∷ t)) 2

-- ---- the whole

some_none : {A : Type 0} (o : Option A) (a : A) → o ≡ Some a → o ≡ None → ⊥
some_none {A = A} o a h k = let e : ◌≡◌ {A = Option A} (Some a) None = sym h ∙ k in cc

same_given : {A : Type 0} (o : Option A) (a b : A) → o ≡ Some a → o ≡ Some b → a ≡ b
same_given {A = A} o a b h k = let e : ◌≡◌ {A = Option A} (Some a) (Some b) = sym h ∙ k in cc

pub mending_drafted : (body : List ℕ) (m : Mended) → mending_of body ≡ Some m → IsDrafted body (Some (draft.Mending m))
mending_drafted body m h = record {
  form = tt;
  answers = λ node c t s e. absurd (some_none (mending_of body) m h (ap mending_of e ∙ answer_no_mending node c t s.node_is));
  deaths = λ node st clusters numbers t n k ns e. absurd (some_none (mending_of body) m h (ap mending_of e ∙ death_no_mending node st clusters numbers (10 ∷ t) n));
  mendings = λ counts t s e. ap (λ (m : Mended). Some (draft.Mending m)) (same_given (mending_of body) m counts h (ap mending_of e ∙ mending-back counts (10 ∷ t) s));
}

death_node : (body : List ℕ) (d : Death) → death_of body ≡ Some d → is_eighth d.node ≡ true
unfolding death_of node_of
death_node body d h =
    let c = chosen (bytes_eq (part_of 32 1 body) (codes "died")) _ d h in
    let m = made4 (node_of (part_of 32 0 body)) (named_stage (drop 11 (part_of 44 0 body))) (short_of (part_of 32 2 (part_of 44 0 (behind_first 44 body)))) (short_of (part_of 32 1 (behind_first 44 (behind_first 44 body)))) death d c.1 in
    let P : Death → Type 0 = λ d. is_eighth d.node ≡ true in
    subst P m.made (eighth (part_of 32 0 body) m.a m.is_a)
  where
    eighth : (w : List ℕ) (n : ℕ) → node_of w ≡ Some n → is_eighth n ≡ true
    eighth [] n e = absurd (no_none n e)
    eighth (b ∷ bs) n e = let c = chosen (eqb b 78) _ n e in let l = number-sound 10 1 8 bs n c.1 in within 1 8 n l.0 l.1

pub death_drafted : (body : List ℕ) (d : Death) → mending_of body ≡ None → death_of body ≡ Some d → IsDrafted body (Some (draft.Death d))
death_drafted body d none h = record {
  form = death_node body d h;
  answers = λ node c t s e. absurd (some_none (death_of body) d h (ap death_of e ∙ answer_no_death node c t s.node_is));
  deaths = λ node st clusters numbers t n k ns e. ap (λ (d : Death). Some (draft.Death d)) (same_given (death_of body) d (death node st clusters numbers) h (ap death_of e ∙ death-back node st clusters numbers (10 ∷ t) n k ns));
  mendings = λ counts t s e. absurd (some_none (mending_of body) counts (ap mending_of e ∙ mending-back counts (10 ∷ t) s) none);
}

abbrev pub answer_of : Option Given → Option Draft
answer_of None = None
answer_of (Some g) = Some (draft.Answer g)

pub answer_drafted : (body : List ℕ) (read : Option Given) → mending_of body ≡ None → death_of body ≡ None → ReadsCommand (words_of body) read
    → IfSome read (λ g. IsSpeaking g.node g.cmd) → IsDrafted body (answer_of read)
answer_drafted body read none alive reads form = record {
  form = form_of read form;
  answers = λ node c t s e. ap answer_of (reads node c s (ap words_of e ∙ answer-words node c t s));
  deaths = λ node st clusters numbers t n k ns e. absurd (some_none (death_of body) (death node st clusters numbers) (ap death_of e ∙ death-back node st clusters numbers (10 ∷ t) n k ns) alive);
  mendings = λ counts t s e. absurd (some_none (mending_of body) counts (ap mending_of e ∙ mending-back counts (10 ∷ t) s) none);
} where
  form_of : (read : Option Given) → IfSome read (λ g. IsSpeaking g.node g.cmd) → IfSome (answer_of read) IsDraftInForm
  form_of None h = tt
  form_of (Some g) h = h
