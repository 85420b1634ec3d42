-- Of a report on a catalogue something is said.
use Rattle.std.proofs.Common.{◌≡◌, ◌∙◌, ◌+◌, ◌≤◌, ◌<◌, ◌^◌, ◌⊎◌, ◌++◌, ◌&&◌, ℕ, zero, suc, Bool, true, false, List, [], ◌∷◌, Option, Some, None, length, drop, eqb, refl, sym, ap, subst, arith, inl, inr, codes, length-append, length-drop}
use Rattle.std.specs.Str.{bytes_eq}
use Rattle.std.proofs.Math.Seq.{drop-append_seam}
use Rattle.std.proofs.lemmas.Bool.{both_ways, eqb-true, eq-eqb, cases_lt}
use Rattle.plain_cat.specs.Spared.{Spared}
use Rattle.plain_cat.specs.InForm.{is_eighth}
use Rattle.plain_cat.specs.declared.command.Cmd.{Cmd}
use Rattle.plain_cat.specs.declared.history.Mended.{Mended as Counts}
use Rattle.plain_cat.specs.declared.history.Entry.TheVariants.{Done, Died, Mended}
use Rattle.plain_cat.specs.declared.cat.Cat.{Cat}
use Rattle.plain_texts.specs.Reports.{line_text}
use Rattle.plain_rules.specs.declared.outcome.Outcome.{Outcome}
use Rattle.plain_rules.specs.Accounts.{Accounted}
use Rattle.plain_rules.specs.Lookups.{is_free_number, has_free_number, free_clusters}
use Rattle.plain_rules.specs.Answers.{outcome, IsPick}
use Rattle.plain_rules.specs.Replaying.{dead}
use Rattle.plain_rules.specs.Mending.{mended}
use Rattle.plain_rules.proofs.LawSteps.{pick_exists}
use Rattle.run_script.specs.Steps.{part_of}
use Rattle.run_script.proofs.Numerals.{number-sound}
use Rattle.run_script.proofs.Pieces.{chosen, made4, made5}
use Rattle.log_check.specs.declared.drafts.Death.{Death}
use Rattle.log_check.specs.declared.commands.Given.{Given}
use Rattle.log_check.specs.declared.lines.Draft.{Draft}
use Rattle.log_check.specs.declared.lines.Draft.TheVariants as draft
use Rattle.log_check.specs.Drafts.{behind_first, node_of, named_stage, death, death_of, counts, mending_of}
use Rattle.log_check.specs.Drafts.{short_of}
use Rattle.log_check.specs.Commands.{IsSpeaking}
use Rattle.log_check.specs.Lines.{body_of, words_of, reply_of, shown_of, IsDrafted, AreShort}
use Rattle.log_check.proofs.Drafted.{mending_drafted, death_drafted, answer_of, answer_drafted}
use Rattle.log_check.specs.declared.steps.Step.{Step}
use Rattle.log_check.specs.declared.steps.Step.TheVariants as step
use Rattle.log_check.specs.declared.judging.Verdict.{Verdict}
use Rattle.log_check.specs.declared.judging.Verdict.TheVariants as verdict
use Rattle.log_check.specs.Histories.{closing_text}
use Rattle.log_check.specs.Steps.{BeginsWith, IsNext, is_told, death_text, IsChosen, IsStep, IsVerdict, one_if}
use Rattle.log_check.specs.Sayings.{SomeVerdict}
use Rattle.log_check.proofs.Told.{none_stops, answer_steps, death_steps, mending_steps, some_is}
use Rattle.log_check.proofs.Replies.{shown_pick, answer_stops, answer_nexts}
use Rattle.log_check.proofs.Entries.{entry_nexts, unlike_stops, illegal_stops, told_nexts, told_illegal, told_stops, untold_says, untold_stops}
use Rattle.log_check.proofs.Going.{Going, begins, goes, closes, unchecks, stops}
use Rattle.log_check.proofs.OneLine.{by_option, mended_keeps}
use Rattle.log_check.proofs.Speaking.{reading}
use Rattle.log_check.proofs.OneVerdict.{head_is}

-- ---- texts

decided : (a b : ℕ) → (a ≡ b) ⊎ (a ≡ b → ⊥)
decided a b = by (eqb a b) refl
  where
    by : (t : Bool) → eqb a b ≡ t → (a ≡ b) ⊎ (a ≡ b → ⊥)
    by true e = inl (eqb-true a b e)
    by false e = inr (λ h. both_ways (eqb a b) e (eq-eqb a b h))

tail_is : (x b : ℕ) (xs bs : List ℕ) → ◌≡◌ {A = List ℕ} (x ∷ xs) (b ∷ bs) → xs ≡ bs
tail_is x b xs bs e = cc

nothing_begins : (b : ℕ) (bs : List ℕ) → BeginsWith [] (b ∷ bs) → ⊥
nothing_begins b bs h = let e : [] ≡ b ∷ (bs ++ h.0) = h.1 in cc e

-- whether a text begins with a line
begins_so : (text line : List ℕ) → BeginsWith text line ⊎ (BeginsWith text line → ⊥)
begins_so text [] = inl (text, refl)
begins_so [] (b ∷ bs) = inr (nothing_begins b bs)
begins_so (x ∷ xs) (b ∷ bs) = elim (decided x b) [
  | inr never ↦ inr (λ h. never (head_is x b xs (bs ++ h.0) h.1))
  | inl e ↦ elim (begins_so xs bs) [
    | inl h ↦ inl (h.0, λ j. e j ∷ h.1 j)
    | inr never ↦ inr (λ h. never (h.0, tail_is x b xs (bs ++ h.0) h.1))
  ]
]

begun : (text line : List ℕ) → BeginsWith text line → text ≡ line ++ drop (length line) text
begun text line h = h.1 ∙ ap (λ t. line ++ t) (sym (ap (drop (length line)) h.1 ∙ drop-append_seam line h.0))

begun_within : (text line : List ℕ) → BeginsWith text line → length line ≤ length text
begun_within text line h = let e : length text ≡ length line + length h.0 = ap length h.1 ∙ length-append line h.0 in omega (arith, e)

-- whether two texts are the same
same_so : (text line : List ℕ) → (text ≡ line) ⊎ (text ≡ line → ⊥)
same_so [] [] = inl refl
same_so [] (b ∷ bs) = inr (λ h. let e : [] ≡ b ∷ bs = h in cc e)
same_so (x ∷ xs) [] = inr (λ h. let e : x ∷ xs ≡ [] = h in cc e)
same_so (x ∷ xs) (b ∷ bs) = elim (decided x b) [
  | inr never ↦ inr (λ h. never (head_is x b xs bs h))
  | inl e ↦ elim (same_so xs bs) [
    | inl h ↦ inl (λ j. e j ∷ h j)
    | inr never ↦ inr (λ h. never (tail_is x b xs bs h))
  ]
]

-- ---- what a line is read as, with numbers of 32 bits

abbrev IsShort : Option Draft → Type 0
IsShort None = Unit {0}
IsShort (Some (draft.Answer g)) = Unit {0}
IsShort (Some (draft.Death d)) = (d.clusters < 2 ^ 32) × (d.numbers < 2 ^ 32)
IsShort (Some (draft.Mending m)) = AreShort m

short : (w : List ℕ) (n : ℕ) → short_of w ≡ Some n → n < 2 ^ 32
unfolding short_of
short w n h = let l = number-sound 10 0 4294967295 w n h in omega (arith, l.1)

death_short : (body : List ℕ) (d : Death) → death_of body ≡ Some d → (d.clusters < 2 ^ 32) × (d.numbers < 2 ^ 32)
unfolding death_of
death_short body d h =
    let c = chosen (bytes_eq (part_of 32 1 body) (codes "died")) _ d h in
    let m = made4 (node_of (part_of 32 0 body)) (named_stage (drop 11 (part_of 44 0 body))) (short_of (part_of 32 2 (part_of 44 0 (behind_first 44 body)))) (short_of (part_of 32 1 (behind_first 44 (behind_first 44 body)))) death d c.1 in
    let P : Death → Type 0 = λ d. (d.clusters < 2 ^ 32) × (d.numbers < 2 ^ 32) in
    subst P m.made (short (part_of 32 2 (part_of 44 0 (behind_first 44 body))) m.c m.is_c, short (part_of 32 1 (behind_first 44 (behind_first 44 body))) m.d m.is_d)

mending_short : (body : List ℕ) (n : Counts) → mending_of body ≡ Some n → AreShort n
unfolding mending_of
mending_short body n h =
    let c = chosen (bytes_eq (part_of 32 0 body) (codes "rebuilt:")) _ n h in
    let m = made5 (short_of (part_of 32 1 body)) (short_of (part_of 32 3 body)) (short_of (part_of 32 6 body)) (short_of (part_of 32 9 body)) (short_of (part_of 32 11 body)) counts n c.1 in
    subst AreShort m.made (record {
      entered = short (part_of 32 1 body) m.a m.is_a;
      removed = short (part_of 32 3 body) m.b m.is_b;
      gone = short (part_of 32 6 body) m.c m.is_c;
      clusters = short (part_of 32 9 body) m.d m.is_d;
      numbers = short (part_of 32 11 body) m.e m.is_e;
    })

record Read (body : List ℕ) : Type 0 where
  read : Option Draft
  drafted : IsDrafted body read
  fits : IsShort read

answer_short : (o : Option Given) → IsShort (answer_of o)
answer_short None = tt
answer_short (Some g) = tt

read_so : (body : List ℕ) → Read body
read_so body =
    by_option {B = Read body} (mending_of body) (λ m e. record { read = Some (draft.Mending m); drafted = mending_drafted body m e; fits = mending_short body m e }) (λ none.
    by_option {B = Read body} (death_of body) (λ d e. record { read = Some (draft.Death d); drafted = death_drafted body d none e; fits = death_short body d e }) (λ alive.
    let r = reading (words_of body) in record { read = answer_of r.read; drafted = answer_drafted body r.read none alive r.reads r.form; fits = answer_short r.read }))

-- ---- what is said of a line

module _ (i : ℕ) (c : Cat) (text : List ℕ) (small : i < 2 ^ 64) (accounted : Accounted c) where
  abbrev SaidOf : (Step → Type 0) → Type 0
  SaidOf P = (s : Step) × P s

  choice : (x : Cmd) (reply : List ℕ) → (new : Option ℕ) × IsChosen c x reply new
  choice x reply = by_option {B = (new : Option ℕ) × IsChosen c x reply new} (shown_of reply) shows (λ none. any (λ n shown. let never : ◌≡◌ {A = Option ℕ} None (Some n) = sym none ∙ shown in absurd (cc never)))
    where
      any : ((n : ℕ) → shown_of reply ≡ Some n → IsPick c (Some n) → ⊥) → (new : Option ℕ) × IsChosen c x reply new
      any never = let p = pick_exists c in (p.0, inr (p.1, λ r n rest e shown pick. absurd (never n (shown_pick c reply r n rest accounted e shown pick) pick)))

      by_test : (n : ℕ) (b : Bool) → is_free_number c n && has_free_number c ≡ b → shown_of reply ≡ Some n → (new : Option ℕ) × IsChosen c x reply new
      by_test n true free is = (Some n, inr (free, λ r m rest e shown pick. sym is ∙ shown_pick c reply r m rest accounted e shown pick))
      by_test n false taken is = any (λ m shown pick.
          let same : ◌≡◌ {A = Option ℕ} (Some n) (Some m) = sym is ∙ shown in
          let e : n ≡ m = cc in
          both_ways (is_free_number c n && has_free_number c) taken (subst (λ (k : ℕ). is_free_number c k && has_free_number c ≡ true) (sym e) pick))

      shows : (n : ℕ) → shown_of reply ≡ Some n → (new : Option ℕ) × IsChosen c x reply new
      shows n is = by_test n (is_free_number c n && has_free_number c) refl is

  answer_said : (g : Given) → IsDrafted (body_of text) (Some (draft.Answer g)) → SaidOf (IsStep i c text)
  answer_said g drafted =
      let speaking : IsSpeaking g.node g.cmd = drafted.form in
      let new = choice g.cmd (reply_of (body_of text)) in
      let o : Outcome = outcome c g.node g.cmd new.0 in
      let line : List ℕ = line_text i (Done g.node g.cmd o.reply) in
      elim (begins_so text line) [
        | inl h ↦ (
          step.Next o.after (length line) true false,
          answer_steps i c text small g (step.Next o.after (length line) true false) drafted
              (answer_nexts i c text g.node g.cmd new.0 o small accounted speaking new.1 refl line refl (begun text line h) (begun_within text line h)),
        )
        | inr never ↦ (step.Stop, answer_steps i c text small g step.Stop drafted (answer_stops i c text g.node g.cmd new.0 o small accounted speaking new.1 refl never))
      ]

  abbrev none_left : Spared ℕ
  none_left = record { items = []; room = 0 }

  told_said : (a : Death) → is_told a ≡ true → is_eighth a.node ≡ true → a.clusters < 2 ^ 32 → IsDrafted (body_of text) (Some (draft.Death a)) → SaidOf (IsStep i c text)
  told_said a told node k drafted =
      let line : List ℕ = line_text i (Died a.node a.stage a.clusters none_left) in
      let d : Cat = dead c a.node a.clusters [] in
      elim (begins_so text line) [
        | inr never ↦ (step.Stop, death_steps i c text small a step.Stop drafted (told_stops i c text a none_left line refl told refl never))
        | inl h ↦ elim (cases_lt (free_clusters c) a.clusters) [
          | inl less ↦ (step.Stop, death_steps i c text small a step.Stop drafted (told_illegal i c text a none_left refl told less))
          | inr within ↦ (
            step.Next d (length line) false true,
            death_steps i c text small a (step.Next d (length line) false true) drafted
                (told_nexts i c text a none_left d line refl told node k accounted within refl refl (begun text line h) (begun_within text line h)),
          )
        ]
      ]

  untold_said : (a : Death) → is_told a ≡ false → is_eighth a.node ≡ true → a.clusters < 2 ^ 32 → a.numbers < 2 ^ 32 → IsDrafted (body_of text) (Some (draft.Death a)) → SaidOf (IsStep i c text)
  untold_said a told node k n drafted =
      let line : List ℕ = death_text i a.node a.stage a.clusters a.numbers in
      elim (begins_so text line) [
        | inl h ↦ (step.Untold, death_steps i c text small a step.Untold drafted (untold_says i text line a node k n told refl (begun text line h)))
        | inr never ↦ (step.Stop, death_steps i c text small a step.Stop drafted (untold_stops i c text line a told refl never))
      ]

  death_said : (a : Death) → (a.clusters < 2 ^ 32) × (a.numbers < 2 ^ 32) → IsDrafted (body_of text) (Some (draft.Death a)) → SaidOf (IsStep i c text)
  death_said a s drafted = by (is_told a) refl
    where
      by : (b : Bool) → is_told a ≡ b → SaidOf (IsStep i c text)
      by true told = told_said a told drafted.form s.0 drafted
      by false told = untold_said a told drafted.form s.0 s.1 drafted

  same_counts : (n m : Counts) → (n ≡ m) ⊎ (n ≡ m → ⊥)
  same_counts n m = elim (decided n.entered m.entered) [
    | inr never ↦ inr (λ e. never (ap (λ (m : Counts). m.entered) e))
    | inl a ↦ elim (decided n.removed m.removed) [
      | inr never ↦ inr (λ e. never (ap (λ (m : Counts). m.removed) e))
      | inl b ↦ elim (decided n.gone m.gone) [
        | inr never ↦ inr (λ e. never (ap (λ (m : Counts). m.gone) e))
        | inl g ↦ elim (decided n.clusters m.clusters) [
          | inr never ↦ inr (λ e. never (ap (λ (m : Counts). m.clusters) e))
          | inl k ↦ elim (decided n.numbers m.numbers) [
            | inr never ↦ inr (λ e. never (ap (λ (m : Counts). m.numbers) e))
            | inl l ↦ inl (λ j. counts (a j) (b j) (g j) (k j) (l j))
          ]
        ]
      ]
    ]
  ]

  mending_said : (m : Counts) → AreShort m → IsDrafted (body_of text) (Some (draft.Mending m)) → SaidOf (IsStep i c text)
  mending_said m whole drafted = by_option {B = SaidOf (IsStep i c text)} (mended c) some (λ none. stopped (λ d legal. let never : ◌≡◌ {A = Option (Cat × Counts)} None (Some (d, m)) = sym none ∙ legal in absurd (cc never)))
    where
      stopped : ((d : Cat) → mended c ≡ Some (d, m) → ⊥) → SaidOf (IsStep i c text)
      stopped never = (step.Stop, mending_steps i c text small m step.Stop drafted (illegal_stops i c text (Mended m) never))

      legal_said : (d : Cat) → mended c ≡ Some (d, m) → SaidOf (IsStep i c text)
      legal_said d legal =
          let line : List ℕ = line_text i (Mended m) in
          elim (begins_so text line) [
            | inr never ↦ (step.Stop, mending_steps i c text small m step.Stop drafted (unlike_stops i c text (Mended m) line refl never))
            | inl h ↦ (
              step.Next d (length line) false false,
              mending_steps i c text small m (step.Next d (length line) false false) drafted
                  (entry_nexts i c text (Mended m) d false line whole refl refl legal (mended_keeps c d m accounted legal) refl (begun text line h) (begun_within text line h)),
            )
          ]

      some : (p : Cat × Counts) → mended c ≡ Some p → SaidOf (IsStep i c text)
      some (d, n) is = elim (same_counts n m) [
        | inl e ↦ legal_said d (subst (λ (n : Counts). mended c ≡ Some (d, n)) e is)
        | inr never ↦ stopped (λ x legal.
            let pair : ◌≡◌ {A = Cat × Counts} (d, n) (x, m) = some_is (d, n) (x, m) (sym is ∙ legal) in
            never (ap (λ (p : Cat × Counts). p.1) pair))
      ]

  line_said : SaidOf (IsStep i c text)
  line_said = let r = read_so (body_of text) in by r.read r.drafted r.fits
    where
      by : (read : Option Draft) → IsDrafted (body_of text) read → IsShort read → SaidOf (IsStep i c text)
      by None drafted s = (step.Stop, none_stops i c text small drafted)
      by (Some (draft.Answer g)) drafted s = answer_said g drafted
      by (Some (draft.Death a)) drafted s = death_said a s drafted
      by (Some (draft.Mending m)) drafted s = mending_said m s drafted

-- ---- what is said of a report

module _ (c : Cat) (text : List ℕ) (small : length text < 2 ^ 63) where
  abbrev Said : Type 0
  Said = (v : Verdict) × IsVerdict c text v

  -- one line more, and what is said of the rest
  turn : (now : Cat) (rest : List ℕ) (entries answers deaths : ℕ) → Going c text now rest entries answers deaths
      → ((d : Cat) (used : ℕ) (answered died : Bool) → IsNext (entries + 1) now rest d used answered died → Said) → Said
  turn now rest entries answers deaths g next = elim (same_so rest (closing_text answers deaths (free_clusters now))) [
    | inl closed ↦ (verdict.Legal entries now, closes c text now rest entries answers deaths g closed)
    | inr other ↦ (let s = line_said (entries + 1) now rest (omega (arith, small, g.room)) g.accounted in by other s.0 s.1)
  ]
    where
      by : (rest ≡ closing_text answers deaths (free_clusters now) → ⊥) → (s : Step) → IsStep (entries + 1) now rest s → Said
      by other (step.Next d used answered died) h = next d used answered died h
      by other step.Untold h = (verdict.Unchecked (entries + 1), unchecks c text now rest entries answers deaths g h)
      by other step.Stop h = (verdict.Illegal (entries + 1), stops c text now rest entries answers deaths g other h)

  judged : (n : ℕ) (now : Cat) (rest : List ℕ) (entries answers deaths : ℕ) → length rest ≤ n → Going c text now rest entries answers deaths → Said
  judged zero now rest entries answers deaths fuel g = turn now rest entries answers deaths g (λ d used answered died next. absurd (omega (arith, fuel, next.some, next.within)))
  judged (suc n) now rest entries answers deaths fuel g = turn now rest entries answers deaths g (λ d used answered died next.
      judged n d (drop used rest) (entries + 1) (answers + one_if answered) (deaths + one_if died) (omega (arith, fuel, next.some, next.within, length-drop used rest))
      (goes c text now rest entries answers deaths d used answered died (drop used rest) g next refl))

pub some_verdict : SomeVerdict
some_verdict c text accounted small = judged c text small (length text) c text 0 0 0 (omega arith) (begins c text accounted)
