-- Of all statuses of a run exactly one is due, but for faults and want of memory: of a size, of a script's length and of findings there is
-- one thing to say.
use Rattle.std.proofs.Common.{◌≡◌, ◌≤◌, ℕ, true, List, [], ◌∷◌, length, refl, sym, ap, subst, arith, inl, inr}
use Rattle.std.proofs.lemmas.Bool.{false≢true, cases_lt}
use Rattle.base_words.specs.Fields.{Block}
use Rattle.blk_drive.specs.Images.{IsInside, IsOutside}
use Rattle.vol_parts.specs.declared.finding.Finding.{Finding}
use Rattle.vol_parts.specs.Findings.{AreFindings, Accepts}
use Rattle.run_script.specs.Lines.{lines_of}
use Rattle.run_script.specs.Laws.{SayOneThing}
use Rattle.vol_analyze.specs.Judging.{IsFirstFound}
use Rattle.run_engine.specs.declared.status.Status.{Status}
use Rattle.run_engine.specs.declared.status.Status.TheVariants as status
use Rattle.run_engine.specs.Texts.{IsTooLong, IsBad, IsOverfull, IsGood, IsWordsDue}
use Rattle.run_engine.specs.Verdicts.{is_verdict, IsRunDue, HasRunVerdict}
use Rattle.blk_drive.proofs.Sizes.{is_size, outside}

pub too_long : (bytes : List ℕ) → IsTooLong bytes → length bytes ≤ 1048576 → ⊥
too_long bytes h k = omega arith

-- these blocks have one list of findings
abbrev pub OneList : List Block → Type 0
OneList bs = (fs gs : List Finding) → AreFindings bs fs → AreFindings bs gs → fs ≡ gs

pub unfound : (bs : List Block) (f : Finding) → OneList bs → Accepts bs → IsFirstFound bs f → ⊥
unfound bs f one none found = let e : [] ≡ f ∷ found.0 = one [] (f ∷ found.0) none found.1 in cc e

pub same_first : (bs : List Block) (f g : Finding) → OneList bs → IsFirstFound bs f → IsFirstFound bs g → g ≡ f
same_first bs f g one found other =
    let e : g ∷ other.0 ≡ f ∷ found.0 = one (g ∷ other.0) (f ∷ found.0) other.1 found.1 in cc e

-- no other status of a run is due
abbrev pub AloneInRun : List ℕ → ℕ → List Block → Status → Type 0
AloneInRun bytes size bs s = (other : Status) → is_verdict other ≡ true → IsRunDue bytes size bs other → other ≡ s

alone_long : (bytes : List ℕ) (size : ℕ) (bs : List Block) → IsTooLong bytes → AloneInRun bytes size bs status.ScriptTooLong
alone_long bytes size bs long status.Ok v h = absurd (too_long bytes long h.0.within)
alone_long bytes size bs long status.ScriptFault v h = absurd (false≢true v)
alone_long bytes size bs long status.ScriptTooLong v h = refl
alone_long bytes size bs long (status.BadScript m) v h = absurd (too_long bytes long h.within)
alone_long bytes size bs long status.TooMany v h = absurd (too_long bytes long h.within)
alone_long bytes size bs long status.ImageFault v h = absurd (false≢true v)
alone_long bytes size bs long (status.BadSize m) v h = absurd (too_long bytes long h.0.within)
alone_long bytes size bs long (status.NotAccepted g) v h = absurd (too_long bytes long h.0.within)
alone_long bytes size bs long status.OutFault v h = absurd (false≢true v)
alone_long bytes size bs long status.NoMemory v h = absurd (false≢true v)
alone_long bytes size bs long s v h = absurd h

alone_bad : (bytes : List ℕ) (size : ℕ) (bs : List Block) (n : ℕ) → SayOneThing (lines_of bytes) → IsBad n bytes → AloneInRun bytes size bs (status.BadScript n)
alone_bad bytes size bs n one bad status.Ok v h = absurd (one.good h.0.script n h.0.spelt bad.bad)
alone_bad bytes size bs n one bad status.ScriptFault v h = absurd (false≢true v)
alone_bad bytes size bs n one bad status.ScriptTooLong v h = absurd (too_long bytes h bad.within)
alone_bad bytes size bs n one bad (status.BadScript m) v h = ap status.BadScript (one.one_line m n h.bad bad.bad)
alone_bad bytes size bs n one bad status.TooMany v h = absurd (one.first n bad.bad h.over)
alone_bad bytes size bs n one bad status.ImageFault v h = absurd (false≢true v)
alone_bad bytes size bs n one bad (status.BadSize m) v h = absurd (one.good h.0.script n h.0.spelt bad.bad)
alone_bad bytes size bs n one bad (status.NotAccepted g) v h = absurd (one.good h.0.script n h.0.spelt bad.bad)
alone_bad bytes size bs n one bad status.OutFault v h = absurd (false≢true v)
alone_bad bytes size bs n one bad status.NoMemory v h = absurd (false≢true v)
alone_bad bytes size bs n one bad s v h = absurd h

alone_over : (bytes : List ℕ) (size : ℕ) (bs : List Block) → SayOneThing (lines_of bytes) → IsOverfull bytes → AloneInRun bytes size bs status.TooMany
alone_over bytes size bs one over status.Ok v h = absurd (one.within h.0.script h.0.spelt over.over)
alone_over bytes size bs one over status.ScriptFault v h = absurd (false≢true v)
alone_over bytes size bs one over status.ScriptTooLong v h = absurd (too_long bytes h over.within)
alone_over bytes size bs one over (status.BadScript m) v h = absurd (one.first m h.bad over.over)
alone_over bytes size bs one over status.TooMany v h = refl
alone_over bytes size bs one over status.ImageFault v h = absurd (false≢true v)
alone_over bytes size bs one over (status.BadSize m) v h = absurd (one.within h.0.script h.0.spelt over.over)
alone_over bytes size bs one over (status.NotAccepted g) v h = absurd (one.within h.0.script h.0.spelt over.over)
alone_over bytes size bs one over status.OutFault v h = absurd (false≢true v)
alone_over bytes size bs one over status.NoMemory v h = absurd (false≢true v)
alone_over bytes size bs one over s v h = absurd h

alone_size : (bytes : List ℕ) (size : ℕ) (bs : List Block) → SayOneThing (lines_of bytes) → IsGood bytes → IsOutside size → AloneInRun bytes size bs (status.BadSize size)
alone_size bytes size bs one good out status.Ok v h = absurd (outside size h.1.inside out)
alone_size bytes size bs one good out status.ScriptFault v h = absurd (false≢true v)
alone_size bytes size bs one good out status.ScriptTooLong v h = absurd (too_long bytes h good.within)
alone_size bytes size bs one good out (status.BadScript m) v h = absurd (one.good good.script m good.spelt h.bad)
alone_size bytes size bs one good out status.TooMany v h = absurd (one.within good.script good.spelt h.over)
alone_size bytes size bs one good out status.ImageFault v h = absurd (false≢true v)
alone_size bytes size bs one good out (status.BadSize m) v h = ap status.BadSize h.1
alone_size bytes size bs one good out (status.NotAccepted g) v h = absurd (outside size h.1 out)
alone_size bytes size bs one good out status.OutFault v h = absurd (false≢true v)
alone_size bytes size bs one good out status.NoMemory v h = absurd (false≢true v)
alone_size bytes size bs one good out s v h = absurd h

alone_found : (bytes : List ℕ) (size : ℕ) (bs : List Block) (f : Finding) → SayOneThing (lines_of bytes) → OneList bs → IsGood bytes → IsInside size → IsFirstFound bs f → AloneInRun bytes size bs (status.NotAccepted f)
alone_found bytes size bs f one list good inside found status.Ok v h = absurd (unfound bs f list h.1.accepted found)
alone_found bytes size bs f one list good inside found status.ScriptFault v h = absurd (false≢true v)
alone_found bytes size bs f one list good inside found status.ScriptTooLong v h = absurd (too_long bytes h good.within)
alone_found bytes size bs f one list good inside found (status.BadScript m) v h = absurd (one.good good.script m good.spelt h.bad)
alone_found bytes size bs f one list good inside found status.TooMany v h = absurd (one.within good.script good.spelt h.over)
alone_found bytes size bs f one list good inside found status.ImageFault v h = absurd (false≢true v)
alone_found bytes size bs f one list good inside found (status.BadSize m) v h = absurd (outside size inside h.2)
alone_found bytes size bs f one list good inside found (status.NotAccepted g) v h = ap status.NotAccepted (same_first bs f g list found h.2)
alone_found bytes size bs f one list good inside found status.OutFault v h = absurd (false≢true v)
alone_found bytes size bs f one list good inside found status.NoMemory v h = absurd (false≢true v)
alone_found bytes size bs f one list good inside found s v h = absurd h

pub alone_good : (bytes : List ℕ) (size : ℕ) (bs : List Block) → SayOneThing (lines_of bytes) → OneList bs → IsGood bytes → IsInside size → Accepts bs → AloneInRun bytes size bs status.Ok
alone_good bytes size bs one list good inside none status.Ok v h = refl
alone_good bytes size bs one list good inside none status.ScriptFault v h = absurd (false≢true v)
alone_good bytes size bs one list good inside none status.ScriptTooLong v h = absurd (too_long bytes h good.within)
alone_good bytes size bs one list good inside none (status.BadScript m) v h = absurd (one.good good.script m good.spelt h.bad)
alone_good bytes size bs one list good inside none status.TooMany v h = absurd (one.within good.script good.spelt h.over)
alone_good bytes size bs one list good inside none status.ImageFault v h = absurd (false≢true v)
alone_good bytes size bs one list good inside none (status.BadSize m) v h = absurd (outside size inside h.2)
alone_good bytes size bs one list good inside none (status.NotAccepted g) v h = absurd (unfound bs g list none h.2)
alone_good bytes size bs one list good inside none status.OutFault v h = absurd (false≢true v)
alone_good bytes size bs one list good inside none status.NoMemory v h = absurd (false≢true v)
alone_good bytes size bs one list good inside none s v h = absurd h

-- of a run no other status is due than one that is
pub due_alone : (bytes : List ℕ) (size : ℕ) (bs : List Block) (s : Status) → SayOneThing (lines_of bytes) → OneList bs → is_verdict s ≡ true → IsRunDue bytes size bs s → AloneInRun bytes size bs s
due_alone bytes size bs status.Ok one list v d = alone_good bytes size bs one list d.0 d.1.inside d.1.accepted
due_alone bytes size bs status.ScriptFault one list v d = absurd (false≢true v)
due_alone bytes size bs status.ScriptTooLong one list v d = alone_long bytes size bs d
due_alone bytes size bs (status.BadScript n) one list v d = alone_bad bytes size bs n one d
due_alone bytes size bs status.TooMany one list v d = alone_over bytes size bs one d
due_alone bytes size bs status.ImageFault one list v d = absurd (false≢true v)
due_alone bytes size bs (status.BadSize n) one list v d = subst (λ (m : ℕ). AloneInRun bytes size bs (status.BadSize m)) (sym d.1) (alone_size bytes size bs one d.0 d.2)
due_alone bytes size bs (status.NotAccepted f) one list v d = alone_found bytes size bs f one list d.0 d.1 d.2
due_alone bytes size bs status.OutFault one list v d = absurd (false≢true v)
due_alone bytes size bs status.NoMemory one list v d = absurd (false≢true v)
due_alone bytes size bs s one list v d = absurd d

-- nor of words that have no reading
pub words_alone : (other : Status) → is_verdict other ≡ true → IsWordsDue other → other ≡ status.BadWords
words_alone status.BadWords v h = refl
words_alone status.NoMemory v h = absurd (false≢true v)
words_alone s v h = absurd h

-- a good script, and an image of the right size
of_inside : (bytes : List ℕ) (size : ℕ) (bs : List Block) (fs : List Finding) → SayOneThing (lines_of bytes) → OneList bs → IsGood bytes → IsInside size → AreFindings bs fs
    → HasRunVerdict bytes size bs
of_inside bytes size bs [] one list good inside none = record {
  status = status.Ok;
  verdict = refl;
  due = (good, record { inside = inside; accepted = none });
  alone = alone_good bytes size bs one list good inside none;
}
of_inside bytes size bs (f ∷ fs) one list good inside found =
    let first : IsFirstFound bs f = (fs, found) in
    record {
      status = status.NotAccepted f;
      verdict = refl;
      due = (good, inside, first);
      alone = alone_found bytes size bs f one list good inside first;
    }

-- a good script
of_good : (bytes : List ℕ) (size : ℕ) (bs : List Block) (fs : List Finding) → SayOneThing (lines_of bytes) → OneList bs → IsGood bytes → AreFindings bs fs
    → HasRunVerdict bytes size bs
of_good bytes size bs fs one list good found =
    elim (is_size size) [
      | inr out ↦ record { status = status.BadSize size; verdict = refl; due = (good, refl, out); alone = alone_size bytes size bs one good out }
      | inl inside ↦ of_inside bytes size bs fs one list good inside found
    ]

-- a script within its limit
of_script : (bytes : List ℕ) (size : ℕ) (bs : List Block) (fs : List Finding) → SayOneThing (lines_of bytes) → OneList bs → length bytes ≤ 1048576 → AreFindings bs fs
    → HasRunVerdict bytes size bs
of_script bytes size bs fs one list within found =
    elim one.something [
      | inl spelt ↦ of_good bytes size bs fs one list (record { within = within; script = spelt.0; spelt = spelt.1 }) found
      | inr (inl bad) ↦
          let is : IsBad bad.0 bytes = record { within = within; bad = bad.1 } in
          record { status = status.BadScript bad.0; verdict = refl; due = is; alone = alone_bad bytes size bs bad.0 one is }
      | inr (inr over) ↦
          let is : IsOverfull bytes = record { within = within; over = over } in
          record { status = status.TooMany; verdict = refl; due = is; alone = alone_over bytes size bs one is }
    ]

pub run_verdict : (bytes : List ℕ) (size : ℕ) (bs : List Block) (fs : List Finding) → SayOneThing (lines_of bytes) → OneList bs → AreFindings bs fs → HasRunVerdict bytes size bs
run_verdict bytes size bs fs one list found =
    elim (cases_lt 1048576 (length bytes)) [
      | inl long ↦ record { status = status.ScriptTooLong; verdict = refl; due = long; alone = alone_long bytes size bs long }
      | inr within ↦ of_script bytes size bs fs one list within found
    ]
