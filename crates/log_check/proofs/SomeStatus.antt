-- Some status is due, whatever comes in.
use Rattle.std.proofs.Common.{◌≡◌, ◌≤◌, ℕ, true, List, [], ◌∷◌, Some, Result, Ok, Err, length, refl, sym, subst, arith, inl, inr}
use Rattle.std.proofs.lemmas.Bool.{cases_lt}
use Rattle.base_words.specs.Fields.{Block, AreWholeBlocks}
use Rattle.fx_home.specs.declared.home.Home.{Home}
use Rattle.fx_home.specs.declared.home.HomeFault.{HomeFault}
use Rattle.fx_home.specs.Homes.{home_read}
use Rattle.plain_cat.specs.declared.cat.Cat.{Cat}
use Rattle.plain_rules.specs.Accounts.{Accounted}
use Rattle.vol_parts.specs.declared.finding.Finding.{Finding}
use Rattle.vol_parts.specs.Volumes.{volume}
use Rattle.vol_parts.specs.Catalogues.{catalogue}
use Rattle.vol_parts.specs.Findings.{home_at, Weak, AreWarningsBy, AreFindings, Accepts, IsCatalogueBy, CatOf}
use Rattle.log_check.specs.declared.judging.Verdict.{Verdict}
use Rattle.log_check.specs.declared.judging.Verdict.TheVariants as verdict
use Rattle.log_check.specs.Steps.{IsVerdict}
use Rattle.log_check.specs.Sayings.{SomeVerdict}
use Rattle.log_check.specs.declared.status.CheckStatus.{CheckStatus}
use Rattle.log_check.specs.declared.status.CheckStatus.TheVariants as status
use Rattle.log_check.specs.Histories.{IsUnchecked, IsIllegal}
use Rattle.log_check.specs.Checks.{shut, IsLegalBetween, LeadsElsewhere, LeadsTo, LeadsFrom}
use Rattle.log_check.specs.Statuses.{Given, given, IsRead, AreLoaded, IsCheckDue}
use Rattle.log_check.specs.Verdicts.{is_verdict, SomeStatus}
use Rattle.vol_analyze.proofs.Accepting.{accepted_accounts}
use Rattle.vol_analyze.specs.Having.{HaveFindings}
use Rattle.log_check.proofs.SameCats.{cats}
use Rattle.blk_drive.proofs.Sizes.{is_size}

-- blocks with nothing fatal tell a catalogue
record Tells (bs : List Block) : Type 0 where
  cat : Cat
  told : CatOf bs cat

tells_by : (bs : List Block) (r : Result Home HomeFault) (fs : List Finding) → home_read (home_at bs) ≡ r → Weak bs → AreWarningsBy bs r fs → Tells bs
tells_by bs (Err fault) fs e weak warnings = absurd warnings
tells_by bs (Ok home) fs e weak warnings =
    let c : Cat = catalogue (volume home bs) in
    let by : IsCatalogueBy bs (Ok home) c = refl in
    record { cat = c; told = record { weak = weak; told = subst (λ (r : Result Home HomeFault). IsCatalogueBy bs r c) (sym e) by } }

no_finding : (f : Finding) → ◌≡◌ {A = List Finding} [] (f ∷ []) → ⊥
no_finding f e = cc

accepted_tells : (bs : List Block) → Accepts bs → Tells bs
accepted_tells bs (inl found) = absurd (no_finding found.0 found.2)
accepted_tells bs (inr none) = tells_by bs (home_read (home_at bs)) [] refl none.0 none.1

-- a status is due
record SomeDue (g : Given) : Type 0 where
  which : CheckStatus
  speaks : is_verdict which ≡ true
  due : IsCheckDue g which

module _ (some : SomeVerdict) (words : List (List ℕ)) (text : List ℕ) (bs : List Block) (size_after : ℕ) (cs : List Block) (whole : AreWholeBlocks bs) where
  abbrev came : Given
  came = given words (Some text) (length bs) (Some bs) size_after (Some cs)

  due_of : (s : CheckStatus) → is_verdict s ≡ true → IsCheckDue came s → SomeDue came
  due_of s v d = record { which = s; speaks = v; due = d }

  leads : (P : Cat → Cat → Type 0) (p : Tells bs) (q : Tells cs) → Accepts bs → P p.cat q.cat → LeadsFrom bs (λ c. LeadsTo cs (P c))
  leads P p q accepts said = record { opening = p.cat; accepted = accepts; told = p.told; said = record { closing = q.cat; told = q.told; said = said } }

  by_verdict : AreLoaded came → Accepts bs → (p : Tells bs) (q : Tells cs) (v : Verdict) → IsVerdict p.cat text v → SomeDue came
  by_verdict loaded accepts p q (verdict.Legal k d) h = elim (cats (shut d) q.cat) [
    | inl same ↦ due_of (status.Legal k) refl (loaded, leads (λ c e. IsLegalBetween c e text k) p q accepts (record { last = d; report = h; same = same }))
    | inr differs ↦ due_of status.EndDiffers refl (loaded, leads (λ c e. LeadsElsewhere c e text) p q accepts (record { entries = k; last = d; report = h; differs = differs }))
  ]
  by_verdict loaded accepts p q (verdict.Unchecked k) h = due_of (status.Unchecked k) refl (loaded, leads (λ c e. IsUnchecked k c text) p q accepts h)
  by_verdict loaded accepts p q (verdict.Illegal k) h = due_of (status.Illegal k) refl (loaded, leads (λ c e. IsIllegal k c text) p q accepts h)

  by_after : AreLoaded came → length text ≤ 16777216 → Accepts bs → (gs : List Finding) → AreFindings cs gs → SomeDue came
  by_after loaded within accepts gs (inl found) = due_of (status.NotMendable found.0) refl (loaded, (accepts, found.1))
  by_after loaded within accepts gs (inr none) =
      let p = accepted_tells bs accepts in
      let q = tells_by cs (home_read (home_at cs)) gs refl none.0 none.1 in
      let accounted : Accounted p.cat = accepted_accounts bs p.cat loaded.inside_before.low loaded.inside_before.high whole accepts p.told in
      let v = some p.cat text accounted (omega (arith, within)) in by_verdict loaded accepts p q v.0 v.1

  by_before : AreLoaded came → length text ≤ 16777216 → (fs gs : List Finding) → AreFindings bs fs → AreFindings cs gs → SomeDue came
  by_before loaded within [] gs none after = by_after loaded within none gs after
  by_before loaded within (f ∷ fs) gs found after = due_of (status.NotAccepted f) refl (loaded, (fs, found))

  by_sizes : IsRead came → length text ≤ 16777216 → (fs gs : List Finding) → AreFindings bs fs → AreFindings cs gs → SomeDue came
  by_sizes read within fs gs before after = elim (is_size (length bs)) [
    | inr out ↦ due_of (status.BadSize (length bs)) refl (read, inl (refl, out))
    | inl inside ↦ elim (is_size size_after) [
      | inr out ↦ due_of (status.BadSize size_after) refl (read, inr (inside, refl, out))
      | inl also ↦ by_before (record { read = read; inside_before = inside; inside_after = also }) within fs gs before after
    ]
  ]

  by_text : words ≡ [] → (fs gs : List Finding) → AreFindings bs fs → AreFindings cs gs → SomeDue came
  by_text none fs gs before after = elim (cases_lt 16777216 (length text)) [
    | inl long ↦ due_of status.LogTooLong refl (none, long)
    | inr within ↦ by_sizes (record { no_words = none; within = within }) within fs gs before after
  ]

some_word : (w : List ℕ) (ws : List (List ℕ)) → ◌≡◌ {A = List (List ℕ)} (w ∷ ws) [] → ⊥
some_word w ws e = cc

pub some_status : SomeVerdict → ((bs : List Block) → HaveFindings bs) → SomeStatus
some_status some have [] text bs size_after cs whole =
    let before = have bs in
    let after = have cs in
    let s = by_text some [] text bs size_after cs whole refl before.findings after.findings before.are after.are in
    (s.which, s.speaks, s.due)
some_status some have (w ∷ ws) text bs size_after cs whole = (status.BadWords, refl, some_word w ws)
