-- Of all statuses one is due, but for faults and want of memory.
use Rattle.std.proofs.Common.{◌≡◌, ◌∙◌, ◌≤◌, ◌<◌, ◌^◌, ℕ, true, List, [], ◌∷◌, Some, Result, Ok, Err, length, refl, sym, ap, subst, arith, inl, inr}
use Rattle.std.proofs.lemmas.Bool.{false≢true}
use Rattle.base_words.specs.Fields.{Block, AreWholeBlocks}
use Rattle.fx_home.specs.declared.home.Home.{Home}
use Rattle.fx_home.specs.declared.home.HomeFault.{HomeFault}
use Rattle.fx_home.specs.Homes.{home_read}
use Rattle.blk_drive.specs.Images.{IsInside}
use Rattle.plain_cat.specs.declared.cat.Cat.{Cat}
use Rattle.plain_rules.specs.Accounts.{Accounted}
use Rattle.vol_parts.specs.declared.finding.Finding.{Finding}
use Rattle.vol_parts.specs.Findings.{home_at, IsFirstFatal, AreFindings, Accepts, IsCatalogueBy, CatOf}
use Rattle.vol_analyze.specs.Judging.{IsFirstFound}
use Rattle.log_check.specs.declared.judging.Verdict.TheVariants as verdict
use Rattle.log_check.specs.Histories.{IsUnchecked, IsIllegal}
use Rattle.log_check.specs.Sayings.{OneVerdict}
use Rattle.log_check.specs.declared.status.CheckStatus.{CheckStatus}
use Rattle.log_check.specs.declared.status.CheckStatus.TheVariants as status
use Rattle.log_check.specs.Checks.{shut, IsLegalBetween, LeadsElsewhere, LeadsTo, LeadsFrom}
use Rattle.log_check.specs.Statuses.{Given, given, IsWrongSize, IsCheckDue}
use Rattle.log_check.specs.Verdicts.{is_verdict, OneStatus}
use Rattle.vol_analyze.proofs.Accepting.{accepted_accounts}
use Rattle.blk_drive.proofs.Sizes.{outside}

-- these blocks have one list of findings
abbrev OneList : Type 0
OneList = (bs : List Block) (fs gs : List Finding) → AreFindings bs fs → AreFindings bs gs → fs ≡ gs

cat_by : (bs : List Block) (r : Result Home HomeFault) (c d : Cat) → IsCatalogueBy bs r c → IsCatalogueBy bs r d → c ≡ d
cat_by bs (Err fault) c d h k = absurd h
cat_by bs (Ok home) c d h k = h ∙ sym k

-- blocks tell one catalogue
one_cat : (bs : List Block) (c d : Cat) → CatOf bs c → CatOf bs d → c ≡ d
one_cat bs c d h k = cat_by bs (home_read (home_at bs)) c d h.told k.told

module _ (one : OneVerdict) (list : OneList) (words : List (List ℕ)) (text : List ℕ) (bs : List Block) (size_after : ℕ) (cs : List Block) (whole : AreWholeBlocks bs) where
  abbrev came : Given
  came = given words (Some text) (length bs) (Some bs) size_after (Some cs)

  abbrev Due : CheckStatus → Type 0
  Due s = IsCheckDue came s

  -- no other status is due
  abbrev Alone : CheckStatus → Type 0
  Alone s = (t : CheckStatus) → is_verdict t ≡ true → Due t → t ≡ s

  too_long : 16777216 < length text → length text ≤ 16777216 → ⊥
  too_long h k = omega (arith, h, k)

  small : length text ≤ 16777216 → length text < 2 ^ 63
  small h = omega (arith, h)

  wrong_size : (n : ℕ) → IsWrongSize came n → IsInside (length bs) → IsInside size_after → ⊥
  wrong_size n (inl h) i j = outside (length bs) i h.1
  wrong_size n (inr h) i j = outside size_after j h.2

  one_size : (m n : ℕ) → IsWrongSize came m → IsWrongSize came n → m ≡ n
  one_size m n (inl h) (inl k) = h.0 ∙ sym k.0
  one_size m n (inl h) (inr k) = absurd (outside (length bs) k.0 h.1)
  one_size m n (inr h) (inl k) = absurd (outside (length bs) h.0 k.1)
  one_size m n (inr h) (inr k) = h.1 ∙ sym k.1

  unfound : (f : Finding) → Accepts bs → IsFirstFound bs f → ⊥
  unfound f none found = let e : [] ≡ f ∷ found.0 = list bs [] (f ∷ found.0) none found.1 in cc e

  same_first : (g f : Finding) → IsFirstFound bs g → IsFirstFound bs f → g ≡ f
  same_first g f h k = let e : g ∷ h.0 ≡ f ∷ k.0 = list bs (g ∷ h.0) (f ∷ k.0) h.1 k.1 in cc e

  same_fatal : (g f : Finding) → IsFirstFatal cs g → IsFirstFatal cs f → g ≡ f
  same_fatal g f h k = let e : g ∷ [] ≡ f ∷ [] = list cs (g ∷ []) (f ∷ []) (inl (g, h, refl)) (inl (f, k, refl)) in cc e

  -- two things are said of one catalogue before and one after
  pair : (P Q : Cat → Cat → Type 0) (R : Type 0) → IsInside (length bs) → LeadsFrom bs (λ c. LeadsTo cs (P c)) → LeadsFrom bs (λ c. LeadsTo cs (Q c))
      → ((c e : Cat) → Accounted c → P c e → Q c e → R) → R
  pair P Q R inside p q next =
      let opening : q.opening ≡ p.opening = one_cat bs q.opening p.opening q.told p.told in
      let closing : q.said.closing ≡ p.said.closing = one_cat cs q.said.closing p.said.closing q.said.told p.said.told in
      let accounted : Accounted p.opening = accepted_accounts bs p.opening inside.low inside.high whole p.accepted p.told in
      next p.opening p.said.closing accounted p.said.said (subst (λ (c : Cat). Q c p.said.closing) opening (subst (λ (e : Cat). Q q.opening e) closing q.said.said))

  legal_legal : (c e : Cat) (m : ℕ) (n : ℕ) → Accounted c → length text < 2 ^ 63 → IsLegalBetween c e text m → IsLegalBetween c e text n → (status.Legal m) ≡ (status.Legal n)
  legal_legal c e m n a small p q =
      let same : verdict.Legal m p.last ≡ verdict.Legal n q.last = one c text a small (verdict.Legal m p.last) (verdict.Legal n q.last) p.report q.report in let count : m ≡ n = cc in ap status.Legal count

  legal_unchecked : (c e : Cat) (m : ℕ) (n : ℕ) → Accounted c → length text < 2 ^ 63 → IsLegalBetween c e text m → IsUnchecked n c text → (status.Legal m) ≡ (status.Unchecked n)
  legal_unchecked c e m n a small p q =
      let same : verdict.Legal m p.last ≡ verdict.Unchecked n = one c text a small (verdict.Legal m p.last) (verdict.Unchecked n) p.report q in absurd (let no : ⊥ = cc in no)

  legal_illegal : (c e : Cat) (m : ℕ) (n : ℕ) → Accounted c → length text < 2 ^ 63 → IsLegalBetween c e text m → IsIllegal n c text → (status.Legal m) ≡ (status.Illegal n)
  legal_illegal c e m n a small p q =
      let same : verdict.Legal m p.last ≡ verdict.Illegal n = one c text a small (verdict.Legal m p.last) (verdict.Illegal n) p.report q in absurd (let no : ⊥ = cc in no)

  legal_astray : (c e : Cat) (m : ℕ) → Accounted c → length text < 2 ^ 63 → IsLegalBetween c e text m → LeadsElsewhere c e text → (status.Legal m) ≡ status.EndDiffers
  legal_astray c e m a small p q =
      let same : verdict.Legal m p.last ≡ verdict.Legal q.entries q.last = one c text a small (verdict.Legal m p.last) (verdict.Legal q.entries q.last) p.report q.report in let last : p.last ≡ q.last = cc in absurd (q.differs (sym (ap shut last) ∙ p.same))

  unchecked_legal : (c e : Cat) (m : ℕ) (n : ℕ) → Accounted c → length text < 2 ^ 63 → IsUnchecked m c text → IsLegalBetween c e text n → (status.Unchecked m) ≡ (status.Legal n)
  unchecked_legal c e m n a small p q =
      let same : verdict.Unchecked m ≡ verdict.Legal n q.last = one c text a small (verdict.Unchecked m) (verdict.Legal n q.last) p q.report in absurd (let no : ⊥ = cc in no)

  unchecked_unchecked : (c e : Cat) (m : ℕ) (n : ℕ) → Accounted c → length text < 2 ^ 63 → IsUnchecked m c text → IsUnchecked n c text → (status.Unchecked m) ≡ (status.Unchecked n)
  unchecked_unchecked c e m n a small p q =
      let same : verdict.Unchecked m ≡ verdict.Unchecked n = one c text a small (verdict.Unchecked m) (verdict.Unchecked n) p q in let count : m ≡ n = cc in ap status.Unchecked count

  unchecked_illegal : (c e : Cat) (m : ℕ) (n : ℕ) → Accounted c → length text < 2 ^ 63 → IsUnchecked m c text → IsIllegal n c text → (status.Unchecked m) ≡ (status.Illegal n)
  unchecked_illegal c e m n a small p q =
      let same : verdict.Unchecked m ≡ verdict.Illegal n = one c text a small (verdict.Unchecked m) (verdict.Illegal n) p q in absurd (let no : ⊥ = cc in no)

  unchecked_astray : (c e : Cat) (m : ℕ) → Accounted c → length text < 2 ^ 63 → IsUnchecked m c text → LeadsElsewhere c e text → (status.Unchecked m) ≡ status.EndDiffers
  unchecked_astray c e m a small p q =
      let same : verdict.Unchecked m ≡ verdict.Legal q.entries q.last = one c text a small (verdict.Unchecked m) (verdict.Legal q.entries q.last) p q.report in absurd (let no : ⊥ = cc in no)

  illegal_legal : (c e : Cat) (m : ℕ) (n : ℕ) → Accounted c → length text < 2 ^ 63 → IsIllegal m c text → IsLegalBetween c e text n → (status.Illegal m) ≡ (status.Legal n)
  illegal_legal c e m n a small p q =
      let same : verdict.Illegal m ≡ verdict.Legal n q.last = one c text a small (verdict.Illegal m) (verdict.Legal n q.last) p q.report in absurd (let no : ⊥ = cc in no)

  illegal_unchecked : (c e : Cat) (m : ℕ) (n : ℕ) → Accounted c → length text < 2 ^ 63 → IsIllegal m c text → IsUnchecked n c text → (status.Illegal m) ≡ (status.Unchecked n)
  illegal_unchecked c e m n a small p q =
      let same : verdict.Illegal m ≡ verdict.Unchecked n = one c text a small (verdict.Illegal m) (verdict.Unchecked n) p q in absurd (let no : ⊥ = cc in no)

  illegal_illegal : (c e : Cat) (m : ℕ) (n : ℕ) → Accounted c → length text < 2 ^ 63 → IsIllegal m c text → IsIllegal n c text → (status.Illegal m) ≡ (status.Illegal n)
  illegal_illegal c e m n a small p q =
      let same : verdict.Illegal m ≡ verdict.Illegal n = one c text a small (verdict.Illegal m) (verdict.Illegal n) p q in let count : m ≡ n = cc in ap status.Illegal count

  illegal_astray : (c e : Cat) (m : ℕ) → Accounted c → length text < 2 ^ 63 → IsIllegal m c text → LeadsElsewhere c e text → (status.Illegal m) ≡ status.EndDiffers
  illegal_astray c e m a small p q =
      let same : verdict.Illegal m ≡ verdict.Legal q.entries q.last = one c text a small (verdict.Illegal m) (verdict.Legal q.entries q.last) p q.report in absurd (let no : ⊥ = cc in no)

  astray_legal : (c e : Cat) (n : ℕ) → Accounted c → length text < 2 ^ 63 → LeadsElsewhere c e text → IsLegalBetween c e text n → status.EndDiffers ≡ (status.Legal n)
  astray_legal c e n a small p q =
      let same : verdict.Legal p.entries p.last ≡ verdict.Legal n q.last = one c text a small (verdict.Legal p.entries p.last) (verdict.Legal n q.last) p.report q.report in let last : p.last ≡ q.last = cc in absurd (p.differs (ap shut last ∙ q.same))

  astray_unchecked : (c e : Cat) (n : ℕ) → Accounted c → length text < 2 ^ 63 → LeadsElsewhere c e text → IsUnchecked n c text → status.EndDiffers ≡ (status.Unchecked n)
  astray_unchecked c e n a small p q =
      let same : verdict.Legal p.entries p.last ≡ verdict.Unchecked n = one c text a small (verdict.Legal p.entries p.last) (verdict.Unchecked n) p.report q in absurd (let no : ⊥ = cc in no)

  astray_illegal : (c e : Cat) (n : ℕ) → Accounted c → length text < 2 ^ 63 → LeadsElsewhere c e text → IsIllegal n c text → status.EndDiffers ≡ (status.Illegal n)
  astray_illegal c e n a small p q =
      let same : verdict.Legal p.entries p.last ≡ verdict.Illegal n = one c text a small (verdict.Legal p.entries p.last) (verdict.Illegal n) p.report q in absurd (let no : ⊥ = cc in no)

  alone_legal : (n : ℕ) → Due (status.Legal n) → Alone (status.Legal n)
  alone_legal n h (status.Legal m) v k = pair (λ c e. IsLegalBetween c e text m) (λ c e. IsLegalBetween c e text n) ((status.Legal m) ≡ (status.Legal n)) h.0.inside_before k.1 h.1 (λ c e a p q. legal_legal c e m n a (small h.0.read.within) p q)
  alone_legal n h status.BadWords v k = absurd (k h.0.read.no_words)
  alone_legal n h status.LogFault v k = absurd (false≢true v)
  alone_legal n h status.LogTooLong v k = absurd (too_long k.1 h.0.read.within)
  alone_legal n h status.ImageFault v k = absurd (false≢true v)
  alone_legal n h (status.BadSize m) v k = absurd (wrong_size m k.1 h.0.inside_before h.0.inside_after)
  alone_legal n h (status.NotAccepted g) v k = absurd (unfound g h.1.accepted k.1)
  alone_legal n h (status.NotMendable g) v k = absurd (h.1.said.told.weak g k.1.1.fatal)
  alone_legal n h (status.Unchecked m) v k = pair (λ c e. IsUnchecked m c text) (λ c e. IsLegalBetween c e text n) ((status.Unchecked m) ≡ (status.Legal n)) h.0.inside_before k.1 h.1 (λ c e a p q. unchecked_legal c e m n a (small h.0.read.within) p q)
  alone_legal n h (status.Illegal m) v k = pair (λ c e. IsIllegal m c text) (λ c e. IsLegalBetween c e text n) ((status.Illegal m) ≡ (status.Legal n)) h.0.inside_before k.1 h.1 (λ c e a p q. illegal_legal c e m n a (small h.0.read.within) p q)
  alone_legal n h status.EndDiffers v k = pair (λ c e. LeadsElsewhere c e text) (λ c e. IsLegalBetween c e text n) (status.EndDiffers ≡ (status.Legal n)) h.0.inside_before k.1 h.1 (λ c e a p q. astray_legal c e n a (small h.0.read.within) p q)
  alone_legal n h status.OutFault v k = absurd (false≢true v)
  alone_legal n h status.NoMemory v k = absurd (false≢true v)

  alone_words : Due status.BadWords → Alone status.BadWords
  alone_words h (status.Legal m) v k = absurd (h k.0.read.no_words)
  alone_words h status.BadWords v k = refl
  alone_words h status.LogFault v k = absurd (false≢true v)
  alone_words h status.LogTooLong v k = absurd (h k.0)
  alone_words h status.ImageFault v k = absurd (false≢true v)
  alone_words h (status.BadSize m) v k = absurd (h k.0.no_words)
  alone_words h (status.NotAccepted g) v k = absurd (h k.0.read.no_words)
  alone_words h (status.NotMendable g) v k = absurd (h k.0.read.no_words)
  alone_words h (status.Unchecked m) v k = absurd (h k.0.read.no_words)
  alone_words h (status.Illegal m) v k = absurd (h k.0.read.no_words)
  alone_words h status.EndDiffers v k = absurd (h k.0.read.no_words)
  alone_words h status.OutFault v k = absurd (false≢true v)
  alone_words h status.NoMemory v k = absurd (false≢true v)

  alone_long : Due status.LogTooLong → Alone status.LogTooLong
  alone_long h (status.Legal m) v k = absurd (too_long h.1 k.0.read.within)
  alone_long h status.BadWords v k = absurd (k h.0)
  alone_long h status.LogFault v k = absurd (false≢true v)
  alone_long h status.LogTooLong v k = refl
  alone_long h status.ImageFault v k = absurd (false≢true v)
  alone_long h (status.BadSize m) v k = absurd (too_long h.1 k.0.within)
  alone_long h (status.NotAccepted g) v k = absurd (too_long h.1 k.0.read.within)
  alone_long h (status.NotMendable g) v k = absurd (too_long h.1 k.0.read.within)
  alone_long h (status.Unchecked m) v k = absurd (too_long h.1 k.0.read.within)
  alone_long h (status.Illegal m) v k = absurd (too_long h.1 k.0.read.within)
  alone_long h status.EndDiffers v k = absurd (too_long h.1 k.0.read.within)
  alone_long h status.OutFault v k = absurd (false≢true v)
  alone_long h status.NoMemory v k = absurd (false≢true v)

  alone_size : (n : ℕ) → Due (status.BadSize n) → Alone (status.BadSize n)
  alone_size n h (status.Legal m) v k = absurd (wrong_size n h.1 k.0.inside_before k.0.inside_after)
  alone_size n h status.BadWords v k = absurd (k h.0.no_words)
  alone_size n h status.LogFault v k = absurd (false≢true v)
  alone_size n h status.LogTooLong v k = absurd (too_long k.1 h.0.within)
  alone_size n h status.ImageFault v k = absurd (false≢true v)
  alone_size n h (status.BadSize m) v k = ap status.BadSize (one_size m n k.1 h.1)
  alone_size n h (status.NotAccepted g) v k = absurd (wrong_size n h.1 k.0.inside_before k.0.inside_after)
  alone_size n h (status.NotMendable g) v k = absurd (wrong_size n h.1 k.0.inside_before k.0.inside_after)
  alone_size n h (status.Unchecked m) v k = absurd (wrong_size n h.1 k.0.inside_before k.0.inside_after)
  alone_size n h (status.Illegal m) v k = absurd (wrong_size n h.1 k.0.inside_before k.0.inside_after)
  alone_size n h status.EndDiffers v k = absurd (wrong_size n h.1 k.0.inside_before k.0.inside_after)
  alone_size n h status.OutFault v k = absurd (false≢true v)
  alone_size n h status.NoMemory v k = absurd (false≢true v)

  alone_found : (f : Finding) → Due (status.NotAccepted f) → Alone (status.NotAccepted f)
  alone_found f h (status.Legal m) v k = absurd (unfound f k.1.accepted h.1)
  alone_found f h status.BadWords v k = absurd (k h.0.read.no_words)
  alone_found f h status.LogFault v k = absurd (false≢true v)
  alone_found f h status.LogTooLong v k = absurd (too_long k.1 h.0.read.within)
  alone_found f h status.ImageFault v k = absurd (false≢true v)
  alone_found f h (status.BadSize m) v k = absurd (wrong_size m k.1 h.0.inside_before h.0.inside_after)
  alone_found f h (status.NotAccepted g) v k = ap status.NotAccepted (same_first g f k.1 h.1)
  alone_found f h (status.NotMendable g) v k = absurd (unfound f k.1.0 h.1)
  alone_found f h (status.Unchecked m) v k = absurd (unfound f k.1.accepted h.1)
  alone_found f h (status.Illegal m) v k = absurd (unfound f k.1.accepted h.1)
  alone_found f h status.EndDiffers v k = absurd (unfound f k.1.accepted h.1)
  alone_found f h status.OutFault v k = absurd (false≢true v)
  alone_found f h status.NoMemory v k = absurd (false≢true v)

  alone_fatal : (f : Finding) → Due (status.NotMendable f) → Alone (status.NotMendable f)
  alone_fatal f h (status.Legal m) v k = absurd (k.1.said.told.weak f h.1.1.fatal)
  alone_fatal f h status.BadWords v k = absurd (k h.0.read.no_words)
  alone_fatal f h status.LogFault v k = absurd (false≢true v)
  alone_fatal f h status.LogTooLong v k = absurd (too_long k.1 h.0.read.within)
  alone_fatal f h status.ImageFault v k = absurd (false≢true v)
  alone_fatal f h (status.BadSize m) v k = absurd (wrong_size m k.1 h.0.inside_before h.0.inside_after)
  alone_fatal f h (status.NotAccepted g) v k = absurd (unfound g h.1.0 k.1)
  alone_fatal f h (status.NotMendable g) v k = ap status.NotMendable (same_fatal g f k.1.1 h.1.1)
  alone_fatal f h (status.Unchecked m) v k = absurd (k.1.said.told.weak f h.1.1.fatal)
  alone_fatal f h (status.Illegal m) v k = absurd (k.1.said.told.weak f h.1.1.fatal)
  alone_fatal f h status.EndDiffers v k = absurd (k.1.said.told.weak f h.1.1.fatal)
  alone_fatal f h status.OutFault v k = absurd (false≢true v)
  alone_fatal f h status.NoMemory v k = absurd (false≢true v)

  alone_unchecked : (n : ℕ) → Due (status.Unchecked n) → Alone (status.Unchecked n)
  alone_unchecked n h (status.Legal m) v k = pair (λ c e. IsLegalBetween c e text m) (λ c e. IsUnchecked n c text) ((status.Legal m) ≡ (status.Unchecked n)) h.0.inside_before k.1 h.1 (λ c e a p q. legal_unchecked c e m n a (small h.0.read.within) p q)
  alone_unchecked n h status.BadWords v k = absurd (k h.0.read.no_words)
  alone_unchecked n h status.LogFault v k = absurd (false≢true v)
  alone_unchecked n h status.LogTooLong v k = absurd (too_long k.1 h.0.read.within)
  alone_unchecked n h status.ImageFault v k = absurd (false≢true v)
  alone_unchecked n h (status.BadSize m) v k = absurd (wrong_size m k.1 h.0.inside_before h.0.inside_after)
  alone_unchecked n h (status.NotAccepted g) v k = absurd (unfound g h.1.accepted k.1)
  alone_unchecked n h (status.NotMendable g) v k = absurd (h.1.said.told.weak g k.1.1.fatal)
  alone_unchecked n h (status.Unchecked m) v k = pair (λ c e. IsUnchecked m c text) (λ c e. IsUnchecked n c text) ((status.Unchecked m) ≡ (status.Unchecked n)) h.0.inside_before k.1 h.1 (λ c e a p q. unchecked_unchecked c e m n a (small h.0.read.within) p q)
  alone_unchecked n h (status.Illegal m) v k = pair (λ c e. IsIllegal m c text) (λ c e. IsUnchecked n c text) ((status.Illegal m) ≡ (status.Unchecked n)) h.0.inside_before k.1 h.1 (λ c e a p q. illegal_unchecked c e m n a (small h.0.read.within) p q)
  alone_unchecked n h status.EndDiffers v k = pair (λ c e. LeadsElsewhere c e text) (λ c e. IsUnchecked n c text) (status.EndDiffers ≡ (status.Unchecked n)) h.0.inside_before k.1 h.1 (λ c e a p q. astray_unchecked c e n a (small h.0.read.within) p q)
  alone_unchecked n h status.OutFault v k = absurd (false≢true v)
  alone_unchecked n h status.NoMemory v k = absurd (false≢true v)

  alone_illegal : (n : ℕ) → Due (status.Illegal n) → Alone (status.Illegal n)
  alone_illegal n h (status.Legal m) v k = pair (λ c e. IsLegalBetween c e text m) (λ c e. IsIllegal n c text) ((status.Legal m) ≡ (status.Illegal n)) h.0.inside_before k.1 h.1 (λ c e a p q. legal_illegal c e m n a (small h.0.read.within) p q)
  alone_illegal n h status.BadWords v k = absurd (k h.0.read.no_words)
  alone_illegal n h status.LogFault v k = absurd (false≢true v)
  alone_illegal n h status.LogTooLong v k = absurd (too_long k.1 h.0.read.within)
  alone_illegal n h status.ImageFault v k = absurd (false≢true v)
  alone_illegal n h (status.BadSize m) v k = absurd (wrong_size m k.1 h.0.inside_before h.0.inside_after)
  alone_illegal n h (status.NotAccepted g) v k = absurd (unfound g h.1.accepted k.1)
  alone_illegal n h (status.NotMendable g) v k = absurd (h.1.said.told.weak g k.1.1.fatal)
  alone_illegal n h (status.Unchecked m) v k = pair (λ c e. IsUnchecked m c text) (λ c e. IsIllegal n c text) ((status.Unchecked m) ≡ (status.Illegal n)) h.0.inside_before k.1 h.1 (λ c e a p q. unchecked_illegal c e m n a (small h.0.read.within) p q)
  alone_illegal n h (status.Illegal m) v k = pair (λ c e. IsIllegal m c text) (λ c e. IsIllegal n c text) ((status.Illegal m) ≡ (status.Illegal n)) h.0.inside_before k.1 h.1 (λ c e a p q. illegal_illegal c e m n a (small h.0.read.within) p q)
  alone_illegal n h status.EndDiffers v k = pair (λ c e. LeadsElsewhere c e text) (λ c e. IsIllegal n c text) (status.EndDiffers ≡ (status.Illegal n)) h.0.inside_before k.1 h.1 (λ c e a p q. astray_illegal c e n a (small h.0.read.within) p q)
  alone_illegal n h status.OutFault v k = absurd (false≢true v)
  alone_illegal n h status.NoMemory v k = absurd (false≢true v)

  alone_astray : Due status.EndDiffers → Alone status.EndDiffers
  alone_astray h (status.Legal m) v k = pair (λ c e. IsLegalBetween c e text m) (λ c e. LeadsElsewhere c e text) ((status.Legal m) ≡ status.EndDiffers) h.0.inside_before k.1 h.1 (λ c e a p q. legal_astray c e m a (small h.0.read.within) p q)
  alone_astray h status.BadWords v k = absurd (k h.0.read.no_words)
  alone_astray h status.LogFault v k = absurd (false≢true v)
  alone_astray h status.LogTooLong v k = absurd (too_long k.1 h.0.read.within)
  alone_astray h status.ImageFault v k = absurd (false≢true v)
  alone_astray h (status.BadSize m) v k = absurd (wrong_size m k.1 h.0.inside_before h.0.inside_after)
  alone_astray h (status.NotAccepted g) v k = absurd (unfound g h.1.accepted k.1)
  alone_astray h (status.NotMendable g) v k = absurd (h.1.said.told.weak g k.1.1.fatal)
  alone_astray h (status.Unchecked m) v k = pair (λ c e. IsUnchecked m c text) (λ c e. LeadsElsewhere c e text) ((status.Unchecked m) ≡ status.EndDiffers) h.0.inside_before k.1 h.1 (λ c e a p q. unchecked_astray c e m a (small h.0.read.within) p q)
  alone_astray h (status.Illegal m) v k = pair (λ c e. IsIllegal m c text) (λ c e. LeadsElsewhere c e text) ((status.Illegal m) ≡ status.EndDiffers) h.0.inside_before k.1 h.1 (λ c e a p q. illegal_astray c e m a (small h.0.read.within) p q)
  alone_astray h status.EndDiffers v k = refl
  alone_astray h status.OutFault v k = absurd (false≢true v)
  alone_astray h status.NoMemory v k = absurd (false≢true v)

  one_due : (s : CheckStatus) → is_verdict s ≡ true → Due s → Alone s
  one_due (status.Legal n) v h = alone_legal n h
  one_due status.BadWords v h = alone_words h
  one_due status.LogFault v h = absurd (false≢true v)
  one_due status.LogTooLong v h = alone_long h
  one_due status.ImageFault v h = absurd (false≢true v)
  one_due (status.BadSize n) v h = alone_size n h
  one_due (status.NotAccepted f) v h = alone_found f h
  one_due (status.NotMendable f) v h = alone_fatal f h
  one_due (status.Unchecked n) v h = alone_unchecked n h
  one_due (status.Illegal n) v h = alone_illegal n h
  one_due status.EndDiffers v h = alone_astray h
  one_due status.OutFault v h = absurd (false≢true v)
  one_due status.NoMemory v h = absurd (false≢true v)

pub one_status : OneVerdict → OneList → OneStatus
one_status one list words text bs size_after cs whole s t v w h k = one_due one list words text bs size_after cs whole t w k s v h
