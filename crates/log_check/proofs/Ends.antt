-- How a check ends.
use Rattle.std.proofs.Common.{◌≡◌, ◌≤◌, ◌⊎◌, ℕ, List, [], Option, Some, None, Result, Ok, Err, length, refl, sym, subst, inl, inr}
use Rattle.std.specs.Prelude.{IfSome, IfErr}
use Rattle.std.specs.Io.KnownBytes.{Appends}
use Rattle.base_words.specs.Fields.{Block}
use Rattle.base_words.specs.Faults.{Rose}
use Rattle.blk_drive.specs.Images.{IsInside, IsOutside}
use Rattle.blk_drive.specs.Loads.{HasLoadCause}
use Rattle.blk_drive.specs.declared.mirror.LoadFault.{LoadFault}
use Rattle.blk_drive.specs.declared.mirror.LoadFault.TheVariants as load
use Rattle.fx_text.specs.Streams.{AppendsStart}
use Rattle.plain_cat.specs.declared.cat.Cat.{Cat}
use Rattle.vol_parts.specs.Findings.{Accepts, CatOf}
use Rattle.log_check.specs.declared.status.CheckStatus.{CheckStatus}
use Rattle.log_check.specs.declared.status.CheckStatus.TheVariants as status
use Rattle.log_check.specs.Checks.{IsEndFrom, IsEndOn, IsLegalOn, IsNotAccepted, IsNotMendable, IsNotLegal, load_status}
use Rattle.log_check.specs.Statuses.{Given, given, IsRead, AreLoaded, IsTextEnd, IsCheckDue, IsEnd, Writes, status_text}
use Rattle.fx_text.specs.Written.{IsWritten}

-- ---- from catalogues to volumes

pub not_mendable : (c : Cat) (cs : List Block) (text : List ℕ) (s : CheckStatus) → IsNotMendable cs s → IsEndFrom c cs text s
not_mendable c cs text (status.Legal k) h = absurd h
not_mendable c cs text status.BadWords h = absurd h
not_mendable c cs text status.LogFault h = absurd h
not_mendable c cs text status.LogTooLong h = absurd h
not_mendable c cs text status.ImageFault h = absurd h
not_mendable c cs text (status.BadSize n) h = absurd h
not_mendable c cs text (status.NotAccepted f) h = absurd h
not_mendable c cs text (status.NotMendable f) h = h
not_mendable c cs text (status.Unchecked k) h = absurd h
not_mendable c cs text (status.Illegal k) h = absurd h
not_mendable c cs text status.EndDiffers h = absurd h
not_mendable c cs text status.OutFault h = absurd h
not_mendable c cs text status.NoMemory h = h

pub not_legal : (c e : Cat) (cs : List Block) (text : List ℕ) (s : CheckStatus) → CatOf cs e → IsNotLegal c e text s → IsEndFrom c cs text s
not_legal c e cs text (status.Legal k) t h = absurd h
not_legal c e cs text status.BadWords t h = absurd h
not_legal c e cs text status.LogFault t h = absurd h
not_legal c e cs text status.LogTooLong t h = absurd h
not_legal c e cs text status.ImageFault t h = absurd h
not_legal c e cs text (status.BadSize n) t h = absurd h
not_legal c e cs text (status.NotAccepted f) t h = absurd h
not_legal c e cs text (status.NotMendable f) t h = absurd h
not_legal c e cs text (status.Unchecked k) t h = record { closing = e; told = t; said = h }
not_legal c e cs text (status.Illegal k) t h = record { closing = e; told = t; said = h }
not_legal c e cs text status.EndDiffers t h = record { closing = e; told = t; said = h }
not_legal c e cs text status.OutFault t h = absurd h
not_legal c e cs text status.NoMemory t h = h

pub not_accepted : (bs cs : List Block) (text : List ℕ) (s : CheckStatus) → IsNotAccepted bs s → IsEndOn bs cs text s
not_accepted bs cs text (status.Legal k) h = absurd h
not_accepted bs cs text status.BadWords h = absurd h
not_accepted bs cs text status.LogFault h = absurd h
not_accepted bs cs text status.LogTooLong h = absurd h
not_accepted bs cs text status.ImageFault h = absurd h
not_accepted bs cs text (status.BadSize n) h = absurd h
not_accepted bs cs text (status.NotAccepted f) h = h
not_accepted bs cs text (status.NotMendable f) h = absurd h
not_accepted bs cs text (status.Unchecked k) h = absurd h
not_accepted bs cs text (status.Illegal k) h = absurd h
not_accepted bs cs text status.EndDiffers h = absurd h
not_accepted bs cs text status.OutFault h = absurd h
not_accepted bs cs text status.NoMemory h = h

pub end_from : (c : Cat) (bs cs : List Block) (text : List ℕ) (s : CheckStatus) → Accepts bs → CatOf bs c → IsEndFrom c cs text s → IsEndOn bs cs text s
end_from c bs cs text (status.Legal k) a t h = absurd h
end_from c bs cs text status.BadWords a t h = absurd h
end_from c bs cs text status.LogFault a t h = absurd h
end_from c bs cs text status.LogTooLong a t h = absurd h
end_from c bs cs text status.ImageFault a t h = absurd h
end_from c bs cs text (status.BadSize n) a t h = absurd h
end_from c bs cs text (status.NotAccepted f) a t h = absurd h
end_from c bs cs text (status.NotMendable f) a t h = (a, h)
end_from c bs cs text (status.Unchecked k) a t h = record { opening = c; accepted = a; told = t; said = h }
end_from c bs cs text (status.Illegal k) a t h = record { opening = c; accepted = a; told = t; said = h }
end_from c bs cs text status.EndDiffers a t h = record { opening = c; accepted = a; told = t; said = h }
end_from c bs cs text status.OutFault a t h = absurd h
end_from c bs cs text status.NoMemory a t h = h

-- ---- from volumes to what came in

over1 : {A : Type 0} (o : Option A) (a : A) (P : A → Type 0) → IfSome o (λ x. a ≡ x) → P a → IfSome o P
over1 None a P h p = tt
over1 (Some x) a P h p = subst P h p

told_by : (before after : Option (List Block)) (left : Option (List ℕ)) (bs cs : List Block) (text : List ℕ) (P : List Block → List Block → List ℕ → Type 0)
    → IfSome before (λ x. bs ≡ x) → IfSome after (λ x. cs ≡ x) → IfSome left (λ x. text ≡ x) → P bs cs text → IfSome before (λ bs. IfSome after (λ cs. IfSome left (P bs cs)))
told_by before after left bs cs text P hb hc ht p =
    over1 before bs (λ bs. IfSome after (λ cs. IfSome left (P bs cs))) hb (over1 after cs (λ cs. IfSome left (P bs cs)) hc (over1 left text (P bs cs) ht p))

module _ (left : Option (List ℕ)) (size_before : ℕ) (before : Option (List Block)) (size_after : ℕ) (after : Option (List Block)) where
  abbrev came : Given
  came = given [] left size_before before size_after after

  pub was_read : (text : List ℕ) → IfSome left (λ x. text ≡ x) → length text ≤ 16777216 → IsRead came
  was_read text h within = record { no_words = refl; within = over1 left text (λ bytes. length bytes ≤ 16777216) h within }

  pub were_loaded : IsRead came → IsInside size_before → IsInside size_after → AreLoaded came
  were_loaded r i j = record { read = r; inside_before = i; inside_after = j }

  pub legal_due : (bs cs : List Block) (text : List ℕ) (k : ℕ) → AreLoaded came → IfSome before (λ x. bs ≡ x) → IfSome after (λ x. cs ≡ x) → IfSome left (λ x. text ≡ x)
      → IsLegalOn bs cs text k → IsCheckDue came (status.Legal k)
  legal_due bs cs text k l hb hc ht p = (l, told_by before after left bs cs text (λ bs cs text. IsLegalOn bs cs text k) hb hc ht p)

  module _ (read reading had has had_after has_after : ℕ) where
    pub text_end : (s : CheckStatus) → IsTextEnd left read reading s → IsEnd came read reading had has had_after has_after s
    text_end (status.Legal k) h = absurd h
    text_end status.BadWords h = absurd h
    text_end status.LogFault h = (refl, h)
    text_end status.LogTooLong h = (refl, h)
    text_end status.ImageFault h = absurd h
    text_end (status.BadSize n) h = absurd h
    text_end (status.NotAccepted f) h = absurd h
    text_end (status.NotMendable f) h = absurd h
    text_end (status.Unchecked k) h = absurd h
    text_end (status.Illegal k) h = absurd h
    text_end status.EndDiffers h = absurd h
    text_end status.OutFault h = absurd h
    text_end status.NoMemory h = tt

    pub load_end : (f : LoadFault) → IsRead came → HasLoadCause size_before had has f → IsEnd came read reading had has had_after has_after (load_status f)
    load_end load.ImageFault r h = (r, inl h)
    load_end (load.BadSize n) r h = (r, inl (h.0, subst IsOutside h.0 h.1))
    load_end load.NoMemory r h = tt

    pub load_end_after : (f : LoadFault) → IsRead came → IsInside size_before → HasLoadCause size_after had_after has_after f → IsEnd came read reading had has had_after has_after (load_status f)
    load_end_after load.ImageFault r i h = (r, inr h)
    load_end_after (load.BadSize n) r i h = (r, inr (i, h.0, subst IsOutside h.0 h.1))
    load_end_after load.NoMemory r i h = tt

    pub volumes_end : (bs cs : List Block) (text : List ℕ) (s : CheckStatus) → AreLoaded came → IfSome before (λ x. bs ≡ x) → IfSome after (λ x. cs ≡ x) → IfSome left (λ x. text ≡ x)
        → IsEndOn bs cs text s → IsEnd came read reading had has had_after has_after s
    volumes_end bs cs text (status.Legal k) l hb hc ht h = absurd h
    volumes_end bs cs text status.BadWords l hb hc ht h = absurd h
    volumes_end bs cs text status.LogFault l hb hc ht h = absurd h
    volumes_end bs cs text status.LogTooLong l hb hc ht h = absurd h
    volumes_end bs cs text status.ImageFault l hb hc ht h = absurd h
    volumes_end bs cs text (status.BadSize n) l hb hc ht h = absurd h
    volumes_end bs cs text (status.NotAccepted f) l hb hc ht h = (l, over1 before bs _ hb h)
    volumes_end bs cs text (status.NotMendable f) l hb hc ht h = (l, over1 before bs _ hb (over1 after cs _ hc h))
    volumes_end bs cs text (status.Unchecked k) l hb hc ht h = (l, told_by before after left bs cs text _ hb hc ht h)
    volumes_end bs cs text (status.Illegal k) l hb hc ht h = (l, told_by before after left bs cs text _ hb hc ht h)
    volumes_end bs cs text status.EndDiffers l hb hc ht h = (l, told_by before after left bs cs text _ hb hc ht h)
    volumes_end bs cs text status.OutFault l hb hc ht h = absurd h
    volumes_end bs cs text status.NoMemory l hb hc ht h = tt

    pub volumes_err : (o : Result ℕ CheckStatus) (bs cs : List Block) (text shown : List ℕ) → shown ≡ text → AreLoaded came → IfSome before (λ x. bs ≡ x) → IfSome after (λ x. cs ≡ x)
        → IfSome left (λ x. text ≡ x) → IfErr o (IsEndOn bs cs shown) → IfErr o (IsEnd came read reading had has had_after has_after)
    volumes_err (Ok k) bs cs text shown e l hb hc ht h = tt
    volumes_err (Err s) bs cs text shown e l hb hc ht h = volumes_end bs cs text s l hb hc ht (subst (λ (t : List ℕ). IsEndOn bs cs t s) e h)

-- ---- the whole

-- an end makes its status due
end_due : (g : Given) (read reading had has had_after has_after : ℕ) (s : CheckStatus) → IsEnd g read reading had has had_after has_after s → IsCheckDue g s
end_due g read reading had has had_after has_after (status.Legal k) h = absurd h
end_due g read reading had has had_after has_after status.BadWords h = absurd h
end_due g read reading had has had_after has_after status.LogFault h = h.0
end_due g read reading had has had_after has_after status.LogTooLong h = h
end_due g read reading had has had_after has_after status.ImageFault h = h.0
end_due g read reading had has had_after has_after (status.BadSize n) h = h
end_due g read reading had has had_after has_after (status.NotAccepted f) h = h
end_due g read reading had has had_after has_after (status.NotMendable f) h = h
end_due g read reading had has had_after has_after (status.Unchecked k) h = h
end_due g read reading had has had_after has_after (status.Illegal k) h = h
end_due g read reading had has had_after has_after status.EndDiffers h = h
end_due g read reading had has had_after has_after status.OutFault h = absurd h
end_due g read reading had has had_after has_after status.NoMemory h = h

-- what is due of a status, its causes, and what is written with it
pub record Ended (g : Given) (read reading had has had_after has_after : ℕ) (old new : Option (List ℕ)) (before now : ℕ) (s : CheckStatus) : Type 0 where
  pub due : IsCheckDue g s
  pub log_fault : s ≡ status.LogFault → Rose read reading
  pub image_fault : s ≡ status.ImageFault → Rose had has ⊎ Rose had_after has_after
  pub out_fault : s ≡ status.OutFault → Rose before now
  pub written : Writes g old new before now s

module _ (g : Given) (read reading had has had_after has_after : ℕ) (old new : Option (List ℕ)) (before now : ℕ) where
  log_caused : (s : CheckStatus) → IsEnd g read reading had has had_after has_after s → s ≡ status.LogFault → Rose read reading
  log_caused s h e = (let P : CheckStatus → Type 0 = λ s. IsEnd g read reading had has had_after has_after s in subst P e h).1

  image_caused : (s : CheckStatus) → IsEnd g read reading had has had_after has_after s → s ≡ status.ImageFault → Rose had has ⊎ Rose had_after has_after
  image_caused s h e = (let P : CheckStatus → Type 0 = λ s. IsEnd g read reading had has had_after has_after s in subst P e h).1

  out_caused : (s : CheckStatus) → IsEnd g read reading had has had_after has_after s → s ≡ status.OutFault → Rose before now
  out_caused s h e = absurd (let P : CheckStatus → Type 0 = λ s. IsEnd g read reading had has had_after has_after s in subst P e h)

  end_written : (s : CheckStatus) → IsEnd g read reading had has had_after has_after s → IsWritten old new before now (status_text s) → Writes g old new before now s
  end_written (status.Legal k) h w = absurd h
  end_written status.BadWords h w = w
  end_written status.LogFault h w = w
  end_written status.LogTooLong h w = w
  end_written status.ImageFault h w = w
  end_written (status.BadSize n) h w = w
  end_written (status.NotAccepted f) h w = w
  end_written (status.NotMendable f) h w = w
  end_written (status.Unchecked k) h w = w
  end_written (status.Illegal k) h w = w
  end_written status.EndDiffers h w = w
  end_written status.OutFault h w = absurd h
  end_written status.NoMemory h w = w

  ended_so : (s : CheckStatus) → IsEnd g read reading had has had_after has_after s → IsWritten old new before now (status_text s) → Ended g read reading had has had_after has_after old new before now s
  ended_so s h w = record {
    due = end_due g read reading had has had_after has_after s h;
    log_fault = log_caused s h;
    image_fault = image_caused s h;
    out_fault = out_caused s h;
    written = end_written s h w;
  }

  -- a check without a history
  pub ended : (s r : CheckStatus) → IsEnd g read reading had has had_after has_after s → (r ≡ s) ⊎ (r ≡ status.NoMemory) → IsWritten old new before now (status_text r)
      → Ended g read reading had has had_after has_after old new before now r
  ended s r h (inl e) w = let P : CheckStatus → Type 0 = λ s. IsEnd g read reading had has had_after has_after s in ended_so r (subst P (sym e) h) w
  ended s r h (inr e) w = let P : CheckStatus → Type 0 = λ s. IsEnd g read reading had has had_after has_after s in ended_so r (subst P (sym e) tt) w

  -- a check with a legal history of k entries
  pub ended_legal : (k : ℕ) (r : CheckStatus) → IsCheckDue g (status.Legal k)
      → (r ≡ status.Legal k) ⊎ ((r ≡ status.OutFault) ⊎ (r ≡ status.NoMemory))
      → (r ≡ status.Legal k → Appends old new (status_text (status.Legal k)))
      → (r ≡ status.OutFault → AppendsStart old new (status_text (status.Legal k)))
      → (r ≡ status.OutFault → Rose before now)
      → (r ≡ status.NoMemory → IsWritten old new before now (status_text status.NoMemory))
      → Ended g read reading had has had_after has_after old new before now r
  ended_legal k r due (inl e) all cut fault memory = let P : CheckStatus → Type 0 = λ r. Ended g read reading had has had_after has_after old new before now r in subst P (sym e) (record {
    due = due;
    log_fault = λ f. absurd (let no : ⊥ = cc in no);
    image_fault = λ f. absurd (let no : ⊥ = cc in no);
    out_fault = λ f. absurd (let no : ⊥ = cc in no);
    written = all e;
  })
  ended_legal k r due (inr (inl e)) all cut fault memory = let P : CheckStatus → Type 0 = λ r. Ended g read reading had has had_after has_after old new before now r in subst P (sym e) (record {
    due = (k, due.0, due.1);
    log_fault = λ f. absurd (let no : ⊥ = cc in no);
    image_fault = λ f. absurd (let no : ⊥ = cc in no);
    out_fault = λ f. fault e;
    written = (k, due, cut e);
  })
  ended_legal k r due (inr (inr e)) all cut fault memory = let P : CheckStatus → Type 0 = λ r. Ended g read reading had has had_after has_after old new before now r in subst P (sym e) (record {
    due = tt;
    log_fault = λ f. absurd (let no : ⊥ = cc in no);
    image_fault = λ f. absurd (let no : ⊥ = cc in no);
    out_fault = λ f. absurd (let no : ⊥ = cc in no);
    written = memory e;
  })

  -- a call with words
  pub ended_words : (r : CheckStatus) → (g.words ≡ [] → ⊥) → (r ≡ status.BadWords) ⊎ (r ≡ status.NoMemory) → IsWritten old new before now (status_text r)
      → Ended g read reading had has had_after has_after old new before now r
  ended_words r some (inl e) w = let P : CheckStatus → Type 0 = λ r. IsWritten old new before now (status_text r) → Ended g read reading had has had_after has_after old new before now r in subst P (sym e) (λ w. record {
    due = some;
    log_fault = λ f. absurd (let no : ⊥ = cc in no);
    image_fault = λ f. absurd (let no : ⊥ = cc in no);
    out_fault = λ f. absurd (let no : ⊥ = cc in no);
    written = w;
  }) w
  ended_words r some (inr e) w = let P : CheckStatus → Type 0 = λ r. IsWritten old new before now (status_text r) → Ended g read reading had has had_after has_after old new before now r in subst P (sym e) (λ w. record {
    due = tt;
    log_fault = λ f. absurd (let no : ⊥ = cc in no);
    image_fault = λ f. absurd (let no : ⊥ = cc in no);
    out_fault = λ f. absurd (let no : ⊥ = cc in no);
    written = w;
  }) w
