-- What CREATE answers, told by what was looked at.
use Rattle.std.proofs.Common.{◌≡◌, ◌∙◌, ◌≤◌, ℕ, Bool, true, false, not, cond, List, Option, Some, None, Result, Ok, Err, is_none, nat_lt, refl, sym, ap, arith}
use Rattle.std.proofs.lemmas.Bool.Decides.{nat_tests}
use Rattle.plain_cat.specs.declared.ids.Fid.{Fid}
use Rattle.plain_cat.specs.declared.ids.Uic.{Uic}
use Rattle.plain_cat.specs.declared.entries.DirEnt.{DirEnt}
use Rattle.plain_cat.specs.declared.cat.Cat.{Cat}
use Rattle.plain_cat.specs.declared.cat.File.{File}
use Rattle.plain_cat.specs.declared.reply.Reply.TheVariants as reply
use Rattle.plain_cat.specs.declared.reply.Refusal.{Refusal}
use Rattle.plain_cat.specs.declared.reply.Refusal.TheVariants as refusal
use Rattle.plain_rules.specs.declared.outcome.Outcome.{Outcome}
use Rattle.plain_rules.specs.Lookups.{live, versions, row_of, free_clusters, header_most}
use Rattle.plain_rules.specs.Directories.{inserted, fits, entry, nowhere, new_version, is_last_version, is_taken}
use Rattle.plain_rules.specs.Changes.{in_clusters, cost, with_file, with_entries, charged, new_fid, new_file}
use Rattle.plain_rules.specs.Answers.{refused, first_refusal, unless, in_directory_file, over_quota, create_refusal, create_made, create_outcome}
use Rattle.plain_rules.specs.Answers.{room_checks as all_room_checks}
use Rattle.plain_vol.specs.Makings.{version_for, room_checks, placed, made_in}
use Rattle.plain_rules.proofs.Rooms.{room_alike}
use Rattle.plain_vol.proofs.Changing.{live_at}

abbrev Said : Type 0
Said = Option Refusal

-- what comes next of a version
by_version : (last taken : Bool) (w : ℕ) (v : ℕ) (rest : Said) → cond last (Err refusal.BadVersion) (cond taken (Err refusal.DupFile) (Ok w)) ≡ Ok v
    → (cond last (Some refusal.BadVersion) (cond taken (Some refusal.DupFile) rest) ≡ rest)
by_version true taken w v rest h = absurd (let no : ◌≡◌ {A = Result ℕ Refusal} (Err refusal.BadVersion) (Ok v) = h in cc no)
by_version false true w v rest h = absurd (let no : ◌≡◌ {A = Result ℕ Refusal} (Err refusal.DupFile) (Ok v) = h in cc no)
by_version false false w v rest h = refl

version_is : (last taken : Bool) (w : ℕ) (v : ℕ) → cond last (Err refusal.BadVersion) (cond taken (Err refusal.DupFile) (Ok w)) ≡ Ok v → w ≡ v
version_is true taken w v h = absurd (let no : ◌≡◌ {A = Result ℕ Refusal} (Err refusal.BadVersion) (Ok v) = h in cc no)
version_is false true w v h = absurd (let no : ◌≡◌ {A = Result ℕ Refusal} (Err refusal.DupFile) (Ok v) = h in cc no)
version_is false false w v h = let is : ◌≡◌ {A = Result ℕ Refusal} (Ok w) (Ok v) = h in cc

no_version : (last taken : Bool) (w : ℕ) (r : Refusal) (rest : Said) → cond last (Err refusal.BadVersion) (cond taken (Err refusal.DupFile) (Ok w)) ≡ Err r
    → (cond last (Some refusal.BadVersion) (cond taken (Some refusal.DupFile) rest) ≡ Some r)
no_version true taken w r rest h = let is : ◌≡◌ {A = Result ℕ Refusal} (Err refusal.BadVersion) (Err r) = h in let e : refusal.BadVersion ≡ r = cc in ap (λ (r : Refusal). Some r) e
no_version false true w r rest h = let is : ◌≡◌ {A = Result ℕ Refusal} (Err refusal.DupFile) (Err r) = h in let e : refusal.DupFile ≡ r = cc in ap (λ (r : Refusal). Some r) e
no_version false false w r rest h = absurd (let no : ◌≡◌ {A = Result ℕ Refusal} (Ok w) (Err r) = h in cc no)

within : (k : ℕ) → k ≤ header_most → nat_lt header_most k ≡ false
within k h = grind (arith, nat_tests)

module _ (c : Cat) (dir : Fid) (name : List ℕ) (ver blocks : ℕ) (owner : Uic) (new : Option ℕ) (d : File) (live_is : live c dir ≡ Some d) (is_dir : d.dir ≡ true) where
  abbrev answer : Outcome
  answer = create_outcome c dir name ver blocks owner new

  abbrev of_name : List DirEnt
  of_name = versions name d.entries

  in_dir : answer ≡ unless c (create_refusal c d name ver blocks owner new) (create_made c dir.num d name ver blocks owner new)
  unfolding create_outcome
  in_dir =
      let next : File → Outcome = λ d. unless c (create_refusal c d name ver blocks owner new) (create_made c dir.num d name ver blocks owner new) in
      ap (λ (o : Option File). in_directory_file c o next) live_is ∙ ap (λ (b : Bool). cond b (next d) (refused c refusal.NotDir)) is_dir

  refuses : (r : Refusal) → create_refusal c d name ver blocks owner new ≡ Some r → refused c r ≡ answer
  refuses r h = sym (in_dir ∙ ap (λ (o : Said). unless c o (create_made c dir.num d name ver blocks owner new)) h)

  no_version_refused : (r : Refusal) → version_for ver of_name ≡ Err r → create_refusal c d name ver blocks owner new ≡ Some r
  unfolding create_refusal
  no_version_refused r h = no_version (is_last_version ver of_name) (is_taken (new_version ver of_name) of_name) (new_version ver of_name) r _ h

  pub refused_version : (r : Refusal) → version_for ver of_name ≡ Err r → refused c r ≡ answer
  refused_version r h = refuses r (no_version_refused r h)

  module _ (v k : ℕ) (version : version_for ver of_name ≡ Ok v) (clusters : k ≡ in_clusters c blocks) (few : k ≤ header_most) where
    same_version : new_version ver of_name ≡ v
    same_version = version_is (is_last_version ver of_name) (is_taken (new_version ver of_name) of_name) (new_version ver of_name) v version

    left : create_refusal c d name ver blocks owner new ≡ first_refusal (all_room_checks c d name v owner k new)
    unfolding create_refusal
    left =
        by_version (is_last_version ver of_name) (is_taken (new_version ver of_name) of_name) (new_version ver of_name) v _ version
        ∙ ap (λ (b : Bool). cond b (Some refusal.FileLimit) (first_refusal (all_room_checks c d name (new_version ver of_name) owner (in_clusters c blocks) new))) (ap (nat_lt header_most) (sym clusters) ∙ within k few)
        ∙ (λ i. first_refusal (all_room_checks c d name (same_version i) owner (sym clusters i) new))

    room : (b : Bool) → fits c.factor (inserted (entry name v nowhere) d.entries) ≡ b
        → first_refusal (all_room_checks c d name v owner k new) ≡ cond (not b) (Some refusal.DirFull) (first_refusal (room_checks c owner k new))
    room b h = ap (λ (b : Bool). cond (not b) (Some refusal.DirFull) (first_refusal (room_checks c owner k new))) h

    fits_is : (e : DirEnt) (b : Bool) → e.name ≡ name → e.ver ≡ v → fits c.factor (inserted e d.entries) ≡ b → fits c.factor (inserted (entry name v nowhere) d.entries) ≡ b
    fits_is e b n w h = (λ i. fits c.factor (inserted (entry (sym n i) (sym w i) nowhere) d.entries)) ∙ sym (room_alike c.factor e d.entries) ∙ h

    pub full : (e : DirEnt) → e.name ≡ name → e.ver ≡ v → fits c.factor (inserted e d.entries) ≡ false → refused c refusal.DirFull ≡ answer
    full e n w h = refuses refusal.DirFull (left ∙ room false (fits_is e false n w h))

    fits_so : (e : DirEnt) → e.name ≡ name → e.ver ≡ v → fits c.factor (inserted e d.entries) ≡ true → create_refusal c d name ver blocks owner new ≡ first_refusal (room_checks c owner k new)
    fits_so e n w h = left ∙ room true (fits_is e true n w h)

    pub roomless : (e : DirEnt) (r : Refusal) → e.name ≡ name → e.ver ≡ v → fits c.factor (inserted e d.entries) ≡ true → first_refusal (room_checks c owner k new) ≡ Some r → refused c r ≡ answer
    roomless e r n w h is = refuses r (fits_so e n w h ∙ is)

    -- what is answered of a new file and its entry
    abbrev pub out : DirEnt → File → Outcome
    out e file = record {
      reply = reply.Found e.fid e.name e.ver;
      after = with_entries (with_file (charged c file.owner (cost c file.clusters)) e.fid.num file) dir.num d (inserted e d.entries);
    }

    asked : (a b : Bool) (rest : Said) → cond a (Some refusal.NoQuota) (cond b (Some refusal.ExQuota) (cond true (Some refusal.IndexFull) rest)) ≡ None → ⊥
    asked true b rest h = let no : ◌≡◌ {A = Said} (Some refusal.NoQuota) None = h in cc no
    asked false true rest h = let no : ◌≡◌ {A = Said} (Some refusal.ExQuota) None = h in cc no
    asked false false rest h = let no : ◌≡◌ {A = Said} (Some refusal.IndexFull) None = h in cc no

    numbered : (o : Option ℕ) → first_refusal (room_checks c owner k o) ≡ None → (n : ℕ) × (o ≡ Some n)
    numbered None h = absurd (asked (is_none (row_of owner c.quota)) (over_quota (row_of owner c.quota) (cost c k)) (cond (nat_lt (free_clusters c) k) (Some refusal.DeviceFull) None) h)
    numbered (Some n) h = (n, refl)

    pub makes : (e : DirEnt) (file : File) → e.name ≡ name → e.ver ≡ v → fits c.factor (inserted e d.entries) ≡ true → first_refusal (room_checks c owner k new) ≡ None
        → ((n : ℕ) → new ≡ Some n → e.fid ≡ new_fid c n) → file ≡ new_file e.fid.seq owner k → made_in c dir.num (Ok (record { entry = e; file = file })) ≡ answer
    makes e file n w h none fid_is file_is =
        let number = numbered new none in
        let fid : e.fid ≡ new_fid c number.0 = fid_is number.0 number.1 in
        let made : Fid → ℕ → ℕ → Outcome = λ fid w k. out (entry name w fid) (new_file fid.seq owner k) in
        let found : made_in c dir.num (Ok (record { entry = e; file = file })) ≡ out e file = λ i. record {
          reply = reply.Found e.fid e.name e.ver;
          after = placed (charged c file.owner (cost c file.clusters)) dir.num e file (live_at c dir d live_is i);
        } in
        let first : out e file ≡ out e (new_file e.fid.seq owner k) = ap (out e) file_is in
        let second : out e (new_file e.fid.seq owner k) ≡ made e.fid v k = λ i. out (entry (n i) (w i) e.fid) (new_file e.fid.seq owner k) in
        let third : made e.fid v k ≡ made (new_fid c number.0) (new_version ver of_name) (in_clusters c blocks) = λ i. made (fid i) (sym same_version i) (clusters i) in
        let last : made (new_fid c number.0) (new_version ver of_name) (in_clusters c blocks) ≡ answer =
        sym (in_dir ∙ ap (λ (o : Said). unless c o (create_made c dir.num d name ver blocks owner new)) (fits_so e n w h ∙ none) ∙ ap (create_made c dir.num d name ver blocks owner) number.1) in
        found ∙ first ∙ second ∙ third ∙ last
