-- A catalogue in order can be mended.
use Rattle.std.proofs.Common.{◌≡◌, ◌∙◌, inl, inr, ℕ, zero, suc, true, List, [], ◌∷◌, Option, Some, None, length, map, replicate, slice_get, refl, sym, ap, arith}
use Rattle.std.specs.List.{list_any}
use Rattle.std.proofs.lemmas.Bool.{and_parts}
use Rattle.base_words.specs.Fields.{Block}
use Rattle.plain_cat.specs.declared.entries.DirEnt.{DirEnt}
use Rattle.plain_cat.specs.declared.cat.Cat.{Cat}
use Rattle.plain_cat.specs.declared.cat.File.{File}
use Rattle.plain_cat.specs.declared.cat.Open.{Open}
use Rattle.plain_rules.specs.Lookups.{file_at}
use Rattle.plain_rules.specs.Answers.{has_entries}
use Rattle.plain_rules.specs.Mending.{without_opens, without_entries, with_lost, mended, mended_from}
use Rattle.plain_mends.specs.Sound.{LeadsTo, NumberPath, IsSound}
use Rattle.plain_rules.specs.SystemFiles.{is_system_entry}
use Rattle.plain_rules.specs.SystemFiles.{entries_of}
use Rattle.plain_mends.specs.Sound.NumberPath.{One, More}
use Rattle.base_words.specs.Lists.{Has}
use Rattle.base_words.proofs.Listing.{has_to}
use Rattle.plain_mends.proofs.SoundSteps.{beside_follows}
use Rattle.vol_spell.specs.Owners.{Owners}
use Rattle.vol_parts.specs.declared.finding.Finding.{Finding}
use Rattle.vol_parts.specs.declared.finding.Finding.TheVariants as finding
use Rattle.vol_parts.specs.Fatal.{is_marked_dir, NamesFile, Path}
use Rattle.vol_parts.specs.Fatal.Path.{One as First, More as Next}
use Rattle.vol_parts.specs.declared.geometry.Geometry.{Geometry}
use Rattle.vol_parts.specs.Findings.{IsFatal}
use Rattle.vol_faults.specs.CatFindings.{IsFatalOf}
use Rattle.vol_faults.proofs.RoomLemmas.{no-room-exact}
use Rattle.vol_spell.specs.Spelling.{Spells}
use Rattle.vol_mends.specs.Weak.{NoOuts, shut, CanMend}
use Rattle.vol_mends.specs.Mends.{SpeltMends, SoundCanMend, SoundIsReadable}
use Rattle.vol_mends.proofs.WeakSteps.{spelt_findings, room_lacks, spelt_is_weak}
use Rattle.vol_mends.proofs.Basics.{clash}

pub place_has : (es : List DirEnt) (k : ℕ) (e : DirEnt) → slice_get es k ≡ Some e → Has es e
place_has [] k e h = absurd (cc h)
place_has (x ∷ xs) zero e h = inl (cc h)
place_has (x ∷ xs) (suc k) e h = inr (place_has xs k e h)

leads : (c : Cat) (n m : ℕ) → NamesFile c n m → LeadsTo c n m
leads c n m l = record {
  entry = l.entry;
  there = has_to (entries_of c n) l.entry (place_has (entries_of c n) l.place l.entry l.there);
  names = l.names;
  other = l.other;
}

path : (c : Cat) (n m : ℕ) → Path c n m → NumberPath c n m
path c n m (First l) = One (leads c n m l)
path c n m (Next {k} p l) = More (path c n k p) (leads c k m l)

pub marked : (o : Option File) → is_marked_dir o ≡ true → (f : File) × (o ≡ Some f) × (f.marked ≡ true) × (has_entries (Some f) ≡ true)
marked None e = absurd (cc e)
marked (Some f) e = let r = and_parts f.marked (has_entries (Some f)) e in (f, refl, r.0, r.1)

-- a fatal finding of a catalogue in order says that there is no room for a lost file, and mending gives up then
sound_finding : (c : Cat) → IsSound c → (f : Finding) → IsFatalOf c f → (mended c ≡ None) × ((n : ℕ) × (f ≡ finding.NoRoom n))
sound_finding c h (finding.SystemEntry n) e = absurd (clash (list_any (is_system_entry n) (entries_of c 4)) (h.entries n e.0 e.1) e.2)
sound_finding c h (finding.MarkedDir n) e = let r = marked (file_at c n) e in absurd (clash r.0.marked r.2 (h.closed n r.0 r.1 r.3))
sound_finding c h (finding.DirLoop n) e = absurd (h.ordered n (path c n n e))
sound_finding c h (finding.NoRoom n) e = ((no-room-exact c).0 (n, e), (n, refl))
sound_finding c h f e = absurd e

open_too : (c : Cat) → IsSound c → (mended c ≡ None → ⊥) → CanMend c
open_too c h room = record { systems = h.systems; owners = h.owners; sound = λ f e. room (sound_finding c h f e).0 }

-- ---- mending is the same whatever is open

abbrev closed : List (Option Open) → List (Option Open)
closed os = map (λ o. None) os

closed_alike : (xs ys : List (Option Open)) → length xs ≡ length ys → closed xs ≡ closed ys
closed_alike [] [] e = refl
closed_alike [] (y ∷ ys) e = absurd (omega (arith, e))
closed_alike (x ∷ xs) [] e = absurd (omega (arith, e))
closed_alike (x ∷ xs) (y ∷ ys) e = ap (λ zs. None ∷ zs) (closed_alike xs ys (omega (arith, e)))

pub mended_shut : (c : Cat) → length c.opens ≡ 64 → mended (shut c) ≡ mended c
unfolding mended
mended_shut c h =
    let opens : closed (replicate 64 None) ≡ closed c.opens = closed_alike (replicate 64 None) c.opens (sym h) in
    let e : without_opens (shut c) ≡ without_opens c = ap (λ (os : List (Option Open)). record c { opens = os }) opens in
    ap (λ (x : Cat). mended_from (shut c) (without_entries x) (with_lost (without_entries x))) e ∙ from_shut (without_entries (without_opens c)) (with_lost (without_entries (without_opens c)))
  where
    from_shut : (a : Cat) (o : Option Cat) → mended_from (shut c) a o ≡ mended_from c a o
    from_shut a None = refl
    from_shut a (Some b) = refl

shut_sound : (c : Cat) → IsSound c → IsSound (shut c)
shut_sound c h = beside_follows c (shut c) refl (λ o r. r) (sym h.channels) h

pub sound_can_mend : SoundCanMend
sound_can_mend = record { open_too = open_too; shut_too = λ c h room. open_too (shut c) (shut_sound c h) (λ e. room (sym (mended_shut c h.channels) ∙ e)) }

pub sound_is_readable : SoundIsReadable
sound_is_readable = record { only = only; lacking = lacking; same = λ c h. mended_shut c h.channels } where
  only : (g : Geometry) (bs : List Block) (own : Owners) (c : Cat) (f : Finding) → Spells g bs own c → NoOuts own → IsSound c → IsFatal bs f → (mended c ≡ None) × ((n : ℕ) × (f ≡ finding.NoRoom n))
  only g bs own c f s outs h e =
      let r = sound_finding (shut c) (shut_sound c h) f (spelt_findings g bs own c f s outs h.systems h.owners e) in
      (sym (mended_shut c h.channels) ∙ r.0, r.1)

  lacking : (g : Geometry) (bs : List Block) (own : Owners) (c : Cat) → Spells g bs own c → NoOuts own → IsSound c → mended c ≡ None → (n : ℕ) × IsFatal bs (finding.NoRoom n)
  lacking g bs own c s outs h none =
      let r = (no-room-exact (shut c)).1 (mended_shut c h.channels ∙ none) in
      (r.0, room_lacks g bs own c r.0 s outs r.1)

pub spelt_mends : SpeltMends
spelt_mends g bs own c d s outs may ends = record { cat = shut c; told = spelt_is_weak g bs own c s outs may; ends = ends }
