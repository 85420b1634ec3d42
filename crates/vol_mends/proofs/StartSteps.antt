-- Once the entries that do not stay are gone, the catalogue of blocks with no fatal finding is as the entering of lost files needs it.
use Rattle.std.proofs.Common.{◌≡◌, ◌≤◌, ◌⊎◌, inl, inr, ◌∙◌, ℕ, true, false, cond, not, List, [], ◌∷◌, Some, nat_le, refl, sym, ap, subst, arith}
use Rattle.std.proofs.lemmas.Bool.{cases_Bool, and_from}
use Rattle.plain_cat.specs.declared.entries.DirEnt.{DirEnt}
use Rattle.plain_cat.specs.declared.cat.Cat.{Cat}
use Rattle.plain_cat.specs.declared.cat.File.{File}
use Rattle.plain_rules.specs.declared.places.Place.{Place}
use Rattle.plain_rules.specs.Lookups.{file_at}
use Rattle.plain_rules.specs.Directories.{is_nil}
use Rattle.plain_rules.specs.Answers.{has_entries}
use Rattle.plain_rules.specs.Mending.{places, is_own, is_first, stays, without_opens, stripped}
use Rattle.plain_laws.specs.Clearing.{HasOwnEntry, KeepsNames}
use Rattle.base_words.specs.Lists.{Has}
use Rattle.base_words.proofs.Listing.{has_from, has_to, has_filtered, any_has}
use Rattle.plain_laws.proofs.Standing.{number_rises, Alive}
use Rattle.plain_laws.proofs.Places.{in_from, in_to, first_is, first_one, first_to}
use Rattle.plain_laws.proofs.Steps.{less_file, less_same, less_from, in_less, less_in_to, stays_parts, stays_from}
use Rattle.plain_mends.specs.Resuming.{AllStay}
use Rattle.plain_mends.specs.Waiting.{Settled, LostIsWritten}
use Rattle.plain_mends.specs.Sound.{IsSystemFile}
use Rattle.plain_rules.specs.SystemFiles.{is_system_entry}
use Rattle.plain_rules.specs.SystemFiles.{entries_of}
use Rattle.plain_mends.proofs.Standing.{stays_open, all_stay}
use Rattle.plain_mends.proofs.GoneSteps.{alive_over}
use Rattle.vol_parts.specs.declared.finding.Finding.TheVariants as finding
use Rattle.vol_parts.specs.Fatal.{is_marked_dir}
use Rattle.vol_mends.specs.Weak.{CanMend}
use Rattle.vol_mends.specs.Going.{WriteMends, StartIsSettled}
use Rattle.vol_mends.proofs.AcceptedSteps.{told_mark, told_shut, weak_can_mend}
use Rattle.vol_mends.proofs.GoingSteps.{system_whole, entries, system_stays, in_of, change_mends}
use Rattle.vol_mends.proofs.Telling.{is_false}

some_entry : (es : List DirEnt) (e : DirEnt) → Has es e → not (is_nil es) ≡ true
some_entry [] e h = absurd h
some_entry (x ∷ xs) e h = refl

module _ (c : Cat) (h : CanMend c) (no_mark : (n : ℕ) (f : File) → file_at c n ≡ Some f → f.dir ≡ true → f.mark ≡ 0) where
  -- the catalogue with nothing open, and after the first step of mending
  abbrev b : Cat
  b = without_opens c

  abbrev x : Cat
  x = stripped c

  -- an entry that is left stays, also among those that are left
  stays_on : (p : Place) → stays b p ≡ true → stays x p ≡ true
  stays_on p s = by_number (cases_Bool (nat_le p.entry.fid.num 11)) where
    w : Alive b p.entry.fid × (cond (nat_le p.entry.fid.num 11) (is_own p) (is_first p (places b)) ≡ true)
    w = stays_parts b p s

    alive : Alive x p.entry.fid
    alive = alive_over b x p.entry.fid (less_same b) w.0

    by_number : (nat_le p.entry.fid.num 11 ≡ true) ⊎ (nat_le p.entry.fid.num 11 ≡ false) → stays x p ≡ true
    by_number (inl low) =
        stays_from x p alive (ap (λ q. cond q (is_own p) (is_first p (places x))) low ∙ (ap (λ q. cond q (is_own p) (is_first p (places b))) (sym low) ∙ w.1))
    by_number (inr high) =
        let first : is_first p (places b) ≡ true = ap (λ q. cond q (is_own p) (is_first p (places b))) (sym high) ∙ w.1 in
        let within = less_in_to b p (in_from b p (first_is p (places b) first)) s in
        let still : is_first p (places x) ≡ true = first_to p (places x) (in_to x p within) (λ q i same.
        let t = in_less b q (in_from x q i) in
        let u = stays_parts b q t.stays in
        let up : nat_le q.entry.fid.num 11 ≡ false = ap (λ f. nat_le f.num 11) same ∙ high in
        let mine : is_first q (places b) ≡ true = ap (λ k. cond k (is_own q) (is_first q (places b))) (sym up) ∙ u.1 in
        first_one q p (places b) same mine first) in
        stays_from x p alive (ap (λ q. cond q (is_own p) (is_first p (places x))) high ∙ still)

  stay : AllStay x
  stay = all_stay x (λ n f e at has.
      let l = less_from b n f at in
      let es : Has (less_file b n l.file).entries e = subst (λ (g : File). Has g.entries e) (sym l.same) has in
      stays_on (record { dir = n; entry = e }) (has_filtered (λ (d : DirEnt). stays b (record { dir = n; entry = d })) l.file.entries e es).1)

  -- a directory with an entry
  was : (p : Place) (f : File) → Has (places x) p → file_at x p.dir ≡ Some f
      → (g : File) × (file_at c p.dir ≡ Some g) × (g.dir ≡ true) × Has g.entries p.entry × (f.marked ≡ g.marked) × (f.mark ≡ g.mark)
  was p f has at =
      let s = in_less b p (in_from x p has) in
      let l = less_from b p.dir f at in
      let both : Some s.before.file ≡ Some l.file = sym s.before.at ∙ l.at in
      let same : s.before.file ≡ l.file = cc both in (
        l.file,
        l.at,
        ap (λ (g : File). g.dir) (sym same) ∙ s.before.dir,
        subst (λ (g : File). Has g.entries p.entry) same s.before.entry,
        ap (λ (g : File). g.marked) (sym l.same),
        ap (λ (g : File). g.mark) (sym l.same),
      )

  unmarked : (p : Place) (f : File) → Has (places x) p → file_at x p.dir ≡ Some f → f.marked ≡ false
  unmarked p f has at =
      let (g, there, dir, entry, marked, mark) = was p f has at in
      marked ∙ is_false g.marked (λ yes.
      h.sound (finding.MarkedDir p.dir) (ap is_marked_dir there ∙ and_from g.marked (has_entries (Some g)) yes (and_from g.dir (not (is_nil g.entries)) dir (some_entry g.entries p.entry entry))))

  written : (p : Place) (f : File) → Has (places x) p → file_at x p.dir ≡ Some f → f.mark ≡ 1 → ⊥
  written p f has at one =
      let (g, there, dir, entry, marked, mark) = was p f has at in
      let zero = no_mark p.dir g there dir in
      omega (arith, zero, mark, one)

  -- a system file is the one that was there
  system : (n : ℕ) (f : File) → n ≤ 11 → file_at x n ≡ Some f → (g : File) × (file_at c n ≡ Some g) × IsSystemFile n g × (1 ≤ n) × (less_file b n g ≡ f)
  system n f to at =
      let l = less_from b n f at in
      let rises = number_rises c n l.file l.at in
      let s = h.systems n (omega (arith, rises)) to in
      let both : Some s.0 ≡ Some l.file = sym s.1 ∙ l.at in
      let same : s.0 ≡ l.file = cc both in
      (l.file, l.at, subst (IsSystemFile n) same s.2, omega (arith, rises), l.same)

  own : (n : ℕ) (f : File) → n ≤ 11 → file_at x n ≡ Some f → HasOwnEntry x n f
  own n f to at =
      let (g, there, is, from, less) = system n f to at in
      let e = any_has (is_system_entry n) (entries_of c 4) (entries c h n from to) in
      let w = system_whole n e.0 e.2 in
      let p : Place = record { dir = 4; entry = e.0 } in
      let within = less_in_to b p (in_of b 4 e.0 e.1) (stays_open c p ∙ system_stays c n e.0 h from to e.2) in
      let seq : e.0.fid.seq ≡ f.seq = w.1.1 ∙ (sym is.seq ∙ ap (λ (k : File). k.seq) less) in
      (p, has_to (places x) p (in_to x p within), w.0, ap (λ k. record { num = k; seq = e.0.fid.seq }) w.1.0 ∙ ap (λ s. record { num = n; seq = s }) seq)

  names : KeepsNames x
  names = record {
    unmarked = λ p f has at. unmarked p f (has_from (places x) p has) at;
    written = λ p f has at one. written p f (has_from (places x) p has) at one;
    lost = λ f at.
        let (g, there, is, from, less) = system 11 f (omega arith) at in
        record {
          directory = ap (λ (k : File). k.dir) (sym less) ∙ is.dir;
          unmarked = ap (λ (k : File). k.marked) (sym less) ∙ is.unmarked;
          own = own 11 f (omega arith) at;
        };
  }

  settled : Settled x
  settled = record { stay = stay; names = names; owned = λ n f to at free. own n f to at }

  lost_written : LostIsWritten x
  lost_written f at = λ one.
      let (g, there, is, from, less) = system 11 f (omega arith) at in
      let zero = no_mark 11 g there is.dir in
      let mark : g.mark ≡ f.mark = ap (λ (k : File). k.mark) less in
      omega (arith, zero, mark, one)

pub start_is_settled : StartIsSettled
start_is_settled bs c told = let can = (weak_can_mend bs c told).0 in (settled c can (told_mark bs c told), lost_written c can (told_mark bs c told))

pub write_mends : WriteMends
write_mends g bs new own c d z told change spells outs ends =
    let can = (weak_can_mend bs c told).0 in
    let none = told_shut bs c told in
    (change_mends.tells g new own c d can none change spells outs, change_mends.mends g new own c d z can none change spells outs ends)
