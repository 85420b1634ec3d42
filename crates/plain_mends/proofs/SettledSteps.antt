-- What mending finds when it enters lost files holds on once one is entered.
use Rattle.std.proofs.Common.{◌≡◌, ◌⊎◌, inl, inr, ◌++◌, ◌∙◌, ℕ, true, false, List, ◌∷◌, Some, sym, ap}
use Rattle.std.specs.List.{Contains}
use Rattle.plain_cat.specs.declared.cat.Cat.{Cat}
use Rattle.plain_cat.specs.declared.cat.File.{File}
use Rattle.plain_rules.specs.declared.places.Place.{Place}
use Rattle.plain_rules.specs.Lookups.{file_at}
use Rattle.plain_rules.specs.Directories.{inserted}
use Rattle.plain_rules.specs.Mending.{places, lost, enter}
use Rattle.plain_laws.specs.Clearing.{HasOwnEntry, KeepsNames, AreOwned}
use Rattle.base_words.proofs.Listing.{has_from, has_to}
use Rattle.plain_laws.proofs.Places.{In, in_from, in_to}
use Rattle.plain_laws.proofs.Steps.{like_left, Entered, entered_by, entered_same, new_place, in_entered, entered_in}
use Rattle.plain_mends.specs.Waiting.{Settled, LostIsWritten}
use Rattle.plain_mends.proofs.FullSteps.{full_stays}
use Rattle.plain_mends.proofs.EmptySteps.{empty_stays}

module _ (x y : Cat) (m : ℕ) (e : Entered x y m) (settled : Settled x) (written : LostIsWritten x) where
  within : (p : Place) → Contains (places y) p → In x p ⊎ (p ≡ new_place e.entry)
  within p has = in_entered x y m e p (in_from y p (has_from (places y) p has))

  own_on : (n : ℕ) (f g : File) → f.seq ≡ g.seq → HasOwnEntry x n f → HasOwnEntry y n g
  own_on n f g same (p, has, own, fid) =
      (p, has_to (places y) p (in_to y p (entered_in x y m e p (in_from x p (has_from (places x) p has)))), own, fid ∙ ap (λ s. record { num = n; seq = s }) same)

  lost_is : (g : File) → file_at y 11 ≡ Some g → g ≡ record e.lost { entries = inserted e.entry e.lost.entries }
  lost_is g at = let both : Some g ≡ Some (record e.lost { entries = inserted e.entry e.lost.entries }) = sym at ∙ e.after in cc both

  lost_at : (p : Place) (g : File) → p ≡ new_place e.entry → file_at y p.dir ≡ Some g → g ≡ record e.lost { entries = inserted e.entry e.lost.entries }
  lost_at p g new at = lost_is g (ap (λ k. file_at y k) (sym (ap (λ (z : Place). z.dir) new)) ∙ at)

  unmarked_on : (p : Place) (g : File) → In x p ⊎ (p ≡ new_place e.entry) → file_at y p.dir ≡ Some g → g.marked ≡ false
  unmarked_on p g (inl i) at =
      let l = like_left x y p.dir g (entered_same x y m e) at in
      ap (λ (z : File). z.marked) (sym l.same) ∙ settled.names.unmarked p l.file (has_to (places x) p (in_to x p i)) l.at
  unmarked_on p g (inr new) at = ap (λ (z : File). z.marked) (lost_at p g new at) ∙ (settled.names.lost e.lost e.lost_at).unmarked

  written_on : (p : Place) (g : File) → In x p ⊎ (p ≡ new_place e.entry) → file_at y p.dir ≡ Some g → g.mark ≡ 1 → ⊥
  written_on p g (inl i) at one =
      let l = like_left x y p.dir g (entered_same x y m e) at in
      settled.names.written p l.file (has_to (places x) p (in_to x p i)) l.at (ap (λ (z : File). z.mark) l.same ∙ one)
  written_on p g (inr new) at one = written e.lost e.lost_at (sym (ap (λ (z : File). z.mark) (lost_at p g new at)) ∙ one)

  names_on : KeepsNames y
  names_on = record {
    unmarked = λ p g has at. unmarked_on p g (within p has) at;
    written = λ p g has at one. written_on p g (within p has) at one;
    lost = λ g at.
        let is = lost_is g at in
        let l = settled.names.lost e.lost e.lost_at in
        record {
          directory = ap (λ (z : File). z.dir) is ∙ l.directory;
          unmarked = ap (λ (z : File). z.marked) is ∙ l.unmarked;
          own = own_on 11 e.lost g (sym (ap (λ (z : File). z.seq) is)) l.own;
        };
  }

  owned_on : AreOwned y
  owned_on k g low at free =
      let l = like_left x y k g (entered_same x y m e) at in
      own_on k l.file g (ap (λ (z : File). z.seq) l.same) (settled.owned k l.file low l.at (ap (λ (z : File). z.marked) l.same ∙ free))

  lost_on : LostIsWritten y
  lost_on g at = λ one. written e.lost e.lost_at (sym (ap (λ (z : File). z.mark) (lost_is g at)) ∙ one)

pub full_settled : (x y : Cat) (n : ℕ) (ns : List ℕ) → Settled x → LostIsWritten x → lost x false ≡ n ∷ ns → enter x n ≡ Some y → Settled y × LostIsWritten y
full_settled x y n ns settled written waits entered =
    let e = entered_by x n y entered in
    (record { stay = full_stays x y n ns settled waits entered; names = names_on x y n e settled written; owned = owned_on x y n e settled written }, lost_on x y n e settled written)

pub empty_settled : (x y : Cat) (ms : List ℕ) (n : ℕ) (ns : List ℕ) → Settled x → LostIsWritten x → lost x true ≡ ms ++ n ∷ ns → enter x n ≡ Some y → Settled y × LostIsWritten y
empty_settled x y ms n ns settled written waits entered =
    let e = entered_by x n y entered in
    (record { stay = empty_stays x y ms n ns settled waits entered; names = names_on x y n e settled written; owned = owned_on x y n e settled written }, lost_on x y n e settled written)
