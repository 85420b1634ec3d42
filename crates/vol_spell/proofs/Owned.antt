-- Each cluster and each number has one owner.
use Rattle.std.proofs.Common.{◌≡◌, ◌<◌, ◌-◌, ℕ, Bool, true, false, not, List, Some, slice_get, get_or, refl, sym, ap, ◌∙◌, arith}
use Rattle.std.specs.Prelude.{◌↔◌}
use Rattle.std.proofs.lemmas.Option.{slice_get-get_or}
use Rattle.base_words.specs.Fields.{Block}
use Rattle.plain_cat.specs.declared.cat.Cat.{Cat}
use Rattle.vol_spell.specs.declared.owner.Owner.{Owner}
use Rattle.vol_spell.specs.declared.owner.Owner.TheVariants.{Free, InFile, Outside, Leaked}
use Rattle.vol_spell.specs.Owners.{Owners}
use Rattle.vol_spell.specs.Counts.{is_same_owner}
use Rattle.vol_parts.specs.declared.geometry.Geometry.{Geometry}
use Rattle.vol_spell.specs.Reading.{IsFileNumber, total_of, cluster_bit, number_bit}
use Rattle.vol_spell.specs.Spelling.{Spells}
use Rattle.vol_spell.specs.Owning.{IsClusterOf, IsNumberOf, EachIsOwned}
use Rattle.vol_spell.proofs.Parts.{told, in_use}

-- a bit that is set exactly where nobody is the owner
bit_is : (t : Bool) (o : Owner) → ((t ≡ true) ↔ (Some o ≡ Some Free)) → t ≡ is_same_owner Free o
unfolding is_same_owner
bit_is true Free h = refl
bit_is true (InFile n) h = let e = h.0 refl in absurd (cc)
bit_is true (Outside n) h = let e = h.0 refl in absurd (cc)
bit_is true Leaked h = let e = h.0 refl in absurd (cc)
bit_is false Free h = let e = h.1 refl in absurd (cc)
bit_is false (InFile n) h = refl
bit_is false (Outside n) h = refl
bit_is false Leaked h = refl

bit_is_not : (t : Bool) (o : Owner) → ((t ≡ false) ↔ (Some o ≡ Some Free)) → t ≡ not (is_same_owner Free o)
unfolding is_same_owner
bit_is_not false Free h = refl
bit_is_not false (InFile n) h = let e = h.0 refl in absurd (cc)
bit_is_not false (Outside n) h = let e = h.0 refl in absurd (cc)
bit_is_not false Leaked h = let e = h.0 refl in absurd (cc)
bit_is_not true Free h = let e = h.1 refl in absurd (cc)
bit_is_not true (InFile n) h = refl
bit_is_not true (Outside n) h = refl
bit_is_not true Leaked h = refl

-- what is said of the owner that stands there is said of this one
of_owner : (A : Type 0) (x : List Owner) (q : ℕ) (o p : Owner) → slice_get x q ≡ Some o → (A ↔ (slice_get x q ≡ Some p)) → (A ↔ (Some o ≡ Some p))
of_owner A x q o p at h = ((λ a. sym at ∙ h.0 a), (λ e. h.1 (at ∙ e)))

same_owner : (A : Type 0) (o p : Owner) → (A ↔ (Some o ≡ Some p)) → (A ↔ (o ≡ p))
same_owner A o p h = ((λ a. let e : Some o ≡ Some p = h.0 a in cc), (λ e. h.1 (ap (λ x. Some x) e)))

-- of two things the first holds anyway
of_number : (A B C : Type 0) → B → (A ↔ (B × C)) → (A ↔ C)
of_number A B C b h = ((λ a. (h.0 a).1), (λ x. h.1 (b, x)))

module _ (g : Geometry) (bs : List Block) (own : Owners) (c : Cat) (s : Spells g bs own c) where
  cluster_of : (q : ℕ) (o : Owner) → q < total_of g → slice_get own.clusters q ≡ Some o → IsClusterOf g bs q o
  cluster_of q o lt at = record {
    bit = bit_is (cluster_bit g bs q) o (of_owner _ own.clusters q o Free at (s.owners.cluster_bits q lt));
    files = λ n is. same_owner _ o (InFile n) (of_owner _ own.clusters q o (InFile n) at ((told g bs own c s n is).runs q));
    once = λ n is. (told g bs own c s n is).once;
    known = λ n e. s.owners.known q n (at ∙ ap (λ x. Some x) e);
  }

  number_of : (n : ℕ) (o : Owner) → IsFileNumber g n → slice_get own.numbers (n - 1) ≡ Some o → IsNumberOf g bs n o
  number_of n o is at = record {
    bit = bit_is_not (number_bit g bs n) o (of_owner _ own.numbers (n - 1) o Free at (s.owners.number_bits n is));
    file = same_owner _ o (InFile n) (of_owner _ own.numbers (n - 1) o (InFile n) at (in_use g bs own c s n is));
    slots = λ m is_m. same_owner _ o (InFile m) (of_owner _ own.numbers (n - 1) o (InFile m) at (of_number _ _ _ is ((told g bs own c s m is_m).slots n)));
    known = λ m e. s.owners.known_numbers (n - 1) m (at ∙ ap (λ x. Some x) e);
  }

pub each_is_owned : EachIsOwned
each_is_owned = record {
  clusters = λ g bs own c q s lt.
      let e = s.counts.clusters in
      let at : slice_get own.clusters q ≡ Some (get_or own.clusters q Free) = slice_get-get_or own.clusters q Free (omega arith) in
      (get_or own.clusters q Free, at, cluster_of g bs own c s q (get_or own.clusters q Free) lt at);
  numbers = λ g bs own c n s is.
      let e = s.counts.numbers in
      let a = is.from in
      let b = is.to in
      let at : slice_get own.numbers (n - 1) ≡ Some (get_or own.numbers (n - 1) Free) = slice_get-get_or own.numbers (n - 1) Free (omega arith) in
      (get_or own.numbers (n - 1) Free, at, number_of g bs own c s n (get_or own.numbers (n - 1) Free) is at);
}
