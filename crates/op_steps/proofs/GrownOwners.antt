-- What a file owns that gets clusters, and a number.
use Rattle.std.proofs.Common.{◌≡◌, ◌≢◌, ◌∙◌, ◌<◌, ◌-◌, ◌++◌, ℕ, List, [], ◌∷◌, Option, Some, None, slice_get, refl, sym, ap, subst, inl, inr, arith}
use Rattle.std.specs.Prelude.{◌↔◌, IfSome}
use Rattle.std.proofs.lemmas.Option.{slice_get_within}
use Rattle.base_words.specs.Fields.{Block}
use Rattle.base_words.specs.Lists.{Has, Once}
use Rattle.base_words.proofs.Listing.{has_parted, has_first, has_second, once_first, once_in_a_row}
use Rattle.fx_header.specs.declared.slot.Hdr.{Hdr}
use Rattle.plain_cat.specs.declared.cat.Cat.{Cat}
use Rattle.plain_cat.specs.declared.cat.File.{File}
use Rattle.vol_parts.specs.declared.geometry.Geometry.{Geometry}
use Rattle.vol_spell.specs.declared.owner.Owner.TheVariants.{InFile, Outside}
use Rattle.vol_spell.specs.Files.{IsFileThere}
use Rattle.vol_spell.specs.Owners.{Owners, Things}
use Rattle.vol_spell.specs.Reading.{IsFileNumber, total_of}
use Rattle.vol_under.specs.Filing.{filed, Takes}
use Rattle.vol_under.proofs.Files.{file_takes}
use Rattle.op_law.specs.Fits.{things}
use Rattle.op_law.specs.Writing.{holding}
use Rattle.op_steps.specs.Chained.{Chain, StandsOn}
use Rattle.op_steps.specs.GrownWrites.{number_of, IsNewSlot, with_new}
use Rattle.op_steps.proofs.FileNow.{IsNow, now_owned}
use Rattle.op_steps.proofs.ChainFiles.{chain_once, chain_owned, chain_within}

pub things_clusters : (qs : List ℕ) (o : Option ℕ) → (things qs o).clusters ≡ qs
things_clusters qs None = refl
things_clusters qs (Some n) = refl

module _ (k : Chain) (n : ℕ) (h : Hdr) (f : File) (qs : List ℕ) (new : Option (ℕ × ℕ)) (x : Cat) (bs : List Block) (own : Owners) (on : StandsOn k (holding qs (number_of new)) x bs own) (is : List ℕ) (m : ℕ) (y : Hdr) (cs ds : List ℕ)
    (now : IsNow k.geometry own x n h f bs is m y cs ds) (slot : IfSome new (IsNewSlot k.geometry bs)) where
  abbrev g : Geometry
  g = k.geometry

  abbrev took : Things
  took = things qs (number_of new)

  abbrev pub grown_owners : Owners
  grown_owners = filed n (things qs (number_of new)) own

  pub takes : Takes k.node n own grown_owners (things qs (number_of new)) k.stock
  takes = file_takes k.node n own (things qs (number_of new)) k.stock on.outs

  abbrev there : IsFileThere k.geometry x bs n h f
  there = now.there

  -- the clusters that were given are outside
  pub given : (q : ℕ) → Has qs q → slice_get own.clusters q ≡ Some (Outside k.node)
  given q t = (on.outs.clusters.all q).1 (inl (subst (λ (rs : List ℕ). Has rs q) (sym (things_clusters qs (number_of new))) t))

  pub given_within : (q : ℕ) → Has qs q → q < total_of k.geometry
  given_within q t =
      let lt = slice_get_within own.clusters q (Outside k.node) (given q t) in
      let all = on.spelt.counts.clusters in
      omega arith

  owned : (q : ℕ) → Has (cs ++ ds) q ↔ (slice_get own.clusters q ≡ Some (InFile n))
  owned q = subst (λ (rs : List ℕ). Has rs q ↔ (slice_get own.clusters q ≡ Some (InFile n))) now.clusters (chain_owned g bs own x n h on.spelt there.number there.above there.reads q)

  pub own_within : (q : ℕ) → Has (cs ++ ds) q → q < total_of k.geometry
  own_within q t = chain_within g bs own x n h on.spelt there.number there.above there.reads q (subst (λ (rs : List ℕ). Has rs q) (sym now.clusters) t)

  pub all_once : Once ((cs ++ ds) ++ qs)
  all_once =
      let given_once : Once qs = subst (λ (rs : List ℕ). Once rs) (things_clusters qs (number_of new)) (once_first took.clusters k.stock.clusters on.outs.clusters.once) in
      let own_once : Once (cs ++ ds) = subst (λ (rs : List ℕ). Once rs) now.clusters (chain_once g bs own x n h on.spelt there.number there.above there.reads) in
      once_in_a_row (cs ++ ds) qs own_once given_once
      (λ q t u. let both : Some (InFile n) ≡ Some (Outside k.node) = sym ((owned q).0 t) ∙ given q u in cc)

  pub all_mine : (q : ℕ) → Has ((cs ++ ds) ++ qs) q ↔ (slice_get grown_owners.clusters q ≡ Some (InFile n))
  all_mine q =
      let P : List ℕ → Type 0 = λ rs. Has rs q in
      let same = things_clusters qs (number_of new) in (
        (λ t. (takes.clusters q).1 (elim (has_parted (cs ++ ds) qs q t) [ inl u ↦ inr ((owned q).0 u) | inr u ↦ inl (subst P (sym same) u) ])),
        (λ e. elim ((takes.clusters q).0 e) [ inl u ↦ has_second (cs ++ ds) qs q (subst P same u) | inr o ↦ has_first (cs ++ ds) qs q ((owned q).1 o) ]),
      )

  -- the numbers that it has then
  pub all_numbers : (i : ℕ) → Has (with_new (n ∷ is) new) i ↔ (IsFileNumber k.geometry i × (slice_get grown_owners.numbers (i - 1) ≡ Some (InFile n)))
  all_numbers i = by_new new slot takes where
    before : Has (n ∷ is) i ↔ (IsFileNumber k.geometry i × (slice_get own.numbers (i - 1) ≡ Some (InFile n)))
    before = now_owned k.geometry own x n h f bs is m y cs ds now i

    by_new : (o : Option (ℕ × ℕ)) → IfSome o (IsNewSlot k.geometry bs) → Takes k.node n own (filed n (things qs (number_of o)) own) (things qs (number_of o)) k.stock
        → Has (with_new (n ∷ is) o) i ↔ (IsFileNumber k.geometry i × (slice_get (filed n (things qs (number_of o)) own).numbers (i - 1) ≡ Some (InFile n)))
    by_new None none t = (
      (λ u. let b = before.0 u in (b.0, (t.numbers (i - 1)).1 (inr b.1))),
      (λ e. elim ((t.numbers (i - 1)).0 e.1) [ inl none ↦ absurd none | inr o ↦ before.1 (e.0, o) ]),
    )
    by_new (Some p) new_slot t = (
      (λ u. elim (has_parted (n ∷ is) (p.0 ∷ []) i u) [
        | inl v ↦ (let b = before.0 v in (b.0, (t.numbers (i - 1)).1 (inr b.1)))
        | inr (inl e) ↦ subst (λ (j : ℕ). IsFileNumber k.geometry j × (slice_get (filed n (things qs (Some p.0)) own).numbers (j - 1) ≡ Some (InFile n))) e (new_slot.number, (t.numbers (p.0 - 1)).1 (inl (inl refl)))
        | inr (inr none) ↦ absurd none
      ]),
      (λ e. elim ((t.numbers (i - 1)).0 e.1) [
        | inl (inl same) ↦ has_second (n ∷ is) (p.0 ∷ []) i (inl (let a = e.0.from in let b = new_slot.number.from in omega arith))
        | inl (inr none) ↦ absurd none
        | inr o ↦ has_first (n ∷ is) (p.0 ∷ []) i (before.1 (e.0, o))
      ]),
    )

  -- the number that was given is outside, and none of the file's
  pub new_outside : (p : ℕ × ℕ) → new ≡ Some p → slice_get own.numbers (p.0 - 1) ≡ Some (Outside k.node)
  new_outside p e = (on.outs.numbers.all (p.0 - 1)).1 (inl (subst (λ (o : Option (ℕ × ℕ)). Has (things qs (number_of o)).numbers (p.0 - 1)) (sym e) (inl refl)))

  pub new_apart : (p : ℕ × ℕ) → new ≡ Some p → (i : ℕ) → Has (n ∷ is) i → i ≢ p.0
  new_apart p e i t same =
      let mine = ((now_owned k.geometry own x n h f bs is m y cs ds now i).0 t).1 in
      let both : Some (InFile n) ≡ Some (Outside k.node) = sym mine ∙ ap (λ j. slice_get own.numbers (j - 1)) same ∙ new_outside p e in
      cc
