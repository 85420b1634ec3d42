-- Moves in a directory that lead from one catalogue to another.
use Rattle.std.proofs.Common.{◌≡◌, ◌==◌, ◌≤◌, ◌<◌, ◌∙◌, ◌⊎◌, inl, inr, zero, suc, ℕ, Bool, true, false, cond, List, [], ◌∷◌, Some, All, length, take, refl, sym, ap, subst, arith}
use Rattle.std.specs.Prelude.{is_some}
use Rattle.std.specs.Str.{bytes_eq}
use Rattle.std.proofs.lemmas.Bool.{cases_lt, eq-eqb, cases_eq}
use Rattle.std.proofs.lemmas.Slice.Eq.{bytes_eq-Decides}
use Rattle.base_words.specs.Fields.{Block}
use Rattle.fx_dir.specs.declared.Move.{Move}
use Rattle.plain_cat.specs.declared.entries.DirEnt.{DirEnt}
use Rattle.plain_cat.specs.declared.cat.Cat.{Cat}
use Rattle.plain_rules.specs.Lookups.{versions, first_with}
use Rattle.plain_rules.specs.Directories.{is_taken}
use Rattle.base_words.specs.Lists.{Has}
use Rattle.vol_parts.specs.declared.geometry.Geometry.{Geometry}
use Rattle.vol_spell.specs.Reading.{IsFileNumber, header_block}
use Rattle.vol_mends.specs.Mends.{Mends}
use Rattle.vol_spell.specs.Entries.{places_in, after_moves}
use Rattle.vol_mends.specs.Told.{IsTold, IsSingle, KeepsSingles}
use Rattle.vol_mends.specs.Moving.{MovesLead}
use Rattle.vol_rebuild.specs.Places.{written_at, DirLeads}

take_past : (k : ℕ) (ms : List Move) → length ms ≤ k → take k ms ≡ ms
take_past zero [] h = refl
take_past zero (m ∷ ms) h = absurd (omega arith)
take_past (suc k) [] h = refl
take_past (suc k) (m ∷ ms) h = ap (λ xs. m ∷ xs) (take_past k ms (omega arith))

module _ (g : Geometry) (bs : List Block) (c d : Cat) (n j : ℕ) (ms : List Move) (lead : MovesLead g bs c d n j ms) where
  abbrev at_once : ℕ → List Block
  at_once k = after_moves g n (take k ms) bs

  keeps : (k : ℕ) → k ≤ length ms → IsSingle g (after_moves g n ms bs) n → (i : ℕ) → IsFileNumber g i → IsSingle g bs i → IsSingle g (after_moves g n ms bs) i
  keeps k le single i is s = by_number (cases_eq i n) where
    by_number : (i ≡ n) ⊎ (i ≡ n → ⊥) → IsSingle g (after_moves g n ms bs) i
    by_number (inl e) = subst (λ (m : ℕ). IsSingle g (after_moves g n ms bs) m) (sym e) single
    by_number (inr other) = subst (λ (xs : List Move). IsSingle g (after_moves g n xs bs) i) (take_past (length ms) ms (omega arith)) (lead.singles (length ms) i (omega arith) is other s)

  -- where one of them decides
  some_mends : j < length ms → (k : ℕ) (z : Cat) → Mends bs z → Mends (at_once k) z
  some_mends more k z m = by_place (cases_lt j k) where
    by_end : (length ms < k) ⊎ (k ≤ length ms) → j < k → Mends (at_once k) z
    by_end (inr in_time) later = (lead.behind k later in_time).mends z m
    by_end (inl past) later =
        subst (λ (xs : List Move). Mends (after_moves g n xs bs) z) (take_past (length ms) ms (omega arith) ∙ sym (take_past k ms (omega (arith, past)))) ((lead.behind (length ms) more (omega arith)).mends z m)

    by_place : (j < k) ⊎ (k ≤ j) → Mends (at_once k) z
    by_place (inl later) = by_end (cases_lt (length ms) k) later
    by_place (inr early) = (lead.before k early).mends z m

  pub leads_by : (ls : List ℕ) → j < length ms → ls ≡ places_in (header_block g bs n) → All (λ l. l < length bs) ls → DirLeads g bs d n ls ms
  leads_by ls more is inside = record {
    inside = inside;
    mends = λ k z m. subst (λ (xs : List ℕ). Mends (written_at xs (take k ms) bs) z) (sym is) (some_mends more k z m);
    told = subst (λ (xs : List ℕ). IsTold g (written_at xs ms bs) d) (sym is)
        (subst (λ (xs : List Move). IsTold g (after_moves g n xs bs) d) (take_past (length ms) ms (omega arith)) (lead.behind (length ms) more (omega arith)).told);
    singles = subst (λ (xs : List ℕ). KeepsSingles g bs (written_at xs ms bs)) (sym is) (keeps (length ms) (omega arith) lead.packed);
    single = subst (λ (xs : List ℕ). IsSingle g (written_at xs ms bs) n) (sym is) lead.packed;
  }

  -- where none of them does
  all_mend : length ms ≤ j → (k : ℕ) (z : Cat) → Mends bs z → Mends (at_once k) z
  all_mend none k z m = by_end (cases_lt (length ms) k) where
    by_end : (length ms < k) ⊎ (k ≤ length ms) → Mends (at_once k) z
    by_end (inr in_time) = (lead.before k (omega (arith, in_time, none))).mends z m
    by_end (inl past) =
        subst (λ (xs : List Move). Mends (after_moves g n xs bs) z) (take_past (length ms) ms (omega arith) ∙ sym (take_past k ms (omega (arith, past)))) ((lead.before (length ms) none).mends z m)

  pub packs_by : (ls : List ℕ) → length ms ≤ j → ls ≡ places_in (header_block g bs n) → All (λ l. l < length bs) ls → DirLeads g bs c n ls ms
  packs_by ls none is inside = record {
    inside = inside;
    mends = λ k z m. subst (λ (xs : List ℕ). Mends (written_at xs (take k ms) bs) z) (sym is) (all_mend none k z m);
    told = subst (λ (xs : List ℕ). IsTold g (written_at xs ms bs) c) (sym is)
        (subst (λ (xs : List Move). IsTold g (after_moves g n xs bs) c) (take_past (length ms) ms (omega arith)) (lead.before (length ms) none).told);
    singles = subst (λ (xs : List ℕ). KeepsSingles g bs (written_at xs ms bs)) (sym is) (keeps (length ms) (omega arith) lead.packed);
    single = subst (λ (xs : List ℕ). IsSingle g (written_at xs ms bs) n) (sym is) lead.packed;
  }

-- no moves
pub stays_by : (g : Geometry) (bs : List Block) (c : Cat) (n : ℕ) (ls : List ℕ) → IsTold g bs c → All (λ l. l < length bs) ls → IsSingle g bs n → DirLeads g bs c n ls []
stays_by g bs c n ls t inside single = record { inside = inside; mends = λ k z m. none k z m; told = t; singles = λ i is s. s; single = single } where
  none : (k : ℕ) (z : Cat) → Mends bs z → Mends (written_at ls (take k []) bs) z
  none zero z m = m
  none (suc k) z m = m

-- an entry that is there has its version taken
pub taken : (es : List DirEnt) (e : DirEnt) → Has es e → is_taken e.ver (versions e.name es) ≡ true
taken [] e h = absurd h
taken (x ∷ es) e (inl same) =
    let name : bytes_eq x.name e.name ≡ true = (bytes_eq-Decides x.name e.name).1 (ap (λ (k : DirEnt). k.name) same) in
    let ver : (x.ver == e.ver) ≡ true = eq-eqb x.ver e.ver (ap (λ (k : DirEnt). k.ver) same) in
    ap (λ b. is_taken e.ver (cond b (x ∷ versions e.name es) (versions e.name es))) name
    ∙ ap (λ b. is_some (cond b (Some x) (first_with e.ver (versions e.name es)))) ver
taken (x ∷ es) e (inr later) = by (bytes_eq x.name e.name) (taken es e later) where
  by_version : (b : Bool) → is_taken e.ver (versions e.name es) ≡ true → is_some (cond b (Some x) (first_with e.ver (versions e.name es))) ≡ true
  by_version true h = refl
  by_version false h = h

  by : (b : Bool) → is_taken e.ver (versions e.name es) ≡ true → is_taken e.ver (cond b (x ∷ versions e.name es) (versions e.name es)) ≡ true
  by true h = by_version (x.ver == e.ver) h
  by false h = h
