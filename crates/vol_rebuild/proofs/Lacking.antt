-- Where a lost file is entered, and where there is no room for it.
use Rattle.std.proofs.Common.{◌≡◌, ◌<◌, ◌-◌, ◌∙◌, ℕ, true, false, List, Some, None, length, refl, sym, ap, subst, arith}
use Rattle.std.specs.Prelude.{option_map, option_and_then}
use Rattle.std.proofs.lemmas.Option.{slice_get_within}
use Rattle.base_words.specs.Fields.{Block}
use Rattle.fx_dir.specs.declared.Move.{Move}
use Rattle.plain_cat.specs.declared.entries.DirEnt.{DirEnt}
use Rattle.plain_cat.specs.declared.cat.Cat.{Cat}
use Rattle.plain_cat.specs.declared.cat.File.{File}
use Rattle.plain_cat.specs.declared.cat.Slot.TheVariants.{Used}
use Rattle.plain_rules.specs.Lookups.{file_at}
use Rattle.plain_rules.specs.Changes.{with_entries}
use Rattle.plain_rules.specs.Mending.{enter, with_lost_entry}
use Rattle.plain_rules.proofs.Standing.{stands_at}
use Rattle.vol_parts.specs.declared.geometry.Geometry.{Geometry}
use Rattle.vol_mends.specs.Told.{IsTold, KeepsSingles}
use Rattle.vol_mends.proofs.Entering.{enter_is}
use Rattle.vol_rebuild.specs.Places.{written_at, DirLeads}
use Rattle.vol_rebuild.specs.Steps.{IsEntered}

-- there is no [SYSLOST]
no_lost : (c : Cat) (n : ℕ) → file_at c 11 ≡ None → enter c n ≡ None
unfolding enter
no_lost c n e = ap (option_and_then (λ (d : File). option_and_then (λ (f : File). option_map (with_entries c 11 d) (with_lost_entry c.factor d.entries n f.seq)) (file_at c n))) e

-- there is no such file
no_file : (c : Cat) (n : ℕ) (d : File) → file_at c 11 ≡ Some d → file_at c n ≡ None → enter c n ≡ None
unfolding enter
no_file c n d at e =
    ap (option_and_then (λ (d : File). option_and_then (λ (f : File). option_map (with_entries c 11 d) (with_lost_entry c.factor d.entries n f.seq)) (file_at c n))) at
    ∙ ap (option_and_then (λ (f : File). option_map (with_entries c 11 d) (with_lost_entry c.factor d.entries n f.seq))) e

not_entered : (g : Geometry) (bs : List Block) (c : Cat) (n : ℕ) → IsTold g bs c → enter c n ≡ None → IsEntered g c c bs bs n false
not_entered g bs c n t e = record { told = t; enters = (e, refl); singles = λ i is h. h }

pub lacks_lost : (g : Geometry) (bs : List Block) (c : Cat) (n : ℕ) → IsTold g bs c → file_at c 11 ≡ None → IsEntered g c c bs bs n false
lacks_lost g bs c n t e = not_entered g bs c n t (no_lost c n e)

pub lacks_file : (g : Geometry) (bs : List Block) (c : Cat) (n : ℕ) (d : File) → IsTold g bs c → file_at c 11 ≡ Some d → file_at c n ≡ None → IsEntered g c c bs bs n false
lacks_file g bs c n d t at e = not_entered g bs c n t (no_file c n d at e)

pub lacks_room : (g : Geometry) (bs : List Block) (c : Cat) (n : ℕ) (d f : File) → IsTold g bs c → file_at c 11 ≡ Some d → file_at c n ≡ Some f → with_lost_entry c.factor d.entries n f.seq ≡ None → IsEntered g c c bs bs n false
lacks_room g bs c n d f t at own e = not_entered g bs c n t (enter_is c n d f at own ∙ ap (option_map (with_entries c 11 d)) e)

-- there is room
pub has_room : (g : Geometry) (old new : List Block) (c d : Cat) (n : ℕ) (dir f : File) (more : List DirEnt) (ls : List ℕ) (ms : List Move) → file_at c 11 ≡ Some dir → file_at c n ≡ Some f
    → with_lost_entry c.factor dir.entries n f.seq ≡ Some more → DirLeads g old (with_entries c 11 dir more) 11 ls ms → new ≡ written_at ls ms old → d ≡ with_entries c 11 dir more → IsEntered g c d old new n true
has_room g old new c d n dir f more ls ms at own room leads made is = record {
  told = subst (λ (bs : List Block). IsTold g bs d) (sym made) (subst (λ (x : Cat). IsTold g (written_at ls ms old) x) (sym is) leads.told);
  enters = enter_is c n dir f at own ∙ (ap (option_map (with_entries c 11 dir)) room ∙ ap (λ (x : Cat). Some x) (sym is));
  singles = subst (λ (bs : List Block). KeepsSingles g old bs) (sym made) leads.singles;
}

pub lost_slot : (c : Cat) (d : File) → file_at c 11 ≡ Some d → 10 < length c.files
lost_slot c d at = let k = slice_get_within c.files (11 - 1) (Used d) (stands_at c 11 d at) in omega (arith, k)
