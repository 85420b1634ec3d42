-- A fresh volume has no fatal finding, and is accepted.
use Rattle.std.proofs.Common.{◌≡◌, ◌∙◌, List, [], Option, Some, None, Result, Ok, sym, ap, subst, inr}
use Rattle.std.specs.List.{list_any}
use Rattle.std.proofs.lemmas.Bool.{both_ways}
use Rattle.base_words.specs.Fields.{Block}
use Rattle.fx_home.specs.declared.home.Home.{Home}
use Rattle.fx_home.specs.declared.home.HomeFault.{HomeFault}
use Rattle.fx_home.specs.Homes.{home_read}
use Rattle.plain_cat.specs.declared.cat.Cat.{Cat}
use Rattle.plain_rules.specs.Lookups.{file_at}
use Rattle.vol_parts.specs.declared.finding.Finding.{Finding}
use Rattle.vol_parts.specs.declared.finding.Finding.TheVariants as finding
use Rattle.vol_parts.specs.Volumes.{Volume, volume}
use Rattle.vol_parts.specs.Catalogues.{catalogue}
use Rattle.vol_parts.specs.Fatal.{IsFatalIn, is_system_file, is_marked_dir, Path, HasNoRoom, chain_fault, dir_fault}
use Rattle.plain_rules.specs.SystemFiles.{is_system_entry}
use Rattle.plain_rules.specs.SystemFiles.{entries_of}
use Rattle.vol_parts.specs.Findings.{home_at, IsFatalBy, Weak, AreWarningsBy, Accepts, IsCatalogueBy, CatOf}
use Rattle.vol_init.specs.Layouts.{fresh}
use Rattle.vol_init.specs.Fresh.{layout_of, IsFresh}
use Rattle.vol_init.proofs.Files.{catalogue_is}
use Rattle.vol_init.proofs.Sound.{no_bad_header, no_wrong_number, none_too_large, system_files, no_control_fault, no_chain_fault, none_off, none_shared, no_free_cluster, no_free_number, no_dir_fault, none_twice, none_rowless}
use Rattle.vol_init.proofs.Entries.{system_entries, no_marked_dir, no_loop, room_for_all}
use Rattle.vol_init.proofs.Quiet.{no_warnings}

no_finding : (o : Option Finding) (f : Finding) → o ≡ None → o ≡ Some f → ⊥
no_finding o f none some = let past : None ≡ Some f = sym none ∙ some in cc

pub no_fatal : (v : Volume) (f : Finding) → IsFresh v → IsFatalIn v f → ⊥
no_fatal v (finding.Header n fault) is h = no_bad_header v n fault is h.0 h.1
no_fatal v (finding.WrongNumber n) is h = no_wrong_number v n h.1.0 is h.0 h.1.1 h.1.2
no_fatal v (finding.SystemFile n) is h = both_ways (is_system_file v n) h.2 (system_files v n is h.0 h.1)
no_fatal v (finding.Scb fault) is h = let past : None ≡ Some fault = sym (no_control_fault v is) ∙ h in cc
no_fatal v (finding.ChainBroken n) is h = no_finding (chain_fault v n) (finding.ChainBroken n) (no_chain_fault v n is h.0 h.1) h.2
no_fatal v (finding.ChainSplit n) is h = no_finding (chain_fault v n) (finding.ChainSplit n) (no_chain_fault v n is h.0 h.1) h.2
no_fatal v (finding.Runs n) is h = both_ways _ (none_off v n is h.0) h.1
no_fatal v (finding.Clusters n) is h = both_ways _ (none_too_large v n is h.0 h.1) h.2
no_fatal v (finding.SharedCluster q) is h = none_shared v q is h
no_fatal v (finding.DirSize n) is h = no_finding (dir_fault v n) (finding.DirSize n) (no_dir_fault v n is h.0) h.1
no_fatal v (finding.DirRecord n) is h = no_finding (dir_fault v n) (finding.DirRecord n) (no_dir_fault v n is h.0) h.1
no_fatal v (finding.DirOrder n) is h = no_finding (dir_fault v n) (finding.DirOrder n) (no_dir_fault v n is h.0) h.1
no_fatal v (finding.DirClash n) is h = no_finding (dir_fault v n) (finding.DirClash n) (no_dir_fault v n is h.0) h.1
no_fatal v (finding.QuotaRow owner) is h = both_ways _ (none_twice v owner.0 is) h
no_fatal v (finding.NoQuotaRow n) is h = both_ways _ (none_rowless v n is h.0) h.1
no_fatal v (finding.FreeCluster q) is h = no_free_cluster v q is h.0 h.1 h.2
no_fatal v (finding.FreeNumber n) is h = no_free_number v n is h.0 h.1 h.2
no_fatal v (finding.SystemEntry n) is h =
    both_ways (list_any (is_system_entry n) (entries_of (catalogue v) 4)) h.2
    (ap (λ (c : Cat). list_any (is_system_entry n) (entries_of c 4)) (catalogue_is v is) ∙ system_entries (layout_of v) n h.0 h.1)
no_fatal v (finding.MarkedDir n) is h =
    both_ways (is_marked_dir (file_at (catalogue v) n)) (ap (λ (c : Cat). is_marked_dir (file_at c n)) (catalogue_is v is) ∙ no_marked_dir (layout_of v) n) h.1
no_fatal v (finding.DirLoop n) is h = no_loop (layout_of v) n (subst (λ (c : Cat). Path c n n) (catalogue_is v is) h)
no_fatal v (finding.NoRoom n) is h = room_for_all (layout_of v) n (subst (λ (c : Cat). HasNoRoom c n) (catalogue_is v is) h)
no_fatal v f is h = absurd h

-- ---- by the home block

weak : (bs : List Block) (h : Home) → home_read (home_at bs) ≡ Ok h → IsFresh (volume h bs) → Weak bs
weak bs h read is f fatal = no_fatal (volume h bs) f is (subst (λ (r : Result Home HomeFault). IsFatalBy bs r f) read fatal)

pub tells_fresh : (bs : List Block) (h : Home) → home_read (home_at bs) ≡ Ok h → IsFresh (volume h bs) → CatOf bs (fresh (layout_of (volume h bs)))
tells_fresh bs h read is = record {
  weak = weak bs h read is;
  told = subst (λ (r : Result Home HomeFault). IsCatalogueBy bs r (fresh (layout_of (volume h bs)))) (sym read) (sym (catalogue_is (volume h bs) is));
}

pub accepts_fresh : (bs : List Block) (h : Home) → home_read (home_at bs) ≡ Ok h → IsFresh (volume h bs) → Accepts bs
accepts_fresh bs h read is = inr (
  weak bs h read is,
  subst (λ (r : Result Home HomeFault). AreWarningsBy bs r []) (sym read) (sym (no_warnings (volume h bs) is is.once)),
)
