-- Directories as lists of lists of entries.
use Rattle.std.proofs.Common.{◌≡◌, ◌≤◌, true, List, [], ◌∷◌, ◌++◌, None}
use Rattle.base_words.specs.Packing.{size}
use Rattle.fx_dir.specs.declared.RawEnt.{RawEnt}
use Rattle.fx_dir.specs.Lists.{Each, In}
use Rattle.fx_dir.specs.Entries.{rises, fresh}
use Rattle.fx_dir.specs.Writing.{IsInForm, IsRanged, name_of}

-- the entries met, where es were met before these blocks
abbrev pub met : List RawEnt → List (List RawEnt) → List RawEnt
met es [] = es
met es (b ∷ bs) = met (es ++ fresh es b) bs

-- blocks without a fault, whose entries are es, and each of which has room for its own
pub record Reads (es : List RawEnt) (bs : List (List RawEnt)) : Type 0 where
  pub entries : met [] bs ≡ es
  pub order : rises es ≡ true
  pub blocks : Each (λ b. rises b ≡ true) bs
  pub no_clash : Each (λ b. Each (λ e. In es e) b) bs
  pub room : Each (λ b. size name_of None b ≤ 510) bs

-- each entry in form, with numbers of their types
pub record Sound (es : List RawEnt) : Type 0 where
  pub form : Each IsInForm es
  pub ranged : Each IsRanged es
