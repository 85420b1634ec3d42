-- Blocks have findings: rank by rank it is settled whether a fatal finding holds, and which is the first.
use Rattle.std.proofs.Common.{◌≡◌, ◌<◌, ℕ, suc, List, [], ◌∷◌, Option, Some, None, Result, Ok, Err, refl, sym, subst, arith, inl, inr}
use Rattle.base_words.specs.Fields.{Block}
use Rattle.fx_home.specs.declared.home.Home.{Home}
use Rattle.fx_home.specs.declared.home.HomeFault.{HomeFault}
use Rattle.fx_home.specs.Homes.{home_read}
use Rattle.vol_parts.specs.declared.finding.Finding.{Finding}
use Rattle.vol_parts.specs.declared.finding.Finding.TheVariants as finding
use Rattle.vol_parts.specs.Findings.{home_at, rank, IsFatalBy, AreWarningsBy}
use Rattle.vol_parts.specs.Volumes.{Volume, volume}
use Rattle.vol_parts.specs.Warnings.{warnings}
use Rattle.vol_faults.specs.Whole.{NoneBelow, IsFirstBelow}
use Rattle.vol_faults.proofs.WholeLemmas.{step, wider, none-first, read-home-fault}
use Rattle.vol_analyze.specs.Having.{HaveFindings}
use Rattle.vol_analyze.proofs.Seeking.{HasFirst}
use Rattle.vol_analyze.proofs.Ranks.{headers, systems, control, chains, run_bounds, sizes, sharing, directories, doubles, rowless, free_clusters, free_numbers, entries, marked, loops, room, late}

-- the first fatal finding of the ranks below this one, or that none of those holds
abbrev HasFirstBelow : Volume → ℕ → Type 0
HasFirstBelow v k = (first : Option Finding) × IsFirstBelow v k first

-- one rank more
next : (v : Volume) (k : ℕ) → (NoneBelow v k → HasFirst v k) → HasFirstBelow v k → HasFirstBelow v (suc k)
next v k here (Some f, there) = (Some f, wider v k (suc k) f there (omega arith))
next v k here (None, none) = let w = here none in (w.0, step v k (suc k) w.0 none w.1 refl)

parts : (v : Volume) → HasFirstBelow v 9
parts v =
    next v 8 (λ none. directories v) (next v 7 (sharing v) (next v 6 (λ none. sizes v) (next v 5 (λ none. run_bounds v)
    (next v 4 (λ none. chains v) (next v 3 (λ none. control v) (next v 2 (λ none. systems v) (next v 1 (λ none. headers v) (None, none-first v))))))))

all : (v : Volume) → HasFirstBelow v 18
all v =
    next v 17 (λ none. late v) (next v 16 (λ none. room v) (next v 15 (λ none. loops v) (next v 14 (λ none. marked v)
    (next v 13 (λ none. entries v) (next v 12 (λ none. free_numbers v) (next v 11 (λ none. free_clusters v) (next v 10 (λ none. rowless v)
    (next v 9 (λ none. doubles v) (parts v)))))))))

ranked : (f : Finding) → rank f < 18
ranked (finding.Home fault) = omega arith
ranked f = omega arith

of_volume : (bs : List Block) (home : Home) → home_read (home_at bs) ≡ Ok home → HasFirstBelow (volume home bs) 18 → HaveFindings bs
of_volume bs home e (Some f, there) = record {
  findings = f ∷ [];
  are = inl (
    f,
    record {
      fatal = subst (λ (r : Result Home HomeFault). IsFatalBy bs r f) (sym e) there.fatal;
      first = λ g h. there.first g (subst (λ (r : Result Home HomeFault). IsFatalBy bs r g) e h);
    },
    refl,
  );
}
of_volume bs home e (None, none) = record {
  findings = warnings (volume home bs);
  are = inr (λ f h. none f (ranked f) (subst (λ (r : Result Home HomeFault). IsFatalBy bs r f) e h), subst (λ (r : Result Home HomeFault). AreWarningsBy bs r (warnings (volume home bs))) (sym e) refl);
}

by_home : (bs : List Block) (read : Result Home HomeFault) → home_read (home_at bs) ≡ read → HaveFindings bs
by_home bs (Err fault) e = record { findings = finding.Home fault ∷ []; are = inl (finding.Home fault, (read-home-fault bs fault e).1, refl) }
by_home bs (Ok home) e = of_volume bs home e (all (volume home bs))

pub present : (bs : List Block) → HaveFindings bs
present bs = by_home bs (home_read (home_at bs)) refl
