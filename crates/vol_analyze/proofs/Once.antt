-- Of the blocks of a volume one list is the findings.
use Rattle.std.proofs.Common.{◌≡◌, ◌∙◌, ◌||◌, ◌&&◌, ℕ, true, List, [], ◌∷◌, Option, Some, None, Result, Ok, Err, refl, sym, ap, inl, inr, arith}
use Rattle.std.proofs.lemmas.Bool.Decides.{nat_tests}
use Rattle.std.specs.Prelude.{◌==◌, nat_lt, nat_le, option_map, if◌then◌else◌}
use Rattle.base_words.specs.Fields.{Block}
use Rattle.fx_home.specs.declared.home.Home.{Home}
use Rattle.fx_home.specs.declared.home.HomeFault.{HomeFault}
use Rattle.fx_home.specs.Homes.{home_read}
use Rattle.fx_header.specs.declared.slot.Hdr.{Hdr}
use Rattle.fx_header.specs.declared.slot.Slot.{Slot}
use Rattle.fx_header.specs.declared.slot.HeaderFault.{HeaderFault}
use Rattle.vol_parts.specs.declared.finding.Finding.{Finding}
use Rattle.vol_parts.specs.declared.finding.Finding.TheVariants as finding
use Rattle.vol_parts.specs.Volumes.{Volume, volume, head, fields_in}
use Rattle.vol_parts.specs.Fatal.{IsFatalIn, scb_fault, chain_fault, dir_fault}
use Rattle.vol_parts.specs.Findings.{home_at, IsFatalBy, rank, subject, is_no_later, IsFirstFatal, AreWarningsBy, AreFindings}

-- ---- what can be found of a kind about one thing

header_found : ℕ → Result Slot HeaderFault → Finding
header_found n (Ok slot) = finding.WrongNumber n
header_found n (Err fault) = finding.Header n fault

-- the only finding of each rank about a number, cluster or owner that can hold
found_at : Volume → ℕ → ℕ → Option Finding
found_at v k n =
    if k == 1 then Some (header_found n (head v n))
    else if k == 2 then Some (finding.SystemFile n)
    else if k == 3 then option_map finding.Scb (scb_fault v)
    else if k == 4 then chain_fault v n
    else if k == 5 then Some (finding.Runs n)
    else if k == 6 then Some (finding.Clusters n)
    else if k == 7 then Some (finding.SharedCluster n)
    else if k == 8 then dir_fault v n
    else if k == 9 then Some (finding.QuotaRow (record { 0 = n }))
    else if k == 10 then Some (finding.NoQuotaRow n)
    else if k == 11 then Some (finding.FreeCluster n)
    else if k == 12 then Some (finding.FreeNumber n)
    else if k == 13 then Some (finding.SystemEntry n)
    else if k == 14 then Some (finding.MarkedDir n)
    else if k == 15 then Some (finding.DirLoop n)
    else if k == 16 then Some (finding.NoRoom n)
    else None

bad_header : (n : ℕ) (fault : HeaderFault) (o : Result Slot HeaderFault) → o ≡ Err fault → header_found n o ≡ finding.Header n fault
unfolding header_found
bad_header n fault o e = ap (header_found n) e

wrong_number : (n : ℕ) (f : Hdr) (o : Result Slot HeaderFault) → fields_in o ≡ Some f → header_found n o ≡ finding.WrongNumber n
unfolding header_found
wrong_number n f (Ok slot) e = refl
wrong_number n f (Err fault) e = absurd (cc e)

-- a fatal finding that holds is that one
fatal_at : (v : Volume) (f : Finding) → IsFatalIn v f → found_at v (rank f) (subject f) ≡ Some f
unfolding found_at
fatal_at v (finding.Home fault) p = absurd p
fatal_at v (finding.Header n fault) p = ap Some (bad_header n fault (head v n) p.1)
fatal_at v (finding.WrongNumber n) p = ap Some (wrong_number n p.1.0 (head v n) p.1.1)
fatal_at v (finding.SystemFile n) p = refl
fatal_at v (finding.Scb fault) p = ap (option_map finding.Scb) p
fatal_at v (finding.ChainBroken n) p = p.2
fatal_at v (finding.ChainSplit n) p = p.2
fatal_at v (finding.Runs n) p = refl
fatal_at v (finding.Clusters n) p = refl
fatal_at v (finding.SharedCluster q) p = refl
fatal_at v (finding.DirSize n) p = p.1
fatal_at v (finding.DirRecord n) p = p.1
fatal_at v (finding.DirOrder n) p = p.1
fatal_at v (finding.DirClash n) p = p.1
fatal_at v (finding.QuotaRow owner) p = refl
fatal_at v (finding.NoQuotaRow n) p = refl
fatal_at v (finding.FreeCluster q) p = refl
fatal_at v (finding.FreeNumber n) p = refl
fatal_at v (finding.SystemEntry n) p = refl
fatal_at v (finding.MarkedDir n) p = refl
fatal_at v (finding.DirLoop n) p = refl
fatal_at v (finding.NoRoom n) p = refl
fatal_at v (finding.Marked n) p = absurd p
fatal_at v (finding.NamesNone name ver dir) p = absurd p
fatal_at v (finding.Second name ver dir) p = absurd p
fatal_at v (finding.Doubles n) p = absurd p
fatal_at v (finding.Lost n) p = absurd p
fatal_at v (finding.Surplus n) p = absurd p
fatal_at v (finding.Stray n) p = absurd p
fatal_at v (finding.LeakedClusters k) p = absurd p
fatal_at v (finding.LeakedNumbers k) p = absurd p
fatal_at v (finding.Usage owner has should) p = absurd p

same_some : (f g : Finding) → Some f ≡ Some g → f ≡ g
same_some f g e = cc e

fatal_once : (v : Volume) (f g : Finding) → rank f ≡ rank g → subject f ≡ subject g → IsFatalIn v f → IsFatalIn v g → f ≡ g
fatal_once v f g r s p q =
    let at : found_at v (rank f) (subject f) ≡ found_at v (rank g) (subject g) =
    ap (λ (k : ℕ). found_at v k (subject f)) r ∙ ap (λ (n : ℕ). found_at v (rank g) n) s in
    same_some f g (sym (fatal_at v f p) ∙ (at ∙ fatal_at v g q))

-- ---- the first one is one

same_rank : (a b c d : ℕ) → (nat_lt a b || ((a == b) && nat_le c d)) ≡ true → (nat_lt b a || ((b == a) && nat_le d c)) ≡ true → (a ≡ b) × (c ≡ d)
same_rank a b c d h k = (grind (arith, nat_tests), grind (arith, nat_tests))

in_turn : (f g : Finding) → is_no_later f g ≡ true → is_no_later g f ≡ true → (rank f ≡ rank g) × (subject f ≡ subject g)
unfolding is_no_later
in_turn f g h k = same_rank (rank f) (rank g) (subject f) (subject g) h k

once_by : (bs : List Block) (read : Result Home HomeFault) (f g : Finding) → rank f ≡ rank g → subject f ≡ subject g → IsFatalBy bs read f → IsFatalBy bs read g → f ≡ g
once_by bs (Err fault) f g r s p q = p ∙ sym q
once_by bs (Ok home) f g r s p q = fatal_once (volume home bs) f g r s p q

first_once : (bs : List Block) (f g : Finding) → IsFirstFatal bs f → IsFirstFatal bs g → f ≡ g
first_once bs f g p q =
    let t = in_turn f g (p.first g q.fatal) (q.first f p.fatal) in
    once_by bs (home_read (home_at bs)) f g t.0 t.1 p.fatal q.fatal

warned_once : (bs : List Block) (read : Result Home HomeFault) (fs gs : List Finding) → AreWarningsBy bs read fs → AreWarningsBy bs read gs → fs ≡ gs
warned_once bs (Err fault) fs gs p q = absurd p
warned_once bs (Ok home) fs gs p q = p ∙ sym q

pub once : (bs : List Block) (fs gs : List Finding) → AreFindings bs fs → AreFindings bs gs → fs ≡ gs
once bs fs gs (inl p) (inl q) = p.2 ∙ (ap (λ (f : Finding). f ∷ []) (first_once bs p.0 q.0 p.1 q.1) ∙ sym q.2)
once bs fs gs (inl p) (inr q) = absurd (q.0 p.0 p.1.fatal)
once bs fs gs (inr p) (inl q) = absurd (p.0 q.0 q.1.fatal)
once bs fs gs (inr p) (inr q) = warned_once bs (home_read (home_at bs)) fs gs p.1 q.1
