-- One finding alone is the first beyond repair.
use Rattle.std.proofs.Common.{◌≡◌, ◌∙◌, ◌||◌, ◌&&◌, ℕ, true, List, Option, Some, Result, Ok, Err, refl, sym, ap, arith}
use Rattle.std.proofs.lemmas.Bool.Decides.{nat_tests}
use Rattle.std.specs.Prelude.{◌==◌, nat_lt, nat_le, option_map, if◌then◌else◌}
use Rattle.base_words.specs.Fields.{Block}
use Rattle.fx_home.specs.declared.home.Home.{Home}
use Rattle.fx_home.specs.declared.home.HomeFault.{HomeFault}
use Rattle.fx_home.specs.Homes.{home_read}
use Rattle.fx_header.specs.declared.slot.Hdr.{Hdr}
use Rattle.fx_header.specs.declared.slot.Slot.{Slot}
use Rattle.fx_header.specs.declared.slot.HeaderFault.{HeaderFault}
use Rattle.vol_parts.specs.declared.finding.Finding.{Finding}
use Rattle.vol_parts.specs.declared.finding.Finding.TheVariants as finding
use Rattle.vol_parts.specs.Volumes.{Volume, volume, head, fields_in}
use Rattle.vol_parts.specs.Fatal.{scb_fault}
use Rattle.vol_parts.specs.Findings.{home_at, IsFatalBy, rank, subject, is_no_later}
use Rattle.vol_sound.specs.Beyond.{IsBeyondIn, IsBeyondBy}
use Rattle.vol_sound.specs.BeyondLaws.{BeyondIsFatal, FirstIsOne}

-- ---- what can be found of a kind about one thing

header_found : ℕ → Result Slot HeaderFault → Finding
header_found n (Ok slot) = finding.WrongNumber n
header_found n (Err fault) = finding.Header n fault

-- the only finding beyond repair of each rank about a number or cluster that can hold
found_at : Volume → ℕ → ℕ → Option Finding
found_at v k n =
    if k == 1 then Some (header_found n (head v n))
    else if k == 2 then Some (finding.SystemFile n)
    else if k == 3 then option_map finding.Scb (scb_fault v)
    else if k == 5 then Some (finding.Runs n)
    else if k == 7 then Some (finding.SharedCluster n)
    else Some (finding.DirSize n)

bad_header : (n : ℕ) (fault : HeaderFault) (o : Result Slot HeaderFault) → o ≡ Err fault → header_found n o ≡ finding.Header n fault
unfolding header_found
bad_header n fault o e = ap (header_found n) e

wrong_number : (n : ℕ) (f : Hdr) (o : Result Slot HeaderFault) → fields_in o ≡ Some f → header_found n o ≡ finding.WrongNumber n
unfolding header_found
wrong_number n f (Ok slot) e = refl
wrong_number n f (Err fault) e = absurd (cc e)

-- a finding beyond repair that holds is that one
beyond_at : (v : Volume) (f : Finding) → IsBeyondIn v f → found_at v (rank f) (subject f) ≡ Some f
unfolding found_at
beyond_at v (finding.Home fault) b = absurd b.fatal
beyond_at v (finding.Header n fault) b = ap Some (bad_header n fault (head v n) b.fatal.1)
beyond_at v (finding.WrongNumber n) b = ap Some (wrong_number n b.fatal.1.0 (head v n) b.fatal.1.1)
beyond_at v (finding.SystemFile n) b = refl
beyond_at v (finding.Scb fault) b = ap (option_map finding.Scb) b.fatal
beyond_at v (finding.Runs n) b = refl
beyond_at v (finding.SharedCluster q) b = refl
beyond_at v (finding.DirSize n) b = refl
beyond_at v f b = absurd b.fixed

same_some : (f g : Finding) → Some f ≡ Some g → f ≡ g
same_some f g e = cc e

beyond_once : (v : Volume) (f g : Finding) → rank f ≡ rank g → subject f ≡ subject g → IsBeyondIn v f → IsBeyondIn v g → f ≡ g
beyond_once v f g r s p q =
    let at : found_at v (rank f) (subject f) ≡ found_at v (rank g) (subject g) =
    ap (λ (k : ℕ). found_at v k (subject f)) r ∙ ap (λ (n : ℕ). found_at v (rank g) n) s in
    same_some f g (sym (beyond_at v f p) ∙ (at ∙ beyond_at v g q))

-- ---- the first one is one

same_rank : (a b c d : ℕ) → (nat_lt a b || ((a == b) && nat_le c d)) ≡ true → (nat_lt b a || ((b == a) && nat_le d c)) ≡ true → (a ≡ b) × (c ≡ d)
same_rank a b c d h k = (grind (arith, nat_tests), grind (arith, nat_tests))

in_turn : (f g : Finding) → is_no_later f g ≡ true → is_no_later g f ≡ true → (rank f ≡ rank g) × (subject f ≡ subject g)
unfolding is_no_later
in_turn f g h k = same_rank (rank f) (rank g) (subject f) (subject g) h k

once_by : (bs : List Block) (read : Result Home HomeFault) (f g : Finding) → rank f ≡ rank g → subject f ≡ subject g → IsBeyondBy bs read f → IsBeyondBy bs read g → f ≡ g
once_by bs (Err fault) f g r s p q = p ∙ sym q
once_by bs (Ok home) f g r s p q = beyond_once (volume home bs) f g r s p q

pub first_is_one : FirstIsOne
first_is_one bs f g p q =
    let t = in_turn f g (p.first g q.beyond) (q.first f p.beyond) in
    once_by bs (home_read (home_at bs)) f g t.0 t.1 p.beyond q.beyond

-- ---- each is fatal

fatal_by : (bs : List Block) (read : Result Home HomeFault) (f : Finding) → IsBeyondBy bs read f → IsFatalBy bs read f
fatal_by bs (Err fault) f b = b
fatal_by bs (Ok home) f b = b.fatal

pub beyond_is_fatal : BeyondIsFatal
beyond_is_fatal bs f b = fatal_by bs (home_read (home_at bs)) f b
