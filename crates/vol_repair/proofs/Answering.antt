-- What the whole repair answers, by what its last part answers.
use Rattle.std.proofs.Common.{◌≡◌, ◌∙◌, ℕ, List, Option, sym, ap, subst}
use Rattle.std.specs.Prelude.{Result, Ok, Err}
use Rattle.base_words.specs.Fields.{Block}
use Rattle.fx_home.specs.declared.home.Home.{Home}
use Rattle.plain_cat.specs.declared.history.Mended.{Mended}
use Rattle.vol_parts.specs.declared.finding.Finding.{Finding}
use Rattle.vol_parts.specs.Volumes.{volume, geometry_of}
use Rattle.vol_sound.specs.Begun.{patched}
use Rattle.vol_sound.specs.Sound.{freed_slots}
use Rattle.vol_repair.specs.declared.fault.RepairFault.{RepairFault}
use Rattle.vol_repair.specs.declared.fault.RepairFault.TheVariants.{ImageFault, NoRoom, NoMemory}
use Rattle.vol_repair.specs.Alike.{IsSpeltAs}
use Rattle.vol_repair.specs.Patching.{IsPatched, IsFinished, IsStuck}
use Rattle.vol_repair.specs.Repaired.{IsRepaired, IsRoomless}
use Rattle.vol_repair.specs.Steps.{IsStep}
use Rattle.vol_repair.proofs.Stepping.{step_none, step_on, step_as}

pub repaired : (home : Home) (first mid new : List Block) (slots : ℕ) (done : Mended) → IsPatched home first mid → slots ≡ freed_slots (volume home first) → IsFinished (volume home first) new done
    → IsRepaired first new (record { slots = slots; mended = done })
repaired home first mid new slots done p count f = record {
  home = home;
  read = p.mendable.read;
  after = f.after;
  mends = f.mends;
  slots = count;
  accepted = f.accepted;
  left = f.left;
}

pub roomless : (home : Home) (first mid new : List Block) (f : Finding) → IsPatched home first mid → IsStuck (volume home first) mid new f → IsRoomless first new f
roomless home first mid new f p s = record {
  home = home;
  read = p.mendable.read;
  number = s.number;
  found = s.found;
  lacks = s.lacks;
  left = subst (λ (bs : List Block). IsSpeltAs (geometry_of (volume home bs)) bs (patched (volume home first))) (sym s.same) p.left;
  first = s.first;
}

-- a fault that is handed on
pub room_same : {A B : Type 0} (y : Result B RepairFault) (e d : RepairFault) (f : Finding) → y ≡ Err d → d ≡ e → y ≡ Err (NoRoom f) → (let x : Result A RepairFault = Err e in x ≡ Err (NoRoom f))
room_same {A} {B} y e d f yd same k = let z : (let x : Result B RepairFault = Err d in x ≡ Err (NoRoom f)) = sym yd ∙ k in let w : d ≡ NoRoom f = cc z in ap (λ (q : RepairFault). Err q) (sym same ∙ w)

-- ---- steps

abbrev FailsBy : Type 0 → RepairFault → Type 0
FailsBy A e = let x : Result A RepairFault = Err e in x ≡ Err ImageFault

abbrev EndsBy : (A : Type 0) → A → Type 0
EndsBy A a = let x : Result A RepairFault = Ok a in x ≡ Err ImageFault

-- a step that ended well, and then one whose answer is handed on
pub answered : {P : List Block → Type 0} {A B : Type 0} (a b c : List Block) (t u v : Option (List Block)) (f g h : ℕ) (e d : RepairFault) (y : Result B RepairFault) → y ≡ Err d → d ≡ e
    → IsStep P a b t u f g ⊥ → IsStep P b c u v g h (FailsBy A e) → IsStep P a c t v f h (y ≡ Err ImageFault)
answered {P} {A} {B} a b c t u v f g h e d y yd same s r =
    step_on a b c t u v f g h ⊥ (y ≡ Err ImageFault) (λ n. n) s (step_as b c u v g h (FailsBy A e) (y ≡ Err ImageFault)
    (λ k. let z : e ≡ ImageFault = cc k in yd ∙ ap (λ (q : RepairFault). Err q) (same ∙ z)) (λ k. let z : FailsBy B d = sym yd ∙ k in let w : d ≡ ImageFault = cc z in ap (λ (q : RepairFault). Err q) (sym same ∙ w)) r)

-- and then one that ended well too
pub both_well : {P : List Block → Type 0} {A B : Type 0} (a b c : List Block) (t u v : Option (List Block)) (f g h : ℕ) (x : A) (y : B)
    → IsStep P a b t u f g ⊥ → IsStep P b c u v g h (EndsBy A x) → IsStep P a c t v f h (EndsBy B y)
both_well {P} {A} {B} a b c t u v f g h x y s r =
    step_on a b c t u v f g h ⊥ (EndsBy B y) (λ n. n) s
    (step_as b c u v g h (EndsBy A x) (EndsBy B y) (λ k. absurd (cc k)) (λ k. absurd (cc k)) r)

-- memory ran out before the first write
pub nothing_done : {P : List Block → Type 0} {B : Type 0} (a : List Block) (t : Option (List Block)) (f : ℕ) (y : Result B RepairFault) (d : RepairFault) → y ≡ Err d → d ≡ NoMemory → P a → IsStep P a a t t f f (y ≡ Err ImageFault)
nothing_done {P} {B} a t f y d yd lack holds = step_none a t f (y ≡ Err ImageFault) none holds where
  none : y ≡ Err ImageFault → ⊥
  none e =
      let z : FailsBy B d = sym yd ∙ e in
      let w : d ≡ ImageFault = cc z in
      let u : NoMemory ≡ ImageFault = sym lack ∙ w in
      cc u
