-- The first of a list of findings.
use Rattle.std.proofs.Common.{◌≡◌, ◌∙◌, ◌++◌, ℕ, List, [], ◌∷◌, Option, Some, None, Result, Ok, Err, refl, sym, ap, subst, append_assoc, inr}
use Rattle.std.specs.Prelude.{slice_get, IfOk}
use Rattle.fx_home.specs.Homes.{home_read}
use Rattle.base_words.specs.Fields.{Block}
use Rattle.plain_rules.specs.Mending.{places}
use Rattle.plain_cat.specs.declared.cat.Cat.{Cat}
use Rattle.vol_parts.specs.declared.finding.Finding.{Finding}
use Rattle.vol_parts.specs.Findings.{home_at, AreWarningsBy, Accepts, CatOf}
use Rattle.fx_home.specs.declared.home.Home.{Home}
use Rattle.vol_parts.specs.Volumes.{Volume, volume}
use Rattle.vol_parts.specs.Catalogues.{catalogue}
use Rattle.vol_parts.specs.Warnings.{warnings}
use Rattle.vol_analyze.proofs.Told.{AreNumbers, warnings_is}
use Rattle.vol_analyze.specs.Judging.{IsFirstWarning, IsFirstFound}
use Rattle.vol_analyze.specs.Kinds.{marked_of, nameless_of, seconds_of, findings_with, early_of, late_of}

pub first_left : (xs ys : List Finding) (f : Finding) → Some f ≡ slice_get xs 0 → Some f ≡ slice_get (xs ++ ys) 0
first_left [] ys f e = absurd (cc)
first_left (x ∷ xs) ys f e = e

pub first_none : (xs : List Finding) → None ≡ slice_get xs 0 → xs ≡ []
first_none [] e = refl
first_none (x ∷ xs) e = absurd (cc)

pub first_right : (xs ys : List Finding) (first : Option Finding) → None ≡ slice_get xs 0 → first ≡ slice_get ys 0 → first ≡ slice_get (xs ++ ys) 0
first_right xs ys first none e = rw (first_none xs none) e

first_some : (xs : List Finding) (f : Finding) → Some f ≡ slice_get xs 0 → (ys : List Finding) × (xs ≡ f ∷ ys)
first_some [] f e = absurd (cc)
first_some (x ∷ xs) f e = let same : f ≡ x = cc in (xs, ap (λ (y : Finding). y ∷ xs) (sym same))

pub early_late : (c : Cat) (ds ss hs : List ℕ) → findings_with c ds ss hs ≡ early_of c ++ late_of c ds ss hs
early_late c ds ss hs =
    let m = marked_of c in let n = nameless_of c (places c) in let s = seconds_of c (places c) in let l = late_of c ds ss hs in
    ap (λ (xs : List Finding). m ++ xs) (sym (append_assoc n s l)) ∙ sym (append_assoc m (n ++ s) l)

pub judged_none : (bs : List Block) (c : Cat) → CatOf bs c → IsFirstWarning bs (home_read (home_at bs)) None → Accepts bs
judged_none bs c h w = inr (h.weak, subst (AreWarningsBy bs (home_read (home_at bs))) (first_none w.0 w.2) w.1)

pub judged_first : (bs : List Block) (c : Cat) (f : Finding) → CatOf bs c → IsFirstWarning bs (home_read (home_at bs)) (Some f) → IsFirstFound bs f
judged_first bs c f h w = let s = first_some w.0 f w.2 in (s.0, inr (h.weak, subst (AreWarningsBy bs (home_read (home_at bs))) s.1 w.1))

pub warning_of : {E : Type 0} (bs : List Block) (home : Home) (r : Result (Option Finding) E) → IfOk r (λ first. first ≡ slice_get (warnings (volume home bs)) 0)
    → IfOk r (IsFirstWarning bs (Ok home))
warning_of bs home (Ok first) h = (warnings (volume home bs), refl, h)
warning_of bs home (Err e) h = h

pub warning_early : (v : Volume) (c : Cat) (ds ss hs : List ℕ) (f : Finding) → c ≡ catalogue v → AreNumbers v ds ss hs → Some f ≡ slice_get (early_of c) 0
    → Some f ≡ slice_get (warnings v) 0
warning_early v c ds ss hs f e d first = subst (λ (ws : List Finding). Some f ≡ slice_get ws 0) (sym (early_late c ds ss hs) ∙ warnings_is v c ds ss hs e d) (first_left (early_of c) (late_of c ds ss hs) f first)

pub warning_late : {E : Type 0} (v : Volume) (c : Cat) (ds ss hs : List ℕ) (r : Result (Option Finding) E) → c ≡ catalogue v → AreNumbers v ds ss hs → None ≡ slice_get (early_of c) 0
    → IfOk r (λ first. first ≡ slice_get (late_of c ds ss hs) 0) → IfOk r (λ first. first ≡ slice_get (warnings v) 0)
warning_late v c ds ss hs (Ok first) e d none h =
    subst (λ (ws : List Finding). first ≡ slice_get ws 0) (sym (early_late c ds ss hs) ∙ warnings_is v c ds ss hs e d) (first_right (early_of c) (late_of c ds ss hs) first none h)
warning_late v c ds ss hs (Err x) e d none h = h
