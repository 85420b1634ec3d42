use Rattle.std.proofs.Common.{◌≡◌, ◌∙◌, true, sym, subst}
use Rattle.vol_parts.specs.Volumes.{volume, told}
use Rattle.vol_parts.specs.Fatal.{is_one_header, has_one_header}
use Rattle.vol_parts.proofs.Sizes.{blocks-size, none-size}
use Rattle.vol_parts.proofs.catalogue.size.Goals as goal

pub returns-in-Some : goal.returns-in-Some
returns-in-Some c =
    let v = volume c.args.home.now c.args.blocks.now in
    let one : is_one_header c.in-Some.f (told v c.args.n) ≡ true =
    subst (λ o. has_one_header o (told v c.args.n) ≡ true) (sym c.fields.ensures ∙ c.in-Some.is) c.requires.one in
    blocks-size v c.args.n c.in-Some.f one

pub returns-in-None : goal.returns-in-None
returns-in-None c = none-size (volume c.args.home.now c.args.blocks.now) c.args.n (sym c.fields.ensures ∙ c.in-None.is)
