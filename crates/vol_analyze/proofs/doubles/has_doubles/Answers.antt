use Rattle.std.proofs.Common.{◌≡◌, ◌∙◌, Bool, List, length, map, sym, ap, subst}
use Rattle.std.specs.Prelude.{nat_lt, IfOk}
use Rattle.base_words.specs.Fields.{Block}
use Rattle.fx_dir.specs.Lists.{joined}
use Rattle.fx_dir.specs.Directory.{entries_at}
use Rattle.plain_cat.specs.declared.entries.DirEnt.{DirEnt}
use Rattle.vol_parts.specs.Volumes.{volume}
use Rattle.vol_analyze.proofs.Reading.{doubles_dir, doubles_file, doubles_free}
use Rattle.vol_analyze.proofs.doubles.has_doubles.Goals as goal

pub returns-then-not-file : goal.returns-then-not-file
returns-then-not-file c =
    doubles_file (volume c.args.home.now c.args.blocks.now) c.args.n c.in-Used.file (sym c.requires.told ∙ c.in-Used.is) c.if-not-file.true

pub returns-in_ok-all-in-Used : goal.returns-in_ok-all-in-Used
returns-in_ok-all-in-Used c =
    let v = volume c.args.home.now c.args.blocks.now in
    let e = doubles_dir v c.args.n c.in-Used.file (sym c.requires.told ∙ c.in-Used.is) c.if-not-file.false c.requires.sound in
    let r =
    ap (λ (es : List DirEnt). nat_lt (length es) (length (joined (map entries_at c.items.result.now)))) c.items-in-Used.ensures
    ∙ (ap (λ (bs : List Block). nat_lt (length c.in-Used.file.entries) (length (joined (map entries_at bs)))) (c.items.ensures ∙ c.in_ok-all-in-Used.ensures)
    ∙ e) in
    subst (λ (t : Bool). IfOk c.have_more.result (λ b. b ≡ t)) r c.have_more.ensures

pub returns-in-Free : goal.returns-in-Free
returns-in-Free c =
    doubles_free (volume c.args.home.now c.args.blocks.now) c.args.n c.in-Free.field-0 (sym c.requires.told ∙ c.in-Free.is)
