use Rattle.std.proofs.Common.{◌≡◌, ◌∙◌, false, List, length, map, sym, ap, subst, arith}
use Rattle.std.specs.Prelude.{nat_lt}
use Rattle.base_words.specs.Fields.{Block}
use Rattle.fx_dir.specs.declared.Move.{Move}
use Rattle.fx_dir.specs.Lists.{joined}
use Rattle.fx_dir.specs.Directory.{entries_at, directory}
use Rattle.std.specs.Result.{IsOk}
use Rattle.plain_cat.specs.declared.entries.DirEnt.{DirEnt}
use Rattle.vol_rebuild.specs.Places.{DirLeads}
use Rattle.vol_rebuild.proofs.Leading.{stays_by}
use Rattle.vol_rebuild.proofs.Directing.{dir_there, within, blocks_are, numbered, reads, packing_leads}
use Rattle.vol_rebuild.proofs.Doubling.{single_dir}
use Rattle.vol_rebuild.proofs.doubles.packing.Goals as goal

pub body-requires : goal.body-requires
body-requires c = dir_there c.args.g.now c.args.blocks.now c.args.cat.now c.args.n c.args.dir.now c.requires

pub returns-then-not-branch : goal.returns-then-not-branch
returns-then-not-branch c =
    let inside = within c.args.g.now c.args.blocks.now c.args.cat.now c.args.n c.args.dir.now c.requires _ _ c.in_ok-body.ensures.places c.in_ok-body.ensures.blocks in
    let same = c.as_slice.ensures.value ∙ blocks_are c.args.g.now c.args.blocks.now c.args.cat.now c.args.n c.args.dir.now c.requires _ _ c.in_ok-body.ensures.places c.in_ok-body.ensures.blocks in
    let few : nat_lt (length c.items.result.now) (length (joined (map entries_at c.as_slice.result.now))) ≡ false = sym c.in_ok-have_more.ensures ∙ c.if-not-branch.true in
    let few_of = ap (λ (bs : List Block). nat_lt (length c.args.dir.now.entries) (length (joined (map entries_at bs)))) (sym same)
    ∙ (ap (λ (es : List DirEnt). nat_lt (length es) (length (joined (map entries_at c.as_slice.result.now)))) (sym c.items.ensures) ∙ few) in
    let single = single_dir c.args.g.now c.args.blocks.now c.args.cat.now c.requires.told c.args.n c.args.dir.now c.requires few_of in
    subst (λ (ms : List Move). DirLeads c.args.g.now c.args.blocks.now c.args.cat.now c.args.n c.in_ok-body.body.places.items ms) (sym c.new.ensures.items)
    (stays_by c.args.g.now c.args.blocks.now c.args.cat.now c.args.n c.in_ok-body.body.places.items c.requires.told inside single)

pub pack_moves-requires-clause-numbered : goal.pack_moves-requires-clause-numbered
pack_moves-requires-clause-numbered c =
    let k = numbered c.args.g.now c.args.blocks.now c.args.cat.now c.args.n c.args.dir.now c.requires _ _ c.in_ok-body.ensures.places c.in_ok-body.ensures.blocks in
    let e = ap length c.as_slice-2.ensures.value in
    omega (arith, k, e)

pub pack_moves-requires-clause-read : goal.pack_moves-requires-clause-read
pack_moves-requires-clause-read c =
    subst (λ (bs : List Block). IsOk (directory bs)) (sym c.as_slice-2.ensures.value)
    (reads c.args.g.now c.args.blocks.now c.args.cat.now c.args.n c.args.dir.now c.requires _ _ c.in_ok-body.ensures.places c.in_ok-body.ensures.blocks)

pub returns : goal.returns
returns c =
    packing_leads c.args.g.now c.args.blocks.now c.args.cat.now c.args.n c.args.dir.now c.requires c.in_ok-body.body.places.items c.as_slice-2.result.now
    c.in_ok-body.ensures.places (c.as_slice-2.ensures.value ∙ c.in_ok-body.ensures.blocks) c.in_ok-moves.moves.items c.in_ok-moves.ensures.moves
