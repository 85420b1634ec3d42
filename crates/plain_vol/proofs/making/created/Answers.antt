use Rattle.std.proofs.Common.{◌≡◌, ◌∙◌, true, false, List, Ok, Err, refl, sym, ap}
use Rattle.plain_cat.specs.declared.entries.DirEnt.{DirEnt}
use Rattle.plain_rules.specs.Lookups.{versions}
use Rattle.plain_rules.specs.Directories.{fits, inserted}
use Rattle.plain_vol.specs.Makings.{version_for}
use Rattle.plain_vol.proofs.Creating.{refused_version, full, roomless, makes}
use Rattle.plain_vol.proofs.making.created.Goals as goal

pub returns-in-Err-clause-made : goal.returns-in-Err-clause-made
returns-in-Err-clause-made c =
    let version : version_for c.args.ver (versions c.args.name.now c.in-Some.d.now.entries) ≡ Err c.in-Err.refusal =
    sym (c.version_for.ensures ∙ ap (λ (es : List DirEnt). version_for c.args.ver (versions c.args.name.now es)) c.items.ensures) ∙ c.in-Err.is in
    refused_version c.args.cat.now c.args.dir c.args.name.now c.args.ver c.args.blocks c.args.owner c.args.new c.in-Some.d.now (sym c.in-Some.ensures.live) c.if-not-d.false c.in-Err.refusal version

pub returns-then-not-fits_with-clause-made : goal.returns-then-not-fits_with-clause-made
returns-then-not-fits_with-clause-made c =
    let version : version_for c.args.ver (versions c.args.name.now c.in-Some.d.now.entries) ≡ Ok c.in-Ok.ver =
    sym (c.version_for.ensures ∙ ap (λ (es : List DirEnt). version_for c.args.ver (versions c.args.name.now es)) c.items.ensures) ∙ c.in-Ok.is in
    let e : DirEnt = record { name = c.in_ok-copy.field-0; ver = c.in-Ok.ver; fid = c.fid_of-fid.result } in
    let room : fits c.args.cat.now.factor (inserted e c.in-Some.d.now.entries) ≡ false =
    ap (λ (es : List DirEnt). fits c.args.cat.now.factor (inserted e es)) (sym c.items-2.ensures) ∙ sym c.fits_with.ensures ∙ c.if-not-fits_with.true in
    full c.args.cat.now c.args.dir c.args.name.now c.args.ver c.args.blocks c.args.owner c.args.new c.in-Some.d.now (sym c.in-Some.ensures.live) c.if-not-d.false
    c.in-Ok.ver c.in_clusters-clusters.result version c.in_clusters-clusters.ensures c.if-clusters-gt-HEADER_MOST.false e c.in_ok-copy.ensures refl room

pub returns-in-Some-room_refusal-clause-made : goal.returns-in-Some-room_refusal-clause-made
returns-in-Some-room_refusal-clause-made c =
    let version : version_for c.args.ver (versions c.args.name.now c.in-Some.d.now.entries) ≡ Ok c.in-Ok.ver =
    sym (c.version_for.ensures ∙ ap (λ (es : List DirEnt). version_for c.args.ver (versions c.args.name.now es)) c.items.ensures) ∙ c.in-Ok.is in
    let e : DirEnt = record { name = c.in_ok-copy.field-0; ver = c.in-Ok.ver; fid = c.fid_of-fid.result } in
    let room : fits c.args.cat.now.factor (inserted e c.in-Some.d.now.entries) ≡ true =
    ap (λ (es : List DirEnt). fits c.args.cat.now.factor (inserted e es)) (sym c.items-2.ensures) ∙ sym c.fits_with.ensures ∙ c.if-not-fits_with.false in
    roomless c.args.cat.now c.args.dir c.args.name.now c.args.ver c.args.blocks c.args.owner c.args.new c.in-Some.d.now (sym c.in-Some.ensures.live) c.if-not-d.false
    c.in-Ok.ver c.in_clusters-clusters.result version c.in_clusters-clusters.ensures c.if-clusters-gt-HEADER_MOST.false e c.in-Some-room_refusal.refusal c.in_ok-copy.ensures refl room (sym c.room_refusal.ensures ∙ c.in-Some-room_refusal.is)

pub returns-clause-made : goal.returns-clause-made
returns-clause-made c =
    let version : version_for c.args.ver (versions c.args.name.now c.in-Some.d.now.entries) ≡ Ok c.in-Ok.ver =
    sym (c.version_for.ensures ∙ ap (λ (es : List DirEnt). version_for c.args.ver (versions c.args.name.now es)) c.items.ensures) ∙ c.in-Ok.is in
    let e : DirEnt = record { name = c.in_ok-copy.field-0; ver = c.in-Ok.ver; fid = c.fid_of-fid.result } in
    let room : fits c.args.cat.now.factor (inserted e c.in-Some.d.now.entries) ≡ true =
    ap (λ (es : List DirEnt). fits c.args.cat.now.factor (inserted e es)) (sym c.items-2.ensures) ∙ sym c.fits_with.ensures ∙ c.if-not-fits_with.false in
    makes c.args.cat.now c.args.dir c.args.name.now c.args.ver c.args.blocks c.args.owner c.args.new c.in-Some.d.now (sym c.in-Some.ensures.live) c.if-not-d.false
    c.in-Ok.ver c.in_clusters-clusters.result version c.in_clusters-clusters.ensures c.if-clusters-gt-HEADER_MOST.false e c.new_file.result c.in_ok-copy.ensures refl room (sym c.room_refusal.ensures ∙ c.in_default-room_refusal.is) c.fid_of-fid.ensures c.new_file.ensures
