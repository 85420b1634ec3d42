-- The commands of lines in form, and the closes of channels in form, each as its operation takes it.
use Rattle.std.proofs.Common.{◌≡◌, ◌&&◌, ℕ, true, List}
use Rattle.std.proofs.lemmas.Bool.{and_parts}
use Rattle.base_words.specs.Names.{is_name}
use Rattle.plain_cat.specs.InForm.{is_file_ref, is_version, is_eighth, is_count, is_text, line_in_form}
use Rattle.plain_cat.specs.declared.ids.Fid.{Fid}
use Rattle.plain_cat.specs.declared.command.Cmd.TheVariants as cmd
use Rattle.plain_cat.specs.declared.script.LineCmd.{LineCmd}
use Rattle.plain_cat.specs.declared.script.LineCmd.TheVariants as line
use Rattle.plain_rules.specs.Own.{filled}
use Rattle.xqp_set.specs.Built.{IsBuilt}

pub filled_built : (g : List Fid) (l : LineCmd) → line_in_form l ≡ true → IsBuilt (filled g l)
unfolding filled line_in_form
filled_built g (line.Lookup reg dir name ver) form = tt
filled_built g (line.List dir) form = tt
filled_built g (line.Stat file) form = tt
filled_built g (line.Create reg dir name ver blocks owner) form = (and_parts _ _ (and_parts _ _ form).1).1
filled_built g (line.MkDir reg dir name owner) form = (and_parts _ _ (and_parts _ _ form).1).1
filled_built g (line.Extend file blocks) form = (and_parts _ _ form).1
filled_built g (line.Trunc file blocks) form = (and_parts _ _ form).1
filled_built g (line.Delete dir name ver) form = tt
filled_built g (line.Rename dir name ver to to_ver) form =
    let new = is_name to && is_version to_ver in
    let names = (and_parts (is_file_ref dir) (is_name name && (is_version ver && new)) form).1 in
    (and_parts (is_version ver) new (and_parts (is_name name) (is_version ver && new) names).1).1
filled_built g (line.OpenFile chan file mode) form = tt
filled_built g (line.CloseFile chan) form = form
filled_built g (line.ReadBlock chan vbn) form = (and_parts (is_eighth chan) (is_count vbn) form).1
filled_built g (line.WriteBlock chan vbn text) form = (and_parts (is_eighth chan) (is_count vbn && is_text text) form).1
filled_built g (line.QuotaSet owner quota over) form = form
filled_built g (line.QuotaShow owner) form = tt

pub close_built : (chan : ℕ) → is_eighth chan ≡ true → IsBuilt (cmd.CloseFile chan)
close_built chan form = form
