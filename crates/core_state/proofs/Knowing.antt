-- What a command takes for granted of the catalogue, part by part.
use Rattle.std.proofs.Common.{◌≡◌, ℕ, true, List}
use Rattle.std.specs.Prelude.{All}
use Rattle.std.specs.List.{list_all}
use Rattle.std.proofs.lemmas.List.Sums.{list_all-from_AllPass}
use Rattle.plain_cat.specs.declared.command.Cmd.{Cmd}
use Rattle.plain_cat.specs.declared.cat.Cat.{Cat}
use Rattle.plain_cat.specs.declared.cat.QuotaRow.{QuotaRow}
use Rattle.plain_rules.specs.Accounts.{IsCharged, Accounted}
use Rattle.op_law.specs.declared.seen.Seen.{Seen}
use Rattle.op_law.specs.Knows.{channel_of, has_channel, may_ask, is_new_number, wanted, is_short, changes_usage, is_charged, knows}
use Rattle.plain_rules.specs.Opens.{is_held_open}
use Rattle.base_words.proofs.Booleans.{at_most, where_so}
use Rattle.core_state.proofs.Commands.{joins}

all_charged : (c : Cat) (rows : List QuotaRow) → All (IsCharged c) rows → list_all (is_charged c) rows ≡ true
all_charged c rows all = list_all-from_AllPass (is_charged c) rows (λ k row at. joins _ _ (at_most _ _ (all k row at).0) (at_most _ _ (all k row at).1))

-- its channel has open what was seen, a number that was given is a new one, a refusal is right, usages fit, and no open goes with
-- every mode
pub knows_all : (x : Cmd) (n : ℕ) (seen : Seen) (c : Cat) → Accounted c → list_all is_held_open c.opens ≡ true → has_channel c n (channel_of x) seen.channel ≡ true → is_new_number seen.number ≡ true → is_short c (wanted seen x) seen.short ≡ true → knows n x seen c ≡ true
knows_all x n seen c accounted held channel new short = joins _ _ channel
    (joins _ _ new (joins _ _ short (joins _ _ (where_so (changes_usage x) _ (all_charged c c.quota accounted.usage)) (where_so (may_ask x) _ held))))
