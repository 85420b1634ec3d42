use Rattle.std.proofs.Common.{◌∙◌, ℕ, List, Err, refl, sym, ap, subst, arith}
use Rattle.std.proofs.lemmas.Result.{err_from_is_err_and}
use Rattle.base_words.specs.Fields.{IsBytes}
use Rattle.vol_parts.specs.Findings.{IsReadable}
use Rattle.vol_records.specs.declared.types.StoreFault.{StoreFault}
use Rattle.vol_records.specs.Records.{spelt}
use Rattle.vol_records.proofs.StoreEnds.{IsFree, number_is, listed, always_listed, safe_is, readable, planned, asked, nothing_stored, no_write, storing, stored_all, not_fault}
use Rattle.vol_records.proofs.storing.store.Goals as goal

pub returns-in-Some-clause-step : goal.returns-in-Some-clause-step
returns-in-Some-clause-step g c =
    nothing_stored c.args.m.now.blocks c.args.n c.args.seq (spelt c.args.lines.now) _ _ _ c.requires
    (not_fault c.in-Ok.home c.all.result.now c.args.n c.args.seq c.spelt_len-len.result c.in-Some.fault c.in-Some.ensures)

pub file_lbns-requires-clause-readable : goal.file_lbns-requires-clause-readable
file_lbns-requires-clause-readable g c =
    subst IsReadable (sym c.all-2.ensures) (readable c.args.m.now.blocks c.requires)

pub returns-in_err-places-clause-step : goal.returns-in_err-places-clause-step
returns-in_err-places-clause-step g c =
    let p = err_from_is_err_and c.from_residual.result c.from_residual.ensures.1 in
    nothing_stored c.args.m.now.blocks c.args.n c.args.seq (spelt c.args.lines.now) _ _ _ c.requires (no_write c.from_residual.result _ p.1 p.2)

pub returns-in_default-2-clause-answers : goal.returns-in_default-2-clause-answers
returns-in_default-2-clause-answers g c =
    let is : IsFree c.in-Ok.home c.args.m.now.blocks c.all.result.now c.read.result.now c.args.n c.args.seq c.spelt_len-len.result (spelt c.args.lines.now) = record {
      size = c.drive_is_whole.ensures.size;
      whole = c.drive_is_whole.ensures.whole;
      accepted = c.requires;
      first = c.read.ensures;
      read = c.in-Ok.ensures.value;
      all_is = c.all.ensures;
      len_is = c.spelt_len-len.ensures;
      free = c.in_default-refusal.ensures;
    } in
    absurd (always_listed c.in-Ok.home c.args.m.now.blocks c.all.result.now c.read.result.now c.args.n c.args.seq c.spelt_len-len.result (spelt c.args.lines.now) is c.all-2.result.now c.in_ok-places.field-0 c.all-2.ensures c.in_ok-places.ensures c.in_default-2.is)

pub returns-in_default-2-clause-step : goal.returns-in_default-2-clause-step
returns-in_default-2-clause-step g c =
    let is : IsFree c.in-Ok.home c.args.m.now.blocks c.all.result.now c.read.result.now c.args.n c.args.seq c.spelt_len-len.result (spelt c.args.lines.now) = record {
      size = c.drive_is_whole.ensures.size;
      whole = c.drive_is_whole.ensures.whole;
      accepted = c.requires;
      first = c.read.ensures;
      read = c.in-Ok.ensures.value;
      all_is = c.all.ensures;
      len_is = c.spelt_len-len.ensures;
      free = c.in_default-refusal.ensures;
    } in
    absurd (always_listed c.in-Ok.home c.args.m.now.blocks c.all.result.now c.read.result.now c.args.n c.args.seq c.spelt_len-len.result (spelt c.args.lines.now) is c.all-2.result.now c.in_ok-places.field-0 c.all-2.ensures c.in_ok-places.ensures c.in_default-2.is)

pub returns-in_err-bytes-clause-step : goal.returns-in_err-bytes-clause-step
returns-in_err-bytes-clause-step g c =
    let p = err_from_is_err_and c.from_residual-in_err-bytes.result c.from_residual-in_err-bytes.ensures.1 in
    nothing_stored c.args.m.now.blocks c.args.n c.args.seq (spelt c.args.lines.now) _ _ _ c.requires (no_write c.from_residual-in_err-bytes.result _ p.1 p.2)

pub slot_lbn-lbn-requires-clause-number : goal.slot_lbn-lbn-requires-clause-number
slot_lbn-lbn-requires-clause-number g c =
    let is : IsFree c.in-Ok.home c.args.m.now.blocks c.all.result.now c.read.result.now c.args.n c.args.seq c.spelt_len-len.result (spelt c.args.lines.now) = record {
      size = c.drive_is_whole.ensures.size;
      whole = c.drive_is_whole.ensures.whole;
      accepted = c.requires;
      first = c.read.ensures;
      read = c.in-Ok.ensures.value;
      all_is = c.all.ensures;
      len_is = c.spelt_len-len.ensures;
      free = c.in_default-refusal.ensures;
    } in
    let k = number_is c.in-Ok.home c.args.m.now.blocks c.all.result.now c.read.result.now c.args.n c.args.seq c.spelt_len-len.result (spelt c.args.lines.now) is c.args.m.now.blocks in
    (k.from, k.to)

pub read-requires-2 : goal.read-requires-2
read-requires-2 g c =
    let is : IsFree c.in-Ok.home c.args.m.now.blocks c.all.result.now c.read.result.now c.args.n c.args.seq c.spelt_len-len.result (spelt c.args.lines.now) = record {
      size = c.drive_is_whole.ensures.size;
      whole = c.drive_is_whole.ensures.whole;
      accepted = c.requires;
      first = c.read.ensures;
      read = c.in-Ok.ensures.value;
      all_is = c.all.ensures;
      len_is = c.spelt_len-len.ensures;
      free = c.in_default-refusal.ensures;
    } in
    let ranged : IsBytes (spelt c.args.lines.now) = subst (λ (xs : List ℕ). IsBytes xs) (c.as_slice.ensures.value ∙ c.in_ok-bytes.ensures.bytes) c.bytes_are_ranged.ensures in
    let safe = safe_is c.in-Ok.home c.args.m.now.blocks c.all.result.now c.read.result.now c.args.n c.args.seq c.spelt_len-len.result (spelt c.args.lines.now) is ranged in
    let head = safe.header in
    let lbn = c.slot_lbn-lbn.ensures in
    omega (arith, head, lbn)

pub stored_header-head-requires : goal.stored_header-head-requires
stored_header-head-requires g c =
    let is : IsFree c.in-Ok.home c.args.m.now.blocks c.all.result.now c.read.result.now c.args.n c.args.seq c.spelt_len-len.result (spelt c.args.lines.now) = record {
      size = c.drive_is_whole.ensures.size;
      whole = c.drive_is_whole.ensures.whole;
      accepted = c.requires;
      first = c.read.ensures;
      read = c.in-Ok.ensures.value;
      all_is = c.all.ensures;
      len_is = c.spelt_len-len.ensures;
      free = c.in_default-refusal.ensures;
    } in
    let ranged : IsBytes (spelt c.args.lines.now) = subst (λ (xs : List ℕ). IsBytes xs) (c.as_slice.ensures.value ∙ c.in_ok-bytes.ensures.bytes) c.bytes_are_ranged.ensures in
    let safe = safe_is c.in-Ok.home c.args.m.now.blocks c.all.result.now c.read.result.now c.args.n c.args.seq c.spelt_len-len.result (spelt c.args.lines.now) is ranged in
    let few = safe.few in
    let len = c.spelt_len-len.ensures in
    omega (arith, few, len)

pub write_file-requires-clause-inside : goal.write_file-requires-clause-inside
write_file-requires-clause-inside g c =
    let is : IsFree c.in-Ok.home c.args.m.now.blocks c.all.result.now c.read.result.now c.args.n c.args.seq c.spelt_len-len.result (spelt c.args.lines.now) = record {
      size = c.drive_is_whole.ensures.size;
      whole = c.drive_is_whole.ensures.whole;
      accepted = c.requires;
      first = c.read.ensures;
      read = c.in-Ok.ensures.value;
      all_is = c.all.ensures;
      len_is = c.spelt_len-len.ensures;
      free = c.in_default-refusal.ensures;
    } in
    let ranged : IsBytes (spelt c.args.lines.now) = subst (λ (xs : List ℕ). IsBytes xs) (c.as_slice.ensures.value ∙ c.in_ok-bytes.ensures.bytes) c.bytes_are_ranged.ensures in
    let safe = safe_is c.in-Ok.home c.args.m.now.blocks c.all.result.now c.read.result.now c.args.n c.args.seq c.spelt_len-len.result (spelt c.args.lines.now) is ranged in
    let here = c.items.ensures ∙ listed c.in-Ok.home c.args.m.now.blocks c.all.result.now c.read.result.now c.args.n c.args.seq c.spelt_len-len.result (spelt c.args.lines.now) is c.all-2.result.now c.in_ok-places.field-0 c.in-Some-2.places c.all-2.ensures c.in_ok-places.ensures c.in-Some-2.is in
    let asks = asked c.in-Ok.home c.args.m.now.blocks c.args.n c.args.seq c.spelt_len-len.result c.slot_lbn-lbn.result (spelt c.args.lines.now) c.as_slice-2.result.now c.items.result.now safe here (c.as_slice-2.ensures.value ∙ c.in_ok-bytes.ensures.bytes) c.slot_lbn-lbn.ensures c.spelt_len-len.ensures in
    asks.inside

pub write_file-requires-clause-room : goal.write_file-requires-clause-room
write_file-requires-clause-room g c =
    let is : IsFree c.in-Ok.home c.args.m.now.blocks c.all.result.now c.read.result.now c.args.n c.args.seq c.spelt_len-len.result (spelt c.args.lines.now) = record {
      size = c.drive_is_whole.ensures.size;
      whole = c.drive_is_whole.ensures.whole;
      accepted = c.requires;
      first = c.read.ensures;
      read = c.in-Ok.ensures.value;
      all_is = c.all.ensures;
      len_is = c.spelt_len-len.ensures;
      free = c.in_default-refusal.ensures;
    } in
    let ranged : IsBytes (spelt c.args.lines.now) = subst (λ (xs : List ℕ). IsBytes xs) (c.as_slice.ensures.value ∙ c.in_ok-bytes.ensures.bytes) c.bytes_are_ranged.ensures in
    let safe = safe_is c.in-Ok.home c.args.m.now.blocks c.all.result.now c.read.result.now c.args.n c.args.seq c.spelt_len-len.result (spelt c.args.lines.now) is ranged in
    let here = c.items.ensures ∙ listed c.in-Ok.home c.args.m.now.blocks c.all.result.now c.read.result.now c.args.n c.args.seq c.spelt_len-len.result (spelt c.args.lines.now) is c.all-2.result.now c.in_ok-places.field-0 c.in-Some-2.places c.all-2.ensures c.in_ok-places.ensures c.in-Some-2.is in
    let asks = asked c.in-Ok.home c.args.m.now.blocks c.args.n c.args.seq c.spelt_len-len.result c.slot_lbn-lbn.result (spelt c.args.lines.now) c.as_slice-2.result.now c.items.result.now safe here (c.as_slice-2.ensures.value ∙ c.in_ok-bytes.ensures.bytes) c.slot_lbn-lbn.ensures c.spelt_len-len.ensures in
    asks.room

pub write_file-requires-clause-few : goal.write_file-requires-clause-few
write_file-requires-clause-few g c =
    let is : IsFree c.in-Ok.home c.args.m.now.blocks c.all.result.now c.read.result.now c.args.n c.args.seq c.spelt_len-len.result (spelt c.args.lines.now) = record {
      size = c.drive_is_whole.ensures.size;
      whole = c.drive_is_whole.ensures.whole;
      accepted = c.requires;
      first = c.read.ensures;
      read = c.in-Ok.ensures.value;
      all_is = c.all.ensures;
      len_is = c.spelt_len-len.ensures;
      free = c.in_default-refusal.ensures;
    } in
    let ranged : IsBytes (spelt c.args.lines.now) = subst (λ (xs : List ℕ). IsBytes xs) (c.as_slice.ensures.value ∙ c.in_ok-bytes.ensures.bytes) c.bytes_are_ranged.ensures in
    let safe = safe_is c.in-Ok.home c.args.m.now.blocks c.all.result.now c.read.result.now c.args.n c.args.seq c.spelt_len-len.result (spelt c.args.lines.now) is ranged in
    let here = c.items.ensures ∙ listed c.in-Ok.home c.args.m.now.blocks c.all.result.now c.read.result.now c.args.n c.args.seq c.spelt_len-len.result (spelt c.args.lines.now) is c.all-2.result.now c.in_ok-places.field-0 c.in-Some-2.places c.all-2.ensures c.in_ok-places.ensures c.in-Some-2.is in
    let asks = asked c.in-Ok.home c.args.m.now.blocks c.args.n c.args.seq c.spelt_len-len.result c.slot_lbn-lbn.result (spelt c.args.lines.now) c.as_slice-2.result.now c.items.result.now safe here (c.as_slice-2.ensures.value ∙ c.in_ok-bytes.ensures.bytes) c.slot_lbn-lbn.ensures c.spelt_len-len.ensures in
    asks.few

pub write_file-requires-clause-header : goal.write_file-requires-clause-header
write_file-requires-clause-header g c =
    let is : IsFree c.in-Ok.home c.args.m.now.blocks c.all.result.now c.read.result.now c.args.n c.args.seq c.spelt_len-len.result (spelt c.args.lines.now) = record {
      size = c.drive_is_whole.ensures.size;
      whole = c.drive_is_whole.ensures.whole;
      accepted = c.requires;
      first = c.read.ensures;
      read = c.in-Ok.ensures.value;
      all_is = c.all.ensures;
      len_is = c.spelt_len-len.ensures;
      free = c.in_default-refusal.ensures;
    } in
    let ranged : IsBytes (spelt c.args.lines.now) = subst (λ (xs : List ℕ). IsBytes xs) (c.as_slice.ensures.value ∙ c.in_ok-bytes.ensures.bytes) c.bytes_are_ranged.ensures in
    let safe = safe_is c.in-Ok.home c.args.m.now.blocks c.all.result.now c.read.result.now c.args.n c.args.seq c.spelt_len-len.result (spelt c.args.lines.now) is ranged in
    let here = c.items.ensures ∙ listed c.in-Ok.home c.args.m.now.blocks c.all.result.now c.read.result.now c.args.n c.args.seq c.spelt_len-len.result (spelt c.args.lines.now) is c.all-2.result.now c.in_ok-places.field-0 c.in-Some-2.places c.all-2.ensures c.in_ok-places.ensures c.in-Some-2.is in
    let asks = asked c.in-Ok.home c.args.m.now.blocks c.args.n c.args.seq c.spelt_len-len.result c.slot_lbn-lbn.result (spelt c.args.lines.now) c.as_slice-2.result.now c.items.result.now safe here (c.as_slice-2.ensures.value ∙ c.in_ok-bytes.ensures.bytes) c.slot_lbn-lbn.ensures c.spelt_len-len.ensures in
    asks.header

pub returns-in_err-write_file-clause-step : goal.returns-in_err-write_file-clause-step
returns-in_err-write_file-clause-step g c =
    let is : IsFree c.in-Ok.home c.args.m.now.blocks c.all.result.now c.read.result.now c.args.n c.args.seq c.spelt_len-len.result (spelt c.args.lines.now) = record {
      size = c.drive_is_whole.ensures.size;
      whole = c.drive_is_whole.ensures.whole;
      accepted = c.requires;
      first = c.read.ensures;
      read = c.in-Ok.ensures.value;
      all_is = c.all.ensures;
      len_is = c.spelt_len-len.ensures;
      free = c.in_default-refusal.ensures;
    } in
    let ranged : IsBytes (spelt c.args.lines.now) = subst (λ (xs : List ℕ). IsBytes xs) (c.as_slice.ensures.value ∙ c.in_ok-bytes.ensures.bytes) c.bytes_are_ranged.ensures in
    let safe = safe_is c.in-Ok.home c.args.m.now.blocks c.all.result.now c.read.result.now c.args.n c.args.seq c.spelt_len-len.result (spelt c.args.lines.now) is ranged in
    let here = c.items.ensures ∙ listed c.in-Ok.home c.args.m.now.blocks c.all.result.now c.read.result.now c.args.n c.args.seq c.spelt_len-len.result (spelt c.args.lines.now) is c.all-2.result.now c.in_ok-places.field-0 c.in-Some-2.places c.all-2.ensures c.in_ok-places.ensures c.in-Some-2.is in
    let same = planned c.in-Ok.home c.args.m.now.blocks c.args.n c.spelt_len-len.result c.slot_lbn-lbn.result (spelt c.args.lines.now) c.as_slice-2.result.now c.items.result.now c.stored_header-head.result c.read-2.result.now (record {
      places = here;
      items_are = c.as_slice-2.ensures.value ∙ c.in_ok-bytes.ensures.bytes;
      lbn_is = c.slot_lbn-lbn.ensures;
      there = c.read-2.ensures;
      head_is = c.stored_header-head.ensures;
      len_is = c.spelt_len-len.ensures;
    }) in
    let p = err_from_is_err_and c.from_residual-in_err-write_file.result c.from_residual-in_err-write_file.ensures.1 in
    storing c.in-Ok.home c.args.m.now.blocks _ c.args.n c.args.seq (spelt c.args.lines.now) _ _ _ _ _ _ _ safe same (λ e. p.1 ∙ ap (λ (x : StoreFault). Err x) p.2) (λ e. refl) c.in_err-write_file.ensures

pub overflow_cast-result : goal.overflow_cast-result
overflow_cast-result g c =
    let is : IsFree c.in-Ok.home c.args.m.now.blocks c.all.result.now c.read.result.now c.args.n c.args.seq c.spelt_len-len.result (spelt c.args.lines.now) = record {
      size = c.drive_is_whole.ensures.size;
      whole = c.drive_is_whole.ensures.whole;
      accepted = c.requires;
      first = c.read.ensures;
      read = c.in-Ok.ensures.value;
      all_is = c.all.ensures;
      len_is = c.spelt_len-len.ensures;
      free = c.in_default-refusal.ensures;
    } in
    let ranged : IsBytes (spelt c.args.lines.now) = subst (λ (xs : List ℕ). IsBytes xs) (c.as_slice.ensures.value ∙ c.in_ok-bytes.ensures.bytes) c.bytes_are_ranged.ensures in
    let safe = safe_is c.in-Ok.home c.args.m.now.blocks c.all.result.now c.read.result.now c.args.n c.args.seq c.spelt_len-len.result (spelt c.args.lines.now) is ranged in
    let few = safe.few in
    let len = c.spelt_len-len.ensures in
    omega (arith, few, len)

pub returns-clause-stored : goal.returns-clause-stored
returns-clause-stored g c =
    let is : IsFree c.in-Ok.home c.args.m.now.blocks c.all.result.now c.read.result.now c.args.n c.args.seq c.spelt_len-len.result (spelt c.args.lines.now) = record {
      size = c.drive_is_whole.ensures.size;
      whole = c.drive_is_whole.ensures.whole;
      accepted = c.requires;
      first = c.read.ensures;
      read = c.in-Ok.ensures.value;
      all_is = c.all.ensures;
      len_is = c.spelt_len-len.ensures;
      free = c.in_default-refusal.ensures;
    } in
    let ranged : IsBytes (spelt c.args.lines.now) = subst (λ (xs : List ℕ). IsBytes xs) (c.as_slice.ensures.value ∙ c.in_ok-bytes.ensures.bytes) c.bytes_are_ranged.ensures in
    let safe = safe_is c.in-Ok.home c.args.m.now.blocks c.all.result.now c.read.result.now c.args.n c.args.seq c.spelt_len-len.result (spelt c.args.lines.now) is ranged in
    let here = c.items.ensures ∙ listed c.in-Ok.home c.args.m.now.blocks c.all.result.now c.read.result.now c.args.n c.args.seq c.spelt_len-len.result (spelt c.args.lines.now) is c.all-2.result.now c.in_ok-places.field-0 c.in-Some-2.places c.all-2.ensures c.in_ok-places.ensures c.in-Some-2.is in
    let same = planned c.in-Ok.home c.args.m.now.blocks c.args.n c.spelt_len-len.result c.slot_lbn-lbn.result (spelt c.args.lines.now) c.as_slice-2.result.now c.items.result.now c.stored_header-head.result c.read-2.result.now (record {
      places = here;
      items_are = c.as_slice-2.ensures.value ∙ c.in_ok-bytes.ensures.bytes;
      lbn_is = c.slot_lbn-lbn.ensures;
      there = c.read-2.ensures;
      head_is = c.stored_header-head.ensures;
      len_is = c.spelt_len-len.ensures;
    }) in
    (c.spelt_len-len.ensures, stored_all c.in-Ok.home c.args.m.now.blocks _ c.args.n c.args.seq (spelt c.args.lines.now) _ _ _ _ _ _ safe same (λ e. absurd (cc e)) c.in_ok-write_file.ensures)

pub returns-clause-step : goal.returns-clause-step
returns-clause-step g c =
    let is : IsFree c.in-Ok.home c.args.m.now.blocks c.all.result.now c.read.result.now c.args.n c.args.seq c.spelt_len-len.result (spelt c.args.lines.now) = record {
      size = c.drive_is_whole.ensures.size;
      whole = c.drive_is_whole.ensures.whole;
      accepted = c.requires;
      first = c.read.ensures;
      read = c.in-Ok.ensures.value;
      all_is = c.all.ensures;
      len_is = c.spelt_len-len.ensures;
      free = c.in_default-refusal.ensures;
    } in
    let ranged : IsBytes (spelt c.args.lines.now) = subst (λ (xs : List ℕ). IsBytes xs) (c.as_slice.ensures.value ∙ c.in_ok-bytes.ensures.bytes) c.bytes_are_ranged.ensures in
    let safe = safe_is c.in-Ok.home c.args.m.now.blocks c.all.result.now c.read.result.now c.args.n c.args.seq c.spelt_len-len.result (spelt c.args.lines.now) is ranged in
    let here = c.items.ensures ∙ listed c.in-Ok.home c.args.m.now.blocks c.all.result.now c.read.result.now c.args.n c.args.seq c.spelt_len-len.result (spelt c.args.lines.now) is c.all-2.result.now c.in_ok-places.field-0 c.in-Some-2.places c.all-2.ensures c.in_ok-places.ensures c.in-Some-2.is in
    let same = planned c.in-Ok.home c.args.m.now.blocks c.args.n c.spelt_len-len.result c.slot_lbn-lbn.result (spelt c.args.lines.now) c.as_slice-2.result.now c.items.result.now c.stored_header-head.result c.read-2.result.now (record {
      places = here;
      items_are = c.as_slice-2.ensures.value ∙ c.in_ok-bytes.ensures.bytes;
      lbn_is = c.slot_lbn-lbn.ensures;
      there = c.read-2.ensures;
      head_is = c.stored_header-head.ensures;
      len_is = c.spelt_len-len.ensures;
    }) in
    storing c.in-Ok.home c.args.m.now.blocks _ c.args.n c.args.seq (spelt c.args.lines.now) _ _ _ _ _ _ _ safe same (λ e. absurd (cc e)) (λ e. absurd (cc e)) c.in_ok-write_file.ensures
