-- All good lines come out of a stream.
use Rattle.std.proofs.Common.{◌≡◌, ◌∙◌, ◌+◌, ℕ, List, [], ◌∷◌, ◌++◌, length, map, take, flat_map, Option, Some, None, Result, Ok, Err, IsOkAnd, refl, ap, arith}
use Rattle.std.proofs.lemmas.List.{take_at}
use Rattle.plain_texts.specs.Reports.{newline}
use Rattle.vol_records.specs.declared.types.Rec.{Rec}
use Rattle.vol_records.specs.declared.types.RecFault.{RecFault}
use Rattle.vol_records.specs.declared.types.RecFault.TheVariants.{BadCount, Truncated, NoMemory}
use Rattle.vol_records.specs.Records.{records_of, data_at, ReadsAs, IsFaultAt, HasFault}
use Rattle.vol_records.proofs.Exact.{reads}
use Rattle.vol_records.proofs.Faults.{faults_first}
use Rattle.vol_show.specs.Fronts.{raw_line, raw_lines, bad_at, bad_record, good_part, front_text, ended, GoodLinesComeOut}

as_lines : (stream : List ℕ) (places : List Rec) → flat_map (raw_line stream) places ≡ ended (map (data_at stream) places)
unfolding raw_line
as_lines stream [] = refl
as_lines stream (r ∷ rs) = ap (λ (x : List ℕ). (data_at stream r ++ newline) ++ x) (as_lines stream rs)

lines_out : (stream : List ℕ) (o : Result (List Rec) RecFault) (lines : List (List ℕ)) → IsOkAnd o (λ places. map (data_at stream) places ≡ lines) → raw_lines stream o ≡ ended lines
lines_out stream (Ok places) lines e = as_lines stream places ∙ ap ended e
lines_out stream (Err fault) lines e = absurd e

none_bad : (stream : List ℕ) (o : Result (List Rec) RecFault) (lines : List (List ℕ)) → IsOkAnd o (λ places. map (data_at stream) places ≡ lines) → bad_at o ≡ None
none_bad stream (Ok places) lines e = refl
none_bad stream (Err fault) lines e = absurd e

-- the lines in front of a bad record
abbrev before : List ℕ → Option ℕ → List ℕ
before stream bad = raw_lines (good_part stream bad) (records_of (good_part stream bad))

sound : (stream : List ℕ) (lines : List (List ℕ)) → ReadsAs stream lines → front_text stream ≡ ended lines
sound stream lines h = ap (before stream) (none_bad stream (records_of stream) lines h) ∙ lines_out stream (records_of stream) lines h

at_front : (n : ℕ) (left : List ℕ) (fault : RecFault) → IsFaultAt n left fault → bad_at (Err fault) ≡ Some n
at_front n left (BadCount byte) w = ap Some w.0
at_front n left (Truncated byte) w = ap Some w.0
at_front n left NoMemory w = absurd w

broken : (stream : List ℕ) (fault : RecFault) (h : HasFault 0 stream fault) → front_text stream ≡ ended h.lines
broken stream fault h =
    let bad : bad_record stream ≡ Some (0 + length h.front) = ap bad_at ((faults_first stream fault).1 h) ∙ at_front (0 + length h.front) h.left fault h.here in
    let good : take (0 + length h.front) stream ≡ h.front = ap (take (0 + length h.front)) h.in_order ∙ take_at h.front h.left (0 + length h.front) (omega arith) in
    ap (before stream) bad ∙ ap (λ (s : List ℕ). raw_lines s (records_of s)) good ∙ lines_out h.front (records_of h.front) h.lines (reads h.front h.lines h.short h.records)

pub good_lines : GoodLinesComeOut
good_lines = record { sound = sound; broken = broken }
