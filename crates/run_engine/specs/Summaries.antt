-- The summary of a soak.
use Rattle.std.specs.Prelude.{◌++◌, not, ℕ, Bool, false, count_by, List, codes, decimal}
use Rattle.std.specs.List.{sum_by}
use Rattle.plain_cat.specs.declared.history.Entry.{Entry}
use Rattle.plain_cat.specs.declared.history.Entry.TheVariants.{Done, Died, Mended}
use Rattle.plain_rules.specs.Stages.{is_refusal}
use Rattle.plain_texts.specs.Reports.{newline}
use Rattle.core_state.specs.Worlds.{NodeState, Plain}

-- an answer that refuses its command
unfoldable pub is_refused : Entry → Bool
is_refused (Done n c r) = is_refusal r
is_refused (Died n st k ns) = false
is_refused (Mended m) = false

-- an answer that does not
unfoldable pub is_carried_out : Entry → Bool
is_carried_out (Done n c r) = not (is_refusal r)
is_carried_out (Died n st k ns) = false
is_carried_out (Mended m) = false

-- how many blocks the nodes of a world have read from the drive, all together
abbrev pub all_reads : Plain → ℕ
all_reads w = sum_by (λ (s : NodeState). s.reads) w.nodes

-- and how many they have found in their caches
abbrev pub all_hits : Plain → ℕ
all_hits w = sum_by (λ (s : NodeState). s.hits) w.nodes

-- a number, and the words for what is counted
unfoldable pub counted : ℕ → List ℕ → List ℕ
counted n words = decimal n ++ words

-- how many commands were carried out, and how many were refused
unfoldable pub outcomes_text : ℕ → ℕ → List ℕ
outcomes_text answered refused = counted answered (codes " answered, ") ++ counted refused (codes " refused, ")

-- how many blocks were read, and how many were found
unfoldable pub blocks_text : ℕ → ℕ → List ℕ
blocks_text reads hits = counted reads (codes " reads, ") ++ counted hits (codes " hits, ")

-- the number of a soak
unfoldable pub soak_text : ℕ → List ℕ
soak_text n = codes "soak " ++ counted n (codes ": ")

-- the summary of soak n, which has led to this world and leaves so many clusters free
abbrev pub summary_bytes : ℕ → Plain → ℕ → List ℕ
summary_bytes n w free =
    soak_text n
    ++ (outcomes_text (count_by is_carried_out w.history) (count_by is_refused w.history)
    ++ (blocks_text (all_reads w) (all_hits w)
    ++ counted free (codes " free" ++ newline)))
