-- One play more.
use Rattle.std.proofs.Common.{◌≡◌, ◌<◌, ◌+◌, ℕ, List, [], ◌∷◌, ◌++◌, length, take, refl, sym, ap, ◌∙◌}
use Rattle.std.specs.Prelude.{slice_index_or}
use Rattle.std.proofs.lemmas.List.{take_more}
use Rattle.core_state.specs.Worlds.{Plain}
use Rattle.run_engine.specs.Walks.{after_play, played}

played_more : (ns : List ℕ) (n : ℕ) (w : Plain) → played (ns ++ n ∷ []) w ≡ after_play (played ns w) n
played_more [] n w = refl
played_more (m ∷ ns) n w = played_more ns n (after_play w m)

pub play_more : (ns : List ℕ) (i d : ℕ) (old w new : Plain) → i < length ns → w ≡ played (take i ns) old → new ≡ after_play w (slice_index_or ns i d) → new ≡ played (take (i + 1) ns) old
play_more ns i d old w new lt at play =
    let n = slice_index_or ns i d in
    play ∙ (ap (λ v. after_play v n) at ∙ (sym (played_more (take i ns) n old) ∙ ap (λ t. played t old) (sym (take_more ns i d lt))))
