-- The lines of one step more.
use Rattle.std.proofs.Common.{◌≡◌, ◌≤◌, ◌<◌, ◌+◌, ◌++◌, ℕ, suc, List, [], ◌∷◌, Some, length, take, refl, sym, ap, subst, ◌∙◌, arith, append_assoc, append-nil}
use Rattle.std.specs.Prelude.{slice_index_or}
use Rattle.std.proofs.lemmas.List.{take_more, length-take-le}
use Rattle.lock_db.specs.declared.name.LockName.{LockName}
use Rattle.lock_db.specs.declared.resource.Resource.{Resource}
use Rattle.core_state.specs.Worlds.{Plain}
use Rattle.run_engine.specs.Walks.{after_play, played, next_from, Rotation, rotation, rotated, budget_of}
use Rattle.run_trace.specs.Texts.{holder_text, holders_text}
use Rattle.run_trace.specs.Steps.{play_text, plays_text, next_text, rotated_text, turns_text, step_text, walk_text}
use Rattle.run_trace.specs.Walks.{HasTurned, HasWalked}

-- one piece more at the end
pub appended : (old now new a b ab : List ℕ) → now ≡ old ++ a → new ≡ now ++ b → ab ≡ a ++ b → new ≡ old ++ ab
appended old now new a b ab e f h = f ∙ (ap (λ t. t ++ b) e ∙ (append_assoc old a b ∙ sym (ap (λ t. old ++ t) h)))

pub holders_first : (old : List ℕ) (t : List Resource) (name : LockName) (n : ℕ) → old ≡ old ++ holders_text t name n 0
unfolding holders_text
holders_first old t name n = sym (append-nil old)

pub holders_more : (t : List Resource) (name : LockName) (n m : ℕ) → holders_text t name n (m + 1) ≡ holders_text t name n m ++ holder_text t name n (m + 1)
unfolding holders_text
holders_more t name n m =
    let e : m + 1 ≡ suc m = omega arith in
    ap (holders_text t name n) e ∙ sym (ap (λ k. holders_text t name n m ++ holder_text t name n k) e)

-- ---- plays

pub plays_first : (old : List ℕ) (k : ℕ) (w : Plain) → old ≡ old ++ plays_text k [] w
unfolding plays_text
plays_first old k w = sym (append-nil old)

plays_end : (ns : List ℕ) (n k : ℕ) (w : Plain) → plays_text k (ns ++ n ∷ []) w ≡ plays_text k ns w ++ play_text (k + length ns) (played ns w) n
unfolding plays_text
plays_end [] n k w =
    let e : k ≡ k + 0 = omega arith in
    append-nil (play_text k w n) ∙ ap (λ j. play_text j w n) e
plays_end (m ∷ ns) n k w =
    let e : k + 1 + length ns ≡ k + length (m ∷ ns) = omega arith in
    ap (λ t. play_text k w m ++ t) (plays_end ns n (k + 1) (after_play w m) ∙ ap (λ j. plays_text (k + 1) ns (after_play w m) ++ play_text j (played ns (after_play w m)) n) e)
    ∙ sym (append_assoc (play_text k w m) (plays_text (k + 1) ns (after_play w m)) (play_text (k + length (m ∷ ns)) (played ns (after_play w m)) n))

pub plays_more : (ns : List ℕ) (i d : ℕ) (old w : Plain) (number : ℕ) → i < length ns → w ≡ played (take i ns) old → number ≡ i + 1
    → plays_text 1 (take (i + 1) ns) old ≡ plays_text 1 (take i ns) old ++ play_text number w (slice_index_or ns i d)
plays_more ns i d old w number lt at is =
    let n = slice_index_or ns i d in
    let len : length (take i ns) ≡ i = length-take-le i ns (omega arith) in
    let k : 1 + length (take i ns) ≡ number = omega arith in
    ap (λ t. plays_text 1 t old) (take_more ns i d lt) ∙ (plays_end (take i ns) n 1 old ∙ (λ j. plays_text 1 (take i ns) old ++ play_text (k j) (sym at j) n))

-- ---- turns in rotation

pub turns_first : (old : List ℕ) (k : ℕ) (r : Rotation) → old ≡ old ++ turns_text k 0 r
unfolding turns_text
turns_first old k r = sym (append-nil old)

pub turns_more : (k t : ℕ) (r : Rotation) (world : Plain) (from n : ℕ) → rotation t r ≡ record { world = world; from = from } → Some n ≡ next_from world from
    → turns_text k (t + 1) r ≡ turns_text k t r ++ step_text (k + t) world n
unfolding turns_text rotated_text
turns_more k t r world from n is next =
    let e : t + 1 ≡ suc t = omega arith in
    ap (λ j. turns_text k j r) e
    ∙ ap (λ s. turns_text k t r ++ s) (ap (rotated_text (k + t)) is ∙ ap (next_text (k + t) world) (sym next))

pub has_turned : (most k : ℕ) (old new : Plain) (was now : List ℕ) (turns from : ℕ) → turns ≤ most → rotation turns (record { world = old; from = 1 }) ≡ record { world = new; from = from }
    → now ≡ was ++ turns_text k turns (record { world = old; from = 1 }) → HasTurned most k old new was now
has_turned most k old new was now turns from few at text = record {
  walked = record { turns = turns; few = few; at = sym (ap (λ (r : Rotation). r.world) at) };
  written = text;
}

pub has_walked : (plays items : List ℕ) (old mid new : Plain) (was half now : List ℕ) (budget made : ℕ) → items ≡ plays → mid ≡ played items old → half ≡ was ++ plays_text 1 items old → made ≡ length items → budget ≡ budget_of old
    → HasTurned budget (made + 1) mid new half now → HasWalked plays old new was now
unfolding walk_text
has_walked plays items old mid new was half now budget made is at written len bound t =
    let there : mid ≡ played plays old = at ∙ ap (λ ns. played ns old) is in
    let count : made ≡ length plays = len ∙ ap length is in
    record {
      walked = record { turns = t.walked.turns; few = subst (λ b. t.walked.turns ≤ b) bound t.walked.few; at = t.walked.at ∙ ap (rotated t.walked.turns 1) there };
      written = appended was half now (plays_text 1 plays old) (turns_text (length plays + 1) t.walked.turns (record { world = played plays old; from = 1 })) (walk_text plays t.walked.turns old)
          (written ∙ ap (λ ns. was ++ plays_text 1 ns old) is) (t.written ∙ (λ i. half ++ turns_text (count i + 1) t.walked.turns (record { world = there i; from = 1 }))) refl;
    }
